-- The words of a row, and what they stand for. Fields are numbered from 1.
use Rattle.std.specs.Prelude.{◌≡◌, ℕ, ◌-◌, List, [], codes, not, ◌==◌, Bool, map}
use Rattle.std.specs.List.{slice_index_or}
use Rattle.std.specs.Str.{str_to_ascii_lowercase}
use Rattle.nav_text.specs.declared.span.Span.{Span}
use Rattle.nav_text.specs.Spans.{text_of}
use Rattle.nav_num.specs.Faults.{ReadsAs}
use Rattle.mission_model.specs.declared.plan.Param.{Param}
use Rattle.mission_model.specs.declared.plan.Param.TheVariants.{Unset, Milli}
use Rattle.nav_num.specs.WholeLaws.{IsWholeNumber}
use Rattle.wpl_items.specs.declared.fields.TheConstants.{MAX_SMALL, PARAM_SCALE}

-- the words that spans name
abbrev pub named : List ℕ → List Span → List (List ℕ)
named text spans = map (text_of text) spans

-- the word of a field
abbrev pub word_at : List (List ℕ) → ℕ → List ℕ
word_at words field = slice_index_or words (field - 1) []

-- the word is a whole number of one to ten digits, and at most the limit
abbrev pub IsWhole : ℕ → List ℕ → ℕ → Type 0
IsWhole limit = IsWholeNumber 0 limit

-- the word is no such number
abbrev pub NotWhole : ℕ → List ℕ → Type 0
NotWhole limit word = (n : ℕ) → ¬ (IsWhole limit word n)

-- the word is `nan` in any case
abbrev pub IsNan : List ℕ → Type 0
IsNan word = str_to_ascii_lowercase word ≡ codes "nan"

-- the word stands for a parameter: `nan` for one that is not given, and every other word for a number
abbrev pub ReadsParam : List ℕ → Param → Type 0
ReadsParam word Unset = IsNan word
ReadsParam word (Milli n) = (¬ (IsNan word)) × ReadsAs word PARAM_SCALE n

-- the word is a whole number that is not 0 where the flag is set
abbrev pub ReadsFlag : List ℕ → Bool → Type 0
ReadsFlag word flag = (n : ℕ) × IsWhole MAX_SMALL word n × (flag ≡ not (n == 0))
