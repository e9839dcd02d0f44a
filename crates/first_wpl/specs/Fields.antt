-- The words of a row, and what they stand for. Fields are numbered from 1.
use Rattle.std.specs.Prelude.{◌≡◌, ℕ, ◌-◌, ◌≤◌, List, [], length, codes, not, ◌==◌, Bool, map}
use Rattle.std.specs.List.{slice_index_or}
use Rattle.std.specs.Str.{str_to_ascii_lowercase}
use Rattle.std.specs.Str.Parse.{IsNumeral, digits_value}
use Rattle.first_text.specs.declared.span.Span.{Span}
use Rattle.first_text.specs.Spans.{text_of}
use Rattle.first_num.specs.Faults.{ReadsAs}
use Rattle.first_model.specs.declared.plan.Param.{Param}
use Rattle.first_model.specs.declared.plan.Param.TheVariants.{Unset, Milli}
use Rattle.first_wpl.specs.declared.fields.TheConstants.{MAX_DIGITS, MAX_SMALL, PARAM_SCALE}

-- the words that spans name
abbrev pub named : List ℕ → List Span → List (List ℕ)
named text spans = map (text_of text) spans

-- the word of a field
abbrev pub word_at : List (List ℕ) → ℕ → List ℕ
word_at words field = slice_index_or words (field - 1) []

-- the word is a whole number of one to ten digits, and at most the limit
pub record IsWhole (limit : ℕ) (word : List ℕ) (n : ℕ) : Type 0 where
  pub numeral : IsNumeral 10 word
  pub short : length word ≤ MAX_DIGITS
  pub value : digits_value 10 word ≡ n
  pub within : n ≤ limit

-- the word is no such number
abbrev pub NotWhole : ℕ → List ℕ → Type 0
NotWhole limit word = (n : ℕ) → ¬ (IsWhole limit word n)

-- the word is `nan` in any case
abbrev pub IsNan : List ℕ → Type 0
IsNan word = str_to_ascii_lowercase word ≡ codes "nan"

-- the word stands for a parameter: `nan` for one that is not given, and every other word for a number
abbrev pub ReadsParam : List ℕ → Param → Type 0
ReadsParam word Unset = IsNan word
ReadsParam word (Milli n) = (¬ (IsNan word)) × ReadsAs word PARAM_SCALE n

-- the word is a whole number that is not 0 where the flag is set
abbrev pub ReadsFlag : List ℕ → Bool → Type 0
ReadsFlag word flag = (n : ℕ) × IsWhole MAX_SMALL word n × (flag ≡ not (n == 0))
