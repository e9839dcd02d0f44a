-- The lines of a script that are told: those that are neither skipped nor of a plan's text, each with its words and the lines behind it.
use Rattle.std.specs.Prelude.{◌≡◌, ◌⊎◌, ℕ, ◌+◌, List, [], ◌∷◌, length, get_or, Bool, true, false, not, ◌&&◌, ◌||◌, ◌==◌, nat_lt, Result, Ok, Err, codes, if◌then◌else◌}
use Rattle.std.specs.List.{list_any}
use Rattle.nav_text.specs.declared.span.Span.{Span}
use Rattle.nav_text.specs.Spans.{text_of}
use Rattle.nav_text.specs.Words.{words_in}
use Rattle.run_script.specs.declared.fault.ScriptFault.{ScriptFault}
use Rattle.run_script.specs.declared.fault.ScriptFault.TheVariants as fault
use Rattle.run_script.specs.declared.table.Form.{Form}
use Rattle.run_script.specs.declared.table.Form.TheVariants as form
use Rattle.run_script.specs.declared.table.Row.{Row}
use Rattle.run_script.specs.declared.value.Values.{Values}
use Rattle.run_script.specs.Choices.{is_same}
use Rattle.run_script.specs.Table.{rows_of}
use Rattle.run_script.specs.Lines.{word, row_among, ReadsRow, IsNumberFault}
use Rattle.run_script.specs.Statements.{Statement, Begins, is_begin}
use Rattle.run_script.specs.Forms.{Before, before_of, byte_of, stated, turns_stated}
use Rattle.run_script.specs.Plans.{kind_of, is_end, new_name, plan_lines, NamedStated, IsNamedFault}

-- a line by its number, its words and the lines behind it
pub record Told : Type 0 where
  pub number : ℕ
  pub words : List (List ℕ)
  pub behind : List Span

-- whether a line is skipped: it has no word, or its first one begins with `#`
abbrev pub is_skipped : List (List ℕ) → Bool
is_skipped words = (length words == 0) || (get_or (word 1 words) 0 0 == 35)

-- whether a line begins a plan
abbrev pub begins_plan : List (List ℕ) → Bool
begins_plan words = is_same (word 1 words) (codes "plan")

-- the lines told from a number on, where the first is within a plan's text or not
abbrev pub told_lines : List ℕ → ℕ → Bool → List Span → List Told
told_lines text number within [] = []
told_lines text number within (line ∷ behind) =
    if within then told_lines text (number + 1) (not (is_end (text_of text line))) behind
    else (if is_skipped (words_in (text_of text line)) then told_lines text (number + 1) false behind
    else record { number = number; words = words_in (text_of text line); behind = behind } ∷ told_lines text (number + 1) (begins_plan (words_in (text_of text line))) behind)

-- whether the words are those of the first line that is told
abbrev pub is_header : List (List ℕ) → Bool
is_header words = (length words == 3) && is_same (word 1 words) (codes "px4") && is_same (word 2 words) (codes "script") && is_same (word 3 words) (codes "1")

-- what a line of a form states, whose words stand for these values, with these lines behind it
abbrev pub FormStates : List ℕ → List Span → Before → List (List ℕ) → Form → Values → Statement → Type 0
FormStates text behind before words form.Plan values statement = NamedStated false (kind_of (byte_of values.third)) (new_name before.plans (word 2 words)) (plan_lines text behind) statement
FormStates text behind before words form.PlanHomeFirst values statement = NamedStated true (kind_of (byte_of values.third)) (new_name before.plans (word 2 words)) (plan_lines text behind) statement
FormStates text behind before words other values statement = stated before other values words ≡ Ok statement

-- or its fault
abbrev pub IsFormFault : List ℕ → List Span → Before → List (List ℕ) → Form → Values → ScriptFault → Type 0
IsFormFault text behind before words form.Plan values f = IsNamedFault (new_name before.plans (word 2 words)) (plan_lines text behind) f
IsFormFault text behind before words form.PlanHomeFirst values f = IsNamedFault (new_name before.plans (word 2 words)) (plan_lines text behind) f
IsFormFault text behind before words other values f = stated before other values words ≡ Err f

-- what a line of a row states, and its fault: first that no row is the line's, then the words that are no numbers, then those of the form
abbrev pub RowStates : List ℕ → List Span → Before → List (List ℕ) → Result Row ScriptFault → Statement → Type 0
RowStates text behind before words (Ok row) statement = (values : Values) × ReadsRow row words values × FormStates text behind before words row.form values statement
RowStates text behind before words (Err f) statement = ⊥

abbrev pub IsRowFault : List ℕ → List Span → Before → List (List ℕ) → Result Row ScriptFault → ScriptFault → Type 0
IsRowFault text behind before words (Ok row) f = IsNumberFault row words f ⊎ ((values : Values) × ReadsRow row words values × IsFormFault text behind before words row.form values f)
IsRowFault text behind before words (Err g) f = f ≡ g

-- whether a line tells turns
abbrev pub is_turns : Before → List (List ℕ) → Bool
is_turns before words = nat_lt 0 before.boots && is_same (word 1 words) (codes "turns")

-- the row of a line
abbrev pub row_of : Before → List (List ℕ) → Result Row ScriptFault
row_of before words = row_among (rows_of (nat_lt 0 before.boots) (word 1 words)) words

-- what a line behind the first states, and its fault
abbrev pub BodyStates : Bool → List ℕ → List Span → Before → List (List ℕ) → Statement → Type 0
BodyStates true text behind before words statement = turns_stated before words ≡ Ok statement
BodyStates false text behind before words statement = RowStates text behind before words (row_of before words) statement

abbrev pub IsBodyFault : Bool → List ℕ → List Span → Before → List (List ℕ) → ScriptFault → Type 0
IsBodyFault true text behind before words f = turns_stated before words ≡ Err f
IsBodyFault false text behind before words f = IsRowFault text behind before words (row_of before words) f

-- what the first line that is told states, and its fault
abbrev pub HeaderStates : List (List ℕ) → Statement → Type 0
HeaderStates words statement = (is_header words ≡ true) × (statement ≡ Begins)

abbrev pub IsHeaderFault : List (List ℕ) → ScriptFault → Type 0
IsHeaderFault words f = (is_header words ≡ false) × (f ≡ fault.Unknown)

-- the same of any line, the first or not
abbrev pub LineStates : Bool → List ℕ → List Span → Before → List (List ℕ) → Statement → Type 0
LineStates false text behind before words statement = HeaderStates words statement
LineStates true text behind before words statement = BodyStates (is_turns before words) text behind before words statement

abbrev pub IsLineFault : Bool → List ℕ → List Span → Before → List (List ℕ) → ScriptFault → Type 0
IsLineFault false text behind before words f = IsHeaderFault words f
IsLineFault true text behind before words f = IsBodyFault (is_turns before words) text behind before words f

-- what a line states behind these statements, and its fault
abbrev pub States : List ℕ → List Statement → Told → Statement → Type 0
States text statements line statement = LineStates (list_any is_begin statements) text line.behind (before_of statements) line.words statement

abbrev pub IsFault : List ℕ → List Statement → Told → ScriptFault → Type 0
IsFault text statements line f = IsLineFault (list_any is_begin statements) text line.behind (before_of statements) line.words f
