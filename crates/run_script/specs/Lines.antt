-- Which row a line has, what its words stand for, and the faults of both: said once for all rows. Places are counted from 1.
use Rattle.std.specs.Prelude.{◌≡◌, ◌⊎◌, ℕ, ◌+◌, ◌-◌, ℤ, ◌≤ℤ◌, List, [], ◌∷◌, length, Bool, true, false, ◌&&◌, ◌||◌, ◌==◌, nat_lt, Option, Some, None, is_some, find, Result, Ok, Err}
use Rattle.std.specs.List.{list_any, slice_index_or}
use Rattle.nav_num.specs.Faults.{ReadsAs}
use Rattle.nav_num.specs.Whole.{whole_number}
use Rattle.run_script.specs.declared.fault.ScriptFault.{ScriptFault}
use Rattle.run_script.specs.declared.fault.ScriptFault.TheVariants.{Unknown, Words, Number}
use Rattle.run_script.specs.declared.table.Row.{Row}
use Rattle.run_script.specs.declared.table.Slot.{Slot}
use Rattle.run_script.specs.declared.table.Slot.TheVariants as slot
use Rattle.run_script.specs.declared.table.TheConstants.{HEIGHT_SCALE, PLACE_SCALE}
use Rattle.run_script.specs.declared.value.Value.{Value}
use Rattle.run_script.specs.declared.value.Value.TheVariants as value
use Rattle.run_script.specs.declared.value.Values.{Values}
use Rattle.run_script.specs.Choices.{number_among}
use Rattle.run_script.specs.Numbers.{has_value, signed_number, hex_number}

-- the word at a place, and no bytes past the last
abbrev pub word : ℕ → List (List ℕ) → List ℕ
word place words = slice_index_or words (place - 1) []

-- whether a word may stand in a slot, as far as the slot selects the form
abbrev pub may_stand : Slot → List ℕ → Bool
may_stand slot.Nothing word = false
may_stand (slot.Word choice) word = is_some (number_among choice word)
may_stand (slot.OneOf choice) word = is_some (number_among choice word)
may_stand (slot.Code n) word = has_value (whole_number n n word)
may_stand _ word = true

-- whether the word at a place, if there is one, may stand there
abbrev pub agrees : Slot → ℕ → List (List ℕ) → Bool
agrees slot place words = nat_lt (length words) place || may_stand slot (word place words)

-- whether each word that is there and selects a form may stand in this row
abbrev pub agrees_with : List (List ℕ) → Row → Bool
agrees_with words row = agrees row.second 2 words && agrees row.third 3 words && agrees row.fourth 4 words && agrees row.fifth 5 words && agrees row.sixth 6 words

-- whether the line is of this row's form: its number of words is right, too
abbrev pub is_of : List (List ℕ) → Row → Bool
is_of words row = (length words == row.words) && agrees_with words row

-- a row that was found; where none was, the number of words is wrong if a row would agree, and else a word is unknown
abbrev pub found_or : Option Row → Bool → Result Row ScriptFault
found_or (Some row) agreed = Ok row
found_or None true = Err Words
found_or None false = Err Unknown

-- the row of a line among these
unfoldable pub row_among : List Row → List (List ℕ) → Result Row ScriptFault
row_among rows words = found_or (find (is_of words) rows) (list_any (agrees_with words) rows)

-- what a word stands for in a slot
abbrev pub Reads : Slot → List ℕ → Value → Type 0
Reads slot.End word v = v ≡ value.Word
Reads slot.Nothing word v = v ≡ value.Word
Reads (slot.Word choice) word v = v ≡ value.Word
Reads slot.Name word v = v ≡ value.Word
Reads slot.Never word v = ⊥
Reads (slot.OneOf choice) word v = (n : ℕ) × (number_among choice word ≡ Some n) × (v ≡ value.Byte n)
Reads (slot.Code n) word v = v ≡ value.Short n
Reads (slot.Byte low high) word v = (n : ℕ) × (whole_number low high word ≡ Ok n) × (v ≡ value.Byte n)
Reads (slot.Short low high) word v = (n : ℕ) × (whole_number low high word ≡ Ok n) × (v ≡ value.Short n)
Reads (slot.Long low high) word v = (n : ℕ) × (whole_number low high word ≡ Ok n) × (v ≡ value.Long n)
Reads (slot.Signed low high) word v = (n : ℤ) × (signed_number word ≡ Some n) × (low ≤ℤ n) × (n ≤ℤ high) × (v ≡ value.Signed n)
Reads (slot.Height low high) word v = (n : ℤ) × ReadsAs word HEIGHT_SCALE n × (low ≤ℤ n) × (n ≤ℤ high) × (v ≡ value.Signed n)
Reads (slot.Degrees low high) word v = (n : ℤ) × ReadsAs word PLACE_SCALE n × (low ≤ℤ n) × (n ≤ℤ high) × (v ≡ value.Signed n)
Reads slot.Hex word v = (n : ℕ) × (hex_number word ≡ Some n) × (v ≡ value.Byte n)

-- what the words of a line stand for in a row
pub record ReadsRow (row : Row) (words : List (List ℕ)) (values : Values) : Type 0 where
  pub second : Reads row.second (word 2 words) values.second
  pub third : Reads row.third (word 3 words) values.third
  pub fourth : Reads row.fourth (word 4 words) values.fourth
  pub fifth : Reads row.fifth (word 5 words) values.fifth
  pub sixth : Reads row.sixth (word 6 words) values.sixth

-- a word stands for something in its slot, or for nothing
abbrev pub IsGood : Slot → List ℕ → Type 0
IsGood slot word = (v : Value) × Reads slot word v

abbrev pub IsBad : Slot → List ℕ → Type 0
IsBad slot word = (v : Value) → ¬ (Reads slot word v)

-- the first word from a place on that stands for nothing in its slot
abbrev pub FirstBad : ℕ → List Slot → List (List ℕ) → ScriptFault → Type 0
FirstBad place [] words f = ⊥
FirstBad place (slot ∷ slots) words f = ((f ≡ Number place) × IsBad slot (word place words)) ⊎ (IsGood slot (word place words) × FirstBad (place + 1) slots words f)

-- the fault of a line whose row is known: its first word that is no number of its form and range
abbrev pub IsNumberFault : Row → List (List ℕ) → ScriptFault → Type 0
IsNumberFault row words f = FirstBad 2 (row.second ∷ row.third ∷ row.fourth ∷ row.fifth ∷ row.sixth ∷ []) words f
