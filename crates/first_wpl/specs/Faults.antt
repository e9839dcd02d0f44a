-- The first fault of a plan text: a fault of the text itself, then the header, then the first faulty row, and in a row the first faulty field.
use Rattle.std.specs.Prelude.{◌≡◌, ◌≢◌, ℕ, ◌+◌, ◌-◌, ◌<◌, ◌≤◌, ◌⊎◌, List, [], ◌∷◌, length, ℤ, Result, Ok, Err, Vec}
use Rattle.std.specs.Global.{Global}
use Rattle.std.specs.List.{slice_index_or}
use Rattle.first_text.specs.Words.{words_in}
use Rattle.first_num.specs.Faults.{ReadsAs, HasFault}
use Rattle.first_model.specs.declared.plan.Param.{Param}
use Rattle.first_model.specs.declared.plan.Item.{Item}
use Rattle.first_model.specs.declared.limits.TheConstants.{MAX_PLAN_ROWS}
use Rattle.first_wpl.specs.declared.fault.WplFault.{WplFault}
use Rattle.first_wpl.specs.declared.fault.WplFault.TheVariants.{TooMany, FieldCount, BadWhole, BadIndex, Num, Memory}
use Rattle.first_wpl.specs.declared.fields.TheConstants.{FIELDS, MAX_NUMBER, MAX_SMALL, PARAM_SCALE, PLACE_SCALE, HEIGHT_SCALE}
use Rattle.first_wpl.specs.Fields.{word_at, IsWhole, NotWhole, IsNan, ReadsParam}
use Rattle.first_wpl.specs.Rows.{RowIs}

-- what a field holds: the row's place, a whole number up to a limit, a parameter, or a number at a scale
pub data Field : Type 0 where
  Place : Field
  Whole : ℕ → Field
  Parameter : Field
  Number : ℕ → Field

-- the twelve fields of a row
abbrev pub row_fields : List Field
row_fields = Place ∷ Whole MAX_SMALL ∷ Whole MAX_SMALL ∷ Whole MAX_NUMBER ∷ Parameter ∷ Parameter ∷ Parameter ∷ Parameter ∷ Number PLACE_SCALE ∷ Number PLACE_SCALE ∷ Number HEIGHT_SCALE ∷ Whole MAX_SMALL ∷ []

-- the field of a number from 1 to 12
abbrev pub field_of : ℕ → Field
field_of number = slice_index_or row_fields (number - 1) Place

-- the word fits its field in the row at a place
abbrev pub IsGood : Field → ℕ → List ℕ → Type 0
IsGood Place place word = IsWhole MAX_NUMBER word place
IsGood (Whole limit) place word = (n : ℕ) × IsWhole limit word n
IsGood Parameter place word = (param : Param) × ReadsParam word param
IsGood (Number scale) place word = (n : ℤ) × ReadsAs word scale n

-- the word does not fit its field, and this is its fault
abbrev pub IsBad : Field → ℕ → ℕ → ℕ → List ℕ → WplFault → Type 0
IsBad Place place line number word (BadWhole at field) = (at ≡ line) × (field ≡ number) × NotWhole MAX_NUMBER word
IsBad Place place line number word (BadIndex at) = (at ≡ line) × ((n : ℕ) × IsWhole MAX_NUMBER word n × (n ≢ place))
IsBad (Whole limit) place line number word (BadWhole at field) = (at ≡ line) × (field ≡ number) × NotWhole limit word
IsBad Parameter place line number word (Num at field fault) = (at ≡ line) × (field ≡ number) × (¬ (IsNan word)) × HasFault word PARAM_SCALE fault
IsBad (Number scale) place line number word (Num at field fault) = (at ≡ line) × (field ≡ number) × HasFault word scale fault
IsBad _ _ _ _ _ _ = ⊥

-- each field from one number on, and before another, is good
abbrev pub GoodFields : List (List ℕ) → ℕ → ℕ → ℕ → Type 0
GoodFields words place from to = (number : ℕ) → from ≤ number → number < to → IsGood (field_of number) place (word_at words number)

-- the first faulty field from a number on
abbrev pub FaultFrom : List (List ℕ) → ℕ → ℕ → ℕ → WplFault → Type 0
FaultFrom words place line from fault = (number : ℕ) × (from ≤ number) × (number ≤ FIELDS) × GoodFields words place from number × IsBad (field_of number) place line number (word_at words number) fault

-- the line of a row: the header is line 1
abbrev pub line_of : ℕ → ℕ
line_of place = place + 2

-- the fault of a row at a place: one row too many, another number of words than twelve, or the first faulty field
abbrev pub IsRowFault : List (List ℕ) → ℕ → WplFault → Type 0
IsRowFault words place (TooMany line) = (line ≡ line_of place) × (MAX_PLAN_ROWS ≤ place)
IsRowFault words place (Memory _) = Unit {0}
IsRowFault words place (FieldCount line) = (line ≡ line_of place) × (place < MAX_PLAN_ROWS) × (length words ≢ FIELDS)
IsRowFault words place fault = (place < MAX_PLAN_ROWS) × (length words ≡ FIELDS) × FaultFrom words place (line_of place) 1 fault

-- what reading gives where it should give a value: that value, if memory does not run out
abbrev pub Gives : {A : Type 0} → Result A WplFault → A → Type 0
Gives (Ok found) value = found ≡ value
Gives (Err (Memory _)) value = Unit {0}
Gives (Err _) value = ⊥

-- the same of a list of items
abbrev pub GivesItems : Result (Vec Item Global) WplFault → List Item → Type 0
GivesItems (Ok found) items = found.items ≡ items
GivesItems (Err (Memory _)) items = Unit {0}
GivesItems (Err _) items = ⊥

-- the first faulty row of lines of which the first is at a place
abbrev pub FirstRowFault : ℕ → List (List ℕ) → WplFault → Type 0
FirstRowFault place [] fault = ⊥
FirstRowFault place (line ∷ lines) fault = IsRowFault (words_in line) place fault ⊎ ((place < MAX_PLAN_ROWS) × ((item : Item) × RowIs (words_in line) place item) × FirstRowFault (place + 1) lines fault)
