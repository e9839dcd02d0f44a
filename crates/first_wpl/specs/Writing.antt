-- A plan text as it is written: one tab between fields, and a line feed behind each line.
use Rattle.std.specs.Prelude.{ℕ, ◌+◌, List, [], ◌∷◌, ◌++◌, Bool, ◌==◌, if◌then◌else◌, codes, decimal}
use Rattle.first_text.specs.Joined.{text_of_lines}
use Rattle.first_num.specs.Decimal.{decimal_of}
use Rattle.first_model.specs.declared.plan.Param.{Param}
use Rattle.first_model.specs.declared.plan.Param.TheVariants.{Unset, Milli}
use Rattle.first_model.specs.declared.plan.Item.{Item}
use Rattle.first_wpl.specs.declared.fields.TheConstants.{PARAM_SCALE, PLACE_SCALE, HEIGHT_SCALE}
use Rattle.first_wpl.specs.Wpl.{header_text}

-- the word of a parameter
abbrev pub param_text : Param → List ℕ
param_text Unset = codes "nan"
param_text (Milli n) = decimal_of n PARAM_SCALE

-- the first row is the current one
abbrev pub current_of : ℕ → ℕ
current_of place = if place == 0 then 1 else 0

-- a flag as a number
abbrev pub flag_of : Bool → ℕ
flag_of flag = if flag then 1 else 0

-- the words of an item's head, of its parameters, and of its position
abbrev pub head_words : ℕ → Item → List (List ℕ)
head_words place item = decimal place ∷ decimal (current_of place) ∷ decimal item.frame ∷ decimal item.command ∷ []

abbrev pub param_words : Item → List (List ℕ)
param_words item = param_text item.p1 ∷ param_text item.p2 ∷ param_text item.p3 ∷ param_text item.p4 ∷ []

abbrev pub position_words : Item → List (List ℕ)
position_words item = decimal_of item.x PLACE_SCALE ∷ decimal_of item.y PLACE_SCALE ∷ decimal_of item.z HEIGHT_SCALE ∷ []

-- words, each with a tab behind it
abbrev pub tabbed : List (List ℕ) → List ℕ
tabbed [] = []
tabbed (word ∷ words) = (word ++ 9 ∷ []) ++ tabbed words

-- the row of an item at a place: its twelve words, with a tab behind each but the last
unfoldable pub row_text : ℕ → Item → List ℕ
row_text place item = tabbed (head_words place item) ++ (tabbed (param_words item) ++ (tabbed (position_words item) ++ decimal (flag_of item.auto)))

-- the rows of items, of which the first is at a place
abbrev pub row_texts : ℕ → List Item → List (List ℕ)
row_texts place [] = []
row_texts place (item ∷ items) = row_text place item ∷ row_texts (place + 1) items

-- the plan text of items
unfoldable pub wpl_text : List Item → List ℕ
wpl_text items = text_of_lines (header_text ∷ row_texts 0 items)
