-- A row of a plan text: twelve words, and the item that they stand for.
use Rattle.std.specs.Prelude.{◌≡◌, ℕ, ◌+◌, List, [], ◌∷◌, length}
use Rattle.first_text.specs.Words.{words_in}
use Rattle.first_num.specs.Faults.{ReadsAs}
use Rattle.first_model.specs.declared.plan.Param.{Param}
use Rattle.first_model.specs.declared.plan.Item.{Item}
use Rattle.std.specs.Prelude.{ℤ, Bool}
use Rattle.first_wpl.specs.declared.fields.TheConstants.{FIELDS, MAX_NUMBER, MAX_SMALL, PLACE_SCALE, HEIGHT_SCALE}
use Rattle.first_wpl.specs.Fields.{word_at, IsWhole, ReadsParam, ReadsFlag}

-- the first four words: the row's place, a flag that is read and dropped, the frame and the command
pub record HeadIs (words : List (List ℕ)) (place frame command : ℕ) : Type 0 where
  pub index : IsWhole MAX_NUMBER (word_at words 1) place
  pub current : (n : ℕ) × IsWhole MAX_SMALL (word_at words 2) n
  pub frame_word : IsWhole MAX_SMALL (word_at words 3) frame
  pub command_word : IsWhole MAX_NUMBER (word_at words 4) command

-- the next four: the parameters
pub record ParamsAre (words : List (List ℕ)) (p1 p2 p3 p4 : Param) : Type 0 where
  pub param1 : ReadsParam (word_at words 5) p1
  pub param2 : ReadsParam (word_at words 6) p2
  pub param3 : ReadsParam (word_at words 7) p3
  pub param4 : ReadsParam (word_at words 8) p4

-- the last four: latitude, longitude, height, and whether the vehicle goes on by itself
pub record PositionIs (words : List (List ℕ)) (x y z : ℤ) (auto : Bool) : Type 0 where
  pub latitude : ReadsAs (word_at words 9) PLACE_SCALE x
  pub longitude : ReadsAs (word_at words 10) PLACE_SCALE y
  pub height : ReadsAs (word_at words 11) HEIGHT_SCALE z
  pub goes_on : ReadsFlag (word_at words 12) auto

-- the words are those of the row at a place, and stand for an item
pub record RowIs (words : List (List ℕ)) (place : ℕ) (item : Item) : Type 0 where
  pub count : length words ≡ FIELDS
  pub head : HeadIs words place item.frame item.command
  pub params : ParamsAre words item.p1 item.p2 item.p3 item.p4
  pub position : PositionIs words item.x item.y item.z item.auto

-- the lines are rows, the first of them at a place, and stand for the items one by one
abbrev pub RowsAre : ℕ → List (List ℕ) → List Item → Type 0
RowsAre place [] [] = Unit {0}
RowsAre place (line ∷ lines) (item ∷ items) = RowIs (words_in line) place item × RowsAre (place + 1) lines items
RowsAre place _ _ = ⊥
