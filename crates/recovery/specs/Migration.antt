-- What the migration of a store of layout 1 writes, and what its images stand for.
use Rattle.std.specs.Prelude.{◌≡◌, ◌+◌, ◌*◌, ◌-◌, ◌<◌, ℕ, List, ◌∷◌, ◌++◌, length, replicate, Option, Some, None}
use Rattle.std.specs.Int.{to_le_bytes, w64}
use Rattle.disk_model.specs.Bytes.{field}
use Rattle.disk_model.specs.Disk.{DiskState}
use Rattle.disk_model.specs.Every.{Run}
use Rattle.mission_model.specs.declared.limits.TheConstants.{STORE_BYTES}
use Rattle.mission_model.specs.declared.plan.PlanHead.{PlanHead}
use Rattle.mission_model.specs.declared.plan.PlanType.{PlanType}
use Rattle.mission_model.specs.PlainMark.{PlainMark}
use Rattle.gated_cell.specs.declared.place.CellPlace.{CellPlace}
use Rattle.dataman_layout.specs.declared.layout.Layout.TheVariants.{One, Two}
use Rattle.dataman_layout.specs.Layouts.{limit_in, most_pairs}
use Rattle.dataman_layout.specs.Places.{record_at, length_in}
use Rattle.dataman_layout.specs.State.{StateRecord}
use Rattle.dataman_layout.specs.Mark.{MarkRecord}
use Rattle.bank_state.specs.Plans.{Plans}
use Rattle.bank_state.specs.StandsFor.{state_cell, mark_cell, StandsIn, StandsFor}
use Rattle.recovery.specs.declared.cells.States.{States}
use Rattle.recovery.specs.Found.{banks_among}

-- the two slots of a cell that is new: the first is open with the first generation, the second closed
abbrev pub new_slots : List ℕ → List ℕ
new_slots payload = (165 ∷ to_le_bytes w64 1 ++ payload) ++ replicate (9 + length payload) 0

-- an image has these two slots in a cell
pub record HasNew (place : CellPlace) (payload : List ℕ) (image : List ℕ) : Type 0 where
  pub slot : length payload + 9 ≡ place.slot_bytes
  pub bytes : field place.at (2 * place.slot_bytes) image ≡ new_slots payload

-- the state cell of a type in layout 2 is new and names bank 0 and this plan
pub record HasNewState (kind : PlanType) (head : PlanHead) (image : List ℕ) : Type 0 where
  pub payload : List ℕ
  pub is : HasNew (state_cell Two kind) payload image
  pub named : StateRecord (limit_in Two kind) payload 0 head

-- both slots of a mark cell that has this mark, or no open gate
abbrev pub AreMarkSlots : Option PlainMark → List ℕ → Type 0
AreMarkSlots None slots = slots ≡ replicate 288 0
AreMarkSlots (Some mark) slots = (payload : List ℕ) × (slots ≡ new_slots payload) × (length payload ≡ 135) × MarkRecord (most_pairs Two) payload mark

-- the mark cell of layout 2 has such slots
pub record HasNewMark (mark : Option PlainMark) (image : List ℕ) : Type 0 where
  pub slots : List ℕ
  pub are : AreMarkSlots mark slots
  pub here : field (mark_cell Two).at 288 image ≡ slots

-- the record of a seq of a bank of layout 1 stands in bank 0 of layout 2
pub record IsCopied (kind : PlanType) (bank seq : ℕ) (old new : List ℕ) : Type 0 where
  pub bytes : field (record_at Two kind 0 seq) 48 new ≡ field (record_at One kind bank seq) 48 old

-- and the first n do
abbrev pub AreCopied : PlanType → ℕ → ℕ → List ℕ → List ℕ → Type 0
AreCopied kind bank n old new = (seq : ℕ) → seq < n → IsCopied kind bank seq old new

-- the records of the three plans that states name do
abbrev pub AreAllCopied : States → List ℕ → List ℕ → Type 0
AreAllCopied states old new = (kind : PlanType) → AreCopied kind (banks_among states kind).bank (banks_among states kind).head.count old new

-- the state cells of layout 2 are new and name these plans in bank 0
abbrev pub HaveNewStates : States → List ℕ → Type 0
HaveNewStates states image = (kind : PlanType) → HasNewState kind (banks_among states kind).head image

-- what stands behind the compat cell in layout 2 once all was put there
pub record IsPutBehind (named : States) (stored : Option PlainMark) (old new : List ℕ) : Type 0 where
  pub items : AreAllCopied named old new
  pub states : HaveNewStates named new
  pub mark : HasNewMark stored new

-- how many items the plans have that states name
abbrev pub items_named : States → ℕ
items_named states = states.mission.head.count + (states.fence.head.count + states.safe.head.count)

-- calls that write only behind layout 1
abbrev pub RunsBehind : DiskState → DiskState → Type 0
RunsBehind old new = Run (length_in One) (STORE_BYTES - length_in One) (λ _. Unit {0}) old new

-- What one image of layout 1 stands for, another stands for, in one layout or the other.
pub record Carried (first : List ℕ) (image : List ℕ) : Type 0 where
  pub plans : Plans
  pub mark : PlainMark
  pub was : StandsIn One first plans mark
  pub is : StandsFor image plans mark

-- What an image of before stood for in layout 1, this one stands for.
abbrev pub IsCarried : DiskState → List ℕ → Type 0
IsCarried old image = (first : List ℕ) × old.images first × Carried first image

-- What one image of layout 1 stands for, another stands for in layout 2.
pub record Moved (first : List ℕ) (image : List ℕ) : Type 0 where
  pub plans : Plans
  pub mark : PlainMark
  pub was : StandsIn One first plans mark
  pub is : StandsIn Two image plans mark
