-- The store that is new: three empty plans of id 0, and no stored mark.
use Rattle.dataman_layout.specs.declared.layout.Layout.TheVariants.{Two}
use Rattle.std.specs.Prelude.{◌≡◌, ◌⊎◌, ◌≤◌, ◌<◌, ◌+◌, ℕ, ◌==◌, IsTrue, List, [], ◌∷◌, ◌++◌, length, drop, get_or, replicate, Option, Some, None, if◌then◌else◌}
use Rattle.std.specs.Int.{to_le_bytes, w64}
use Rattle.mission_model.specs.declared.plan.PlanType.TheVariants.{Mission}
use Rattle.disk_model.specs.Bytes.{field}
use Rattle.disk_model.specs.Disk.{DiskState}
use Rattle.disk_model.specs.Every.{Steady}
use Rattle.disk_model.specs.Moments.{LeavesOnly}
use Rattle.dataman_layout.specs.Places.{state_at}
use Rattle.dataman_layout.specs.Compat.{compat_bytes}
use Rattle.dataman_layout.specs.State.{state_bytes}
use Rattle.plan_store.specs.StoreState.{StoredPlan}
use Rattle.bank_state.specs.Plans.{Plans}
use Rattle.recovery.specs.declared.fault.BootFault.{BootFault}
use Rattle.recovery.specs.declared.fault.BootFault.TheVariants.{NotAStore}

-- a slot that is open with the first generation
abbrev pub open_slot : List ℕ → List ℕ
open_slot payload = 165 ∷ to_le_bytes w64 1 ++ payload

-- a cell of short slots, of which the first is open
abbrev pub open_cell : List ℕ → List ℕ
open_cell payload = open_slot payload ++ replicate 16 0

-- the state of an empty plan: bank 0, id 0, count 0
abbrev pub empty_state : List ℕ
empty_state = state_bytes 0 (record { id = 0; count = 0 })

-- The bytes of the cells of a new store: version 2, and behind it three empty plans and a mark cell without an open gate.
abbrev pub empty_front : List ℕ
empty_front = open_cell (compat_bytes 2)

abbrev pub empty_cells : List ℕ
empty_cells = open_cell empty_state ++ open_cell empty_state ++ open_cell empty_state ++ replicate 288 0

-- where the cells behind the compat cell stand
abbrev pub cells_at : ℕ
cells_at = state_at Two Mission

-- the cells of an image are those of a new store
pub record IsEmpty (image : List ℕ) : Type 0 where
  pub front : field 0 32 image ≡ empty_front
  pub cells : field cells_at 384 image ≡ empty_cells

-- all bytes of its cells but the first are those of a new store
pub record IsBehind (image : List ℕ) : Type 0 where
  pub front : field 1 31 image ≡ drop 1 empty_front
  pub cells : field cells_at 384 image ≡ empty_cells

-- a store that is being made: its first byte is still 0, or all the others of its cells are there
abbrev pub IsBegun : List ℕ → Type 0
IsBegun image = (get_or image 0 0 ≡ 0) ⊎ IsBehind image

-- a place of none of the cells
abbrev pub IsOffCells : ℕ → Type 0
IsOffCells k = (32 ≤ k) × ((k < cells_at) ⊎ (cells_at + 384 ≤ k))

-- `new` is `old` but for the cells
pub record ButCells (old new : List ℕ) : Type 0 where
  pub size : length new ≡ length old
  pub others : (k : ℕ) → IsOffCells k → get_or new k 0 ≡ get_or old k 0

-- calls that write only the cells
pub record WritesCells (old new : DiskState) : Type 0 where
  pub images : LeavesOnly old new (λ c. (d : List ℕ) × old.images d × ButCells d c)
  pub reads : IsTrue new.tells → ButCells old.seen new.seen
  pub tells : new.tells ≡ old.tells
  pub steady : Steady old.meter new.meter

abbrev pub empty_plan : StoredPlan
empty_plan = record { id = 0; items = [] }

abbrev pub empty_plans : Plans
empty_plans = record { mission = empty_plan; fence = empty_plan; safe = empty_plan }

abbrev pub used_by : ℕ → Option BootFault
used_by byte = if byte == 0 then None else Some (NotAStore byte)

-- why no store is made over an image: its first byte is not 0
abbrev pub used_fault : List ℕ → Option BootFault
used_fault image = used_by (get_or image 0 0)
