-- The change of one cell, in its three steps, and what each outcome leaves.
use Rattle.std.specs.Prelude.{◌≡◌, ◌⊎◌, ◌+◌, ◌*◌, ◌-◌, ◌^◌, ℕ, Bool, true, false, IsTrue, List}
use Rattle.disk_model.specs.Bytes.{Torn}
use Rattle.disk_model.specs.Disk.{DiskState, Meter}
use Rattle.disk_model.specs.Every.{Every}
use Rattle.gated_cell.specs.declared.cell.GatedCell.{GatedCell}
use Rattle.gated_cell.specs.declared.fault.CellFault.{CellFault}
use Rattle.gated_cell.specs.declared.fault.CellFault.TheVariants as cell_fault
use Rattle.gated_cell.specs.Cell.{Held, InForce, held, spare_of, Known, Doubtful, in_force, next_of}
use Rattle.gated_cell.specs.Refusals.{Refused}

-- what is in force once this payload is
abbrev pub next_with : GatedCell → List ℕ → Held
next_with cell payload = InForce (spare_of cell.in_force) (cell.generation + 1) payload

-- an image is what a read gave, but for the cell's own bytes
abbrev pub IsBut : GatedCell → DiskState → List ℕ → Type 0
IsBut cell old image = Torn cell.place.at (2 * cell.place.slot_bytes) old.seen image

-- an image of the change has the old payload in force, or the new one; then all else had come through a sync
abbrev pub Swaps : GatedCell → List ℕ → DiskState → List ℕ → Type 0
Swaps cell payload old image = (held cell.place image ≡ in_force cell old) ⊎ ((held cell.place image ≡ next_with cell payload) × IsBut cell old image)

-- the change was refused before the gate was opened
pub record Unopened (cell : GatedCell) (old : DiskState) (now : GatedCell) (new : DiskState) : Type 0 where
  pub is : (now ≡ cell) ⊎ (now ≡ record cell { spare_closed = true })
  pub known : Known now new
  pub same : IsTrue new.tells → in_force now new ≡ in_force cell old

-- it was refused while the gate was opened
pub record HalfOpen (cell : GatedCell) (payload : List ℕ) (old : DiskState) (failed : Bool) (now : GatedCell) (new : DiskState) : Type 0 where
  pub is : now ≡ record cell { spare_closed = true; doubt = failed }
  pub doubtful : Doubtful now new
  pub same : IsTrue new.tells → in_force now new ≡ in_force cell old
  pub next : IsTrue new.tells → next_of now new ≡ next_with cell payload
  pub synced : Every (IsBut cell old) new

-- what a change that was refused leaves
abbrev pub Leaves : GatedCell → List ℕ → DiskState → GatedCell → DiskState → CellFault → Type 0
Leaves cell payload old now new cell_fault.Failed = Unopened cell old now new ⊎ HalfOpen cell payload old true now new
Leaves cell payload old now new cell_fault.Cut = Unopened cell old now new ⊎ HalfOpen cell payload old false now new
Leaves cell payload old now new (cell_fault.Spent g) = now ≡ cell
Leaves cell payload old now new (cell_fault.Twins g) = ⊥

-- why a change was not done: the generation is the last, or the disk refused one of six writes and syncs
abbrev pub NotDone : ℕ → Meter → Meter → CellFault → Type 0
NotDone generation old new cell_fault.Failed = Refused 6 0 old new cell_fault.Failed
NotDone generation old new cell_fault.Cut = Refused 6 0 old new cell_fault.Cut
NotDone generation old new (cell_fault.Spent g) = (g ≡ generation) × (generation ≡ 2 ^ 64 - 1)
NotDone generation old new (cell_fault.Twins g) = ⊥
