-- Why a call of a cell was not done, by what the disk's counts show.
use Rattle.std.specs.Prelude.{◌≡◌, ◌≤◌, ◌-◌, ◌^◌, ℕ, IsTrue, false, Result, IsErrOf}
use Rattle.disk_model.specs.Disk.{DiskState, Meter, Rose}
use Rattle.disk_model.specs.Meters.{Uncut, CutWithin, calls_on}
use Rattle.gated_cell.specs.declared.place.CellPlace.{CellPlace}
use Rattle.gated_cell.specs.declared.fault.CellFault.{CellFault}
use Rattle.gated_cell.specs.declared.fault.CellFault.TheVariants as cell_fault
use Rattle.gated_cell.specs.Cell.{held, Twins}

-- no cut came inside at most k writes and syncs and r reads
abbrev pub UncutWithin : ℕ → ℕ → Meter → Meter → Type 0
UncutWithin k r old new = (j i : ℕ) × (j ≤ k) × (i ≤ r) × Uncut j i old new

-- the disk refused one of at most k writes and syncs and r reads: by a fault that it counted, or by a cut
abbrev pub Refused : ℕ → ℕ → Meter → Meter → CellFault → Type 0
Refused k r old new cell_fault.Failed = Rose old.faults new.faults × UncutWithin k r old new
Refused k r old new cell_fault.Cut = IsTrue old.power → CutWithin k r old new
Refused k r old new (cell_fault.Spent g) = ⊥
Refused k r old new (cell_fault.Twins g) = ⊥

-- whatever came of it, at most k writes and syncs and r reads were asked of the disk, and with the power off the answer is Cut
pub record Asks {T : Type 0} (k r : ℕ) (old new : Meter) (result : Result T CellFault) : Type 0 where
  pub changes : (j : ℕ) × (j ≤ k) × (new.changes ≡ calls_on old.changes j)
  pub reads : (i : ℕ) × (i ≤ r) × (new.reads ≡ calls_on old.reads i)
  pub off : (old.power ≡ false) → IsErrOf result cell_fault.Cut

-- a cell is not opened where both its slots are open with one generation, or where the disk refused one of two reads
abbrev pub NotOpened : CellPlace → DiskState → DiskState → CellFault → Type 0
NotOpened place old new (cell_fault.Twins g) = (IsTrue old.tells → held place old.seen ≡ Twins g) × Uncut 0 2 old.meter new.meter
NotOpened place old new fault = Refused 0 2 old.meter new.meter fault

-- a spare slot is not closed at the last generation, or where the disk refused a write or a sync
abbrev pub NotClosed : ℕ → Meter → Meter → CellFault → Type 0
NotClosed generation old new (cell_fault.Spent g) = (g ≡ generation) × (generation ≡ 2 ^ 64 - 1)
NotClosed generation old new fault = Refused 2 0 old new fault
