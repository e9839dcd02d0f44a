-- How a step of a boot ends: what it did to the disk, and whether it was stopped.
use Rattle.std.specs.Prelude.{◌≡◌, ◌≤◌, ℕ, IsTrue, Option, Some, None, Result, Ok, Err}
use Rattle.disk_model.specs.Disk.{DiskState, Meter, Rose, Still, Elapses}
use Rattle.disk_model.specs.Every.{Steady}
use Rattle.disk_model.specs.Meters.{Uncut, CutWithin}
use Rattle.disk_model.specs.Moments.{LeavesOnly}
use Rattle.gated_cell.specs.declared.fault.CellFault.{CellFault}
use Rattle.gated_cell.specs.declared.fault.CellFault.TheVariants as cell_fault
use Rattle.recovery.specs.declared.fault.BootFault.{BootFault}
use Rattle.recovery.specs.declared.fault.BootFault.TheVariants.{NotAStore, UnknownVersion, BadCell, BadItem, DiskFailed, PowerOff}

-- no cut came inside at most k writes and syncs and some reads
abbrev pub Made : ℕ → Meter → Meter → Type 0
Made k old new = (j i : ℕ) × (j ≤ k) × Uncut j i old new

-- the cut that was armed came inside one of at most k writes and syncs or a read
abbrev pub CutIn : ℕ → Meter → Meter → Type 0
CutIn k old new = (j i : ℕ) × (j ≤ k) × CutWithin j i old new

-- why it was stopped: by a fault that the disk counted, by a cut, or by what was read, and then no cut came
abbrev pub Stopped : ℕ → Meter → Meter → BootFault → Type 0
Stopped k old new DiskFailed = Rose old.faults new.faults × Made k old new
Stopped k old new PowerOff = IsTrue old.power → CutIn k old new
Stopped k old new (NotAStore byte) = Made k old new
Stopped k old new (UnknownVersion number) = Made k old new
Stopped k old new (BadCell number) = Made k old new
Stopped k old new (BadItem kind seq) = Made k old new

-- k writes and syncs and r reads, none of which the disk refused
abbrev pub Quietly : ℕ → ℕ → Meter → Meter → Type 0
Quietly k r old new = (new.faults ≡ old.faults) × Uncut k r old new

-- done by so many calls, or stopped
abbrev pub Went : {T : Type 0} → ℕ → ℕ → Meter → Meter → Result T BootFault → Type 0
Went k r old new (Ok x) = Quietly k r old new
Went k r old new (Err fault) = Stopped k old new fault

-- r reads, which change neither what is read nor an image, or the first of them and then no more
pub record Step {T : Type 0} (r : ℕ) (old new : DiskState) (result : Result T BootFault) : Type 0 where
  pub still : Still old new
  pub time : Elapses old new
  pub steady : Steady old.meter new.meter
  pub went : Went 0 r old.meter new.meter result

-- stopped by the disk, or by just this fault
abbrev pub StoppedBy : Option BootFault → BootFault → Type 0
StoppedBy found DiskFailed = Unit {0}
StoppedBy found PowerOff = Unit {0}
StoppedBy found (NotAStore byte) = found ≡ Some (NotAStore byte)
StoppedBy found (UnknownVersion number) = found ≡ Some (UnknownVersion number)
StoppedBy found (BadCell number) = found ≡ Some (BadCell number)
StoppedBy found (BadItem kind seq) = found ≡ Some (BadItem kind seq)

-- it was the disk that stopped it
abbrev pub IsOfDisk : BootFault → Type 0
IsOfDisk DiskFailed = Unit {0}
IsOfDisk PowerOff = Unit {0}
IsOfDisk (NotAStore byte) = ⊥
IsOfDisk (UnknownVersion number) = ⊥
IsOfDisk (BadCell number) = ⊥
IsOfDisk (BadItem kind seq) = ⊥

-- with this fault to find the answer is Ok where there is none, and then P, and else this fault, unless the disk stopped it
abbrev pub Answers : {T : Type 0} → Option BootFault → (T → Type 0) → Result T BootFault → Type 0
Answers found P (Ok x) = (found ≡ None) × P x
Answers found P (Err fault) = StoppedBy found fault

-- Ok where there is no fault to find, and else the fault
abbrev pub judged : Option BootFault → Result (Unit {0}) BootFault
judged None = Ok tt
judged (Some fault) = Err fault

-- the fault of a boot that did not open the cell of this number
abbrev pub fault_of : ℕ → CellFault → BootFault
fault_of number cell_fault.Failed = DiskFailed
fault_of number cell_fault.Cut = PowerOff
fault_of number (cell_fault.Twins generation) = BadCell number
fault_of number (cell_fault.Spent generation) = BadCell number

-- nothing was written: what is read is as before, and each image since then was one before
pub record Keeps (old new : DiskState) : Type 0 where
  pub seen : new.seen ≡ old.seen
  pub tells : new.tells ≡ old.tells
  pub images : LeavesOnly old new old.images
  pub steady : Steady old.meter new.meter

-- only the disk refuses a new store, or its first byte, which is not 0, and then nothing is written
abbrev pub Unwritten : DiskState → DiskState → BootFault → Type 0
Unwritten old new DiskFailed = Unit {0}
Unwritten old new PowerOff = Unit {0}
Unwritten old new (NotAStore byte) = (byte ≡ 0 → ⊥) × Keeps old new
Unwritten old new (UnknownVersion number) = ⊥
Unwritten old new (BadCell number) = ⊥
Unwritten old new (BadItem kind seq) = ⊥
