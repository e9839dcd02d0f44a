-- What each outcome of a call leaves of the banks, and what it shows of the disk.
use Rattle.dataman_layout.specs.declared.layout.Layout.TheVariants.{Two}
use Rattle.std.specs.Prelude.{◌≡◌, ◌⊎◌, ◌==◌, ◌&&◌, ◌≤◌, ℕ, false, IsTrue, List, Option, Some, None, Result, Ok, Err, IfOk, IsErrOf, if◌then◌else◌}
use Rattle.mission_model.specs.declared.plan.PlanType.{PlanType}
use Rattle.mission_model.specs.declared.plan.Item.{Item}
use Rattle.mission_model.specs.Command.{is_kind}
use Rattle.disk_model.specs.Disk.{DiskState, Meter, Reads, Rose}
use Rattle.disk_model.specs.Meters.{CutWithin, calls_on}
use Rattle.disk_model.specs.declared.disk.DiskFault.{DiskFault}
use Rattle.disk_model.specs.declared.disk.DiskFault.TheVariants as fault
use Rattle.gated_cell.specs.Refusals.{UncutWithin}
use Rattle.dataman_layout.specs.declared.item.Record.{Record}
use Rattle.dataman_layout.specs.Item.{item_in}
use Rattle.dataman_layout.specs.Places.{record_at}
use Rattle.gated_cell.specs.declared.fault.CellFault.{CellFault}
use Rattle.gated_cell.specs.declared.fault.CellFault.TheVariants as cell_fault
use Rattle.bank_state.specs.declared.parts.Parts.{Parts}
use Rattle.bank_state.specs.declared.parts.Doubt.{Doubt}
use Rattle.bank_state.specs.Ledger.{Ledger, Entry}
use Rattle.bank_state.specs.Store.{IsStore}

-- a fault leaves what was, or that with the change in doubt; a cut leaves what was, and the last generation, too
abbrev pub LedgerAfter : Doubt → Ledger → Ledger → CellFault → Type 0
LedgerAfter change old new cell_fault.Failed = (new ≡ old) ⊎ (new ≡ record old { doubt = Some change })
LedgerAfter change old new cell_fault.Cut = new ≡ old
LedgerAfter change old new (cell_fault.Spent g) = new ≡ old
LedgerAfter change old new (cell_fault.Twins g) = ⊥

-- the store is known again, but after a cut, which only a restart follows
abbrev pub StoreAfter : Parts → DiskState → CellFault → Type 0
StoreAfter parts disk cell_fault.Failed = IsStore parts disk
StoreAfter parts disk cell_fault.Cut = Unit {0}
StoreAfter parts disk (cell_fault.Spent g) = IsStore parts disk
StoreAfter parts disk (cell_fault.Twins g) = ⊥

-- the disk refused one of at most k writes and syncs and r reads: by a fault that it counted, or by a cut
abbrev pub RefusedBy : ℕ → ℕ → Meter → Meter → DiskFault → Type 0
RefusedBy k r old new fault.Failed = Rose old.faults new.faults × UncutWithin k r old new
RefusedBy k r old new fault.Cut = IsTrue old.power → CutWithin k r old new

-- whatever came of it, at most k writes and syncs and r reads were asked of the disk, and with the power off the answer is Cut
pub record AsksBy {T : Type 0} (k r : ℕ) (old new : Meter) (result : Result T DiskFault) : Type 0 where
  pub changes : (j : ℕ) × (j ≤ k) × (new.changes ≡ calls_on old.changes j)
  pub reads : (i : ℕ) × (i ≤ r) × (new.reads ≡ calls_on old.reads i)
  pub off : (old.power ≡ false) → IsErrOf result fault.Cut

-- whether it was done, whatever it gave
abbrev pub done_or_not : {T : Type 0} → Result T DiskFault → Result (Unit {0}) DiskFault
done_or_not (Ok x) = Ok tt
done_or_not (Err e) = Err e

-- the item of a record of this type, id and seq
abbrev pub item_by : PlanType → ℕ → ℕ → Option Record → Option Item
item_by kind id seq None = None
item_by kind id seq (Some r) = if is_kind r.kind kind && r.id == id && r.seq == seq then Some r.item else None

-- one read of 48 bytes was asked, and it gave the record that they are, if they are one
pub record GivesRecord (kind : PlanType) (bank seq : ℕ) (old new : DiskState) (result : Result (Option Record) DiskFault) : Type 0 where
  pub got : List ℕ
  pub read : Reads (record_at Two kind bank seq) 48 old new got (done_or_not result)
  pub found : IfOk result (λ found. found ≡ item_in got)

-- one read of 48 bytes was asked, and it gave the item where they are the record of that seq of the plan in force
pub record IsRead (kind : PlanType) (entry : Entry) (seq : ℕ) (old new : DiskState) (result : Result (Option Item) DiskFault) : Type 0 where
  pub got : List ℕ
  pub read : Reads (record_at Two kind entry.bank seq) 48 old new got (done_or_not result)
  pub found : IfOk result (λ found. found ≡ item_by kind entry.head.id seq (item_in got))
