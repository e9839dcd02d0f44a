-- A cell that was opened, or not.
use Rattle.std.specs.Prelude.{◌≡◌, ℕ, false, IsTrue, List, None, Result, IfOk, IfErr, OnOk, OnErr}
use Rattle.disk_model.specs.Disk.{DiskState, Still, Elapses}
use Rattle.disk_model.specs.Every.{Steady}
use Rattle.disk_model.specs.Meters.{Uncut}
use Rattle.gated_cell.specs.declared.place.CellPlace.{CellPlace}
use Rattle.gated_cell.specs.declared.cell.GatedCell.{GatedCell}
use Rattle.gated_cell.specs.declared.fault.CellFault.{CellFault}
use Rattle.gated_cell.specs.Cell.{held, Known, in_force, given}
use Rattle.gated_cell.specs.Refusals.{NotOpened, Asks}

-- two reads find the cell at a place and copy the payload in force, if any, into a buffer
pub record Opens (at : CellPlace) (old new : DiskState) (before after : List ℕ) (result : Result GatedCell CellFault) : Type 0 where
  pub place : IfOk result (λ cell. cell.place ≡ at)
  pub calm : IfOk result (λ cell. cell.doubt ≡ false)
  pub known : IfOk result (λ cell. Known cell new)
  pub held : IfOk result (λ cell. IsTrue old.tells → held at old.seen ≡ in_force cell new)
  pub payload : IfOk result (λ cell. IsTrue old.tells → after ≡ given cell before old.seen)
  pub untouched : IfOk result (λ cell. cell.in_force ≡ None → after ≡ before)
  pub kept : OnErr result (after ≡ before)
  pub still : Still old new
  pub time : Elapses old new
  pub steady : Steady old.meter new.meter
  pub calls : OnOk result (Uncut 0 2 old.meter new.meter)
  pub no_fault : OnOk result (new.meter.faults ≡ old.meter.faults)
  pub asked : Asks 0 2 old.meter new.meter result
  pub refused : IfErr result (NotOpened at old new)
