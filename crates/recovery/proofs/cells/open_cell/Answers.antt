use Rattle.std.proofs.Common.{sym, subst}
use Rattle.recovery.specs.declared.fault.BootFault.{BootFault}
use Rattle.recovery.specs.Steps.{Stopped}
use Rattle.recovery.proofs.Steps.{unopened}
use Rattle.recovery.proofs.cells.open_cell.Goals as goal

pub returns-in-Err-clause-step : goal.returns-in-Err-clause-step
returns-in-Err-clause-step g c =
    let old = g.D.Disk.state c.args.disk.now in
    let new = g.D.Disk.state c.open.new.disk in
    record {
      still = c.open.ensures.still;
      time = c.open.ensures.time;
      steady = c.open.ensures.steady;
      went = subst (λ (f : BootFault). Stopped 0 old.meter new.meter f) (sym c.fault_of.ensures) (unopened c.args.number c.args.place old new c.in-Err.fault c.in-Err.ensures.refused);
    }
