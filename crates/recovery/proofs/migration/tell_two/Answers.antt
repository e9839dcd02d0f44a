use Rattle.std.proofs.Common.{sym, subst}
use Rattle.recovery.proofs.Telling.{two_told, swapped, cell_stopped, cell_of_disk}
use Rattle.recovery.specs.declared.fault.BootFault.{BootFault}
use Rattle.recovery.specs.Steps.{Stopped, IsOfDisk}
use Rattle.recovery.proofs.migration.tell_two.Goals as goal

pub returns-in-Ok-clause-two : goal.returns-in-Ok-clause-two
returns-in-Ok-clause-two g c = two_told c.args.cell c.swap.new.cell c.version_two.result (g.D.Disk.state c.swap.new.disk) c.version_two.ensures c.requires.place c.in-Ok.ensures.done c.in-Ok.ensures.known c.in-Ok.ensures.next

pub returns-in-Err-clause-of_disk : goal.returns-in-Err-clause-of_disk
returns-in-Err-clause-of_disk g c =
    subst IsOfDisk (sym c.fault_of.ensures)
    (cell_of_disk c.args.cell.generation (g.D.Disk.state c.args.disk.now).meter (g.D.Disk.state c.swap.new.disk).meter c.in-Err.fault c.requires.below c.in-Err.ensures.refused)

pub returns-in-Err-clause-went : goal.returns-in-Err-clause-went
returns-in-Err-clause-went g c =
    let a = (g.D.Disk.state c.args.disk.now).meter in
    let z = (g.D.Disk.state c.swap.new.disk).meter in
    subst (λ (f : BootFault). Stopped 6 a z f) (sym c.fault_of.ensures) (cell_stopped c.args.cell.generation a z c.in-Err.fault c.requires.below c.in-Err.ensures.refused)

pub returns-in-Ok-clause-any_moment : goal.returns-in-Ok-clause-any_moment
returns-in-Ok-clause-any_moment g c = swapped c.args.cell c.version_two.result (g.D.Disk.state c.args.disk.now) (g.D.Disk.state c.swap.new.disk) c.version_two.ensures c.swap.ensures.any_moment

pub returns-in-Err-clause-any_moment : goal.returns-in-Err-clause-any_moment
returns-in-Err-clause-any_moment g c = swapped c.args.cell c.version_two.result (g.D.Disk.state c.args.disk.now) (g.D.Disk.state c.swap.new.disk) c.version_two.ensures c.swap.ensures.any_moment
