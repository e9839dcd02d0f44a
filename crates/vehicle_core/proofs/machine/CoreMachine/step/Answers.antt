-- The reply that was taken may be told.
use Rattle.std.proofs.Common.{sym, subst}
use Rattle.request_board.specs.Watching.{IsTold}
use Rattle.vehicle_core.specs.Steps.{RoleFits}
use Rattle.vehicle_core.proofs.WatchLines.{may_tell}
use Rattle.vehicle_core.proofs.machine.CoreMachine.step.Goals as goal

pub told-out-requires-clause-told : goal.told-out-requires-clause-told
told-out-requires-clause-told g c =
    subst (IsTold (g.W.Watcher.waits c.in-Watch.watch.watcher) c.in-Hears.asked c.in-Hears.reply) (sym c.published-in-Hears.ensures)
    (may_tell g.W.Watcher.waits c.args.shared.now c.in-Watch.watch c.in-Hears.asked c.in-Hears.reply c.next.new.shared c.next.new.schedule (subst (RoleFits g.W.Watcher.waits c.args.shared.now) c.in-Watch.is c.requires.fits.role) c.in-Hears.ensures).0
