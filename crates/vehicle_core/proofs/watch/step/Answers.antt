-- The reply that was taken may be told.
use Rattle.std.proofs.Common.{sym, subst}
use Rattle.request_board.specs.Watching.{IsTold}
use Rattle.vehicle_core.proofs.WatchLines.{may_tell}
use Rattle.vehicle_core.proofs.watch.step.Goals as goal

pub told-out-requires-clause-told : goal.told-out-requires-clause-told
told-out-requires-clause-told g c =
    subst (IsTold (g.W.Watcher.waits c.args.watch.now.watcher) c.in-Hears.asked c.in-Hears.reply) (sym c.published-in-Hears.ensures)
    (may_tell g.W.Watcher.waits c.args.shared.now c.args.watch.now c.in-Hears.asked c.in-Hears.reply c.next.new.shared c.next.new.schedule c.requires c.in-Hears.ensures).0
