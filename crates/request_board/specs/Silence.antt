-- The answer of the watcher that reads nothing, which has no reply to wait for.
use Rattle.std.specs.Prelude.{None, false, pos}
use Rattle.mission_model.specs.declared.plan.PlanType.TheVariants.{Mission}
use Rattle.mission_model.specs.declared.watch.WatchOut.{WatchOut}
use Rattle.request_board.specs.Watching.{Awaited}

abbrev pub silence : WatchOut
silence = record { read = None; note = record { code = 0; a = 0; b = 0; x = pos 0; y = pos 0 }; more = false }

abbrev pub nothing_read : Awaited
nothing_read = record { kind = Mission; head = record { id = 0; count = 1 }; seq = 0 }
