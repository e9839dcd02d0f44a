-- As many schedules as rounds were made.
use Rattle.std.proofs.Common.{◌≡◌, [], replicate}
use Rattle.vehicle_core.specs.ScheduleState.{fresh}
use Rattle.vehicle_core.proofs.seats.empty_schedules.Given as goal

abbrev pub invariant-loop : goal.invariant-loop
invariant-loop l = l.schedules.items ≡ replicate l.counter (fresh [])
