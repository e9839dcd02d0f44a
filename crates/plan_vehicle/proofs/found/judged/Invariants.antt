-- The judge was shown the items so far.
use Rattle.std.proofs.Common.{length, take}
use Rattle.feasibility.specs.Judged.{Judged}
use Rattle.plan_vehicle.proofs.found.judged.Given as goal

abbrev pub invariant-loop-item : goal.invariant-loop-item
invariant-loop-item l = Judged l.judge l.fn.params l.fn.home l.fence (length l.mission) (take l.item-index l.mission)
