-- The judge was shown the items so far.
use Rattle.std.proofs.Common.{length, take}
use Rattle.feasibility.specs.Judged.{Judged}
use Rattle.feasibility.proofs.judge.tests.verdict_on.Given as goal

abbrev pub invariant-loop-item : goal.invariant-loop-item
invariant-loop-item l = Judged l.judge l.fn.params l.fn.home l.vertices (length l.mission) (take l.item-index l.mission)
