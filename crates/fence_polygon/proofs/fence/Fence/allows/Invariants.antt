-- What is left of the vertices decides together with what was seen.
use Rattle.std.proofs.Common.{length}
use Rattle.fence_polygon.proofs.Walk.{Passed}
use Rattle.fence_polygon.proofs.fence.Fence.allows.Given as goal

abbrev pub invariant-loop-edges : goal.invariant-loop-edges
invariant-loop-edges l = Passed l.self l.rest l.x l.y l.is_included l.is_excluded l.edges

abbrev pub decreases-loop-edges : goal.decreases-loop-edges
decreases-loop-edges l = length l.rest
