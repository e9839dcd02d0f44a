use Rattle.fence_polygon.proofs.Edges.{Walked}
use Rattle.fence_polygon.proofs.polygon.is_inside.Given as goal

abbrev pub invariant-loop-left : goal.invariant-loop-left
invariant-loop-left l = Walked l.polygon l.x l.y l.at l.is_odd l.left

abbrev pub decreases-loop-left : goal.decreases-loop-left
decreases-loop-left l = l.left
