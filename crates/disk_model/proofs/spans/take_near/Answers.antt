use Rattle.std.proofs.Common.{arith}
use Rattle.disk_model.proofs.Covers.{takes_one, takes_same}
use Rattle.disk_model.proofs.spans.take_near.Goals.{then-touches, else-touches}
use Rattle.disk_model.proofs.spans.take_near.Goals as goal

pub loop-i-preserved : goal.loop-i-preserved
loop-i-preserved c = elim c.if-touches.branch [
  | then-touches w ↦ takes_one _ c.loop-i.spans _ _ c.loop-i.hull _ c.loop-i.i w.hull-hull.result (omega (arith, c.loop-i.invariant.size)) w.spans-is w.hull-is w.hull-hull.ensures.this w.hull-hull.ensures.other w.hull-hull.ensures.end c.loop-i.invariant
  | else-touches w ↦ takes_same _ _ _ _ _ _ w.spans-is w.hull-is c.loop-i.invariant
]
