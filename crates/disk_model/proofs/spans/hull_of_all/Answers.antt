use Rattle.std.proofs.Common.{arith}
use Rattle.disk_model.specs.Spans.{Beside}
use Rattle.disk_model.proofs.Covers.{within_more}
use Rattle.disk_model.proofs.spans.hull_of_all.Goals as goal

pub loop-i-preserved : goal.loop-i-preserved
loop-i-preserved c = record {
  covers = λ k beside. within_more (Beside k) c.args.spans.now c.loop-i.i _ (omega arith) (c.hull-hull.ensures.this k beside) (c.loop-i.invariant.covers k (c.hull-hull.ensures.other k beside));
  span = λ k beside. c.loop-i.invariant.span k (c.hull-hull.ensures.other k beside);
  end = λ n ends low. c.hull-hull.ensures.end n (ends _ _ (omega arith)) (c.loop-i.invariant.end n ends low);
}

pub returns-clause-covers : goal.returns-clause-covers
returns-clause-covers c k beside j d below = c.loop-i.invariant.covers k beside j d (omega arith) (omega (arith, below))
