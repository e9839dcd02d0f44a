use Rattle.std.proofs.Common.{sym, ◌∙◌, arith}
use Rattle.fence_polygon.proofs.Order.{below-more, from-more}
use Rattle.fence_polygon.proofs.band.bands_below.Goals as goal

pub loop-low-preserved-then-ends_below : goal.loop-low-preserved-then-ends_below
loop-low-preserved-then-ends_below c = record {
  order = omega arith;
  within = omega arith;
  below = below-more c.args.bands.now _ _ _ c.requires (omega arith) (sym c.ends_below.ensures ∙ c.if-ends_below.true);
  above = c.loop-low.invariant.above;
}

pub loop-low-preserved : goal.loop-low-preserved
loop-low-preserved c = record {
  order = omega arith;
  within = omega arith;
  below = c.loop-low.invariant.below;
  above = from-more c.args.bands.now _ _ _ c.requires (omega arith) (sym c.ends_below.ensures ∙ c.if-ends_below.false);
}
