use Rattle.std.proofs.Common.{sym, ◌∙◌, arith}
use Rattle.fence_polygon.proofs.Puts.{InOrder-with_bit, with_edges-more, with_edges-end}
use Rattle.fence_polygon.proofs.cut.put_polygon.Goals as goal

pub loop-at-preserved : goal.loop-at-preserved
loop-at-preserved c = record {
  order = rw c.put_edge.ensures (InOrder-with_bit _ _ _ c.loop-at.bands c.loop-at.invariant.order);
  is = with_edges-more c.args.number c.loop-at.at c.args.polygon.now _ _ c.loop-at.bands c.put_edge.new.bands c.loop-at-test.true (sym c.index-polygon-at.is) c.vertex_after.ensures c.put_edge.ensures ∙ c.loop-at.invariant.is;
}

pub returns : goal.returns
returns c = sym (with_edges-end c.args.number c.loop-at.at c.args.polygon.now c.loop-at.bands (omega arith)) ∙ c.loop-at.invariant.is
