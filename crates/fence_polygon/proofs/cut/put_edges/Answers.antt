use Rattle.std.proofs.Common.{sym, ap, ◌∙◌, arith, length, min, max}
use Rattle.mission_model.specs.declared.plan.Item.{Item}
use Rattle.mission_model.specs.Command.{vertex_count}
use Rattle.mission_model.specs.Fence.{edges_of}
use Rattle.fence_polygon.specs.Marks.{with_edges}
use Rattle.fence_polygon.specs.Polygons.{FirstPolygon, FirstPolygon-cut, fence_edges-none}
use Rattle.fence_polygon.proofs.Puts.{InOrder-with_edges, with_edges-polygon}
use Rattle.fence_polygon.proofs.cut.put_edges.Goals as goal

pub loop-first-preserved : goal.loop-first-preserved
loop-first-preserved c =
    let same = ap (λ (item : Item). min (max 1 (vertex_count item)) (length c.loop-first.rest.now)) c.item.ensures in
    let cut : FirstPolygon c.loop-first.rest.now c.polygon_size.result = FirstPolygon-cut c.loop-first.rest.now c.in-Some.first.now c.polygon_size.result c.in-Some.ensures.value (c.polygon_size.ensures ∙ same) in
    record {
      order = rw c.put_polygon.ensures (InOrder-with_edges c.loop-first.number (edges_of c.split_at.result.0.now) c.loop-first.bands c.loop-first.invariant.order);
      count = omega (arith, c.split_at.ensures.front_len, c.split_at.ensures.back_len);
      is = with_edges-polygon c.loop-first.number c.polygon_size.result c.loop-first.rest.now c.split_at.result.0.now c.split_at.result.1.now c.loop-first.bands c.put_polygon.new.bands cut c.split_at.ensures.front c.split_at.ensures.back c.put_polygon.ensures ∙ c.loop-first.invariant.is;
    }

pub returns : goal.returns
returns c = sym (ap (λ edges. with_edges c.loop-first.number edges c.loop-first.bands) (fence_edges-none c.loop-first.rest.now c.in_default.ensures.value)) ∙ c.loop-first.invariant.is
