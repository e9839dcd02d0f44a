use Rattle.std.proofs.Common.{◌≡◌, ◌<◌, Some, ◌&&◌, ◌||◌, not, min, max, length, sym, ap, ◌∙◌, arith}
use Rattle.std.specs.Int.{w32, cast_signed, cast_unsigned}
use Rattle.std.specs.List.{slice_get}
use Rattle.std.proofs.lemmas.Int.{to_z-of_z}
use Rattle.mission_model.specs.declared.plan.Item.{Item}
use Rattle.mission_model.specs.Command.{vertex_count}
use Rattle.mission_model.specs.Fence.{edges_of}
use Rattle.fence_polygon.specs.Bands.{edge_set, some_inclusion}
use Rattle.fence_polygon.specs.Polygons.{FirstPolygon, FirstPolygon-cut}
use Rattle.fence_polygon.proofs.Walk.{Passed-begin, Passed-some, Passed-edges, Passed-more, Passed-end, first_read}
use Rattle.fence_polygon.proofs.fence.Fence.allows.Goals as goal

pub loop-edges-init : goal.loop-edges-init
loop-edges-init c = Passed-begin c.args.self.now c.as_slice-rest.result.now _ _ c.edges_at-edges.result (c.as_slice-rest.ensures.value ∙ c.self.view_is) c.as_slice-rest.ensures.fits c.edges_at-edges.ensures

pub bounds-rest-0 : goal.bounds-rest-0
bounds-rest-0 c = Passed-some c.args.self.now c.loop-edges.rest.now _ _ c.loop-edges.is_included c.loop-edges.is_excluded c.loop-edges.edges c.loop-edges.invariant (omega arith)

pub polygon_size-size-requires : goal.polygon_size-size-requires
polygon_size-size-requires c = Passed-some c.args.self.now c.loop-edges.rest.now _ _ c.loop-edges.is_included c.loop-edges.is_excluded c.loop-edges.edges c.loop-edges.invariant (omega arith)

pub is_inside-is_inside-requires-clause-edges : goal.is_inside-is_inside-requires-clause-edges
is_inside-is_inside-requires-clause-edges c =
    let x = cast_signed w32 (cast_unsigned w32 c.args.x) in
    let some : 0 < length c.loop-edges.rest.now = Passed-some c.args.self.now c.loop-edges.rest.now _ _ c.loop-edges.is_included c.loop-edges.is_excluded c.loop-edges.edges c.loop-edges.invariant (omega arith) in
    let is : Some c.index-rest-0.result ≡ slice_get c.loop-edges.rest.now 0 = first_read c.loop-edges.rest.now c.index-rest-0.result some c.index-rest-0.is in
    let cut : FirstPolygon c.loop-edges.rest.now c.polygon_size-size.result = FirstPolygon-cut c.loop-edges.rest.now c.index-rest-0.result c.polygon_size-size.result is (c.polygon_size-size.ensures ∙ ap (λ (item : Item). min (max 1 (vertex_count item)) (length c.loop-edges.rest.now)) c.item.ensures) in
    c.lowest.ensures ∙ (Passed-edges c.args.self.now c.loop-edges.rest.now x (cast_signed w32 (cast_unsigned w32 c.args.y)) c.loop-edges.is_included c.loop-edges.is_excluded c.loop-edges.edges c.polygon_size-size.result c.loop-edges.invariant cut).0 ∙ ap (λ polygon. edge_set x (edges_of polygon)) (sym c.split_at.ensures.front)

pub loop-edges-smaller : goal.loop-edges-smaller
loop-edges-smaller c =
    let some : 0 < length c.loop-edges.rest.now = Passed-some c.args.self.now c.loop-edges.rest.now _ _ c.loop-edges.is_included c.loop-edges.is_excluded c.loop-edges.edges c.loop-edges.invariant (omega arith) in
    omega (arith, c.split_at.ensures.back_len, c.polygon_size-size.ensures)

pub loop-edges-preserved : goal.loop-edges-preserved
loop-edges-preserved c =
    let some : 0 < length c.loop-edges.rest.now = Passed-some c.args.self.now c.loop-edges.rest.now _ _ c.loop-edges.is_included c.loop-edges.is_excluded c.loop-edges.edges c.loop-edges.invariant (omega arith) in
    let is : Some c.index-rest-0.result ≡ slice_get c.loop-edges.rest.now 0 = first_read c.loop-edges.rest.now c.index-rest-0.result some c.index-rest-0.is in
    let cut : FirstPolygon c.loop-edges.rest.now c.polygon_size-size.result = FirstPolygon-cut c.loop-edges.rest.now c.index-rest-0.result c.polygon_size-size.result is (c.polygon_size-size.ensures ∙ ap (λ (item : Item). min (max 1 (vertex_count item)) (length c.loop-edges.rest.now)) c.item.ensures) in
    Passed-more c.args.self.now c.loop-edges.rest.now c.split_at.result.0.now c.split_at.result.1.now c.index-rest-0.result _ _ c.loop-edges.is_included c.loop-edges.is_excluded c.is_inside-is_inside.result c.is_inclusion.result c.is_exclusion.result c.loop-edges.edges c.polygon_size-size.result c.above-edges.result c.loop-edges.invariant cut is c.split_at.ensures.front c.split_at.ensures.back c.is_inside-is_inside.ensures c.is_inclusion.ensures c.is_exclusion.ensures c.above-edges.ensures

pub returns : goal.returns
returns c =
    let any : c.self.inside.has_inclusion ≡ some_inclusion c.args.self.now = c.self.invariant.1 ∙ ap some_inclusion c.self.view_is in
    rw (← to_z-of_z w32 c.args.x c.ranges.x, ← to_z-of_z w32 c.args.y c.ranges.y)
    (c.is_open.ensures ∙ ap (λ b. (c.loop-edges.is_included || not b) && not c.loop-edges.is_excluded) any ∙ Passed-end c.args.self.now c.loop-edges.rest.now _ _ c.loop-edges.is_included c.loop-edges.is_excluded c.loop-edges.edges c.loop-edges.invariant (omega arith))
