use Rattle.std.proofs.Common.{◌<◌, arith, length}
use Rattle.std.proofs.lemmas.Option.{slice_get_within}
use Rattle.mission_model.specs.Fence.{edges_of}
use Rattle.fence_polygon.specs.Polygons.{FirstPolygon, FirstPolygon-cut, length-edges_of}
use Rattle.leg_fence.proofs.First.{Tells-begin, Tells-more, Tells-found, Tells-end}
use Rattle.leg_fence.proofs.leg.first_met.Goals as goal

pub loop-first-init : goal.loop-first-init
loop-first-init c = record { count = omega arith; tells = Tells-begin c.args.items.now c.args.p c.args.q }

pub overflow_add-result : goal.overflow_add-result
overflow_add-result c =
    let within : c.in-Some-first_met_in.at < length (edges_of c.split_at.result.0.now) = slice_get_within (edges_of c.split_at.result.0.now) c.in-Some-first_met_in.at (c.in-Some-first_met_in.ensures.0.0, c.in-Some-first_met_in.ensures.0.1) c.in-Some-first_met_in.ensures.0.2 in
    omega (arith, length-edges_of c.split_at.result.0.now, c.split_at.ensures.front_len)

pub returns-in-Some-first_met_in : goal.returns-in-Some-first_met_in
returns-in-Some-first_met_in c =
    let cut : FirstPolygon c.loop-first.rest.now c.polygon_size-size.result = FirstPolygon-cut c.loop-first.rest.now c.in-Some.first.now c.polygon_size-size.result c.in-Some.ensures.value c.polygon_size-size.ensures in
    Tells-found c.args.items.now c.loop-first.rest.now c.split_at.result.0.now c.args.p c.args.q c.loop-first.begin c.polygon_size-size.result c.in-Some-first_met_in.at cut c.split_at.ensures.front c.in-Some-first_met_in.ensures c.loop-first.invariant.tells

pub loop-first-preserved : goal.loop-first-preserved
loop-first-preserved c =
    let cut : FirstPolygon c.loop-first.rest.now c.polygon_size-size.result = FirstPolygon-cut c.loop-first.rest.now c.in-Some.first.now c.polygon_size-size.result c.in-Some.ensures.value c.polygon_size-size.ensures in
    record {
      count = omega (arith, c.split_at.ensures.front_len, c.split_at.ensures.back_len);
      tells = Tells-more c.args.items.now c.loop-first.rest.now c.split_at.result.0.now c.split_at.result.1.now c.args.p c.args.q c.loop-first.begin c.polygon_size-size.result cut c.split_at.ensures.front c.split_at.ensures.back c.in_default-first_met_in.ensures c.loop-first.invariant.tells;
    }

pub returns : goal.returns
returns c = Tells-end c.args.items.now c.loop-first.rest.now c.args.p c.args.q c.loop-first.begin c.in_default.ensures.value c.loop-first.invariant.tells
