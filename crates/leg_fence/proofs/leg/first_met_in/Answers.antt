use Rattle.std.proofs.Common.{◌≡◌, Bool, true, false, arith}
use Rattle.mission_model.specs.Fence.{edges_of}
use Rattle.fence_polygon.specs.Polygons.{length-edges_of}
use Rattle.leg_fence.proofs.First.{edge_at, MetNone-more, MeetsFirst-at, MetNone-all}
use Rattle.leg_fence.proofs.leg.first_met_in.Goals as goal

pub returns-then-meets_edge : goal.returns-then-meets_edge
returns-then-meets_edge c =
    MeetsFirst-at (edges_of c.args.polygon.now) c.args.p c.args.q c.loop-at.at _ c.vertex_after.result.now
    (edge_at c.args.polygon.now c.loop-at.at _ c.vertex_after.result.now c.loop-at-test.true c.vertex_after.ensures) (c.meets_edge.ensures.0 c.if-meets_edge.true) c.loop-at.invariant

clash : (b : Bool) → b ≡ true → b ≡ false → ⊥
clash b h g = absurd cc

pub loop-at-preserved : goal.loop-at-preserved
loop-at-preserved c =
    MetNone-more (edges_of c.args.polygon.now) c.args.p c.args.q c.loop-at.at _ c.vertex_after.result.now
    (edge_at c.args.polygon.now c.loop-at.at _ c.vertex_after.result.now c.loop-at-test.true c.vertex_after.ensures) (λ on. let met : c.meets_edge.result ≡ true = c.meets_edge.ensures.1 on in absurd (clash c.meets_edge.result met c.if-meets_edge.false)) c.loop-at.invariant

pub returns : goal.returns
returns c = MetNone-all (edges_of c.args.polygon.now) c.args.p c.args.q c.loop-at.at (omega (arith, length-edges_of c.args.polygon.now)) c.loop-at.invariant
