use Rattle.std.proofs.Common.{◌||◌, min, max, length, sym, ap, ◌∙◌}
use Rattle.mission_model.specs.declared.plan.Item.{Item}
use Rattle.mission_model.specs.Command.{vertex_count}
use Rattle.std.proofs.Common.{drop}
use Rattle.fence_polygon.specs.Bands.{some_inclusion}
use Rattle.fence_polygon.specs.Polygons.{FirstPolygon, FirstPolygon-cut}
use Rattle.fence_polygon.proofs.Walk.{some_inclusion-first, some_inclusion-none, first-inclusion}
use Rattle.fence_polygon.proofs.fence.has_inclusion.Goals as goal

pub returns-then-is_inclusion : goal.returns-then-is_inclusion
returns-then-is_inclusion c = sym (first-inclusion c.loop-first.rest.now c.in-Some.first.now c.in-Some.ensures.value (sym c.is_inclusion.ensures ∙ c.if-is_inclusion.true)) ∙ c.loop-first.invariant

pub loop-first-preserved : goal.loop-first-preserved
loop-first-preserved c =
    let same = ap (λ (item : Item). min (max 1 (vertex_count item)) (length c.loop-first.rest.now)) c.item.ensures in
    let cut : FirstPolygon c.loop-first.rest.now c.polygon_size.result = FirstPolygon-cut c.loop-first.rest.now c.in-Some.first.now c.polygon_size.result c.in-Some.ensures.value (c.polygon_size.ensures ∙ same) in
    ap some_inclusion c.split_at.ensures.back
    ∙ sym (some_inclusion-first c.loop-first.rest.now c.in-Some.first.now c.polygon_size.result cut c.in-Some.ensures.value ∙ ap (λ b. b || some_inclusion (drop c.polygon_size.result c.loop-first.rest.now)) (sym c.is_inclusion.ensures ∙ c.if-is_inclusion.false))
    ∙ c.loop-first.invariant

pub returns : goal.returns
returns c = sym (some_inclusion-none c.loop-first.rest.now c.in_default.ensures.value) ∙ c.loop-first.invariant
