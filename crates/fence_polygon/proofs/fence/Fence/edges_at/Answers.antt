use Rattle.std.proofs.Common.{sym, ap, subst, ◌∙◌, arith}
use Rattle.std.specs.Int.{w32, cast_signed, cast_unsigned}
use Rattle.std.proofs.lemmas.Int.{to_z-of_z}
use Rattle.fence_polygon.specs.Bands.{CutInBands, edges_at, latitudes}
use Rattle.fence_polygon.specs.Marks.{InOrder}
use Rattle.fence_polygon.proofs.Order.{InOrder-cut}
use Rattle.fence_polygon.proofs.Outside.{edges_at-gap, edges_at-past}
use Rattle.fence_polygon.proofs.fence.Fence.edges_at.Goals as goal
use Rattle.fence_polygon.proofs.fence.Fence.edges_at.Goals.{else-at-bands-via-then-at-bands+else-begins_by, else-at-bands-via-else-at-bands}

pub bands_below-at-requires : goal.bands_below-at-requires
bands_below-at-requires c = subst InOrder (sym c.as_slice-bands.ensures.value) (InOrder-cut (latitudes c.self.inside.vertices.items) c.self.inside.bands.items c.self.invariant.0.cut)

pub returns-else-at-bands : goal.returns-else-at-bands
returns-else-at-bands c =
    let cut : CutInBands c.self.inside.vertices.items c.as_slice-bands.result.now = subst (CutInBands c.self.inside.vertices.items) (sym c.as_slice-bands.ensures.value) c.self.invariant.0 in
    let x = cast_signed w32 (cast_unsigned w32 c.args.x) in
    rw (← to_z-of_z w32 c.args.x c.ranges.x)
    (sym (ap (λ fence. edges_at fence x) (sym c.self.view_is) ∙ elim c.else-at-bands.branch [
      | else-at-bands-via-then-at-bands+else-begins_by w ↦ edges_at-gap c.self.inside.vertices.items c.as_slice-bands.result.now _ c.bands_below-at.result _ cut (omega arith) c.bands_below-at.ensures.below (sym w.begins_by.ensures ∙ w.if-begins_by.false)
      | else-at-bands-via-else-at-bands w ↦ edges_at-past c.self.inside.vertices.items c.as_slice-bands.result.now _ c.bands_below-at.result cut (omega arith) c.bands_below-at.ensures.below
    ]))
