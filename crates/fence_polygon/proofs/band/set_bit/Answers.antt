use Rattle.std.proofs.Common.{◌+◌, ◌≤◌, sym, ap, ◌∙◌, set, length, arith}
use Rattle.std.specs.Int.{w32, cast_signed, cast_unsigned}
use Rattle.std.proofs.lemmas.Int.{to_z-of_z}
use Rattle.fence_polygon.proofs.Marks.{length-put_upto, put_upto-init, put_upto-more, put_upto-end, above-more}
use Rattle.fence_polygon.proofs.band.set_bit.Goals as goal

pub loop-at-init : goal.loop-at-init
loop-at-init c = record {
  within = c.bands_below-at.ensures.within;
  is = put_upto-init _ _ c.args.bit c.bands_below-at.result c.args.bands.now c.requires c.bands_below-at.ensures.within c.bands_below-at.ensures.below;
}

pub loop-at-preserved : goal.loop-at-preserved
loop-at-preserved c =
    let within : c.loop-at.at + 1 ≤ length c.args.bands.now = omega (arith, ap length c.loop-at.invariant.is, length-put_upto (cast_signed w32 (cast_unsigned w32 c.args.low)) (cast_signed w32 (cast_unsigned w32 c.args.high)) c.args.bit c.loop-at.at c.args.bands.now) in
    record {
      within = within;
      is = ap (set c.loop-at.bands c.loop-at.at) c.with_bit.ensures ∙ put_upto-more _ _ c.args.bit c.loop-at.at _ c.args.bands.now c.loop-at.bands (omega arith) c.loop-at.invariant.is;
    }

pub returns-else-begins_by : goal.returns-else-begins_by
returns-else-begins_by c =
    let within : c.loop-at.at + 1 ≤ length c.args.bands.now = omega (arith, ap length c.loop-at.invariant.is, length-put_upto (cast_signed w32 (cast_unsigned w32 c.args.low)) (cast_signed w32 (cast_unsigned w32 c.args.high)) c.args.bit c.loop-at.at c.args.bands.now) in
    rw (← to_z-of_z w32 c.args.low c.ranges.low, ← to_z-of_z w32 c.args.high c.ranges.high)
    (put_upto-end _ _ c.args.bit c.loop-at.at c.args.bands.now c.loop-at.bands c.loop-at.invariant.is (above-more _ _ c.args.bit c.loop-at.at _ c.args.bands.now c.loop-at.bands c.requires (omega arith) c.loop-at.invariant.is (sym c.begins_by.ensures ∙ c.if-begins_by.false)))
