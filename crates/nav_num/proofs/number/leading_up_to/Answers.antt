use Rattle.std.proofs.Common.{◌++◌}
use Rattle.nav_num.proofs.Leading.{leading_more, limited_more}
use Rattle.nav_num.proofs.number.leading_up_to.Goals as goal

pub loop-place-preserved : goal.loop-place-preserved
loop-place-preserved c = limited_more _ _ _ _ _ _ _ c.with_digit-number.ensures c.loop-place.invariant c.digit_of.ensures.value
    (leading_more (c.args.whole.now ++ c.args.fraction.now) c.loop-place.place)
