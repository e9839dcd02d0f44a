use Rattle.nav_num.proofs.Leading.{AllDigits-at}
use Rattle.nav_num.proofs.number.digit_of.Goals as goal

pub value_of-requires : goal.value_of-requires
value_of-requires c = AllDigits-at _ _ c.requires.whole c.if-place-whole.true

pub value_of-requires-then-behind-fraction : goal.value_of-requires-then-behind-fraction
value_of-requires-then-behind-fraction c = AllDigits-at _ _ c.requires.fraction c.if-behind-fraction.true
