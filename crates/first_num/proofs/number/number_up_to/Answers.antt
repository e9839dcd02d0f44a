use Rattle.std.proofs.lemmas.Int.Digits.{digits_value_more}
use Rattle.first_num.proofs.Leading.{AllDigits-at, limited_more}
use Rattle.first_num.proofs.number.number_up_to.Goals as goal

pub value_of-requires : goal.value_of-requires
value_of-requires c = AllDigits-at _ _ c.requires.digits c.loop-byte-test.true

pub loop-byte-preserved : goal.loop-byte-preserved
loop-byte-preserved c = limited_more _ _ _ _ _ _ _ c.with_digit-number.ensures c.loop-byte.invariant c.value_of.ensures.value
    (digits_value_more 10 _ _ c.loop-byte-test.true)
