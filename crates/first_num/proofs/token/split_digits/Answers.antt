use Rattle.std.proofs.Common.{arith}
use Rattle.std.proofs.lemmas.Int.Digits.{digits_more}
use Rattle.std.proofs.lemmas.Bool.Decides.{nat_tests}
use Rattle.first_num.proofs.token.split_digits.Goals as goal

pub loop-place-preserved : goal.loop-place-preserved
loop-place-preserved c = digits_more 10 _ _ (omega arith) c.loop-place.invariant (grind (arith, nat_tests))
