use Rattle.std.proofs.Common.{arith}
use Rattle.std.proofs.lemmas.Bool.Decides.{nat_tests}
use Rattle.first_num.proofs.Places.{reads_power}
use Rattle.first_num.proofs.token.read_power.Goals as goal

pub returns : goal.returns
returns c = reads_power _ _ _ _ _ _ c.in-Some.ensures c.split_sign-sign.ensures.text c.split_digits.ensures.text
    (grind (arith, nat_tests)) c.split_digits.ensures.digits (grind (arith, nat_tests))
