use Rattle.std.proofs.Common.{arith}
use Rattle.std.proofs.lemmas.Result.{IfOk-equal}
use Rattle.first_num.proofs.Trimming.{point_behind, length-last_digits}
use Rattle.first_num.proofs.print.push_fraction.Goals as goal

pub returns-clause-ok : goal.returns-clause-ok
returns-clause-ok c = IfOk-equal _ _ _ _ c.push_last_digits.ensures.ok
    (point_behind _ _ _ _ c.in_ok-push_byte.ensures.ok c.without_zeros-digits.ensures (omega (arith, length-last_digits c.without_zeros-digits.result.1 c.without_zeros-digits.result.0)))
