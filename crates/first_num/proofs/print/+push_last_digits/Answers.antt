use Rattle.std.proofs.Common.{arith}
use Rattle.std.proofs.lemmas.Result.{IfOk-equal}
use Rattle.first_num.proofs.Trimming.{last_digits_step, one_behind}
use Rattle.first_num.proofs.print.+push_last_digits.Goals as goal

pub returns-clause-ok : goal.returns-clause-ok
returns-clause-ok t c = IfOk-equal _ _ _ _ c.push_byte.ensures.ok
    (one_behind _ _ _ _ _ _ c.in_ok-push_last_digits.ensures.ok (omega arith) (last_digits_step c.args.count c.args.number (omega arith)))
