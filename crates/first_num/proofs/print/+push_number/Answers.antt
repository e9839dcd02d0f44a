use Rattle.std.proofs.Common.{arith, refl, ◌∙◌, ap, sym, []}
use Rattle.std.proofs.lemmas.List.{append-nil}
use Rattle.std.proofs.lemmas.Result.{IfOk-equal}
use Rattle.std.proofs.lemmas.Fmt.{decimal_step, decimal_digit}
use Rattle.first_num.proofs.Trimming.{one_behind}
use Rattle.first_num.proofs.print.+push_number.Goals as goal
use Rattle.first_num.proofs.print.+push_number.Goals.{then-number-ge10+in_ok-push_number, else-number-ge10}

pub returns-clause-ok : goal.returns-clause-ok
returns-clause-ok t c = IfOk-equal _ _ _ _ c.push_byte.ensures.ok (elim c.if-number-ge10.branch [
  | then-number-ge10+in_ok-push_number w ↦ one_behind c.args.out.now.items _ _ _ _ _ (ap (λ v. v.items) w.out-is ∙ w.in_ok-push_number.ensures.ok) refl (decimal_step c.args.number (omega arith) (omega arith))
  | else-number-ge10 w ↦ one_behind c.args.out.now.items c.if-number-ge10.out.items [] _ _ _ (ap (λ v. v.items) w.out-is ∙ sym (append-nil c.args.out.now.items)) (omega arith) (decimal_digit c.args.number (omega arith))
])
