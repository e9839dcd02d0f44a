-- A digit goes on the number, and it ends where none stands.
use Rattle.std.proofs.Common.{arith, ◌+◌, ◌∙◌, ap, sym, ℕ, List, drop}
use Rattle.record_text.specs.Numbers.{number_from}
use Rattle.record_text.proofs.Numbers.{number_from-more, number_from-stops}
use Rattle.record_text.proofs.cursor.number.Goals as goal

pub loop-number-preserved : goal.loop-number-preserved
loop-number-preserved c = (
  omega arith,
  ap (λ (n : ℕ). number_from n (drop (c.loop-number.place + 1) c.args.bytes.now)) c.more-number.ensures
      ∙ sym (number_from-more c.loop-number.number c.args.bytes.now c.loop-number.place (omega arith) (sym c.is_digit_at.ensures.value ∙ c.loop-number-test.true))
      ∙ c.loop-number.invariant.1,
)

pub returns-clause-value : goal.returns-clause-value
returns-clause-value c =
    ap (λ (x : ℕ × List ℕ). x.0) (sym (number_from-stops c.loop-number.number c.args.bytes.now c.loop-number.place (sym c.is_digit_at.ensures.value ∙ c.loop-number-test.false)) ∙ c.loop-number.invariant.1)

pub returns-clause-rest : goal.returns-clause-rest
returns-clause-rest c =
    c.skip.ensures ∙ ap (λ (x : ℕ × List ℕ). x.1) (sym (number_from-stops c.loop-number.number c.args.bytes.now c.loop-number.place (sym c.is_digit_at.ensures.value ∙ c.loop-number-test.false)) ∙ c.loop-number.invariant.1)
