use Rattle.std.proofs.Common.{arith, refl, sym, ap, ◌∙◌, ◌-◌, ◌<◌, ◌++◌, length}
use Rattle.std.proofs.lemmas.List.{length-append}
use Rattle.first_num.specs.Token.{fraction_digits}
use Rattle.first_num.proofs.Places.{front, breaks_empty, breaks_power, whole_token, left_of_front, left_of_power, empty_from_length}
use Rattle.first_num.proofs.token.take_apart.Goals as goal

pub returns-then-whole-fraction-eq0-clause-fault : goal.returns-then-whole-fraction-eq0-clause-fault
returns-then-whole-fraction-eq0-clause-fault c =
    let f = c.split_fraction.ensures in
    let h = front _ _ _ _ _ _ _ c.split_sign-sign.ensures.text c.split_sign-sign.ensures.bare c.split_digits.ensures.text c.split_digits.ensures.digits c.split_digits.ensures.left f in (
      length c.args.token.now - length c.split_fraction.result.1.now,
      c.bad_digit.ensures,
      breaks_empty _ _ _ _ _ h (empty_from_length _ (omega arith)) (sym f.same_digits ∙ empty_from_length _ (omega arith)),
    )

pub bad_digit-requires-in-Err-clause-part : goal.bad_digit-requires-in-Err-clause-part
bad_digit-requires-in-Err-clause-part c =
    let h = front _ _ _ _ _ _ _ c.split_sign-sign.ensures.text c.split_sign-sign.ensures.bare c.split_digits.ensures.text c.split_digits.ensures.digits c.split_digits.ensures.left c.split_fraction.ensures in
    omega (arith, left_of_front _ _ _ _ _ h, left_of_power _ _ c.in-Err.ensures)

pub returns-in-Ok-clause-parts : goal.returns-in-Ok-clause-parts
returns-in-Ok-clause-parts c =
    let f = c.split_fraction.ensures in
    let some : 0 < length (c.split_digits.result.0.now ++ fraction_digits f.fraction) = omega (arith, length-append c.split_digits.result.0.now (fraction_digits f.fraction), ap length f.same_digits) in
    let h = front _ _ _ _ _ _ _ c.split_sign-sign.ensures.text c.split_sign-sign.ensures.bare c.split_digits.ensures.text c.split_digits.ensures.digits c.split_digits.ensures.left f in (
      _,
      whole_token _ _ _ _ _ _ _ h some c.in-Ok.ensures,
      record { sign = refl; whole = refl; fraction = f.same_digits; power_sign = c.in-Ok.ensures.same_sign; power = c.in-Ok.ensures.same_digits },
    )

pub returns-in-Err-clause-fault : goal.returns-in-Err-clause-fault
returns-in-Err-clause-fault c =
    let f = c.split_fraction.ensures in
    let h = front _ _ _ _ _ _ _ c.split_sign-sign.ensures.text c.split_sign-sign.ensures.bare c.split_digits.ensures.text c.split_digits.ensures.digits c.split_digits.ensures.left f in
    let some : 0 < length (c.split_digits.result.0.now ++ fraction_digits f.fraction) = omega (arith, length-append c.split_digits.result.0.now (fraction_digits f.fraction), ap length f.same_digits) in
    (length c.args.token.now - length c.in-Err.left.now, c.bad_digit-in-Err.ensures, breaks_power _ _ _ _ _ _ h some c.in-Err.ensures)
