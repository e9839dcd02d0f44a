use Rattle.std.proofs.Common.{◌≤◌, get_or, arith}
use Rattle.std.proofs.lemmas.Int.Digits.{digits_value_more, digits_more}
use Rattle.std.proofs.lemmas.Str.Parse.{digit_at}
use Rattle.std.proofs.lemmas.Bool.Decides.{nat_tests}
use Rattle.first_wpl.proofs.Digits.{digit_value_of, small_value}
use Rattle.first_wpl.proofs.fields.digits.Goals as goal

pub returns-then-not-is_ascii_digit : goal.returns-then-not-is_ascii_digit
returns-then-not-is_ascii_digit c digits =
    let range = digit_at c.args.word.now c.loop-byte.byte-index digits c.loop-byte-test.true in
    grind (arith, nat_tests)

pub overflow_mul-number : goal.overflow_mul-number
overflow_mul-number c =
    let small = small_value c.args.word.now c.loop-byte.byte-index c.loop-byte.invariant.digits (omega arith) (omega arith) in
    omega (arith, small)

pub overflow_add-number : goal.overflow_add-number
overflow_add-number c =
    let small = small_value c.args.word.now c.loop-byte.byte-index c.loop-byte.invariant.digits (omega arith) (omega arith) in
    grind (arith, nat_tests, small)

pub loop-byte-preserved : goal.loop-byte-preserved
loop-byte-preserved c =
    let low : 48 ≤ get_or c.args.word.now c.loop-byte.byte-index 0 = grind (arith, nat_tests) in
    let high : get_or c.args.word.now c.loop-byte.byte-index 0 ≤ 57 = grind (arith, nat_tests) in
    let value = digit_value_of (get_or c.args.word.now c.loop-byte.byte-index 0) low high in
    let more = digits_value_more 10 c.args.word.now c.loop-byte.byte-index c.loop-byte-test.true in
    record {
      value = omega (arith, more, value, low, c.from.ensures);
      digits = digits_more 10 c.args.word.now c.loop-byte.byte-index c.loop-byte-test.true c.loop-byte.invariant.digits (omega (arith, value, low, high));
    }
