use Rattle.std.proofs.Common.{arith, ◌≡◌, ℕ, ◌+◌, ◌*◌, [], ◌∷◌, ◌++◌, take, get_or, sym, ◌∙◌, ap}
use Rattle.std.proofs.lemmas.Grind.{common_steps, take_at_read, pow_more}
use Rattle.std.proofs.lemmas.Int.Digits.{digits_value_push}
use Rattle.std.proofs.lemmas.Str.{digit_value_digit}
use Rattle.std.specs.Char.{digit_value}
use Rattle.std.specs.Int.{IsInRange}
use Rattle.std.specs.Str.Parse.{digits_value}
use Rattle.first_script.proofs.numbers.whole.Goals as goal

pub loop-byte-preserved : goal.loop-byte-preserved
loop-byte-preserved c =
    let i = c.loop-byte.byte-index in
    let word = c.args.word.now in
    let byte = get_or word i 0 in
    let range : IsInRange 48 57 byte = c.if-not-is_ascii_digit.ensures.cases in
    let digit : digit_value byte + 48 ≡ byte = digit_value_digit byte range in
    let same : c.from.result ≡ digit_value byte = omega arith in
    let more : take (i + 1) word ≡ take i word ++ byte ∷ [] = (take_at_read word i 0 c.loop-byte-test.true).1 in
    let push = digits_value_push 10 (take i word) byte in
    record {
      digits = grind (arith, common_steps);
      value = ap (λ (n : ℕ). n * 10 + c.from.result) c.loop-byte.invariant.value ∙ (ap (λ (n : ℕ). digits_value 10 (take i word) * 10 + n) same ∙ (sym push ∙ ap (digits_value 10) (sym more)));
      small = grind (arith, pow_more);
    }
