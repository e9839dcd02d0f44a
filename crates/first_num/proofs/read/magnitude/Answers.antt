use Rattle.std.proofs.Common.{arith, ap, ◌∙◌, ◌+◌, ◌/◌, ◌++◌, length, min}
use Rattle.std.specs.Str.Parse.{digits_value}
use Rattle.std.proofs.lemmas.List.{length-append}
use Rattle.first_num.proofs.Answer.{limited_exponent}
use Rattle.first_num.specs.Digits.{leading_number}
use Rattle.first_num.specs.declared.TheConstants.{MOST_NUMBER}
use Rattle.first_num.proofs.read.magnitude.Goals as goal

pub returns : goal.returns
returns c =
    let whole = c.args.parts.now.whole.now in
    let fraction = c.args.parts.now.fraction.now in
    let few = c.requires.digits.few in
    let low = c.requires.scale in
    ap (λ n. (n + 5) / 10) (c.leading_up_to-number.ensures ∙ (ap (λ k. min (leading_number (whole ++ fraction) k) MOST_NUMBER) c.digits_kept-count.ensures
    ∙ limited_exponent (whole ++ fraction) (length whole) c.args.scale c.args.parts.now.power_sign (digits_value 10 c.args.parts.now.power.now)
    (omega (arith, length-append whole fraction)) (omega arith) (omega arith)))
