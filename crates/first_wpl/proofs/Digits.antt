-- Words of digits.
use Rattle.std.proofs.Common.{◌≡◌, ℕ, ◌-◌, ◌^◌, ◌<◌, ◌≤◌, List, length, take, arith, ap, lit<}
use Rattle.std.specs.Char.{digit_value}
use Rattle.std.specs.Str.Parse.{AllDigits, digits_value}
use Rattle.std.proofs.lemmas.Int.Digits.{digits_value-lt}
use Rattle.std.proofs.lemmas.List.{length-take-le}
use Rattle.std.proofs.lemmas.Bool.Decides.{nat_tests}
use Rattle.std.proofs.Math.Nat.{pow-le-pow_right}

-- the value of a digit
pub digit_value_of : (c : ℕ) → 48 ≤ c → c ≤ 57 → digit_value c ≡ c - 48
digit_value_of c low high = grind (arith, nat_tests)

-- fewer than ten digits stay below ten digits
pub small_value : (word : List ℕ) (i : ℕ) → AllDigits 10 (take i word) → i ≤ length word → i ≤ 9 → digits_value 10 (take i word) < 1000000000
small_value word i digits within few =
    let size : length (take i word) ≡ i = length-take-le i word within in
    let below : digits_value 10 (take i word) < 10 ^ length (take i word) = digits_value-lt 10 (take i word) digits in
    let power : 10 ^ i ≤ 10 ^ 9 = pow-le-pow_right (lit< tt) few in
    let same : 10 ^ length (take i word) ≡ 10 ^ i = ap (λ n. 10 ^ n) size in
    omega (arith, below, power, same)
