-- How great a number ten digits write.
use Rattle.std.proofs.Common.{◌≡◌, ℕ, ◌^◌, ◌<◌, ◌≤◌, min, List, length, arith, lit<}
use Rattle.std.specs.Str.Parse.{AllDigits, digits_value}
use Rattle.std.proofs.lemmas.Int.Digits.{digits_value-lt}
use Rattle.std.proofs.Math.Nat.{pow-le-pow_right}

-- ten digits stay below the limit
pub min-digits : (token : List ℕ) → AllDigits 10 token → length token ≤ 10 → min (digits_value 10 token) 1000000000000 ≡ digits_value 10 token
min-digits token digits few =
    let below : digits_value 10 token < 10 ^ length token = digits_value-lt 10 token digits in
    let power : 10 ^ length token ≤ 10 ^ 10 = pow-le-pow_right (lit< tt) few in
    omega (arith, below, power)
