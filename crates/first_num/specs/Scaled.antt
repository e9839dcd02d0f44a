-- The whole number that a token stands for at a scale: the nearest, and of two equally near ones that further from 0.
use Rattle.std.specs.Prelude.{ℕ, ◌+◌, ◌*◌, ◌^◌, ◌≤◌, List, ◌++◌, length, Option, Some, None, ℤ, pos, neg_ℤ, ◌-ℤ◌, ◌*ℤ◌, unsigned_abs}
use Rattle.std.specs.Str.Parse.{digits_value}
use Rattle.first_num.specs.declared.token.Sign.{Sign}
use Rattle.first_num.specs.declared.token.Sign.TheVariants.{Bare, Plus, Minus}
use Rattle.first_num.specs.Token.{Token, Power, IsToken, fraction_digits}

-- a magnitude under a sign
abbrev pub signed : Sign → ℕ → ℤ
signed Bare n = pos n
signed Plus n = pos n
signed Minus n = neg_ℤ (pos n)

-- a number above 0, or 0
abbrev pub part_above : Sign → ℕ → ℕ
part_above Bare n = n
part_above Plus n = n
part_above Minus n = 0

-- how far a number is below 0, or 0
abbrev pub part_below : Sign → ℕ → ℕ
part_below Bare n = 0
part_below Plus n = 0
part_below Minus n = n

-- how many times the exponent multiplies by ten
abbrev pub power_up : Option Power → ℕ
power_up None = 0
power_up (Some power) = part_above power.sign (digits_value 10 power.digits)

-- how many times the exponent divides by ten
abbrev pub power_down : Option Power → ℕ
power_down None = 0
power_down (Some power) = part_below power.sign (digits_value 10 power.digits)

-- a token's digits as one whole number, the point left out
abbrev pub mantissa : Token → ℕ
mantissa t = digits_value 10 (t.whole ++ fraction_digits t.fraction)

-- a token's value times 10 ^ scale, said by whole numbers: the signed digits times the tens that multiply ..
abbrev pub scaled_over : Token → ℕ → ℤ
scaled_over t scale = signed t.sign (mantissa t * 10 ^ (scale + power_up t.power))

-- .. divided by the tens that divide: one for each digit behind the point, and those of the exponent
abbrev pub scaled_under : Token → ℕ
scaled_under t = 10 ^ (length (fraction_digits t.fraction) + power_down t.power)

-- n is at most one half from over / under
abbrev pub IsNear : ℤ → ℕ → ℤ → Type 0
IsNear over under n = 2 * unsigned_abs (n *ℤ pos under -ℤ over) ≤ under

-- n is over / under rounded: it differs by no more than a half, and no other such number has a greater magnitude
pub record IsNearest (over : ℤ) (under : ℕ) (n : ℤ) : Type 0 where
  pub near : IsNear over under n
  pub away : (other : ℤ) → IsNear over under other → unsigned_abs other ≤ unsigned_abs n

-- the bytes are a token whose value times 10 ^ scale is n, rounded to the nearest
abbrev pub IsScaled : List ℕ → ℕ → ℤ → Type 0
IsScaled bytes scale n = (t : Token) × IsToken bytes t × IsNearest (scaled_over t scale) (scaled_under t) n
