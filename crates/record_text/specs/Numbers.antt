-- What a reader finds at the front of bytes where a number should stand: its number, and the bytes behind it.
use Rattle.std.specs.Prelude.{◌≡◌, ℕ, ◌+◌, ◌-◌, ◌*◌, ◌^◌, min, Bool, false, ◌&&◌, nat_le, nat_lt, ◌==◌, if◌then◌else◌, List, [], ◌∷◌, drop, get_or, ℤ, pos, neg_ℤ}

-- the byte at a place, 0 behind the last
abbrev pub byte_at : List ℕ → ℕ → ℕ
byte_at bytes place = get_or bytes place 0

abbrev pub is_digit : ℕ → Bool
is_digit byte = nat_le 48 byte && nat_le byte 57

-- no digit stands at the front, so a number in front of the bytes ends there
abbrev pub EndsNumber : List ℕ → Type 0
EndsNumber bytes = is_digit (byte_at bytes 0) ≡ false

-- the last number of 64 bits, where greater ones stay
abbrev pub last_u64 : ℕ
last_u64 = 2 ^ 64 - 1

-- a number with one more digit behind it
abbrev pub with_digit : ℕ → ℕ → ℕ
with_digit number byte = min (min (number * 10) last_u64 + (byte - 48)) last_u64

-- the number that further digits make, and the bytes behind them
unfoldable pub number_from : ℕ → List ℕ → ℕ × List ℕ
number_from number [] = (number, [])
number_from number (byte ∷ bytes) = if is_digit byte then number_from (with_digit number byte) bytes else (number, byte ∷ bytes)

-- a number below a limit, 0 in place of any other
unfoldable pub number_at : ℕ → List ℕ → ℕ × List ℕ
number_at limit bytes = let found = number_from 0 bytes in ((if nat_lt found.0 limit then found.0 else 0), found.1)

-- a number of 32 bits with its sign, 0 in place of any other
abbrev pub above_zero : ℕ → ℤ
above_zero number = if nat_lt number (2 ^ 31) then pos number else pos 0

abbrev pub below_zero : ℕ → ℤ
below_zero number = if nat_le number (2 ^ 31) then neg_ℤ (pos number) else pos 0

-- a number below 0 has a minus in front
unfoldable pub signed_at : List ℕ → ℤ × List ℕ
signed_at bytes =
    if byte_at bytes 0 == 45
    then (let found = number_from 0 (drop 1 bytes) in (below_zero found.0, found.1))
    else (let found = number_from 0 bytes in (above_zero found.0, found.1))
