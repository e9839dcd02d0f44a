-- The shortest exact decimal of a scaled number.
use Rattle.std.specs.Prelude.{◌≡◌, ℕ, ◌+◌, ◌*◌, ◌/◌, ◌%◌, ◌^◌, ◌<◌, ◌≤◌, ◌==◌, ◌&&◌, ◌⊎◌, zero, suc, if◌then◌else◌, List, [], ◌∷◌, ◌++◌, length, None, decimal, ℤ, pos, negsuc, ◌*ℤ◌}
use Rattle.first_num.specs.Token.{Token, IsToken, fraction_digits}
use Rattle.first_num.specs.Scaled.{signed, mantissa}

-- the lowest digits of a number, as many as are asked for
abbrev pub last_digits : ℕ → ℕ → List ℕ
last_digits zero n = []
last_digits (suc count) n = last_digits count (n / 10) ++ ((48 + n % 10) ∷ [])

-- digits without the zeros at their end
abbrev pub without_last_zeros : List ℕ → List ℕ
without_last_zeros [] = []
without_last_zeros (d ∷ ds) = if (length (without_last_zeros ds) == 0) && (d == 48) then [] else d ∷ without_last_zeros ds

-- a point in front of digits, where there is one
abbrev pub behind_point : List ℕ → List ℕ
behind_point [] = []
behind_point (d ∷ ds) = 46 ∷ (d ∷ ds)

-- a magnitude in units of 10 ^ -scale: its whole part, and the digits that are left without the zeros at their end
unfoldable pub magnitude_text : ℕ → ℕ → List ℕ
magnitude_text n scale = decimal (n / 10 ^ scale) ++ behind_point (without_last_zeros (last_digits scale (n % 10 ^ scale)))

-- the decimal of a number of units of 10 ^ -scale: a minus below 0, and the magnitude
unfoldable pub decimal_of : ℤ → ℕ → List ℕ
decimal_of (pos n) scale = magnitude_text n scale
decimal_of (negsuc n) scale = 45 ∷ magnitude_text (suc n) scale

-- the bytes write the value exactly, without an exponent, and with a digit before any point
pub record IsPlainDecimal (bytes : List ℕ) (value : ℤ) (scale : ℕ) : Type 0 where
  pub token : Token
  pub is_token : IsToken bytes token
  pub no_exponent : token.power ≡ None
  pub whole_digit : 0 < length token.whole
  pub exact : signed token.sign (mantissa token * 10 ^ scale) ≡ value *ℤ pos (10 ^ length (fraction_digits token.fraction))

-- the bytes are such a decimal, and none is shorter
pub record IsShortest (bytes : List ℕ) (value : ℤ) (scale : ℕ) : Type 0 where
  pub plain : IsPlainDecimal bytes value scale
  pub shortest : (others : List ℕ) → IsPlainDecimal others value scale → length bytes ≤ length others

-- a digit, a minus or a point
unfoldable pub IsDecimalByte : ℕ → Type 0
IsDecimalByte byte = ((48 ≤ byte) × (byte ≤ 57)) ⊎ ((byte ≡ 45) ⊎ (byte ≡ 46))
