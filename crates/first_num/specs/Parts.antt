-- What the steps of taking a token apart find in front of the bytes that are left.
use Rattle.std.specs.Prelude.{◌≡◌, ◌≢◌, ℕ, ◌+◌, ◌-◌, ◌/◌, min, ◌<◌, ◌≤◌, ◌⊎◌, List, [], ◌∷◌, ◌++◌, length, Option, Some, None, slice_index}
use Rattle.std.specs.Char.{digit_value}
use Rattle.std.specs.Str.Parse.{AllDigits, digits_value}
use Rattle.first_num.specs.declared.TheConstants.{MOST_BYTES, MOST_NUMBER}
use Rattle.first_num.specs.declared.token.Sign.{Sign}
use Rattle.first_num.specs.declared.token.Sign.TheVariants.{Bare}
use Rattle.first_num.specs.declared.token.Parts.{Parts}
use Rattle.first_num.specs.Token.{Token, Power, IsPower, sign_text, fraction_text, fraction_digits, power_text}
use Rattle.first_num.specs.Scaled.{part_above, part_below}
use Rattle.first_num.specs.Digits.{leading_number}

-- the bytes start with no sign
abbrev pub StartsNoSign : List ℕ → Type 0
StartsNoSign bytes = (slice_index bytes 0 ≢ 43) × (slice_index bytes 0 ≢ 45)

-- the bytes start with no digit
abbrev pub StartsNoDigit : List ℕ → Type 0
StartsNoDigit bytes = 10 ≤ digit_value (slice_index bytes 0)

-- the bytes start with no point
abbrev pub StartsNoPoint : List ℕ → Type 0
StartsNoPoint bytes = slice_index bytes 0 ≢ 46

-- the bytes start with no `e` and no `E`
abbrev pub StartsNoMark : List ℕ → Type 0
StartsNoMark bytes = (slice_index bytes 0 ≢ 101) × (slice_index bytes 0 ≢ 69)

-- the bytes are a mark and those behind it
pub record StandsBehindMark (bytes behind : List ℕ) : Type 0 where
  pub mark : ℕ
  pub is_mark : (mark ≡ 101) ⊎ (mark ≡ 69)
  pub text : bytes ≡ mark ∷ behind

-- what stands behind a mantissa's digits: no further digit, and where no point was there no point
abbrev pub EndsFraction : Option (List ℕ) → List ℕ → Type 0
EndsFraction None left = StartsNoPoint left
EndsFraction (Some digits) left = AllDigits 10 digits × StartsNoDigit left

-- the bytes are a point and these digits, or no digits and no point, and those left
pub record ReadsFraction (bytes digits left : List ℕ) : Type 0 where
  pub fraction : Option (List ℕ)
  pub text : bytes ≡ fraction_text fraction ++ left
  pub same_digits : digits ≡ fraction_digits fraction
  pub ends : EndsFraction fraction left

-- the sign of a power of ten, and its digits
abbrev pub power_sign : Option Power → Sign
power_sign None = Bare
power_sign (Some power) = power.sign

abbrev pub power_digits : Option Power → List ℕ
power_digits None = []
power_digits (Some power) = power.digits

-- the bytes are a power of ten or nothing, with this sign and these digits
pub record ReadsPower (bytes : List ℕ) (sign : Sign) (digits : List ℕ) : Type 0 where
  pub power : Option Power
  pub well_formed : IsPower power
  pub text : bytes ≡ power_text power
  pub same_sign : sign ≡ power_sign power
  pub same_digits : digits ≡ power_digits power

-- behind a mark and a sign stand digits, and the bytes left cannot go on
pub record StopsInPower (bytes left : List ℕ) : Type 0 where
  pub mark : ℕ
  pub sign : Sign
  pub digits : List ℕ
  pub is_mark : (mark ≡ 101) ⊎ (mark ≡ 69)
  pub text : bytes ≡ mark ∷ (sign_text sign ++ (digits ++ left))
  pub all_digits : AllDigits 10 digits
  pub no_digit : StartsNoDigit left
  pub no_sign : sign ≡ Bare → digits ≡ [] → StartsNoSign left
  pub early : left ≡ [] → digits ≡ []

-- the bytes are no power of ten, since those left cannot stand there
abbrev pub BreaksPower : List ℕ → List ℕ → Type 0
BreaksPower bytes left = ((left ≡ bytes) × (0 < length bytes) × StartsNoMark bytes) ⊎ StopsInPower bytes left

-- the parts hold a token's signs and digits
pub record HasParts (parts : Parts) (t : Token) : Type 0 where
  pub sign : parts.sign ≡ t.sign
  pub whole : parts.whole.now ≡ t.whole
  pub fraction : parts.fraction.now ≡ fraction_digits t.fraction
  pub power_sign : parts.power_sign ≡ power_sign t.power
  pub power : parts.power.now ≡ power_digits t.power

-- how many digits the scaled number keeps: those before its point, and one more
abbrev pub kept : ℕ → ℕ → Sign → ℕ → ℕ
kept whole scale sign power = whole + scale + 1 + part_above sign power - part_below sign power

-- the digits that are kept, up to a limit, rounded by the last of them
abbrev pub rounded : Parts → ℕ → ℕ
rounded parts scale =
    let count = kept (length parts.whole.now) scale parts.power_sign (digits_value 10 parts.power.now) in
    (min (leading_number (parts.whole.now ++ parts.fraction.now) count) MOST_NUMBER + 5) / 10

-- the parts are digits, at most 64
pub record AreDigits (parts : Parts) : Type 0 where
  pub whole : AllDigits 10 parts.whole.now
  pub fraction : AllDigits 10 parts.fraction.now
  pub power : AllDigits 10 parts.power.now
  pub few : length parts.whole.now + length parts.fraction.now ≤ MOST_BYTES
