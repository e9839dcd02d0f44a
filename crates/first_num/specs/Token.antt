-- The grammar of a number's token, as the text that a token's parts make, and the place where bytes stop being one.
use Rattle.std.specs.Prelude.{◌≡◌, ℕ, ◌+◌, ◌<◌, ◌≤◌, ◌⊎◌, ⊤, List, [], ◌∷◌, ◌++◌, length, take, Option, Some, None}
use Rattle.std.specs.Str.Parse.{IsNumeral}
use Rattle.first_num.specs.declared.token.Sign.{Sign}
use Rattle.first_num.specs.declared.token.Sign.TheVariants.{Bare, Plus, Minus}

-- the bytes of a sign: none, `+` or `-`
abbrev pub sign_text : Sign → List ℕ
sign_text Bare = []
sign_text Plus = 43 ∷ []
sign_text Minus = 45 ∷ []

-- a power of ten: its mark `e` or `E`, its sign and its digits
pub record Power : Type 0 where
  pub mark : ℕ
  pub sign : Sign
  pub digits : List ℕ

-- the parts of a token: its sign, the digits before the point, those behind a point, and a power of ten
pub record Token : Type 0 where
  pub sign : Sign
  pub whole : List ℕ
  pub fraction : Option (List ℕ)
  pub power : Option Power

-- the digits behind the point
abbrev pub fraction_digits : Option (List ℕ) → List ℕ
fraction_digits None = []
fraction_digits (Some digits) = digits

-- a point and the digits behind it
abbrev pub fraction_text : Option (List ℕ) → List ℕ
fraction_text None = []
fraction_text (Some digits) = 46 ∷ digits

-- a power of ten as it is written
abbrev pub power_text : Option Power → List ℕ
power_text None = []
power_text (Some power) = power.mark ∷ (sign_text power.sign ++ power.digits)

-- a token's parts, one after the other
abbrev pub token_text : Token → List ℕ
token_text t = sign_text t.sign ++ (t.whole ++ (fraction_text t.fraction ++ power_text t.power))

-- a power of ten has the mark `e` or `E` and at least one digit
abbrev pub IsPower : Option Power → Type 0
IsPower None = ⊤
IsPower (Some power) = ((power.mark ≡ 101) ⊎ (power.mark ≡ 69)) × IsNumeral 10 power.digits

-- the bytes are a token with these parts, and it has at least one digit before or behind the point
pub record IsToken (bytes : List ℕ) (t : Token) : Type 0 where
  pub text : bytes ≡ token_text t
  pub mantissa : IsNumeral 10 (t.whole ++ fraction_digits t.fraction)
  pub power : IsPower t.power

-- some token begins with these bytes
abbrev pub Begins : List ℕ → Type 0
Begins bytes = (rest : List ℕ) × (t : Token) × IsToken (bytes ++ rest) t

-- the bytes before the place begin a token, and either no token has the next byte there, or the bytes end there too early
pub record BreaksAt (bytes : List ℕ) (place : ℕ) : Type 0 where
  pub within : place ≤ length bytes
  pub before : Begins (take place bytes)
  pub there : place < length bytes → ¬ (Begins (take (place + 1) bytes))
  pub early : place ≡ length bytes → ¬ ((t : Token) × IsToken bytes t)
