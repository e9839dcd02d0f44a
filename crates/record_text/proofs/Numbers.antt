-- A number that was printed is read again, whatever follows it but a digit.
use Rattle.std.proofs.Common.{◌≡◌, ℕ, suc, ◌+◌, ◌/◌, ◌%◌, ◌^◌, ◌<◌, ◌≤◌, true, false, not, List, [], ◌∷◌, ◌++◌, length, drop, get_or, refl, sym, ap, ◌∙◌, append_assoc, add-one, arith, eqb}
use Rattle.std.specs.Prelude.{decimal, ◌&&◌, ℤ, pos, negsuc, FitsSigned}
use Rattle.std.specs.Fmt.{signed_decimal}
use Rattle.std.specs.Int.{w32}
use Rattle.std.proofs.Math.Seq.{drop-cons}
use Rattle.std.proofs.lemmas.Bool.{false≢true, ne_eqb, lt-ltb, le-leb}
use Rattle.std.proofs.lemmas.Bool.Decides.{nat_tests}
use Rattle.std.proofs.lemmas.List.{get_or-drop}
use Rattle.std.proofs.lemmas.Fmt.{decimal_by_steps}
use Rattle.record_text.specs.Numbers.{byte_at, is_digit, EndsNumber, with_digit, number_from, number_at, signed_at}

from_digit : (byte number : ℕ) (rest : List ℕ) → is_digit byte ≡ true → number_from number (byte ∷ rest) ≡ number_from (with_digit number byte) rest
unfolding number_from
from_digit byte number rest there = rw there refl

-- a digit at a place goes on the number
pub number_from-more : (number : ℕ) (bytes : List ℕ) (place : ℕ) → place < length bytes → is_digit (byte_at bytes place) ≡ true
    → number_from number (drop place bytes) ≡ number_from (with_digit number (byte_at bytes place)) (drop (place + 1) bytes)
number_from-more number bytes place inside there =
    ap (number_from number) (drop-cons bytes place 0 inside) ∙ from_digit (get_or bytes place 0) number (drop (suc place) bytes) there ∙ rw add-one refl

-- where no digit stands the number ends
number_from-ends : (number : ℕ) (bytes : List ℕ) → EndsNumber bytes → number_from number bytes ≡ (number, bytes)
unfolding number_from
number_from-ends number [] ends = refl
number_from-ends number (byte ∷ bytes) ends = rw ends refl

pub number_from-stops : (number : ℕ) (bytes : List ℕ) (place : ℕ) → is_digit (byte_at bytes place) ≡ false → number_from number (drop place bytes) ≡ (number, drop place bytes)
number_from-stops number bytes place there =
    number_from-ends number (drop place bytes) (ap is_digit (get_or-drop place bytes 0 0 ∙ ap (λ (k : ℕ). get_or bytes k 0) (omega arith)) ∙ there)

digit_byte : (d : ℕ) → d < 10 → is_digit (48 + d) ≡ true
digit_byte d small = grind (arith, nat_tests)

digit_step : (n : ℕ) → n < 2 ^ 64 → with_digit (n / 10) (48 + n % 10) ≡ n
digit_step n small = omega arith

first_digit : (n : ℕ) → n < 10 → with_digit 0 (48 + n) ≡ n
first_digit n small = omega arith

number_front : (n : ℕ) → n < 2 ^ 64 → (rest : List ℕ) → number_from 0 (decimal n ++ rest) ≡ number_from n rest
number_front n small =
    decimal_by_steps (λ k ds. k < 2 ^ 64 → (rest : List ℕ) → number_from 0 (ds ++ rest) ≡ number_from k rest)
    (λ k one. λ fits rest. from_digit (48 + k) 0 rest (digit_byte k one) ∙ ap (λ (m : ℕ). number_from m rest) (first_digit k one))
    (λ k ds many before. λ fits rest.
    ap (number_from 0) (append_assoc ds ((48 + k % 10) ∷ []) rest)
    ∙ before (omega arith) ((48 + k % 10) ∷ rest)
    ∙ from_digit (48 + k % 10) (k / 10) rest (digit_byte (k % 10) (omega arith))
    ∙ ap (λ (m : ℕ). number_from m rest) (digit_step k fits))
    n small small

-- a number of 64 bits is read again
pub number_again : (n : ℕ) (rest : List ℕ) → n < 2 ^ 64 → EndsNumber rest → number_from 0 (decimal n ++ rest) ≡ (n, rest)
number_again n rest small ends = number_front n small rest ∙ number_from-ends n rest ends

-- a number below a limit is read again
pub number_at-again : (limit n : ℕ) (rest : List ℕ) → limit ≤ 2 ^ 64 → n < limit → EndsNumber rest → number_at limit (decimal n ++ rest) ≡ (n, rest)
unfolding number_at
number_at-again limit n rest wide small ends = rw (number_again n rest (omega arith) ends, lt-ltb n limit small) refl

fits_above : (n : ℕ) → FitsSigned w32 (pos n) → n < 2 ^ 31
fits_above n fits = omega arith

fits_below : (n : ℕ) → FitsSigned w32 (negsuc n) → n < 2 ^ 31
fits_below n fits = omega arith

-- a number begins with a digit
pub digit_first : (n : ℕ) → n < 2 ^ 64 → (rest : List ℕ) → is_digit (byte_at (decimal n ++ rest) 0) ≡ true
digit_first n small =
    decimal_by_steps (λ k ds. (rest : List ℕ) → is_digit (byte_at (ds ++ rest) 0) ≡ true)
    (λ k one. λ rest. digit_byte k one)
    (λ k ds many before. λ rest.
    ap (λ (text : List ℕ). is_digit (byte_at text 0)) (append_assoc ds ((48 + k % 10) ∷ []) rest) ∙ before ((48 + k % 10) ∷ rest))
    n small

-- a digit is no other byte
digit_only : (byte other : ℕ) → is_digit byte ≡ true → is_digit other ≡ false → eqb byte other ≡ false
digit_only byte other there not_there = ne_eqb byte other (λ same. false≢true (sym not_there ∙ ap is_digit (sym same) ∙ there))

-- a number does not begin with a byte that is no digit
pub number-front : (n other : ℕ) (rest : List ℕ) → n < 2 ^ 64 → is_digit other ≡ false → eqb (byte_at (decimal n ++ rest) 0) other ≡ false
number-front n other rest small none = digit_only (byte_at (decimal n ++ rest) 0) other (digit_first n small rest) none

-- a signed number is read again
pub signed-again : (z : ℤ) (rest : List ℕ) → FitsSigned w32 z → EndsNumber rest → signed_at (signed_decimal z ++ rest) ≡ (z, rest)
unfolding signed_at
signed-again (pos n) rest fits ends =
    rw (number-front n 45 rest (omega (arith, fits_above n fits)) refl, number_again n rest (omega (arith, fits_above n fits)) ends, lt-ltb n (2 ^ 31) (fits_above n fits)) refl
signed-again (negsuc n) rest fits ends =
    rw (number_again (suc n) rest (omega (arith, fits_below n fits)) ends, le-leb (suc n) (2 ^ 31) (omega (arith, fits_below n fits))) refl

-- a signed number is no lone minus
pub signed-minus : (z : ℤ) (rest : List ℕ) → FitsSigned w32 z
    → (eqb (byte_at (signed_decimal z ++ rest) 0) 45 && not (is_digit (byte_at (signed_decimal z ++ rest) 1))) ≡ false
signed-minus (pos n) rest fits = rw (number-front n 45 rest (omega (arith, fits_above n fits)) refl) refl
signed-minus (negsuc n) rest fits = rw (digit_first (suc n) (omega (arith, fits_below n fits)) rest) refl
