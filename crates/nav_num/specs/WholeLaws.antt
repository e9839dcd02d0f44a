-- Which tokens stand for a whole number, said by their digits: for callers that print numbers, or have rules of their own.
use Rattle.std.specs.Prelude.{position, nat_le, nat_lt}
use Rattle.std.proofs.Common.{◌≡◌, ℕ, zero, suc, ◌<◌, ◌≤◌, ◌==◌, Bool, true, false, cond, List, [], ◌∷◌, Option, Some, None, Result, Ok, Err, length, get_or, arith, refl, ap}
use Rattle.std.specs.Char.{digit_value}
use Rattle.std.specs.List.{position_or_len}
use Rattle.std.specs.Str.Parse.{AllDigits, IsNumeral, digits_value}
use Rattle.std.proofs.lemmas.Bool.{ltb-false, le-ltb}
use Rattle.std.proofs.lemmas.Bool.Decides.{nat_tests}
use Rattle.std.proofs.lemmas.List.Sums.{fails_before_first, position_or_len_is}
use Rattle.nav_num.specs.declared.TheConstants.{MOST_DIGITS}
use Rattle.nav_num.specs.declared.fault.NumFault.TheVariants.{Empty, TooLong}
use Rattle.nav_num.specs.Whole.{is_no_digit, within, by_digits, whole_number}

-- a digit has its value below ten
digit_value-digit : (byte : ℕ) → is_no_digit byte ≡ false → digit_value byte < 10
digit_value-digit byte h = grind (arith, nat_tests, h)

digit-value : (byte : ℕ) → digit_value byte < 10 → is_no_digit byte ≡ false
digit-value byte h = grind (arith, nat_tests, h)

-- digits at each place are digits all through
AllDigits-each : (token : List ℕ) → ((k : ℕ) → k < length token → digit_value (get_or token k 0) < 10) → AllDigits 10 token
AllDigits-each [] h = tt
AllDigits-each (byte ∷ token) h = (h 0 (omega arith), AllDigits-each token (λ k below. h (suc k) (omega (arith, below))))

AllDigits-at : (token : List ℕ) (k : ℕ) → AllDigits 10 token → k < length token → digit_value (get_or token k 0) < 10
AllDigits-at [] k h below = absurd (omega (arith, below))
AllDigits-at (byte ∷ token) zero h below = h.0
AllDigits-at (byte ∷ token) (suc k) h below = AllDigits-at token k h.1 (omega (arith, below))

none_found : (k : ℕ) (b : Bool) → cond b (Some k) None ≡ None → b ≡ false
none_found k true h = absurd cc
none_found k false h = refl

-- no byte is another than a digit
pub AllDigits-found : (token : List ℕ) → position is_no_digit token ≡ None → AllDigits 10 token
AllDigits-found token h =
    let past = ltb-false (position_or_len is_no_digit token) (length token) (none_found (position_or_len is_no_digit token) _ h) in
    AllDigits-each token (λ k below. digit_value-digit (get_or token k 0) (fails_before_first is_no_digit token k 0 (omega (arith, past, below))))

-- digits have no other byte among them
pub position-digits : (token : List ℕ) → AllDigits 10 token → position is_no_digit token ≡ None
position-digits token digits =
    let all : position_or_len is_no_digit token ≡ length token = position_or_len_is is_no_digit token (length token) 0 (omega arith) (λ k below. digit-value (get_or token k 0) (AllDigits-at token k digits below)) (λ past. absurd (omega (arith, past))) in
    ap (λ b. cond b (Some (position_or_len is_no_digit token)) None) (le-ltb (position_or_len is_no_digit token) (length token) (omega (arith, all)))

-- one to ten digits stand for the number that they write, within the range
pub whole_number-numeral : (least greatest : ℕ) (token : List ℕ) → IsNumeral 10 token → length token ≤ MOST_DIGITS → least ≤ digits_value 10 token → digits_value 10 token ≤ greatest → whole_number least greatest token ≡ Ok (digits_value 10 token)
unfolding whole_number
whole_number-numeral least greatest token numeral short low high =
    let some : (length token == 0) ≡ false = grind (arith, nat_tests, numeral.0) in
    let few : nat_lt MOST_DIGITS (length token) ≡ false = grind (arith, nat_tests, short) in
    let above : nat_le least (digits_value 10 token) ≡ true = grind (arith, nat_tests, low) in
    let below : nat_le (digits_value 10 token) greatest ≡ true = grind (arith, nat_tests, high) in
    rw (some, few, position-digits token numeral.1, above, below) refl

-- a token that stands for a whole number
pub record IsWholeNumber (least greatest : ℕ) (token : List ℕ) (n : ℕ) : Type 0 where
  pub numeral : IsNumeral 10 token
  pub short : length token ≤ MOST_DIGITS
  pub value : digits_value 10 token ≡ n
  pub low : least ≤ n
  pub high : n ≤ greatest

within_is : (least greatest m n : ℕ) → within least greatest m ≡ Ok n → (m ≡ n) × (least ≤ n) × (n ≤ greatest)
within_is least greatest m n h = grind (arith, nat_tests, h)

by_digits_is : (least greatest : ℕ) (token : List ℕ) (n : ℕ) (found : Option ℕ) → by_digits least greatest token found ≡ Ok n → (found ≡ None) × (within least greatest (digits_value 10 token) ≡ Ok n)
by_digits_is least greatest token n None h = (refl, h)
by_digits_is least greatest token n (Some place) h = absurd cc

first_error : {X E : Type 0} (b : Bool) (fault : E) (other : Result X E) (n : X) → cond b (Err fault) other ≡ Ok n → (b ≡ false) × (other ≡ Ok n)
first_error true fault other n h = absurd cc
first_error false fault other n h = (refl, h)

-- no other token stands for a number
pub numeral-whole_number : (least greatest : ℕ) (token : List ℕ) (n : ℕ) → whole_number least greatest token ≡ Ok n → IsWholeNumber least greatest token n
unfolding whole_number
numeral-whole_number least greatest token n h =
    let first = first_error (length token == 0) Empty _ n h in
    let second = first_error (nat_lt MOST_DIGITS (length token)) TooLong _ n first.1 in
    let third = by_digits_is least greatest token n (position is_no_digit token) second.1 in
    let last = within_is least greatest (digits_value 10 token) n third.1 in
    record {
      numeral = (grind (arith, nat_tests, first.0), AllDigits-found token third.0);
      short = grind (arith, nat_tests, second.0);
      value = last.0;
      low = last.1;
      high = last.2;
    }
