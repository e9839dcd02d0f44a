-- How the number that leading digits write grows by one digit more, and under a limit.
use Rattle.std.proofs.Common.{◌≡◌, ℕ, zero, suc, ◌+◌, ◌*◌, ◌-◌, ◌^◌, ◌<◌, ◌≤◌, min, List, [], ◌∷◌, ◌++◌, length, take, get_or, sym, ap, ◌∙◌, ⊎_elim, arith}
use Rattle.std.specs.Char.{digit_value}
use Rattle.std.specs.Str.Parse.{AllDigits, digits_value}
use Rattle.std.proofs.lemmas.List.{length-append, take_all, get_or_default}
use Rattle.std.proofs.lemmas.Int.Digits.{digits_value_more}
use Rattle.std.proofs.lemmas.Bool.{cases_lt}
use Rattle.std.proofs.Math.Nat.{pow-suc}
use Rattle.std.proofs.Math.ListN.{get_or-append, get_or-eq_default}
use Rattle.std.proofs.Math.Seq.{get_or-append_right}
use Rattle.nav_num.specs.Digits.{leading_number, digit_at}

-- one digit more under a limit
pub limited_more : (r n v d digit w limit : ℕ) → r ≡ min (n * 10 + d) limit → n ≡ min v limit → d ≡ digit → w ≡ v * 10 + digit → r ≡ min w limit
limited_more r n v d digit w limit e f k g = omega arith

-- a place among digits has a digit
pub AllDigits-at : (ds : List ℕ) (place : ℕ) → AllDigits 10 ds → place < length ds → digit_value (get_or ds place 0) < 10
AllDigits-at [] place h k = absurd (omega arith)
AllDigits-at (d ∷ ds) zero h k = h.0
AllDigits-at (d ∷ ds) (suc place) h k = AllDigits-at ds place h.1 (omega arith)

-- among the digits, and behind them
pub leading_within : (ds : List ℕ) (n : ℕ) → n ≤ length ds → leading_number ds n ≡ digits_value 10 (take n ds)
leading_within ds n h = let e : n - length ds ≡ 0 = omega arith in ap (λ k. digits_value 10 (take n ds) * 10 ^ k) e ∙ omega arith

pub leading_behind : (ds : List ℕ) (n : ℕ) → length ds ≤ n → leading_number ds n ≡ digits_value 10 ds * 10 ^ (n - length ds)
leading_behind ds n h = ap (λ v. digits_value 10 v * 10 ^ (n - length ds)) (take_all n ds h)

pub leading_more : (ds : List ℕ) (place : ℕ) → leading_number ds (place + 1) ≡ leading_number ds place * 10 + digit_at ds place
leading_more ds place = ⊎_elim
    (λ h. let digit : digit_at ds place ≡ digit_value (get_or ds place 0) = ap digit_value (get_or_default ds place 48 0 h) in
    let step = digits_value_more 10 ds place h in
    let more = leading_within ds (place + 1) (omega arith) in
    let here = leading_within ds place (omega arith) in
    omega (arith, digit, step, more, here))
    (λ h. let digit : digit_at ds place ≡ 0 = ap digit_value (get_or-eq_default ds 48 h) in
    let more = leading_behind ds (place + 1) (omega arith) in
    let here = leading_behind ds place h in
    let e : place + 1 - length ds ≡ suc (place - length ds) = omega arith in
    let power : 10 ^ (place + 1 - length ds) ≡ 10 ^ (place - length ds) * 10 = ap (λ k. 10 ^ k) e ∙ pow-suc 10 (place - length ds) in
    more ∙ (ap (λ v. digits_value 10 ds * v) power ∙ omega (arith, digit, here)))
    (cases_lt place (length ds))

-- the digit at a place before and behind a point
pub digit_at-whole : (ws ds : List ℕ) (place : ℕ) → place < length ws → digit_value (get_or ws place 0) ≡ digit_at (ws ++ ds) place
digit_at-whole ws ds place h = ap digit_value (get_or_default ws place 0 48 h ∙ sym (get_or-append ws ds 48 place h))

pub digit_at-fraction : (ws ds : List ℕ) (place : ℕ) → length ws ≤ place → place - length ws < length ds → digit_value (get_or ds (place - length ws) 0) ≡ digit_at (ws ++ ds) place
digit_at-fraction ws ds place h k = ap digit_value (get_or_default ds (place - length ws) 0 48 k ∙ sym (get_or-append_right ws ds place 48 h))

pub digit_at-behind : (ws ds : List ℕ) (place : ℕ) → length ws ≤ place → length ds ≤ place - length ws → 0 ≡ digit_at (ws ++ ds) place
digit_at-behind ws ds place h k = sym (ap digit_value (get_or-eq_default (ws ++ ds) 48 (omega (arith, length-append ws ds))))
