-- A token has one answer: one number, or one fault.
use Rattle.std.proofs.Common.{◌≡◌, ℕ, zero, suc, ◌+◌, ◌*◌, ◌-◌, ◌/◌, ◌^◌, ◌<◌, ◌≤◌, min, List, [], ◌++◌, length, take, drop, Option, Some, None, Result, Ok, Err, refl, sym, ap, ◌∙◌, subst, ⊎_elim, arith, lit<}
use Rattle.std.specs.Prelude.{ℤ, MatchResult, FitsSigned}
use Rattle.std.specs.Int.{w32}
use Rattle.std.specs.Str.Parse.{AllDigits, digits_value}
use Rattle.std.proofs.lemmas.List.{append_assoc, length-append, take-append-drop, take-take}
use Rattle.std.proofs.lemmas.Bool.{cases_lt, cases_order}
use Rattle.std.proofs.Math.Nat.{one-le-pow}
use Rattle.first_num.specs.declared.TheConstants.{MOST_BYTES, MOST_NUMBER}
use Rattle.first_num.specs.declared.token.Sign.{Sign}
use Rattle.first_num.specs.declared.token.Sign.TheVariants.{Bare, Plus, Minus}
use Rattle.first_num.specs.declared.token.Parts.{Parts}
use Rattle.first_num.specs.declared.fault.NumFault.{NumFault}
use Rattle.first_num.specs.declared.fault.NumFault.TheVariants.{Empty, TooLong, BadDigit, OutOfRange}
use Rattle.first_num.specs.Token.{Token, Power, IsToken, Begins, BreaksAt, fraction_digits}
use Rattle.first_num.specs.Scaled.{signed, part_above, part_below, power_up, power_down, mantissa, scaled_over, scaled_under, IsNearest, IsScaled}
use Rattle.first_num.specs.Faults.{ReadsAs, HasFault}
use Rattle.first_num.specs.Parts.{HasParts, AreDigits, kept, rounded, power_sign, power_digits}
use Rattle.first_num.specs.Digits.{leading_number}
use Rattle.first_num.proofs.Machine.{Numbers, token_numbers, same_numbers, unended, at_sign, AllDigits-append}
use Rattle.first_num.proofs.Rounding.{IsHalfUp, IsCut, cut, half_up_from_cut, leading_far}
use Rattle.first_num.proofs.Nearest.{nearest_from_half_up, one_nearest}

-- a token's fraction, by the numbers that the machine holds
over_of : Numbers → ℕ → ℤ
over_of n scale = signed n.sign (n.digits * 10 ^ (scale + part_above n.power_sign n.power))

under_of : Numbers → ℕ
under_of n = 10 ^ (n.places + part_below n.power_sign n.power)

over_is : (s : Sign) (ws : List ℕ) (f : Option (List ℕ)) (p : Option Power) (scale : ℕ) → let t : Token = record { sign = s; whole = ws; fraction = f; power = p } in over_of (token_numbers t) scale ≡ scaled_over t scale
unfolding over_of
over_is s ws f None scale = refl
over_is s ws f (Some p) scale = refl

under_is : (s : Sign) (ws : List ℕ) (f : Option (List ℕ)) (p : Option Power) → let t : Token = record { sign = s; whole = ws; fraction = f; power = p } in under_of (token_numbers t) ≡ scaled_under t
unfolding under_of
under_is s ws f None = refl
under_is s ws f (Some p) = refl

-- a token has one scaled number
pub one_scaled : (bytes : List ℕ) (scale : ℕ) (m n : ℤ) → IsScaled bytes scale m → IsScaled bytes scale n → m ≡ n
one_scaled bytes scale m n g h =
    let t = g.0 in let u = h.0 in
    let same = same_numbers bytes t u g.1 h.1 in
    let over : scaled_over u scale ≡ scaled_over t scale = sym (over_is u.sign u.whole u.fraction u.power scale) ∙ (ap (λ k. over_of k scale) (sym same) ∙ over_is t.sign t.whole t.fraction t.power scale) in
    let under : scaled_under u ≡ scaled_under t = sym (under_is u.sign u.whole u.fraction u.power) ∙ (ap under_of (sym same) ∙ under_is t.sign t.whole t.fraction t.power) in
    one_nearest t.sign (mantissa t * 10 ^ (scale + power_up t.power)) (scaled_under t) m n (one-le-pow _ 10 (lit< tt)) g.2
    (subst (λ d. IsNearest (scaled_over t scale) d n) under (subst (λ z. IsNearest z (scaled_under u) n) over h.2))

-- a token breaks nowhere
no_break : (bytes : List ℕ) (place : ℕ) (t : Token) → BreaksAt bytes place → ¬ (IsToken bytes t)
no_break bytes place t b h = ⊎_elim
    (λ k. b.there k (drop (place + 1) bytes, t, subst (λ bs. IsToken bs t) (sym (take-append-drop (place + 1) bytes)) h))
    (λ k. b.early (let w = b.within in omega arith) (t, h))
    (cases_lt place (length bytes))

-- what begins a token does so in each front part
begins_front : (bytes : List ℕ) (n : ℕ) → Begins bytes → Begins (take n bytes)
begins_front bytes n b = (drop n bytes ++ b.0, b.1, subst (λ bs. IsToken bs b.1) (ap (λ bs. bs ++ b.0) (sym (take-append-drop n bytes)) ∙ append_assoc (take n bytes) (drop n bytes) b.0) b.2)

no_later : (bytes : List ℕ) (p q : ℕ) → BreaksAt bytes p → BreaksAt bytes q → ¬ (p < q)
no_later bytes p q g h k =
    let w = h.within in
    g.there (omega arith) (subst Begins (take-take (p + 1) q bytes (omega arith)) (begins_front (take q bytes) (p + 1) h.before))

one_break : (bytes : List ℕ) (p q : ℕ) → BreaksAt bytes p → BreaksAt bytes q → p ≡ q
one_break bytes p q g h = ⊎_elim (λ e. e) (λ o. absurd (⊎_elim (no_later bytes p q g h) (no_later bytes q p h g) o)) (cases_order p q)

no_empty_token : (t : Token) → ¬ (IsToken [] t)
no_empty_token t h = unended [] (at_sign Bare) refl refl (t, h)

-- bytes that are a token have no fault but the range
no_fault : (bytes : List ℕ) (scale : ℕ) (f : NumFault) (t : Token) → length bytes ≤ MOST_BYTES → IsToken bytes t → HasFault bytes scale f → f ≡ OutOfRange
unfolding HasFault
no_fault bytes scale Empty t few h e = absurd (no_empty_token t (subst (λ bs. IsToken bs t) e h))
no_fault bytes scale TooLong t few h e = absurd (omega arith)
no_fault bytes scale (BadDigit place) t few h e = absurd (no_break bytes place t e.2 h)
no_fault bytes scale OutOfRange t few h e = refl

not_both : (bytes : List ℕ) (scale : ℕ) (n : ℤ) (f : NumFault) → ReadsAs bytes scale n → HasFault bytes scale f → ⊥
unfolding ReadsAs HasFault
not_both bytes scale n Empty r e = cc (no_fault bytes scale Empty r.1.0 r.0 r.1.1 e)
not_both bytes scale n TooLong r e = cc (no_fault bytes scale TooLong r.1.0 r.0 r.1.1 e)
not_both bytes scale n (BadDigit place) r e = cc (no_fault bytes scale (BadDigit place) r.1.0 r.0 r.1.1 e)
not_both bytes scale n OutOfRange r e = e.1.2 (subst (FitsSigned w32) (one_scaled bytes scale n e.1.0 r.1 e.1.1) r.2)

-- two faults of the same bytes are one
same_fault : (bytes : List ℕ) (scale : ℕ) (f g : NumFault) → HasFault bytes scale f → HasFault bytes scale g → f ≡ g
unfolding HasFault
same_fault bytes scale Empty Empty h k = refl
same_fault bytes scale Empty TooLong h k = absurd (let e : length bytes ≡ 0 = ap length h in omega arith)
same_fault bytes scale Empty (BadDigit q) h k = absurd (let e : length bytes ≡ 0 = ap length h in omega arith)
same_fault bytes scale Empty OutOfRange h k = no_fault bytes scale Empty k.1.1.0 k.0 k.1.1.1 h
same_fault bytes scale TooLong Empty h k = absurd (let e : length bytes ≡ 0 = ap length k in omega arith)
same_fault bytes scale TooLong TooLong h k = refl
same_fault bytes scale TooLong (BadDigit q) h k = absurd (omega arith)
same_fault bytes scale TooLong OutOfRange h k = absurd (omega arith)
same_fault bytes scale (BadDigit p) Empty h k = absurd (let e : length bytes ≡ 0 = ap length k in omega arith)
same_fault bytes scale (BadDigit p) TooLong h k = absurd (omega arith)
same_fault bytes scale (BadDigit p) (BadDigit q) h k = ap BadDigit (one_break bytes p q h.2 k.2)
same_fault bytes scale (BadDigit p) OutOfRange h k = no_fault bytes scale (BadDigit p) k.1.1.0 k.0 k.1.1.1 h
same_fault bytes scale OutOfRange Empty h k = sym (no_fault bytes scale Empty h.1.1.0 h.0 h.1.1.1 k)
same_fault bytes scale OutOfRange TooLong h k = absurd (omega arith)
same_fault bytes scale OutOfRange (BadDigit q) h k = sym (no_fault bytes scale (BadDigit q) h.1.1.0 h.0 h.1.1.1 k)
same_fault bytes scale OutOfRange OutOfRange h k = refl

-- the answer that holds is the one that every other one equals
pub number_is_answer : (bytes : List ℕ) (scale : ℕ) (r : Result ℤ NumFault) (n : ℤ) → MatchResult r (ReadsAs bytes scale) (HasFault bytes scale) → ReadsAs bytes scale n → r ≡ Ok n
unfolding ReadsAs
number_is_answer bytes scale (Ok m) n h k = ap Ok (one_scaled bytes scale m n h.1 k.1)
number_is_answer bytes scale (Err f) n h k = absurd (not_both bytes scale n f k h)

pub fault_is_answer : (bytes : List ℕ) (scale : ℕ) (r : Result ℤ NumFault) (f : NumFault) → MatchResult r (ReadsAs bytes scale) (HasFault bytes scale) → HasFault bytes scale f → r ≡ Err f
fault_is_answer bytes scale (Ok m) f h k = absurd (not_both bytes scale m f h k)
fault_is_answer bytes scale (Err g) f h k = ap Err (same_fault bytes scale g f h k)

-- the digits that are kept, without a limit
abbrev pub unlimited : Parts → ℕ → ℕ
unlimited p scale = (leading_number (p.whole.now ++ p.fraction.now) (kept (length p.whole.now) scale p.power_sign (digits_value 10 p.power.now)) + 5) / 10

power_above : (p : Option Power) → part_above (power_sign p) (digits_value 10 (power_digits p)) ≡ power_up p
power_above None = refl
power_above (Some p) = refl

power_below : (p : Option Power) → part_below (power_sign p) (digits_value 10 (power_digits p)) ≡ power_down p
power_below None = refl
power_below (Some p) = refl

half_up_parts : (ws fs : List ℕ) (scale above below count : ℕ) → AllDigits 10 ws → AllDigits 10 fs → count ≡ length ws + scale + 1 + above - below
    → IsHalfUp ((leading_number (ws ++ fs) count + 5) / 10) (digits_value 10 (ws ++ fs) * 10 ^ (scale + above)) (10 ^ (length fs + below))
half_up_parts ws fs scale above below count g h e =
    let same : length (ws ++ fs) + (scale + above) + 1 - (length fs + below) ≡ count = omega (arith, length-append ws fs) in
    half_up_from_cut _ _ _ (subst (λ c. IsCut (leading_number (ws ++ fs) c) (digits_value 10 (ws ++ fs) * 10 ^ (scale + above)) (10 ^ (length fs + below))) same
    (cut (ws ++ fs) (scale + above) (length fs + below) (AllDigits-append ws fs g h)))

-- the parts' digits, rounded, are the token's scaled number
pub scaled_from_parts : (bytes : List ℕ) (t : Token) (p : Parts) (scale : ℕ) → IsToken bytes t → HasParts p t → AreDigits p → IsScaled bytes scale (signed p.sign (unlimited p scale))
scaled_from_parts bytes t p scale h parts digits = (
  t,
  h,
  subst (λ s. IsNearest (scaled_over t scale) (scaled_under t) (signed s (unlimited p scale))) (sym parts.sign)
      (nearest_from_half_up t.sign _ _ _ (one-le-pow _ 10 (lit< tt))
      (subst (λ o. IsHalfUp (unlimited p scale) o (scaled_under t)) over (subst (λ u. IsHalfUp (unlimited p scale) (digits_value 10 (p.whole.now ++ p.fraction.now) * 10 ^ (scale + above)) u) under rounds))),
)
  where
    above : ℕ
    above = part_above p.power_sign (digits_value 10 p.power.now)

    below : ℕ
    below = part_below p.power_sign (digits_value 10 p.power.now)

    rounds : IsHalfUp (unlimited p scale) (digits_value 10 (p.whole.now ++ p.fraction.now) * 10 ^ (scale + above)) (10 ^ (length p.fraction.now + below))
    rounds = half_up_parts p.whole.now p.fraction.now scale above below _ digits.whole digits.fraction refl

    above_is : above ≡ power_up t.power
    above_is = ap (λ s. part_above s (digits_value 10 p.power.now)) parts.power_sign ∙ (ap (λ ds. part_above (power_sign t.power) (digits_value 10 ds)) parts.power ∙ power_above t.power)

    below_is : below ≡ power_down t.power
    below_is = ap (λ s. part_below s (digits_value 10 p.power.now)) parts.power_sign ∙ (ap (λ ds. part_below (power_sign t.power) (digits_value 10 ds)) parts.power ∙ power_below t.power)

    over : digits_value 10 (p.whole.now ++ p.fraction.now) * 10 ^ (scale + above) ≡ mantissa t * 10 ^ (scale + power_up t.power)
    over = ap (λ ws. digits_value 10 (ws ++ p.fraction.now) * 10 ^ (scale + above)) parts.whole
        ∙ (ap (λ fs. digits_value 10 (t.whole ++ fs) * 10 ^ (scale + above)) parts.fraction ∙ ap (λ k. mantissa t * 10 ^ (scale + k)) above_is)

    under : 10 ^ (length p.fraction.now + below) ≡ scaled_under t
    under = ap (λ fs. 10 ^ (length fs + below)) parts.fraction ∙ ap (λ k. 10 ^ (length (fraction_digits t.fraction) + k)) below_is

-- an exponent beyond the limit cuts as the limit does, as far as it matters
pub limited_exponent : (ds : List ℕ) (whole scale : ℕ) (s : Sign) (power : ℕ) → length ds ≤ 64 → whole ≤ 64 → scale ≤ 9
    → min (leading_number ds (kept whole scale s (min power 128))) (10 ^ 12) ≡ min (leading_number ds (kept whole scale s power)) (10 ^ 12)
limited_exponent ds whole scale s power few front low = ⊎_elim
    (λ small. let e : min power 128 ≡ power = omega arith in ap (λ k. min (leading_number ds (kept whole scale s k)) (10 ^ 12)) e)
    (λ large. let e : min power 128 ≡ 128 = omega arith in ap (λ k. min (leading_number ds (kept whole scale s k)) (10 ^ 12)) e ∙ beyond s large)
    (cases_lt power 128)
  where
    beyond : (s : Sign) → 128 ≤ power → min (leading_number ds (kept whole scale s 128)) (10 ^ 12) ≡ min (leading_number ds (kept whole scale s power)) (10 ^ 12)
    beyond Bare large = leading_far ds _ _ 12 (omega arith) (omega arith)
    beyond Plus large = leading_far ds _ _ 12 (omega arith) (omega arith)
    beyond Minus large = ap (λ c. min (leading_number ds c) (10 ^ 12)) (omega arith)

-- a limited magnitude that fits is the magnitude, and one that does not fit stands for one that does not
fits_small : (s : Sign) (n : ℕ) → FitsSigned w32 (signed s n) → n ≤ 2 ^ 31
fits_small Bare n h = let k = h.sfits in omega arith
fits_small Plus n h = let k = h.sfits in omega arith
fits_small Minus zero h = omega arith
fits_small Minus (suc n) h = let k = h.sfits in omega arith

small_tenth : (q : ℕ) → (min q MOST_NUMBER + 5) / 10 ≤ 2 ^ 31 → (min q MOST_NUMBER + 5) / 10 ≡ (q + 5) / 10
small_tenth q h = omega arith

small_whole : (q : ℕ) → (q + 5) / 10 ≤ 2 ^ 31 → (min q MOST_NUMBER + 5) / 10 ≡ (q + 5) / 10
small_whole q h = omega arith

pub same_where_it_fits : (s : Sign) (p : Parts) (scale : ℕ) → FitsSigned w32 (signed s (rounded p scale)) → rounded p scale ≡ unlimited p scale
same_where_it_fits s p scale h = small_tenth _ (fits_small s (rounded p scale) h)

pub no_fit_from_limited : (s : Sign) (p : Parts) (scale : ℕ) → ¬ (FitsSigned w32 (signed s (rounded p scale))) → ¬ (FitsSigned w32 (signed s (unlimited p scale)))
no_fit_from_limited s p scale h f = h (subst (λ n. FitsSigned w32 (signed s n)) (sym (small_whole (leading_number (p.whole.now ++ p.fraction.now) (kept (length p.whole.now) scale p.power_sign (digits_value 10 p.power.now))) (fits_small s (unlimited p scale) f))) f)

-- what the parts of a token read as
pub reads_from_parts : (bytes : List ℕ) (t : Token) (p : Parts) (scale magnitude : ℕ) (number : ℤ) → length bytes ≤ MOST_BYTES → IsToken bytes t → HasParts p t → AreDigits p
    → magnitude ≡ rounded p scale → FitsSigned w32 (signed p.sign magnitude) → number ≡ signed p.sign magnitude → ReadsAs bytes scale number
unfolding ReadsAs
reads_from_parts bytes t p scale magnitude number few h parts digits e fits is =
    let small : FitsSigned w32 (signed p.sign (rounded p scale)) = subst (λ m. FitsSigned w32 (signed p.sign m)) e fits in
    let whole : number ≡ signed p.sign (unlimited p scale) = is ∙ (ap (signed p.sign) e ∙ ap (signed p.sign) (same_where_it_fits p.sign p scale small)) in
    (few, subst (IsScaled bytes scale) (sym whole) (scaled_from_parts bytes t p scale h parts digits), subst (FitsSigned w32) (sym is) fits)

pub out_of_range_from_parts : (bytes : List ℕ) (t : Token) (p : Parts) (scale magnitude : ℕ) → length bytes ≤ MOST_BYTES → IsToken bytes t → HasParts p t → AreDigits p
    → magnitude ≡ rounded p scale → ¬ (FitsSigned w32 (signed p.sign magnitude)) → HasFault bytes scale OutOfRange
unfolding HasFault
out_of_range_from_parts bytes t p scale magnitude few h parts digits e none = (
  few,
  (
    signed p.sign (unlimited p scale),
    scaled_from_parts bytes t p scale h parts digits,
    no_fit_from_limited p.sign p scale (subst (λ m. ¬ (FitsSigned w32 (signed p.sign m))) e none),
  ),
)
