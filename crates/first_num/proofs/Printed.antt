-- The decimal that is printed is exact, reads back as the number, and no exact decimal is shorter.
use Rattle.std.proofs.Common.{◌≡◌, ◌≢◌, ℕ, zero, suc, ◌+◌, ◌*◌, ◌-◌, ◌/◌, ◌%◌, ◌^◌, ◌<◌, ◌≤◌, ◌⊎◌, false, ◌&&◌, ◌==◌, List, [], ◌∷◌, ◌++◌, length, Option, Some, None, refl, sym, ap, ◌∙◌, subst, inl, inr, ⊎_elim, arith, lit<}
use Rattle.std.specs.Prelude.{ℤ, pos, negsuc, neg_ℤ, ◌*ℤ◌, unsigned_abs, decimal, All, FitsSigned}
use Rattle.std.specs.Int.{w32}
use Rattle.std.specs.Char.{digit_value}
use Rattle.std.specs.Str.Parse.{AllDigits, IsNumeral, digits_value}
use Rattle.std.proofs.lemmas.List.{append-nil, length-append}
use Rattle.std.proofs.lemmas.Bool.{cases_lt, cases_order, cond_both, and_parts, eqb-true, eqb-false}
use Rattle.std.proofs.lemmas.Fmt.{decimal_is_IsNumeral, length-decimal-le, decimal_nonempty}
use Rattle.std.proofs.lemmas.Str.{digit_value_digit}
use Rattle.std.proofs.lemmas.Str.Parse.{digit_from_value}
use Rattle.first_num.proofs.Places.{empty_from_length}
use Rattle.std.proofs.lemmas.Int.{unsigned_abs-mul}
use Rattle.std.proofs.lemmas.List.Elements.{All-nil, All-cons, All-append}
use Rattle.std.proofs.lemmas.Int.Digits.{digits_value-lt}
use Rattle.std.proofs.lemmas.Nat.{pow-add, div-add-mod', mod_below}
use Rattle.std.proofs.Math.Nat.{add-zero, pow-suc, mul-add-mod_self_left, eq_of_mul-eq-mul_right, mul-le-mul_left, mul-le-mul_right, one-le-pow}
use Rattle.first_num.specs.declared.TheConstants.{MOST_BYTES}
use Rattle.first_num.specs.declared.token.Sign.{Sign}
use Rattle.first_num.specs.declared.token.Sign.TheVariants.{Bare, Plus, Minus}
use Rattle.first_num.specs.Token.{Token, IsToken, fraction_digits, fraction_text, sign_text, power_text}
use Rattle.first_num.specs.Scaled.{signed, mantissa}
use Rattle.first_num.specs.Faults.{ReadsAs}
use Rattle.first_num.specs.Decimal.{last_digits, without_last_zeros, behind_point, magnitude_text, decimal_of, IsPlainDecimal, IsShortest, IsDecimalByte}
use Rattle.first_num.proofs.Machine.{AllDigits-append, AllDigits-left, AllDigits-right, digits_value-append}
use Rattle.first_num.proofs.Rounding.{IsHalfUp, value_after}
use Rattle.first_num.proofs.Nearest.{nearest_from_half_up, below_product, abs_below}
use Rattle.first_num.proofs.Trimming.{length-last_digits}

-- the last digits of a number are digits, and write the number where it has no more
digit_small : (d : ℕ) → d < 10 → digit_value (48 + d) ≡ d
digit_small d h = omega (arith, digit_value_digit (48 + d) (let low : 48 ≤ 48 + d = omega arith in let high : 48 + d ≤ 57 = omega arith in (low, high)))

AllDigits-last : (count n : ℕ) → AllDigits 10 (last_digits count n)
AllDigits-last zero n = tt
AllDigits-last (suc count) n = AllDigits-append (last_digits count (n / 10)) ((48 + n % 10) ∷ []) (AllDigits-last count (n / 10)) (omega (arith, digit_small (n % 10) (mod_below n 10 (lit< tt))), tt)

value-last : (count n : ℕ) → n < 10 ^ count → digits_value 10 (last_digits count n) ≡ n
value-last zero n h = omega arith
value-last (suc count) n h =
    digits_value-append 0 (last_digits count (n / 10)) ((48 + n % 10) ∷ [])
    ∙ (ap (λ v. v * 10 + digit_value (48 + n % 10)) (value-last count (n / 10) (let p = pow-suc 10 count in omega arith))
    ∙ omega (arith, digit_small (n % 10) (mod_below n 10 (lit< tt))))

-- what the zeros at the end are worth: as many tens
pub record IsCutTo (ds kept : List ℕ) : Type 0 where
  pub zeros : ℕ
  pub length_is : length ds ≡ length kept + zeros
  pub value_is : digits_value 10 ds ≡ digits_value 10 kept * 10 ^ zeros

first_digit : (d : ℕ) (ds : List ℕ) → digits_value 10 (d ∷ ds) ≡ digit_value d * 10 ^ length ds + digits_value 10 ds
first_digit d ds = value_after (0 * 10 + digit_value d) ds ∙ omega arith

more_cut : (d p q z v w : ℕ) → p ≡ q * z → v ≡ w * z → d * p + v ≡ (d * q + w) * z
more_cut d p q z v w e f = rw (e, f) (omega arith)

cut_off : (ds : List ℕ) → IsCutTo ds (without_last_zeros ds)
cut_off [] = record { zeros = 0; length_is = refl; value_is = omega arith }
cut_off (d ∷ ds) = let rest = cut_off ds in cond_both ((length (without_last_zeros ds) == 0) && (d == 48)) [] (d ∷ without_last_zeros ds) (IsCutTo (d ∷ ds))
    (λ e. let both = and_parts (length (without_last_zeros ds) == 0) (d == 48) e in
    let empty : without_last_zeros ds ≡ [] = empty_from_length (without_last_zeros ds) (eqb-true _ 0 both.0) in
    let none : digits_value 10 (without_last_zeros ds) ≡ 0 = ap (digits_value 10) empty in
    let zero_value : digit_value d ≡ 0 = ap digit_value (eqb-true d 48 both.1) in
    let rest_none : digits_value 10 ds ≡ 0 = rest.value_is ∙ (ap (λ v. v * 10 ^ rest.zeros) none ∙ omega arith) in
    record {
      zeros = suc (length ds);
      length_is = omega arith;
      value_is = first_digit d ds ∙ (ap (λ v. v * 10 ^ length ds + digits_value 10 ds) zero_value ∙ omega arith);
    })
    (λ e. record {
      zeros = rest.zeros;
      length_is = omega (arith, rest.length_is);
      value_is = first_digit d ds ∙ (more_cut (digit_value d) (10 ^ length ds) (10 ^ length (without_last_zeros ds)) (10 ^ rest.zeros) (digits_value 10 ds) (digits_value 10 (without_last_zeros ds))
          (ap (λ k. 10 ^ k) rest.length_is ∙ pow-add 10 (length (without_last_zeros ds)) rest.zeros) rest.value_is
          ∙ ap (λ v. v * 10 ^ rest.zeros) (sym (first_digit d (without_last_zeros ds))));
    })

AllDigits-kept : (ds : List ℕ) → AllDigits 10 ds → AllDigits 10 (without_last_zeros ds)
AllDigits-kept [] h = tt
AllDigits-kept (d ∷ ds) h = cond_both ((length (without_last_zeros ds) == 0) && (d == 48)) [] (d ∷ without_last_zeros ds) (AllDigits 10)
    (λ e. tt) (λ e. (h.0, AllDigits-kept ds h.1))

-- a number's decimal, taken apart
abbrev kept_digits : ℕ → ℕ → List ℕ
kept_digits n scale = without_last_zeros (last_digits scale (n % 10 ^ scale))

abbrev fraction_of : List ℕ → Option (List ℕ)
fraction_of [] = None
fraction_of (d ∷ ds) = Some (d ∷ ds)

fraction_of-digits : (ds : List ℕ) → fraction_digits (fraction_of ds) ≡ ds
fraction_of-digits [] = refl
fraction_of-digits (d ∷ ds) = refl

fraction_of-text : (ds : List ℕ) → fraction_text (fraction_of ds) ≡ behind_point ds
fraction_of-text [] = refl
fraction_of-text (d ∷ ds) = refl

abbrev number_token : Sign → ℕ → ℕ → Token
number_token s n scale = record { sign = s; whole = decimal (n / 10 ^ scale); fraction = fraction_of (kept_digits n scale); power = None }

whole_small : (n scale : ℕ) → n < 2 ^ 64 → n / 10 ^ scale < 2 ^ 64
whole_small n scale h = let one = one-le-pow scale 10 (lit< tt) in let e = div-add-mod' n (10 ^ scale) in ⊎_elim (λ k. k)
    (λ k. let some : n / 10 ^ scale * 1 ≤ n / 10 ^ scale * 10 ^ scale = mul-le-mul_left (n / 10 ^ scale) one in omega arith) (cases_lt (n / 10 ^ scale) (2 ^ 64))

number_is_token : (s : Sign) (n scale : ℕ) → n < 2 ^ 64 → IsToken (sign_text s ++ magnitude_text n scale) (number_token s n scale)
unfolding magnitude_text
number_is_token s n scale h = let whole = decimal_is_IsNumeral (n / 10 ^ scale) (whole_small n scale h) in record {
  text = ap (λ v. sign_text s ++ (decimal (n / 10 ^ scale) ++ v)) (sym (append-nil (fraction_text (fraction_of (kept_digits n scale))) ∙ fraction_of-text (kept_digits n scale)));
  mantissa = subst (λ ds. IsNumeral 10 (decimal (n / 10 ^ scale) ++ ds)) (sym (fraction_of-digits (kept_digits n scale))) (
    omega (arith, whole.0, length-append (decimal (n / 10 ^ scale)) (kept_digits n scale)),
    AllDigits-append (decimal (n / 10 ^ scale)) (kept_digits n scale) whole.0.1 (AllDigits-kept (last_digits scale (n % 10 ^ scale)) (AllDigits-last scale (n % 10 ^ scale))),
  );
  power = tt;
}

-- the parts of an exact decimal make the number
exact_parts : (w q z v n k r : ℕ) → n ≡ w * k + r → k ≡ q * z → r ≡ v * z → (w * q + v) * k ≡ n * q
exact_parts w q z v n k r e f g = rw (e, g, f) (omega arith)

number_exact : (n scale : ℕ) → n < 2 ^ 64 → digits_value 10 (decimal (n / 10 ^ scale) ++ kept_digits n scale) * 10 ^ scale ≡ n * 10 ^ length (kept_digits n scale)
number_exact n scale h =
    let whole = decimal_is_IsNumeral (n / 10 ^ scale) (whole_small n scale h) in
    let c = cut_off (last_digits scale (n % 10 ^ scale)) in
    let f = kept_digits n scale in
    ap (λ v. v * 10 ^ scale) (digits_value-append 0 (decimal (n / 10 ^ scale)) f ∙ (value_after (digits_value 10 (decimal (n / 10 ^ scale))) f ∙ ap (λ v. v * 10 ^ length f + digits_value 10 f) whole.1))
    ∙ exact_parts (n / 10 ^ scale) (10 ^ length f) (10 ^ c.zeros) (digits_value 10 f) n (10 ^ scale) (n % 10 ^ scale)
    (sym (div-add-mod' n (10 ^ scale)))
    (ap (λ k. 10 ^ k) (sym (length-last_digits scale (n % 10 ^ scale)) ∙ c.length_is) ∙ pow-add 10 (length f) c.zeros)
    (sym (value-last scale (n % 10 ^ scale) (mod_below n (10 ^ scale) (one-le-pow scale 10 (lit< tt)))) ∙ c.value_is)

half_up_exact : (n over under : ℕ) → 0 < under → over ≡ n * under → IsHalfUp n over under
half_up_exact n over under some e = record { low = omega arith; high = omega arith }

token_exact : (s : Sign) (n scale : ℕ) → n < 2 ^ 64 → mantissa (number_token s n scale) * 10 ^ scale ≡ n * 10 ^ length (fraction_digits (fraction_of (kept_digits n scale)))
token_exact s n scale h = subst (λ ds. digits_value 10 (decimal (n / 10 ^ scale) ++ ds) * 10 ^ scale ≡ n * 10 ^ length ds) (sym (fraction_of-digits (kept_digits n scale))) (number_exact n scale h)

length-kept : (n scale : ℕ) → length (kept_digits n scale) ≤ scale
length-kept n scale = omega (arith, (cut_off (last_digits scale (n % 10 ^ scale))).length_is, length-last_digits scale (n % 10 ^ scale))

length-behind_point : (ds : List ℕ) → length (behind_point ds) ≤ length ds + 1
length-behind_point [] = omega arith
length-behind_point (d ∷ ds) = omega arith

length-sign : (s : Sign) → length (sign_text s) ≤ 1
length-sign Bare = omega arith
length-sign Plus = omega arith
length-sign Minus = omega arith

div_le : (n k : ℕ) → 0 < k → n / k ≤ n
div_le n k h = let e = div-add-mod' n k in let some : n / k * 1 ≤ n / k * k = mul-le-mul_left (n / k) h in omega arith

few_bytes : (s : Sign) (n scale : ℕ) → n < 2 ^ 32 → scale ≤ 9 → length (sign_text s ++ magnitude_text n scale) ≤ MOST_BYTES
unfolding magnitude_text
few_bytes s n scale h k =
    let whole : n / 10 ^ scale ≤ n = div_le n (10 ^ scale) (one-le-pow scale 10 (lit< tt)) in
    omega (
      arith,
      length-append (sign_text s) (magnitude_text n scale),
      length-append (decimal (n / 10 ^ scale)) (behind_point (kept_digits n scale)),
      length-sign s,
      length-behind_point (kept_digits n scale),
      length-kept n scale,
      length-decimal-le 10 (n / 10 ^ scale) (lit< tt) (omega arith) (omega arith),
    )

magnitude_reads : (s : Sign) (n scale : ℕ) → n < 2 ^ 32 → scale ≤ 9 → FitsSigned w32 (signed s n) → ReadsAs (sign_text s ++ magnitude_text n scale) scale (signed s n)
unfolding ReadsAs
magnitude_reads s n scale h k fits = (
  few_bytes s n scale h k,
  (
    number_token s n scale,
    number_is_token s n scale (omega arith),
    nearest_from_half_up s _ _ n (one-le-pow _ 10 (lit< tt)) (half_up_exact n _ _ (one-le-pow _ 10 (lit< tt)) exact),
  ),
  fits,
)
  where
    exact : mantissa (number_token s n scale) * 10 ^ (scale + 0) ≡ n * 10 ^ (length (fraction_digits (fraction_of (kept_digits n scale))) + 0)
    exact = ap (λ k. mantissa (number_token s n scale) * 10 ^ k) (add-zero scale) ∙ (token_exact s n scale (omega arith)
        ∙ ap (λ k. n * 10 ^ k) (sym (add-zero (length (fraction_digits (fraction_of (kept_digits n scale)))))))

-- the decimal that is printed reads back as the number
pub decimal_reads : (value : ℤ) (scale : ℕ) → FitsSigned w32 value → scale ≤ 9 → ReadsAs (decimal_of value scale) scale value
unfolding decimal_of
decimal_reads (pos n) scale fits k = magnitude_reads Bare n scale (let f = fits.sfits in omega arith) k fits
decimal_reads (negsuc n) scale fits k = magnitude_reads Minus (suc n) scale (let f = fits.sfits in omega arith) k fits

magnitude_plain : (s : Sign) (n scale : ℕ) → n < 2 ^ 32 → IsPlainDecimal (sign_text s ++ magnitude_text n scale) (signed s n) scale
magnitude_plain s n scale h = record {
  token = number_token s n scale;
  is_token = number_is_token s n scale (omega arith);
  no_exponent = refl;
  whole_digit = decimal_nonempty (n / 10 ^ scale) (whole_small n scale (omega arith));
  exact = under_sign s _ _ _ (token_exact s n scale (omega arith));
}
  where
    under_sign : (s : Sign) (m n u : ℕ) → m ≡ n * u → signed s m ≡ signed s n *ℤ pos u
    under_sign Bare m n u e = ap pos e
    under_sign Plus m n u e = ap pos e
    under_sign Minus m n u e = ap (λ x. neg_ℤ (pos x)) e ∙ sym (below_product n u)

pub decimal_plain : (value : ℤ) (scale : ℕ) → FitsSigned w32 value → IsPlainDecimal (decimal_of value scale) value scale
unfolding decimal_of
decimal_plain (pos n) scale fits = magnitude_plain Bare n scale (let f = fits.sfits in omega arith)
decimal_plain (negsuc n) scale fits = magnitude_plain Minus (suc n) scale (let f = fits.sfits in omega arith)

-- the last digit that is kept is no zero
same_last : (d p v : ℕ) → (d * (p * 10) + v) % 10 ≡ v % 10
same_last d p v = ap (λ x. x % 10) (let e : d * (p * 10) + v ≡ 10 * (d * p) + v = omega arith in e) ∙ mul-add-mod_self_left 10 (d * p) v

only_zero : (d : ℕ) → digit_value d < 10 → (d == 48) ≡ false → digit_value d % 10 ≢ 0
only_zero d small other z = eqb-false d 48 other (omega (arith, digit_value_digit d (digit_from_value d small)))

last_stays : (d : ℕ) (ks : List ℕ) → digits_value 10 ks % 10 ≢ 0 → digits_value 10 (d ∷ ks) % 10 ≢ 0
last_stays d [] h z = h refl
last_stays d (k ∷ ks) h z = h (sym (same_last (digit_value d) (10 ^ length ks) (digits_value 10 (k ∷ ks)))
    ∙ (ap (λ p. (digit_value d * p + digits_value 10 (k ∷ ks)) % 10) (sym (pow-suc 10 (length ks))) ∙ (ap (λ v. v % 10) (sym (first_digit d (k ∷ ks))) ∙ z)))

last_kept : (ds : List ℕ) → AllDigits 10 ds → (without_last_zeros ds ≡ []) ⊎ (digits_value 10 (without_last_zeros ds) % 10 ≢ 0)
last_kept [] h = inl refl
last_kept (d ∷ ds) h = cond_both ((length (without_last_zeros ds) == 0) && (d == 48)) [] (d ∷ without_last_zeros ds) (λ ks. (ks ≡ []) ⊎ (digits_value 10 ks % 10 ≢ 0))
    (λ e. inl refl)
    (λ e. inr (⊎_elim
    (λ none. let other : (d == 48) ≡ false = subst (λ ks. ((length ks == 0) && (d == 48)) ≡ false) none e in
    λ z. only_zero d h.0 other (let v : digits_value 10 (d ∷ []) % 10 ≡ 0 = subst (λ ks. digits_value 10 (d ∷ ks) % 10 ≡ 0) none z in omega arith))
    (λ some. last_stays d (without_last_zeros ds) some)
    (last_kept ds h.1)))

-- two ways to write a number with as many tens: the whole parts are one, and what is behind the point is
whole_not_less : (a b u f k r : ℕ) → (a * u + f) * k ≡ (b * k + r) * u → f < u → 0 < k → a < b → ⊥
whole_not_less a b u f k r e low some h =
    let x : a + 1 ≤ b = omega arith in
    let y = mul-le-mul_right (k * u) x in
    let g : f + 1 ≤ u = omega arith in
    let z = mul-le-mul_right k g in
    omega arith

whole_not_more : (a b u f k r : ℕ) → (a * u + f) * k ≡ (b * k + r) * u → r < k → 0 < u → b < a → ⊥
whole_not_more a b u f k r e low some h = whole_not_less b a k r u f (sym e) low some h

same_whole : (a b u f k r : ℕ) → (a * u + f) * k ≡ (b * k + r) * u → f < u → r < k → a ≡ b
same_whole a b u f k r e low small = ⊎_elim (λ same. same)
    (λ o. absurd (⊎_elim (λ h. whole_not_less a b u f k r e low (omega arith) h) (λ h. whole_not_more a b u f k r e small (omega arith) h) o))
    (cases_order a b)

-- digits that write the same behind the point are no fewer
no_fewer : (f v u q z r k : ℕ) → f * k ≡ r * u → k ≡ q * z → r ≡ v * z → 0 < z → f * q ≡ v * u
no_fewer f v u q z r k e g h some = eq_of_mul-eq-mul_right z some (f * q) (v * u) (let x : f * (q * z) ≡ v * z * u = subst (λ n. f * n ≡ v * z * u) g (subst (λ n. f * k ≡ n * u) h e) in omega arith)

not_tens : (f v u d : ℕ) → f * (u * (d * 10)) ≡ v * u → 0 < u → v % 10 ≡ 0
not_tens f v u d e some =
    let x : f * d * 10 ≡ v = eq_of_mul-eq-mul_right u some (f * d * 10) v (let y : f * d * 10 * u ≡ v * u = omega arith in y) in
    ap (λ n. n % 10) (sym x) ∙ omega arith

abs_signed : (s : Sign) (n : ℕ) → unsigned_abs (signed s n) ≡ n
abs_signed Bare n = refl
abs_signed Plus n = refl
abs_signed Minus n = abs_below n

behind_cancelled : (a u f k r : ℕ) → (a * u + f) * k ≡ (a * k + r) * u → f * k ≡ r * u
behind_cancelled a u f k r e = omega arith

point_le : (ks : List ℕ) (f : Option (List ℕ)) → length ks ≤ length (fraction_digits f) → length (behind_point ks) ≤ length (fraction_text f)
point_le [] f h = omega arith
point_le (k ∷ ks) None h = absurd (omega arith)
point_le (k ∷ ks) (Some ds) h = omega arith

-- a token that writes the magnitude exactly has as many digits before the point and behind it
no_shorter : (s : Sign) (n scale : ℕ) (others : List ℕ) (u : Token) → n < 2 ^ 64 → IsToken others u → 0 < length u.whole
    → mantissa u * 10 ^ scale ≡ n * 10 ^ length (fraction_digits u.fraction) → length (sign_text s) ≤ length (sign_text u.sign)
    → length (sign_text s ++ magnitude_text n scale) ≤ length others
unfolding magnitude_text
no_shorter s n scale others u h token some e sign =
    omega (
      arith,
      length-append (sign_text s) (magnitude_text n scale),
      length-append (decimal w) (behind_point kept),
      before,
      behind,
      sign,
      total,
      length-append (sign_text u.sign) (u.whole ++ (fraction_text u.fraction ++ power_text u.power)),
      length-append u.whole (fraction_text u.fraction ++ power_text u.power),
      length-append (fraction_text u.fraction) (power_text u.power),
    )
  where
    w : ℕ
    w = n / 10 ^ scale

    r : ℕ
    r = n % 10 ^ scale

    kept : List ℕ
    kept = kept_digits n scale

    fd : List ℕ
    fd = fraction_digits u.fraction

    total : length others ≡ length (sign_text u.sign ++ (u.whole ++ (fraction_text u.fraction ++ power_text u.power)))
    total = ap length token.text

    tens : 0 < 10 ^ scale
    tens = one-le-pow scale 10 (lit< tt)

    few : digits_value 10 fd < 10 ^ length fd
    few = digits_value-lt 10 fd (AllDigits-right u.whole fd token.mantissa.1)

    both : (digits_value 10 u.whole * 10 ^ length fd + digits_value 10 fd) * 10 ^ scale ≡ (w * 10 ^ scale + r) * 10 ^ length fd
    both = ap (λ m. m * 10 ^ scale) (sym (digits_value-append 0 u.whole fd ∙ value_after (digits_value 10 u.whole) fd)) ∙ (e ∙ ap (λ m. m * 10 ^ length fd) (sym (div-add-mod' n (10 ^ scale))))

    same : digits_value 10 u.whole ≡ w
    same = same_whole (digits_value 10 u.whole) w (10 ^ length fd) (digits_value 10 fd) (10 ^ scale) r both few (mod_below n (10 ^ scale) tens)

    before : length (decimal w) ≤ length u.whole
    before = length-decimal-le (length u.whole) w some (subst (λ v. v < 10 ^ length u.whole) same (digits_value-lt 10 u.whole (AllDigits-left u.whole fd token.mantissa.1))) (whole_small n scale h)

    fractions : digits_value 10 fd * 10 ^ scale ≡ r * 10 ^ length fd
    fractions = behind_cancelled w (10 ^ length fd) (digits_value 10 fd) (10 ^ scale) r (subst (λ v. (v * 10 ^ length fd + digits_value 10 fd) * 10 ^ scale ≡ (w * 10 ^ scale + r) * 10 ^ length fd) same both)

    cut : IsCutTo (last_digits scale r) kept
    cut = cut_off (last_digits scale r)

    equal : digits_value 10 fd * 10 ^ length kept ≡ digits_value 10 kept * 10 ^ length fd
    equal = no_fewer (digits_value 10 fd) (digits_value 10 kept) (10 ^ length fd) (10 ^ length kept) (10 ^ cut.zeros) r (10 ^ scale) fractions
        (ap (λ k. 10 ^ k) (sym (length-last_digits scale r) ∙ cut.length_is) ∙ pow-add 10 (length kept) cut.zeros)
        (sym (value-last scale r (mod_below n (10 ^ scale) tens)) ∙ cut.value_is) (one-le-pow cut.zeros 10 (lit< tt))

    digits : length kept ≤ length fd
    digits = ⊎_elim (λ none. let z : length kept ≡ 0 = ap length none in omega arith)
        (λ last. ⊎_elim
        (λ fewer. absurd (last (not_tens (digits_value 10 fd) (digits_value 10 kept) (10 ^ length fd) (10 ^ (length kept - length fd - 1))
        (subst (λ p. digits_value 10 fd * p ≡ digits_value 10 kept * 10 ^ length fd) (powers fewer) equal) (one-le-pow (length fd) 10 (lit< tt)))))
        (λ k. k)
        (cases_lt (length fd) (length kept)))
        (last_kept (last_digits scale r) (AllDigits-last scale r))
      where
        powers : length fd < length kept → 10 ^ length kept ≡ 10 ^ length fd * (10 ^ (length kept - length fd - 1) * 10)
        powers fewer = ap (λ k. 10 ^ k) (let k : length kept ≡ length fd + suc (length kept - length fd - 1) = omega arith in k)
            ∙ (pow-add 10 (length fd) (suc (length kept - length fd - 1)) ∙ ap (λ p. 10 ^ length fd * p) (pow-suc 10 (length kept - length fd - 1)))

    behind : length (behind_point kept) ≤ length (fraction_text u.fraction)
    behind = point_le kept u.fraction digits

exact_magnitude : (others : List ℕ) (value : ℤ) (scale : ℕ) (o : IsPlainDecimal others value scale) → mantissa o.token * 10 ^ scale ≡ unsigned_abs value * 10 ^ length (fraction_digits o.token.fraction)
exact_magnitude others value scale o = sym (abs_signed o.token.sign (mantissa o.token * 10 ^ scale)) ∙ (ap unsigned_abs o.exact ∙ unsigned_abs-mul value (pos (10 ^ length (fraction_digits o.token.fraction))))

-- below 0 a sign stands in front
not_above : (m k : ℕ) → 0 < k → pos m ≡ neg_ℤ (pos k) → ⊥
not_above m zero some e = omega arith
not_above m (suc k) some e = cc

sign_needed : (s : Sign) (m n u : ℕ) → 0 < u → signed s m ≡ negsuc n *ℤ pos u → 1 ≤ length (sign_text s)
sign_needed Bare m n u some e = absurd (not_above m (suc n * u) (let one : 1 ≤ suc n = omega arith in omega (arith, mul-le-mul_right u one)) e)
sign_needed Plus m n u some e = omega arith
sign_needed Minus m n u some e = omega arith

no_shorter_decimal : (value : ℤ) (scale : ℕ) (others : List ℕ) → FitsSigned w32 value → IsPlainDecimal others value scale → length (decimal_of value scale) ≤ length others
unfolding decimal_of
no_shorter_decimal (pos n) scale others fits o = no_shorter Bare n scale others o.token (let f = fits.sfits in omega arith) o.is_token o.whole_digit (exact_magnitude others (pos n) scale o) (omega arith)
no_shorter_decimal (negsuc n) scale others fits o = no_shorter Minus (suc n) scale others o.token (let f = fits.sfits in omega arith) o.is_token o.whole_digit (exact_magnitude others (negsuc n) scale o)
    (sign_needed o.token.sign _ n _ (one-le-pow _ 10 (lit< tt)) o.exact)

-- the decimal that is printed is exact, and the shortest
pub decimal_shortest : (value : ℤ) (scale : ℕ) → FitsSigned w32 value → IsShortest (decimal_of value scale) value scale
decimal_shortest value scale fits = record {
  plain = decimal_plain value scale fits;
  shortest = λ others o. no_shorter_decimal value scale others fits o;
}

-- a decimal has digits, a minus and a point, and nothing else
digit_bytes : (ds : List ℕ) → AllDigits 10 ds → All IsDecimalByte ds
unfolding IsDecimalByte
digit_bytes [] h = All-nil IsDecimalByte
digit_bytes (d ∷ ds) h = All-cons IsDecimalByte d ds (inl (digit_from_value d h.0)) (digit_bytes ds h.1)

point_bytes : (ds : List ℕ) → AllDigits 10 ds → All IsDecimalByte (behind_point ds)
unfolding IsDecimalByte
point_bytes [] h = All-nil IsDecimalByte
point_bytes (d ∷ ds) h = All-cons IsDecimalByte 46 (d ∷ ds) (inr (inr refl)) (digit_bytes (d ∷ ds) h)

magnitude_bytes : (n scale : ℕ) → n < 2 ^ 64 → All IsDecimalByte (magnitude_text n scale)
unfolding magnitude_text
magnitude_bytes n scale h = All-append IsDecimalByte (decimal (n / 10 ^ scale)) (behind_point (kept_digits n scale))
    (digit_bytes (decimal (n / 10 ^ scale)) (decimal_is_IsNumeral (n / 10 ^ scale) (whole_small n scale h)).0.1)
    (point_bytes (kept_digits n scale) (AllDigits-kept (last_digits scale (n % 10 ^ scale)) (AllDigits-last scale (n % 10 ^ scale))))

pub decimal_bytes : (value : ℤ) (scale : ℕ) → FitsSigned w32 value → All IsDecimalByte (decimal_of value scale)
unfolding decimal_of IsDecimalByte
decimal_bytes (pos n) scale fits = magnitude_bytes n scale (let f = fits.sfits in omega arith)
decimal_bytes (negsuc n) scale fits = All-cons IsDecimalByte 45 (magnitude_text (suc n) scale) (inr (inl refl)) (magnitude_bytes (suc n) scale (let f = fits.sfits in omega arith))
