-- Rounding half up: cutting a number behind one digit more than is wanted, and adding five to that digit.
use Rattle.std.proofs.Common.{◌≡◌, ℕ, zero, suc, ◌+◌, ◌*◌, ◌-◌, ◌/◌, ◌^◌, ◌<◌, ◌≤◌, min, List, [], ◌∷◌, length, take, drop, sym, ap, ◌∙◌, subst, ⊎_elim, arith, lit<}
use Rattle.std.specs.Char.{digit_value}
use Rattle.std.specs.Str.Parse.{AllDigits, digits_value, digits_value_after}
use Rattle.std.proofs.lemmas.List.{length-drop, take-append-drop}
use Rattle.std.proofs.lemmas.Int.Digits.{digits_value-lt}
use Rattle.std.proofs.lemmas.Bool.{cases_lt}
use Rattle.std.proofs.lemmas.Nat.{pow-add}
use Rattle.std.proofs.Math.Nat.{pow-suc, mul_assoc, mul-le-mul_right, one-le-pow, pow-le-pow_right}
use Rattle.first_num.specs.Digits.{leading_number}
use Rattle.first_num.proofs.Machine.{AllDigits-right, digits_value-append}
use Rattle.first_num.proofs.Leading.{leading_within, leading_behind}

-- n is the whole number nearest to over / under, a half going up
pub record IsHalfUp (n over under : ℕ) : Type 0 where
  pub low : 2 * (n * under) ≤ 2 * over + under
  pub high : 2 * over < 2 * (n * under) + under

-- the digits behind others carry their value times a power of ten
one_more : (n d p q v w : ℕ) → q ≡ p * 10 → w ≡ (0 * 10 + d) * p + v → (n * 10 + d) * p + v ≡ n * q + w
one_more n d p q v w e f = rw (e, f) (omega arith)

pub value_after : (n : ℕ) (ds : List ℕ) → digits_value_after 10 n ds ≡ n * 10 ^ length ds + digits_value 10 ds
value_after n [] = omega arith
value_after n (d ∷ ds) = value_after (n * 10 + digit_value d) ds
    ∙ one_more n (digit_value d) (10 ^ length ds) (10 ^ suc (length ds)) (digits_value 10 ds) (digits_value_after 10 (0 * 10 + digit_value d) ds) (pow-suc 10 (length ds)) (value_after (0 * 10 + digit_value d) ds)

-- q is ten times over, divided by under, cut off
pub record IsCut (q over under : ℕ) : Type 0 where
  pub low : q * under ≤ 10 * over
  pub high : 10 * over < (q + 1) * under

-- five added to the last digit that was kept rounds half up
pub half_up_from_cut : (q over under : ℕ) → IsCut q over under → IsHalfUp ((q + 5) / 10) over under
half_up_from_cut q over under h = record {
  low = let a : (q + 5) / 10 * 10 ≤ q + 5 = omega arith in omega (arith, h.low, mul-le-mul_right under a);
  high = let a : q + 1 ≤ (q + 5) / 10 * 10 + 5 = omega arith in omega (arith, h.high, mul-le-mul_right under a);
}

-- the first digits are what cutting leaves: as many as stand before the place of the point, and one more
cut_few : (ds : List ℕ) (up down : ℕ) → AllDigits 10 ds → length ds + up + 1 < down → IsCut 0 (digits_value 10 ds * 10 ^ up) (10 ^ down)
cut_few ds up down h few = record {
  low = omega arith;
  high = let v = mul-le-mul_right (10 ^ up) (let k : digits_value 10 ds + 1 ≤ 10 ^ length ds = omega (arith, digits_value-lt 10 ds h) in k) in
      let p : 10 ^ (length ds + up) * 10 ≤ 10 ^ down = subst (λ x. x ≤ 10 ^ down) (pow-suc 10 (length ds + up)) (pow-le-pow_right (lit< tt) (omega arith)) in
      omega (arith, v, p, pow-add 10 (length ds) up, one-le-pow up 10 (lit< tt));
}

cut_between : (v q r rest up under : ℕ) → v ≡ q * r + rest → rest < r → under ≡ r * up * 10 → 1 ≤ up → IsCut q (v * up) under
cut_between v q r rest up under e f g one = subst (IsCut q (v * up)) (sym g) (record {
  low = let a : q * r ≤ v = omega arith in let b = mul-le-mul_right up a in omega arith;
  high = let a : v + 1 ≤ (q + 1) * r = omega arith in let b = mul-le-mul_right up a in omega arith;
})

cut_beyond : (v more up under : ℕ) → more * under ≡ up * 10 → 1 ≤ under → IsCut (v * more) (v * up) under
cut_beyond v more up under e one =
    let k : v * more * under ≡ 10 * (v * up) = mul_assoc v more under ∙ (ap (λ x. v * x) e ∙ omega arith) in record {
      low = omega arith;
      high = omega arith;
    }

cut_some : (ds : List ℕ) (up down count : ℕ) → AllDigits 10 ds → count + down ≡ length ds + up + 1 → count ≤ length ds → IsCut (digits_value 10 (take count ds)) (digits_value 10 ds * 10 ^ up) (10 ^ down)
cut_some ds up down count h e k = cut_between (digits_value 10 ds) (digits_value 10 (take count ds)) (10 ^ length (drop count ds)) (digits_value 10 (drop count ds)) (10 ^ up) (10 ^ down) whole rest power (one-le-pow up 10 (lit< tt))
  where
    whole : digits_value 10 ds ≡ digits_value 10 (take count ds) * 10 ^ length (drop count ds) + digits_value 10 (drop count ds)
    whole = ap (digits_value 10) (sym (take-append-drop count ds)) ∙ (digits_value-append 0 (take count ds) (drop count ds) ∙ value_after (digits_value 10 (take count ds)) (drop count ds))

    rest : digits_value 10 (drop count ds) < 10 ^ length (drop count ds)
    rest = digits_value-lt 10 (drop count ds) (AllDigits-right (take count ds) (drop count ds) (subst (AllDigits 10) (sym (take-append-drop count ds)) h))

    power : 10 ^ down ≡ 10 ^ length (drop count ds) * 10 ^ up * 10
    power = ap (λ k. 10 ^ k) (let k : down ≡ suc (length (drop count ds) + up) = omega (arith, length-drop count ds) in k) ∙ (pow-suc 10 (length (drop count ds) + up) ∙ ap (λ x. x * 10) (pow-add 10 (length (drop count ds)) up))

cut_many : (ds : List ℕ) (up down more : ℕ) → more + down ≡ up + 1 → IsCut (digits_value 10 ds * 10 ^ more) (digits_value 10 ds * 10 ^ up) (10 ^ down)
cut_many ds up down more e = cut_beyond (digits_value 10 ds) (10 ^ more) (10 ^ up) (10 ^ down) power (one-le-pow down 10 (lit< tt))
  where
    power : 10 ^ more * 10 ^ down ≡ 10 ^ up * 10
    power = sym (pow-add 10 more down) ∙ (ap (λ k. 10 ^ k) (let k : more + down ≡ suc up = omega arith in k) ∙ pow-suc 10 up)

pub cut : (ds : List ℕ) (up down : ℕ) → AllDigits 10 ds → IsCut (leading_number ds (length ds + up + 1 - down)) (digits_value 10 ds * 10 ^ up) (10 ^ down)
cut ds up down h = ⊎_elim
    (λ few. subst (λ q. IsCut q (digits_value 10 ds * 10 ^ up) (10 ^ down))
    (let e : length ds + up + 1 - down ≡ 0 = omega arith in let z : leading_number ds 0 ≡ 0 = omega arith in sym (ap (leading_number ds) e ∙ z)) (cut_few ds up down h few))
    (λ enough. ⊎_elim
    (λ some. subst (λ q. IsCut q (digits_value 10 ds * 10 ^ up) (10 ^ down)) (sym (leading_within ds (length ds + up + 1 - down) (omega arith)))
    (cut_some ds up down (length ds + up + 1 - down) h (omega arith) (omega arith)))
    (λ many. subst (λ q. IsCut q (digits_value 10 ds * 10 ^ up) (10 ^ down)) (sym (leading_behind ds (length ds + up + 1 - down) (omega arith)))
    (cut_many ds up down (length ds + up + 1 - down - length ds) (omega arith)))
    (cases_lt up down))
    (cases_lt (length ds + up + 1) down)

-- a limit on the number before five is added is one tenth of it behind
pub limited_tenth : (q limit : ℕ) → (min q limit + 5) / 10 ≡ min ((q + 5) / 10) ((limit + 5) / 10)
limited_tenth q limit = omega arith

-- far behind the last digit the number is 0 or beyond a limit
far : (ds : List ℕ) (i k : ℕ) → length ds + k ≤ i → min (leading_number ds i) (10 ^ k) ≡ min (digits_value 10 ds) 1 * 10 ^ k
far ds i k h = ap (λ v. min v (10 ^ k)) (leading_behind ds i (omega arith)) ∙ grown (digits_value 10 ds) (10 ^ (i - length ds)) (10 ^ k) (pow-le-pow_right (lit< tt) (omega arith))
  where
    grown : (v p limit : ℕ) → limit ≤ p → min (v * p) limit ≡ min v 1 * limit
    grown zero p limit h = omega arith
    grown (suc v) p limit h =
        let one : min (suc v) 1 ≡ 1 = omega arith in
        let some : 1 ≤ suc v = omega arith in
        let product = mul-le-mul_right p some in
        subst (λ x. min (suc v * p) limit ≡ x * limit) (sym one) (omega arith)

pub leading_far : (ds : List ℕ) (m n k : ℕ) → length ds + k ≤ m → length ds + k ≤ n → min (leading_number ds m) (10 ^ k) ≡ min (leading_number ds n) (10 ^ k)
leading_far ds m n k g h = far ds m k g ∙ sym (far ds n k h)
