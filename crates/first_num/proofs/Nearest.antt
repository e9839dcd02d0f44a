-- The nearest whole number over the integers: it is a magnitude rounded half up, under the sign.
use Rattle.std.proofs.Common.{◌≡◌, ℕ, zero, suc, ◌+◌, ◌*◌, ◌-◌, ◌<◌, ◌≤◌, ltb, refl, sym, ap, ◌∙◌, subst, ⊎_elim, arith}
use Rattle.std.specs.Prelude.{ℤ, pos, negsuc, neg_ℤ, ◌-ℤ◌, ◌*ℤ◌, unsigned_abs}
use Rattle.std.proofs.lemmas.Bool.{cases_lt, cond_both, ltb-true, ltb-false}
use lib.IntN.{sub_ℕ}
use Rattle.std.proofs.Math.Nat.{mul-le-mul_right}
use Rattle.first_num.specs.declared.token.Sign.{Sign}
use Rattle.first_num.specs.declared.token.Sign.TheVariants.{Bare, Plus, Minus}
use Rattle.first_num.specs.Scaled.{signed, IsNear, IsNearest}
use Rattle.first_num.proofs.Rounding.{IsHalfUp}

-- how far two whole numbers are apart, by their signs
sub_abs : (a b : ℕ) → unsigned_abs (sub_ℕ a b) ≡ (a - b) + (b - a)
sub_abs a b = cond_both (ltb a b) (negsuc (b - suc a)) (pos (a - b)) (λ z. unsigned_abs z ≡ (a - b) + (b - a))
    (λ e. omega (arith, ltb-true a b e)) (λ e. omega (arith, ltb-false a b e))

above_above : (a b : ℕ) → unsigned_abs (pos a -ℤ pos b) ≡ (a - b) + (b - a)
above_above a zero = omega arith
above_above a (suc b) = sub_abs a (suc b)

below_above : (a b : ℕ) → unsigned_abs (neg_ℤ (pos a) -ℤ pos b) ≡ a + b
below_above zero b = above_above zero b ∙ omega arith
below_above (suc a) zero = sub_abs 0 (suc a) ∙ omega arith
below_above (suc a) (suc b) = omega arith

above_below : (a b : ℕ) → unsigned_abs (pos a -ℤ neg_ℤ (pos b)) ≡ a + b
above_below a zero = refl
above_below a (suc b) = refl

below_below : (a b : ℕ) → unsigned_abs (neg_ℤ (pos a) -ℤ neg_ℤ (pos b)) ≡ (a - b) + (b - a)
below_below zero zero = omega arith
below_below zero (suc b) = omega arith
below_below (suc a) zero = sub_abs 0 (suc a) ∙ omega arith
below_below (suc a) (suc b) = sub_abs (suc b) (suc a) ∙ omega arith

pub abs_below : (n : ℕ) → unsigned_abs (neg_ℤ (pos n)) ≡ n
abs_below zero = refl
abs_below (suc n) = refl

pub below_product : (n d : ℕ) → neg_ℤ (pos n) *ℤ pos d ≡ neg_ℤ (pos (n * d))
below_product zero d = let e : 0 ≡ 0 * d = omega arith in ap pos (sym e) ∙ ap (λ x. neg_ℤ (pos x)) e
below_product (suc n) d = refl

-- fewer times a whole number
fewer : (m n u : ℕ) → m * u < n * u + u → m ≤ n
fewer m n u h = ⊎_elim (λ more. absurd (let b : n + 1 ≤ m = omega arith in omega (arith, mul-le-mul_right u b))) (λ k. k) (cases_lt n m)

no_time : (m u : ℕ) → m * u < u → m ≡ 0
no_time m u h = let e : m * u < 0 * u + u = omega arith in omega (arith, fewer m 0 u e)

-- on a side of 0, a number is near as magnitudes are, and one on the other side is not
near_above : (over under n : ℕ) → IsNear (pos over) under (pos n) → 2 * (n * under) ≤ 2 * over + under
near_above over under n h = omega (arith, above_above (n * under) over)

not_across : (over under n : ℕ) → 0 < under → ¬ (IsNear (pos over) under (negsuc n))
not_across over under n some h = let e = below_above (suc n * under) over in
    let one : 1 ≤ suc n = omega arith in omega (arith, mul-le-mul_right under one)

near_below : (over under n : ℕ) → IsNear (neg_ℤ (pos over)) under (negsuc n) → 2 * (suc n * under) ≤ 2 * over + under
near_below over under n h = omega (arith, below_below (suc n * under) over)

zero_across : (over under n : ℕ) → 0 < under → IsNear (neg_ℤ (pos over)) under (pos n) → n ≡ 0
zero_across over under n some h = no_time n under (omega (arith, above_below (n * under) over))

half_up_above : (over under n : ℕ) → 0 < under → IsHalfUp n over under → IsNearest (pos over) under (pos n)
half_up_above over under n some h = record {
  near = omega (arith, above_above (n * under) over, h.low, h.high);
  away = λ other. elim other as (λ z. IsNear (pos over) under z → unsigned_abs z ≤ n) [
    | pos m ↦ λ near. fewer m n under (omega (arith, near_above over under m near, h.high))
    | negsuc m ↦ λ near. absurd (not_across over under m some near)
  ];
}

half_up_below : (over under n : ℕ) → 0 < under → IsHalfUp n over under → IsNearest (neg_ℤ (pos over)) under (neg_ℤ (pos n))
half_up_below over under n some h = record {
  near = subst (λ z. 2 * unsigned_abs (z -ℤ neg_ℤ (pos over)) ≤ under) (sym (below_product n under)) (omega (arith, below_below (n * under) over, h.low, h.high));
  away = λ other. elim other as (λ z. IsNear (neg_ℤ (pos over)) under z → unsigned_abs z ≤ unsigned_abs (neg_ℤ (pos n))) [
    | pos m ↦ λ near. omega (arith, zero_across over under m some near)
    | negsuc m ↦ λ near. let below = fewer (suc m) n under (omega (arith, near_below over under m near, h.high)) in omega (arith, abs_below n)
  ];
}

-- a magnitude rounded half up is the nearest under its sign
pub nearest_from_half_up : (s : Sign) (over under n : ℕ) → 0 < under → IsHalfUp n over under → IsNearest (signed s over) under (signed s n)
nearest_from_half_up Bare over under n some h = half_up_above over under n some h
nearest_from_half_up Plus over under n some h = half_up_above over under n some h
nearest_from_half_up Minus over under n some h = half_up_below over under n some h

same_size : (over : ℤ) (under : ℕ) (m n : ℤ) → IsNearest over under m → IsNearest over under n → unsigned_abs m ≡ unsigned_abs n
same_size over under m n g h = let a = g.away n h.near in let b = h.away m g.near in omega arith

one_above : (over under : ℕ) (m n : ℤ) → 0 < under → IsNearest (pos over) under m → IsNearest (pos over) under n → m ≡ n
one_above over under (pos m) (pos n) some g h = ap pos (same_size (pos over) under (pos m) (pos n) g h)
one_above over under (pos m) (negsuc n) some g h = absurd (not_across over under n some h.near)
one_above over under (negsuc m) n some g h = absurd (not_across over under m some g.near)

one_below : (over under : ℕ) (m n : ℤ) → 0 < under → IsNearest (neg_ℤ (pos over)) under m → IsNearest (neg_ℤ (pos over)) under n → m ≡ n
one_below over under (pos m) (pos n) some g h = ap pos (same_size (neg_ℤ (pos over)) under (pos m) (pos n) g h)
one_below over under (pos m) (negsuc n) some g h = absurd (omega (arith, zero_across over under m some g.near, same_size (neg_ℤ (pos over)) under (pos m) (negsuc n) g h))
one_below over under (negsuc m) (pos n) some g h = absurd (omega (arith, zero_across over under n some h.near, same_size (neg_ℤ (pos over)) under (negsuc m) (pos n) g h))
one_below over under (negsuc m) (negsuc n) some g h = ap negsuc (let e = same_size (neg_ℤ (pos over)) under (negsuc m) (negsuc n) g h in omega arith)

-- there is one nearest number
pub one_nearest : (s : Sign) (over under : ℕ) (m n : ℤ) → 0 < under → IsNearest (signed s over) under m → IsNearest (signed s over) under n → m ≡ n
one_nearest Bare over under m n some g h = one_above over under m n some g h
one_nearest Plus over under m n some g h = one_above over under m n some g h
one_nearest Minus over under m n some g h = one_below over under m n some g h
