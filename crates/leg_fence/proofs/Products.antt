-- Equations of whole numbers that are proved by multiplying out: each number is written as a difference of two natural ones.
use Rattle.std.proofs.Common.{◌≡◌, ℕ, zero, suc, ◌+◌, ◌*◌, ◌≤◌, ℤ, pos, negsuc, ◌+ℤ◌, ◌-ℤ◌, ◌*ℤ◌, arith, sym, ◌∙◌, neg_ℤ, ◌-◌, ◌⊎◌, inl, inr, ⊎_elim}
use Rattle.std.proofs.lemmas.Int.{ints}
use Rattle.std.proofs.lemmas.Bool.{cases_lt}
use Rattle.std.proofs.Math.Nat.{mul-le-mul_right}
use Rattle.std.proofs.Math.IntN.{pos-*ℤ-pos, pos-*ℤ-negsuc, negsuc-*ℤ-pos, negsuc-*ℤ-negsuc}

-- the difference of two numbers
unfoldable pub dif : ℕ → ℕ → ℤ
dif a b = pos a -ℤ pos b

dif-add : (a b c d : ℕ) → dif a b +ℤ dif c d ≡ dif (a + c) (b + d)
unfolding dif
dif-add a b c d = omega (arith, ints)

dif-sub : (a b c d : ℕ) → dif a b -ℤ dif c d ≡ dif (a + d) (b + c)
unfolding dif
dif-sub a b c d = omega (arith, ints)

dif-pos : (a b m : ℕ) → a ≡ b + m → dif a b ≡ pos m
unfolding dif
dif-pos a b m h = omega (arith, ints)

dif-neg : (a b m : ℕ) → b ≡ a + m → dif a b ≡ neg_ℤ (pos m)
unfolding dif
dif-neg a b zero h = omega (arith, ints)
dif-neg a b (suc m) h = omega (arith, ints)

dif-negsuc : (a b m : ℕ) → b ≡ a + suc m → dif a b ≡ negsuc m
unfolding dif
dif-negsuc a b m h = omega (arith, ints)

mul_pp : (a b c d j k : ℕ) → a ≡ b + j → c ≡ d + k → dif a b *ℤ dif c d ≡ dif (a * c + b * d) (a * d + b * c)
mul_pp a b c d j k h g = rw (dif-pos a b j h, dif-pos c d k g, pos-*ℤ-pos j k) (sym (dif-pos (a * c + b * d) (a * d + b * c) (j * k) (rw (h, g) (omega arith))))

mul_pn : (a b c d j k : ℕ) → a ≡ b + j → d ≡ c + suc k → dif a b *ℤ dif c d ≡ dif (a * c + b * d) (a * d + b * c)
mul_pn a b c d j k h g = rw (dif-pos a b j h, dif-negsuc c d k g, pos-*ℤ-negsuc j k) (sym (dif-neg (a * c + b * d) (a * d + b * c) (j * suc k) (rw (h, g) (omega arith))))

mul_np : (a b c d j k : ℕ) → b ≡ a + suc j → c ≡ d + k → dif a b *ℤ dif c d ≡ dif (a * c + b * d) (a * d + b * c)
mul_np a b c d j k h g = rw (dif-negsuc a b j h, dif-pos c d k g, negsuc-*ℤ-pos j k) (sym (dif-neg (a * c + b * d) (a * d + b * c) (suc j * k) (rw (h, g) (omega arith))))

mul_nn : (a b c d j k : ℕ) → b ≡ a + suc j → d ≡ c + suc k → dif a b *ℤ dif c d ≡ dif (a * c + b * d) (a * d + b * c)
mul_nn a b c d j k h g = rw (dif-negsuc a b j h, dif-negsuc c d k g, negsuc-*ℤ-negsuc j k) (sym (dif-pos (a * c + b * d) (a * d + b * c) (suc j * suc k) (rw (h, g) (omega arith))))

split : (a b : ℕ) → ((k : ℕ) × (b ≡ a + suc k)) ⊎ ((k : ℕ) × (a ≡ b + k))
split a b = ⊎_elim (λ less. inl (b - a - 1, omega arith)) (λ more. inr (a - b, omega arith)) (cases_lt a b)

dif-mul : (a b c d : ℕ) → dif a b *ℤ dif c d ≡ dif (a * c + b * d) (a * d + b * c)
dif-mul a b c d = ⊎_elim
    (λ (n : (k : ℕ) × (b ≡ a + suc k)). ⊎_elim
    (λ (m : (k : ℕ) × (d ≡ c + suc k)). mul_nn a b c d n.0 m.0 n.1 m.1)
    (λ (m : (k : ℕ) × (c ≡ d + k)). mul_np a b c d n.0 m.0 n.1 m.1)
    (split c d))
    (λ (n : (k : ℕ) × (a ≡ b + k)). ⊎_elim
    (λ (m : (k : ℕ) × (d ≡ c + suc k)). mul_pn a b c d n.0 m.0 n.1 m.1)
    (λ (m : (k : ℕ) × (c ≡ d + k)). mul_pp a b c d n.0 m.0 n.1 m.1)
    (split c d))
    (split a b)

dif-same : (a b c d : ℕ) → a + d ≡ b + c → dif a b ≡ dif c d
unfolding dif
dif-same a b c d h = omega (arith, ints)

dif-back : (a b c d : ℕ) → dif a b ≡ dif c d → a + d ≡ b + c
unfolding dif
dif-back a b c d h = omega (arith, ints)

-- a whole number's natural parts: one of them is 0
abbrev pub hi : ℤ → ℕ
hi (pos n) = n
hi (negsuc n) = 0

abbrev pub lo : ℤ → ℕ
lo (pos n) = 0
lo (negsuc n) = suc n

is_dif : (z : ℤ) → z ≡ dif (hi z) (lo z)
unfolding dif
is_dif (pos n) = omega (arith, ints)
is_dif (negsuc n) = omega (arith, ints)

pub as_dif : (n : ℕ) → pos n ≡ dif n 0
unfolding dif
as_dif n = omega (arith, ints)

pub as_neg : (n : ℕ) → negsuc n ≡ dif 0 (1 + n)
unfolding dif
as_neg n = omega (arith, ints)

dist_dif : (x x' y y' z z' : ℕ) → dif x x' *ℤ (dif y y' -ℤ dif z z') ≡ dif x x' *ℤ dif y y' -ℤ dif x x' *ℤ dif z z'
dist_dif x x' y y' z z' = simp (dif-sub, dif-mul) (dif-same _ _ _ _ (omega arith))

-- a product with a difference
pub dist : (x y z : ℤ) → x *ℤ (y -ℤ z) ≡ x *ℤ y -ℤ x *ℤ z
dist x y z = rw (is_dif x, is_dif y, is_dif z) (dist_dif (hi x) (lo x) (hi y) (lo y) (hi z) (lo z))

side_dif : (n n' s s' t t' ux ux' uy uy' vx vx' vy vy' wx wx' wy wy' : ℕ) → dif n n' *ℤ (dif vx vx' *ℤ dif wy wy' -ℤ dif vy vy' *ℤ dif wx wx') +ℤ dif s s' *ℤ ((dif vx vx' *ℤ (dif wy wy' +ℤ dif uy uy') -ℤ dif vy vy' *ℤ (dif wx wx' +ℤ dif ux ux')) -ℤ (dif vx vx' *ℤ dif wy wy' -ℤ dif vy vy' *ℤ dif wx wx')) ≡ dif vx vx' *ℤ (dif n n' *ℤ dif wy wy' +ℤ dif s s' *ℤ dif uy uy' -ℤ dif t t' *ℤ dif vy vy') -ℤ dif vy vy' *ℤ (dif n n' *ℤ dif wx wx' +ℤ dif s s' *ℤ dif ux ux' -ℤ dif t t' *ℤ dif vx vx')
side_dif n n' s s' t t' ux ux' uy uy' vx vx' vy vy' wx wx' wy wy' = simp (dif-add, dif-sub, dif-mul) (dif-same _ _ _ _ (omega arith))

-- the cross products of an edge v with the ends of a leg u behind w, in shares s of n
pub side : (n s t ux uy vx vy wx wy : ℤ) → n *ℤ (vx *ℤ wy -ℤ vy *ℤ wx) +ℤ s *ℤ ((vx *ℤ (wy +ℤ uy) -ℤ vy *ℤ (wx +ℤ ux)) -ℤ (vx *ℤ wy -ℤ vy *ℤ wx)) ≡ vx *ℤ (n *ℤ wy +ℤ s *ℤ uy -ℤ t *ℤ vy) -ℤ vy *ℤ (n *ℤ wx +ℤ s *ℤ ux -ℤ t *ℤ vx)
side n s t ux uy vx vy wx wy = rw (is_dif n, is_dif s, is_dif t, is_dif ux, is_dif uy, is_dif vx, is_dif vy, is_dif wx, is_dif wy) (side_dif (hi n) (lo n) (hi s) (lo s) (hi t) (lo t) (hi ux) (lo ux) (hi uy) (lo uy) (hi vx) (lo vx) (hi vy) (lo vy) (hi wx) (lo wx) (hi wy) (lo wy))

between_dif : (ux ux' uy uy' vx vx' vy vy' wx wx' wy wy' : ℕ) → (dif vx vx' *ℤ dif wy wy' -ℤ dif vy vy' *ℤ dif wx wx') -ℤ (dif vx vx' *ℤ (dif wy wy' +ℤ dif uy uy') -ℤ dif vy vy' *ℤ (dif wx wx' +ℤ dif ux ux')) ≡ dif ux ux' *ℤ dif vy vy' -ℤ dif uy uy' *ℤ dif vx vx'
between_dif ux ux' uy uy' vx vx' vy vy' wx wx' wy wy' = simp (dif-add, dif-sub, dif-mul) (dif-same _ _ _ _ (omega arith))

-- how far the two cross products are apart
pub between : (ux uy vx vy wx wy : ℤ) → (vx *ℤ wy -ℤ vy *ℤ wx) -ℤ (vx *ℤ (wy +ℤ uy) -ℤ vy *ℤ (wx +ℤ ux)) ≡ ux *ℤ vy -ℤ uy *ℤ vx
between ux uy vx vy wx wy = rw (is_dif ux, is_dif uy, is_dif vx, is_dif vy, is_dif wx, is_dif wy) (between_dif (hi ux) (lo ux) (hi uy) (lo uy) (hi vx) (lo vx) (hi vy) (lo vy) (hi wx) (lo wx) (hi wy) (lo wy))

swapped_dif : (ux ux' uy uy' vx vx' vy vy' : ℕ) → dif ux ux' *ℤ dif vy vy' -ℤ dif uy uy' *ℤ dif vx vx' +ℤ (dif vx vx' *ℤ dif uy uy' -ℤ dif vy vy' *ℤ dif ux ux') ≡ dif 0 0
swapped_dif ux ux' uy uy' vx vx' vy vy' = simp (dif-add, dif-sub, dif-mul) (dif-same _ _ _ _ (omega arith))

-- the cross product of two in the other order
pub swapped : (ux uy vx vy : ℤ) → ux *ℤ vy -ℤ uy *ℤ vx +ℤ (vx *ℤ uy -ℤ vy *ℤ ux) ≡ pos 0
swapped ux uy vx vy = rw (is_dif ux, is_dif uy, is_dif vx, is_dif vy) (swapped_dif (hi ux) (lo ux) (hi uy) (lo uy) (hi vx) (lo vx) (hi vy) (lo vy) ∙ sym (is_dif (pos 0)))

meeting_dif : (ux ux' uy uy' vx vx' vy vy' wx wx' wy wy' : ℕ) → (dif ux ux' *ℤ dif vy vy' -ℤ dif uy uy' *ℤ dif vx vx') *ℤ dif wx wx' +ℤ (dif vx vx' *ℤ dif wy wy' -ℤ dif vy vy' *ℤ dif wx wx') *ℤ dif ux ux' +ℤ (dif ux ux' *ℤ (dif 0 0 -ℤ dif wy wy') -ℤ dif uy uy' *ℤ (dif 0 0 -ℤ dif wx wx')) *ℤ dif vx vx' ≡ dif 0 0
meeting_dif ux ux' uy uy' vx vx' vy vy' wx wx' wy wy' = simp (dif-add, dif-sub, dif-mul) (dif-same _ _ _ _ (omega arith))

-- where the lines of a leg u and of an edge v meet, told by cross products; in the other coordinate likewise
pub meeting : (ux uy vx vy wx wy : ℤ) → (ux *ℤ vy -ℤ uy *ℤ vx) *ℤ wx +ℤ (vx *ℤ wy -ℤ vy *ℤ wx) *ℤ ux +ℤ (ux *ℤ (pos 0 -ℤ wy) -ℤ uy *ℤ (pos 0 -ℤ wx)) *ℤ vx ≡ pos 0
meeting ux uy vx vy wx wy = rw (is_dif (pos 0), is_dif ux, is_dif uy, is_dif vx, is_dif vy, is_dif wx, is_dif wy) (meeting_dif (hi ux) (lo ux) (hi uy) (lo uy) (hi vx) (lo vx) (hi vy) (lo vy) (hi wx) (lo wx) (hi wy) (lo wy))

meeting_dif_y : (ux ux' uy uy' vx vx' vy vy' wx wx' wy wy' : ℕ) → (dif ux ux' *ℤ dif vy vy' -ℤ dif uy uy' *ℤ dif vx vx') *ℤ dif wy wy' +ℤ (dif vx vx' *ℤ dif wy wy' -ℤ dif vy vy' *ℤ dif wx wx') *ℤ dif uy uy' +ℤ (dif ux ux' *ℤ (dif 0 0 -ℤ dif wy wy') -ℤ dif uy uy' *ℤ (dif 0 0 -ℤ dif wx wx')) *ℤ dif vy vy' ≡ dif 0 0
meeting_dif_y ux ux' uy uy' vx vx' vy vy' wx wx' wy wy' = simp (dif-add, dif-sub, dif-mul) (dif-same _ _ _ _ (omega arith))

pub meeting_y : (ux uy vx vy wx wy : ℤ) → (ux *ℤ vy -ℤ uy *ℤ vx) *ℤ wy +ℤ (vx *ℤ wy -ℤ vy *ℤ wx) *ℤ uy +ℤ (ux *ℤ (pos 0 -ℤ wy) -ℤ uy *ℤ (pos 0 -ℤ wx)) *ℤ vy ≡ pos 0
meeting_y ux uy vx vy wx wy = rw (is_dif (pos 0), is_dif ux, is_dif uy, is_dif vx, is_dif vy, is_dif wx, is_dif wy) (meeting_dif_y (hi ux) (lo ux) (hi uy) (lo uy) (hi vx) (lo vx) (hi vy) (lo vy) (hi wx) (lo wx) (hi wy) (lo wy))

negated_dif : (x x' y y' : ℕ) → (dif 0 0 -ℤ dif x x') *ℤ dif y y' ≡ dif 0 0 -ℤ dif x x' *ℤ dif y y'
negated_dif x x' y y' = simp (dif-sub, dif-mul) (dif-same _ _ _ _ (omega arith))

-- a product with a number of the other sign
pub negated : (x y : ℤ) → (pos 0 -ℤ x) *ℤ y ≡ pos 0 -ℤ x *ℤ y
negated x y = rw (is_dif (pos 0), is_dif x, is_dif y) (negated_dif (hi x) (lo x) (hi y) (lo y))

pub apart_dif : (n s t m m' p q a b : ℕ) → 1 ≤ n → s ≤ n → t ≤ n → dif n 0 *ℤ dif (m + 1 + p) m' +ℤ dif s 0 *ℤ (dif (m + 1 + q) m' -ℤ dif (m + 1 + p) m') ≡ dif n 0 *ℤ dif m (m' + a) +ℤ dif t 0 *ℤ (dif m (m' + b) -ℤ dif m (m' + a)) → ⊥
apart_dif n s t m m' p q a b some on_leg on_edge h =
    let parts = simp (dif-add, dif-sub, dif-mul) at h in
    let sp : s * p ≤ n * p = mul-le-mul_right p on_leg in
    let ta : t * a ≤ n * a = mul-le-mul_right a on_edge in
    let sums = dif-back _ _ _ _ parts in
    omega arith

weighed_dif_parts : (n s i j : ℕ) → 1 ≤ n → s ≤ n → n * (1 + i) + s * (1 + j) ≡ s * (1 + i) → ⊥
weighed_dif_parts n s i j some share h = let less : s * i ≤ n * i = mul-le-mul_right i share in omega arith

pub weighed_dif : (n s i j : ℕ) → 1 ≤ n → s ≤ n → dif n 0 *ℤ dif (1 + i) 0 +ℤ dif s 0 *ℤ (dif (1 + j) 0 -ℤ dif (1 + i) 0) ≡ pos 0 → ⊥
weighed_dif n s i j some share h =
    let sums = dif-back _ _ _ _ ((simp (dif-add, dif-sub, dif-mul) at h) ∙ as_dif 0) in
    weighed_dif_parts n s i j some share (omega arith)

pub weighed_dif_down : (n s i j : ℕ) → 1 ≤ n → s ≤ n → dif n 0 *ℤ dif 0 (1 + i) +ℤ dif s 0 *ℤ (dif 0 (1 + j) -ℤ dif 0 (1 + i)) ≡ pos 0 → ⊥
weighed_dif_down n s i j some share h =
    let sums = dif-back _ _ _ _ ((simp (dif-add, dif-sub, dif-mul) at h) ∙ as_dif 0) in
    weighed_dif_parts n s i j some share (omega arith)
