-- Segments that meet: their ranges overlap, and neither lies on one side of the other's line.
use Rattle.std.proofs.Common.{◌≡◌, ℕ, ◌+◌, ◌≤◌, ◌⊎◌, ℤ, pos, negsuc, ◌+ℤ◌, ◌-ℤ◌, ◌*ℤ◌, ◌<ℤ◌, ◌≤ℤ◌, Bool, true, false, not, refl, sym, ap, ◌∙◌, arith, ⊎_elim}
use Rattle.std.specs.Prelude.{unsigned_abs, int_le, int_lt, ◌&&◌, ◌||◌}
use Rattle.std.specs.Int.{int_min, int_max}
use Rattle.std.proofs.lemmas.Int.{ints}
use Rattle.std.proofs.Math.IntN.{*ℤ-zero}
use Rattle.fence_polygon.specs.Turn.{turn}
use Rattle.leg_fence.specs.Crossing.{overlap, same_sign, on_one_side, boxes_overlap, lines_cross}
use Rattle.leg_fence.specs.Meets.{Meets}
use Rattle.leg_fence.proofs.Products.{dif, dist, side, apart_dif, weighed_dif, weighed_dif_down, as_dif, as_neg, hi, lo}

above : (top p : ℤ) → top <ℤ p → p ≡ dif (hi top + 1 + unsigned_abs (p -ℤ top -ℤ pos 1)) (lo top)
unfolding dif
above (pos n) p h = omega (arith, ints)
above (negsuc n) p h = omega (arith, ints)

under : (top a : ℤ) → a ≤ℤ top → a ≡ dif (hi top) (lo top + unsigned_abs (top -ℤ a))
unfolding dif
under (pos n) a h = omega (arith, ints)
under (negsuc n) a h = omega (arith, ints)

-- each of the segment's ends is above each of the other's: no place of theirs is the same
apart_from : (n s t : ℕ) (top p q a b : ℤ) → 1 ≤ n → s ≤ n → t ≤ n → a ≤ℤ top → b ≤ℤ top → top <ℤ p → top <ℤ q → pos n *ℤ p +ℤ pos s *ℤ (q -ℤ p) ≡ pos n *ℤ a +ℤ pos t *ℤ (b -ℤ a) → ⊥
apart_from n s t top p q a b some on_leg on_edge ha hb hp hq same =
    let m = hi top in
    let m' = lo top in
    let p0 : ℕ = unsigned_abs (p -ℤ top -ℤ pos 1) in
    let q0 : ℕ = unsigned_abs (q -ℤ top -ℤ pos 1) in
    let a0 : ℕ = unsigned_abs (top -ℤ a) in
    let b0 : ℕ = unsigned_abs (top -ℤ b) in
    let is_p : p ≡ dif (m + 1 + p0) m' = above top p hp in
    let is_q : q ≡ dif (m + 1 + q0) m' = above top q hq in
    let is_a : a ≡ dif m (m' + a0) = under top a ha in
    let is_b : b ≡ dif m (m' + b0) = under top b hb in
    apart_dif n s t m m' p0 q0 a0 b0 some on_leg on_edge
    (ap (λ z. z *ℤ dif (m + 1 + p0) m' +ℤ dif s 0 *ℤ (dif (m + 1 + q0) m' -ℤ dif (m + 1 + p0) m')) (sym (as_dif n))
    ∙ ap (λ z. pos n *ℤ dif (m + 1 + p0) m' +ℤ z *ℤ (dif (m + 1 + q0) m' -ℤ dif (m + 1 + p0) m')) (sym (as_dif s))
    ∙ ap (λ z. pos n *ℤ z +ℤ pos s *ℤ (dif (m + 1 + q0) m' -ℤ z)) (sym is_p)
    ∙ ap (λ z. pos n *ℤ p +ℤ pos s *ℤ (z -ℤ p)) (sym is_q)
    ∙ same
    ∙ ap (λ z. pos n *ℤ a +ℤ pos t *ℤ (z -ℤ a)) is_b
    ∙ ap (λ z. pos n *ℤ z +ℤ pos t *ℤ (dif m (m' + b0) -ℤ z)) is_a
    ∙ ap (λ z. z *ℤ dif m (m' + a0) +ℤ pos t *ℤ (dif m (m' + b0) -ℤ dif m (m' + a0))) (as_dif n)
    ∙ ap (λ z. dif n 0 *ℤ dif m (m' + a0) +ℤ z *ℤ (dif m (m' + b0) -ℤ dif m (m' + a0))) (as_dif t))

top_le : (a b : ℤ) → (a ≤ℤ int_max a b) × (b ≤ℤ int_max a b)
top_le a b = (grind (arith, ints), grind (arith, ints))

-- one of the two tests of `overlap` fails only so
beyond : (p q top : ℤ) → int_le (int_min p q) top ≡ false → (top <ℤ p) × (top <ℤ q)
beyond p q top h = (grind (arith, ints), grind (arith, ints))

both_true : (a b : Bool) → (a ≡ false → ⊥) → (b ≡ false → ⊥) → (a && b) ≡ true
both_true true true p q = refl
both_true true false p q = absurd (q refl)
both_true false b p q = absurd (p refl)

-- one coordinate of two segments that meet
overlap-shared : (n s t : ℕ) (p q a b : ℤ) → 1 ≤ n → s ≤ n → t ≤ n → pos n *ℤ p +ℤ pos s *ℤ (q -ℤ p) ≡ pos n *ℤ a +ℤ pos t *ℤ (b -ℤ a) → overlap p q a b ≡ true
unfolding overlap
overlap-shared n s t p q a b some on_leg on_edge same = both_true (int_le (int_min p q) (int_max a b)) (int_le (int_min a b) (int_max p q))
    (λ off.
    let high = beyond p q (int_max a b) off in
    let top = top_le a b in
    apart_from n s t (int_max a b) p q a b some on_leg on_edge top.0 top.1 high.0 high.1 same)
    (λ off.
    let high = beyond a b (int_max p q) off in
    let top = top_le p q in
    apart_from n t s (int_max p q) a b p q some on_edge on_leg top.0 top.1 high.0 high.1 (sym same))

absurd_false : (b : Bool) → b ≡ false → b ≡ true → ⊥
absurd_false b p q = absurd cc

pub boxes-meet : (p q a b : ℤ × ℤ) → Meets p q a b → boxes_overlap p q a b ≡ true
boxes-meet p q a b m = both_true (overlap p.0 q.0 a.0 b.0) (overlap p.1 q.1 a.1 b.1)
    (λ off. absurd_false _ off (overlap-shared m.parts m.of_leg m.of_edge p.0 q.0 a.0 b.0 m.some m.on_leg m.on_edge m.latitude))
    (λ off. absurd_false _ off (overlap-shared m.parts m.of_leg m.of_edge p.1 q.1 a.1 b.1 m.some m.on_leg m.on_edge m.longitude))

neither : (b : Bool) → (b ≡ true → ⊥) → b ≡ false
neither true h = absurd (h refl)
neither false h = refl

signs : (d e : ℤ) → ((int_lt (pos 0) d && int_lt (pos 0) e) || (int_lt d (pos 0) && int_lt e (pos 0))) ≡ true → ((pos 0 <ℤ d) × (pos 0 <ℤ e)) ⊎ ((d <ℤ pos 0) × (e <ℤ pos 0))
signs d e h = grind (arith, ints)

weighed_up : (n s : ℕ) (d e : ℤ) → 1 ≤ n → s ≤ n → pos 0 <ℤ d → pos 0 <ℤ e → pos n *ℤ d +ℤ pos s *ℤ (e -ℤ d) ≡ pos 0 → ⊥
weighed_up n s d e some share hd he sum =
    let i : ℕ = unsigned_abs (d -ℤ pos 1) in
    let j : ℕ = unsigned_abs (e -ℤ pos 1) in
    let is_d : d ≡ pos (1 + i) = omega (arith, ints) in
    let is_e : e ≡ pos (1 + j) = omega (arith, ints) in
    weighed_dif n s i j some share
    (ap (λ z. z *ℤ dif (1 + i) 0 +ℤ dif s 0 *ℤ (dif (1 + j) 0 -ℤ dif (1 + i) 0)) (sym (as_dif n))
    ∙ ap (λ z. pos n *ℤ dif (1 + i) 0 +ℤ z *ℤ (dif (1 + j) 0 -ℤ dif (1 + i) 0)) (sym (as_dif s))
    ∙ ap (λ z. pos n *ℤ z +ℤ pos s *ℤ (dif (1 + j) 0 -ℤ z)) (sym (is_d ∙ as_dif (1 + i)))
    ∙ ap (λ z. pos n *ℤ d +ℤ pos s *ℤ (z -ℤ d)) (sym (is_e ∙ as_dif (1 + j)))
    ∙ sum)

-- the same below 0
weighed_down : (n s : ℕ) (d e : ℤ) → 1 ≤ n → s ≤ n → d <ℤ pos 0 → e <ℤ pos 0 → pos n *ℤ d +ℤ pos s *ℤ (e -ℤ d) ≡ pos 0 → ⊥
weighed_down n s d e some share hd he sum =
    let i : ℕ = unsigned_abs (d +ℤ pos 1) in
    let j : ℕ = unsigned_abs (e +ℤ pos 1) in
    let is_d : d ≡ negsuc i = omega (arith, ints) in
    let is_e : e ≡ negsuc j = omega (arith, ints) in
    weighed_dif_down n s i j some share
    (ap (λ z. z *ℤ dif 0 (1 + i) +ℤ dif s 0 *ℤ (dif 0 (1 + j) -ℤ dif 0 (1 + i))) (sym (as_dif n))
    ∙ ap (λ z. pos n *ℤ dif 0 (1 + i) +ℤ z *ℤ (dif 0 (1 + j) -ℤ dif 0 (1 + i))) (sym (as_dif s))
    ∙ ap (λ z. pos n *ℤ z +ℤ pos s *ℤ (dif 0 (1 + j) -ℤ z)) (sym (is_d ∙ as_neg i))
    ∙ ap (λ z. pos n *ℤ d +ℤ pos s *ℤ (z -ℤ d)) (sym (is_e ∙ as_neg j))
    ∙ sum)

-- the shares of two cross products add up to nothing
weighed : (n s : ℕ) (d e : ℤ) → 1 ≤ n → s ≤ n → pos n *ℤ d +ℤ pos s *ℤ (e -ℤ d) ≡ pos 0 → same_sign d e ≡ false
unfolding same_sign
weighed n s d e some share sum = neither _ (λ on. ⊎_elim
    (λ (up : (pos 0 <ℤ d) × (pos 0 <ℤ e)). weighed_up n s d e some share up.0 up.1 sum)
    (λ (down : (d <ℤ pos 0) × (e <ℤ pos 0)). weighed_down n s d e some share down.0 down.1 sum)
    (signs d e on))

-- a coordinate of the equation of two segments that meet, told by their vectors
from_start : (n s t p q a b : ℤ) → n *ℤ p +ℤ s *ℤ (q -ℤ p) ≡ n *ℤ a +ℤ t *ℤ (b -ℤ a) → n *ℤ (p -ℤ a) +ℤ s *ℤ (q -ℤ p) -ℤ t *ℤ (b -ℤ a) ≡ pos 0
from_start n s t p q a b same = let spread = dist n p a in omega (arith, ints)

nothing : (x y d e : ℤ) → d ≡ pos 0 → e ≡ pos 0 → x *ℤ d -ℤ y *ℤ e ≡ pos 0
nothing x y d e h k = ap (λ z. x *ℤ z -ℤ y *ℤ e) h ∙ ap (λ z. x *ℤ pos 0 -ℤ y *ℤ z) k ∙ ap (λ z. z -ℤ y *ℤ pos 0) (*ℤ-zero x) ∙ ap (λ z. pos 0 -ℤ z) (*ℤ-zero y)

behind : (p q a : ℤ) → q -ℤ a ≡ p -ℤ a +ℤ (q -ℤ p)
behind p q a = omega (arith, ints)

-- the cross product of the leg's far end, by the leg's vector
pub turn-behind : (p q a b : ℤ × ℤ) → turn a b q ≡ (b.0 -ℤ a.0) *ℤ (p.1 -ℤ a.1 +ℤ (q.1 -ℤ p.1)) -ℤ (b.1 -ℤ a.1) *ℤ (p.0 -ℤ a.0 +ℤ (q.0 -ℤ p.0))
turn-behind p q a b = ap (λ z. (b.0 -ℤ a.0) *ℤ z -ℤ (b.1 -ℤ a.1) *ℤ (q.0 -ℤ a.0)) (behind p.1 q.1 a.1) ∙ ap (λ z. (b.0 -ℤ a.0) *ℤ (p.1 -ℤ a.1 +ℤ (q.1 -ℤ p.1)) -ℤ (b.1 -ℤ a.1) *ℤ z) (behind p.0 q.0 a.0)

-- the leg's ends do not lie on one side of the edge's line
one_side-meet : (p q a b : ℤ × ℤ) → Meets p q a b → on_one_side a b p q ≡ false
one_side-meet p q a b m =
    let ux = q.0 -ℤ p.0 in
    let uy = q.1 -ℤ p.1 in
    let vx = b.0 -ℤ a.0 in
    let vy = b.1 -ℤ a.1 in
    let wx = p.0 -ℤ a.0 in
    let wy = p.1 -ℤ a.1 in
    let x = from_start (pos m.parts) (pos m.of_leg) (pos m.of_edge) p.0 q.0 a.0 b.0 m.latitude in
    let y = from_start (pos m.parts) (pos m.of_leg) (pos m.of_edge) p.1 q.1 a.1 b.1 m.longitude in
    let sum = side (pos m.parts) (pos m.of_leg) (pos m.of_edge) ux uy vx vy wx wy ∙ nothing vx vy _ _ y x in
    let last : turn a b q ≡ vx *ℤ (wy +ℤ uy) -ℤ vy *ℤ (wx +ℤ ux) = turn-behind p q a b in
    weighed m.parts m.of_leg (turn a b p) (turn a b q) m.some m.on_leg (ap (λ z. pos m.parts *ℤ turn a b p +ℤ pos m.of_leg *ℤ (z -ℤ turn a b p)) last ∙ sum)

Meets-swapped : (p q a b : ℤ × ℤ) → Meets p q a b → Meets a b p q
Meets-swapped p q a b m = record { parts = m.parts; of_leg = m.of_edge; of_edge = m.of_leg; some = m.some; on_leg = m.on_edge; on_edge = m.on_leg; latitude = sym m.latitude; longitude = sym m.longitude }

pub lines-meet : (p q a b : ℤ × ℤ) → Meets p q a b → lines_cross p q a b ≡ true
lines-meet p q a b m = ap (λ z. not z && not (on_one_side a b p q)) (one_side-meet a b p q (Meets-swapped p q a b m)) ∙ ap not (one_side-meet p q a b m)
