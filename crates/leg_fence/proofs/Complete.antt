-- Segments whose ranges overlap and whose lines cross meet.
use Rattle.std.proofs.Common.{◌≡◌, ◌≢◌, ℕ, zero, suc, ◌≤◌, ◌⊎◌, ℤ, pos, ◌+ℤ◌, ◌-ℤ◌, ◌*ℤ◌, ◌<ℤ◌, ◌≤ℤ◌, Bool, true, false, not, refl, sym, ap, ◌∙◌, arith, inl, inr, ⊎_elim}
use Rattle.std.specs.Prelude.{unsigned_abs, int_le, ◌&&◌}
use Rattle.std.specs.Int.{int_min, int_max}
use Rattle.std.proofs.lemmas.Int.{ints, by_lt_z}
use Rattle.std.proofs.Math.IntN.{*ℤ-zero, zero-*ℤ, *ℤ_comm}
use Rattle.fence_polygon.specs.Turn.{turn}
use Rattle.leg_fence.specs.Crossing.{overlap, same_sign, on_one_side, boxes_overlap, lines_cross}
use Rattle.leg_fence.specs.Meets.{Meets}
use Rattle.leg_fence.proofs.Products.{dist, negated, between, swapped, meeting, meeting_y}
use Rattle.leg_fence.proofs.Sound.{turn-behind}

-- the number is in the range that these two span
abbrev pub InSpan : ℤ → ℤ → ℤ → Type 0
InSpan r a b = ((a ≤ℤ r) × (r ≤ℤ b)) ⊎ ((b ≤ℤ r) × (r ≤ℤ a))

-- the place is, of a segment cut into parts, the one behind so many of them
pub record On (r a b : ℤ × ℤ) : Type 0 where
  pub parts : ℕ
  pub at : ℕ
  pub some : 1 ≤ parts
  pub within : at ≤ parts
  pub latitude : pos parts *ℤ (r.0 -ℤ a.0) ≡ pos at *ℤ (b.0 -ℤ a.0)
  pub longitude : pos parts *ℤ (r.1 -ℤ a.1) ≡ pos at *ℤ (b.1 -ℤ a.1)

apart_zero : (x y : ℤ) → x -ℤ y ≡ pos 0 → x ≡ y
apart_zero x y h = omega (arith, ints)

apart_some : (a b : ℤ) → a ≢ b → (n : ℕ) → pos n ≡ b -ℤ a → 1 ≤ n
apart_some a b differ zero h = absurd (differ (omega (arith, ints)))
apart_some a b differ (suc n) h = omega arith

apart_some_down : (a b : ℤ) → a ≢ b → (n : ℕ) → pos n ≡ pos 0 -ℤ (b -ℤ a) → 1 ≤ n
apart_some_down a b differ zero h = absurd (differ (omega (arith, ints)))
apart_some_down a b differ (suc n) h = omega arith

share_up : (n t r a b : ℤ) → n ≡ b -ℤ a → t ≡ r -ℤ a → n *ℤ (r -ℤ a) ≡ t *ℤ (b -ℤ a)
share_up n t r a b hn ht = ap (λ z. z *ℤ (r -ℤ a)) hn ∙ *ℤ_comm (b -ℤ a) (r -ℤ a) ∙ ap (λ z. z *ℤ (b -ℤ a)) (sym ht)

cross_up : (n t vx vy wx wy : ℤ) → n ≡ vx → t ≡ wx → vx *ℤ wy -ℤ vy *ℤ wx ≡ pos 0 → n *ℤ wy ≡ t *ℤ vy
cross_up n t vx vy wx wy hn ht line = ap (λ z. z *ℤ wy) hn ∙ apart_zero (vx *ℤ wy) (vy *ℤ wx) line ∙ *ℤ_comm vy wx ∙ ap (λ z. z *ℤ vy) (sym ht)

cross_down : (n t vx vy wx wy : ℤ) → n ≡ pos 0 -ℤ vx → t ≡ pos 0 -ℤ wx → vx *ℤ wy -ℤ vy *ℤ wx ≡ pos 0 → n *ℤ wy ≡ t *ℤ vy
cross_down n t vx vy wx wy hn ht line =
    ap (λ z. z *ℤ wy) hn ∙ negated vx wy ∙ ap (λ z. pos 0 -ℤ z) (apart_zero (vx *ℤ wy) (vy *ℤ wx) line ∙ *ℤ_comm vy wx) ∙ sym (negated wx vy) ∙ ap (λ z. z *ℤ vy) (sym ht)

line_itself : (v w : ℤ) → v *ℤ w -ℤ v *ℤ w ≡ pos 0
line_itself v w = omega (arith, ints)

-- a place on the segment's line whose latitude is in its range
On-latitude : (r a b : ℤ × ℤ) → a.0 ≢ b.0 → InSpan r.0 a.0 b.0 → turn a b r ≡ pos 0 → On r a b
On-latitude r a b differ span line = ⊎_elim
    (λ (up : (a.0 ≤ℤ r.0) × (r.0 ≤ℤ b.0)).
    let n : ℕ = unsigned_abs (b.0 -ℤ a.0) in
    let t : ℕ = unsigned_abs (r.0 -ℤ a.0) in
    let is_n : pos n ≡ b.0 -ℤ a.0 = omega (arith, ints, up.0, up.1) in
    let is_t : pos t ≡ r.0 -ℤ a.0 = omega (arith, ints, up.0, up.1) in
    record {
      parts = n;
      at = t;
      some = apart_some a.0 b.0 differ n is_n;
      within = omega (arith, ints, up.0, up.1, is_n, is_t);
      latitude = share_up (pos n) (pos t) r.0 a.0 b.0 is_n is_t;
      longitude = cross_up (pos n) (pos t) (b.0 -ℤ a.0) (b.1 -ℤ a.1) (r.0 -ℤ a.0) (r.1 -ℤ a.1) is_n is_t line;
    })
    (λ (down : (b.0 ≤ℤ r.0) × (r.0 ≤ℤ a.0)).
    let n : ℕ = unsigned_abs (b.0 -ℤ a.0) in
    let t : ℕ = unsigned_abs (r.0 -ℤ a.0) in
    let is_n : pos n ≡ pos 0 -ℤ (b.0 -ℤ a.0) = omega (arith, ints, down.0, down.1) in
    let is_t : pos t ≡ pos 0 -ℤ (r.0 -ℤ a.0) = omega (arith, ints, down.0, down.1) in
    record {
      parts = n;
      at = t;
      some = apart_some_down a.0 b.0 differ n is_n;
      within = omega (arith, ints, down.0, down.1, is_n, is_t);
      latitude = cross_down (pos n) (pos t) (b.0 -ℤ a.0) (b.0 -ℤ a.0) (r.0 -ℤ a.0) (r.0 -ℤ a.0) is_n is_t (line_itself (b.0 -ℤ a.0) (r.0 -ℤ a.0));
      longitude = cross_down (pos n) (pos t) (b.0 -ℤ a.0) (b.1 -ℤ a.1) (r.0 -ℤ a.0) (r.1 -ℤ a.1) is_n is_t line;
    })
    span

-- the same by its longitude
On-longitude : (r a b : ℤ × ℤ) → a.1 ≢ b.1 → InSpan r.1 a.1 b.1 → turn a b r ≡ pos 0 → On r a b
On-longitude r a b differ span line =
    let other : turn (a.1, a.0) (b.1, b.0) (r.1, r.0) ≡ pos 0 = omega (arith, ints, line) in
    let on = On-latitude (r.1, r.0) (a.1, a.0) (b.1, b.0) differ span other in
    record { parts = on.parts; at = on.at; some = on.some; within = on.within; latitude = on.longitude; longitude = on.latitude }

first_on : (n t p q a b : ℤ) → n *ℤ (p -ℤ a) ≡ t *ℤ (b -ℤ a) → n *ℤ p +ℤ pos 0 *ℤ (q -ℤ p) ≡ n *ℤ a +ℤ t *ℤ (b -ℤ a)
first_on n t p q a b h = let spread = dist n p a in let none = zero-*ℤ (q -ℤ p) in omega (arith, ints)

last_on : (n t p q a b : ℤ) → n *ℤ (q -ℤ a) ≡ t *ℤ (b -ℤ a) → n *ℤ p +ℤ n *ℤ (q -ℤ p) ≡ n *ℤ a +ℤ t *ℤ (b -ℤ a)
last_on n t p q a b h = let far = dist n q a in let along = dist n q p in omega (arith, ints)

-- an end of the leg on the edge
Meets-first : (p q a b : ℤ × ℤ) → On p a b → Meets p q a b
Meets-first p q a b on = record {
  parts = on.parts;
  of_leg = 0;
  of_edge = on.at;
  some = on.some;
  on_leg = omega arith;
  on_edge = on.within;
  latitude = first_on (pos on.parts) (pos on.at) p.0 q.0 a.0 b.0 on.latitude;
  longitude = first_on (pos on.parts) (pos on.at) p.1 q.1 a.1 b.1 on.longitude;
}

Meets-last : (p q a b : ℤ × ℤ) → On q a b → Meets p q a b
Meets-last p q a b on = record {
  parts = on.parts;
  of_leg = on.parts;
  of_edge = on.at;
  some = on.some;
  on_leg = omega arith;
  on_edge = on.within;
  latitude = last_on (pos on.parts) (pos on.at) p.0 q.0 a.0 b.0 on.latitude;
  longitude = last_on (pos on.parts) (pos on.at) p.1 q.1 a.1 b.1 on.longitude;
}

-- an end of the edge on the leg
Meets-edge : (p q a b : ℤ × ℤ) → On a p q → Meets p q a b
Meets-edge p q a b on = record {
  parts = on.parts;
  of_leg = on.at;
  of_edge = 0;
  some = on.some;
  on_leg = on.within;
  on_edge = omega arith;
  latitude = sym (first_on (pos on.parts) (pos on.at) a.0 b.0 p.0 q.0 on.latitude);
  longitude = sym (first_on (pos on.parts) (pos on.at) a.1 b.1 p.1 q.1 on.longitude);
}

overlap_low : (p q a b : ℤ) → (int_le (int_min p q) (int_max a b) && int_le (int_min a b) (int_max p q)) ≡ true → a <ℤ p → b ≤ℤ p → a <ℤ q → b <ℤ q → InSpan p a b
overlap_low p q a b h ap bp aq bq = inl (grind (arith, ints), grind (arith, ints))

overlap_high : (p q a b : ℤ) → (int_le (int_min p q) (int_max a b) && int_le (int_min a b) (int_max p q)) ≡ true → p ≤ℤ a → p ≤ℤ b → q <ℤ a → q <ℤ b → InSpan p a b
overlap_high p q a b h pa pb qa qb = by_lt_z a b (λ ab. inl (grind (arith, ints), grind (arith, ints))) (λ ba. inr (grind (arith, ints), grind (arith, ints)))

-- p is above both a and b
reach_below : (p q a b : ℤ) → (int_le (int_min p q) (int_max a b) && int_le (int_min a b) (int_max p q)) ≡ true → a <ℤ p → b ≤ℤ p → (InSpan p a b ⊎ InSpan q a b) ⊎ InSpan a p q
reach_below p q a b h ap bp = by_lt_z a q
    (λ aq. by_lt_z b q
    (λ bq. inl (inl (overlap_low p q a b h ap bp aq bq)))
    (λ qb. inl (inr (inl (omega (arith, ints), qb)))))
    (λ qa. inr (inr (qa, omega (arith, ints))))

-- p is below both
reach_above : (p q a b : ℤ) → (int_le (int_min p q) (int_max a b) && int_le (int_min a b) (int_max p q)) ≡ true → p ≤ℤ a → p ≤ℤ b → (InSpan p a b ⊎ InSpan q a b) ⊎ InSpan a p q
reach_above p q a b h pa pb = by_lt_z q a
    (λ qa. by_lt_z q b
    (λ qb. inl (inl (overlap_high p q a b h pa pb qa qb)))
    (λ bq. inl (inr (inr (bq, omega (arith, ints))))))
    (λ aq. inr (inl (pa, aq)))

-- two overlapping ranges: an end of one is in the other
reach : (p q a b : ℤ) → overlap p q a b ≡ true → (InSpan p a b ⊎ InSpan q a b) ⊎ InSpan a p q
unfolding overlap
reach p q a b h = by_lt_z a p
    (λ ap. by_lt_z p b (λ pb. inl (inl (inl (omega (arith, ints), omega (arith, ints))))) (λ bp. reach_below p q a b h ap bp))
    (λ pa. by_lt_z b p (λ bp. inl (inl (inr (omega (arith, ints), pa)))) (λ pb. reach_above p q a b h pa pb))

pub cases_int : (a b : ℤ) → (a ≡ b) ⊎ (a ≢ b)
cases_int a b = by_lt_z a b (λ less. inr (λ same. omega (arith, ints))) (λ from. by_lt_z b a (λ more. inr (λ same. omega (arith, ints))) (λ upto. inl (omega (arith, ints))))

-- an end of its own is in a range
span-first : (r a b : ℤ) → r ≡ a → InSpan r a b
span-first r a b is = by_lt_z a b (λ up. inl (omega (arith, ints), omega (arith, ints))) (λ down. inr (omega (arith, ints), omega (arith, ints)))

span-last : (r a b : ℤ) → r ≡ b → InSpan r a b
span-last r a b is = by_lt_z a b (λ up. inl (omega (arith, ints), omega (arith, ints))) (λ down. inr (omega (arith, ints), omega (arith, ints)))

-- a range of one number holds that alone
span-one : (r a b : ℤ) → a ≡ b → InSpan r a b → r ≡ a
span-one r a b same span = ⊎_elim (λ (up : (a ≤ℤ r) × (r ≤ℤ b)). omega (arith, ints, up.0, up.1)) (λ (down : (b ≤ℤ r) × (r ≤ℤ a)). omega (arith, ints, down.0, down.1)) span

-- of two overlapping ranges that are not both one number: an end of one is in the other, which is no single number
pick : (p q a b : ℤ) → overlap p q a b ≡ true → (a ≢ b) ⊎ (p ≢ q) → ((a ≢ b) × (InSpan p a b ⊎ InSpan q a b)) ⊎ ((p ≢ q) × InSpan a p q)
pick p q a b h wide = ⊎_elim
    (λ (same : a ≡ b). ⊎_elim
    (λ (none : a ≢ b). absurd (none same))
    (λ (other : p ≢ q). inr (
      other,
      ⊎_elim
          (λ (ends : InSpan p a b ⊎ InSpan q a b). ⊎_elim
          (λ (first : InSpan p a b). span-first a p q (sym (span-one p a b same first)))
          (λ (last : InSpan q a b). span-last a p q (sym (span-one q a b same last)))
          ends)
          (λ (edge : InSpan a p q). edge)
          (reach p q a b h),
    ))
    wide)
    (λ (differ : a ≢ b). ⊎_elim
    (λ (ends : InSpan p a b ⊎ InSpan q a b). inl (differ, ends))
    (λ (edge : InSpan a p q). ⊎_elim
    (λ (one : p ≡ q). inl (differ, inl (span-first p a b (sym (span-one a p q one edge)))))
    (λ (two : p ≢ q). inr (two, edge))
    (cases_int p q))
    (reach p q a b h))
    (cases_int a b)

-- segments on one line, whose latitudes overlap and are not all one
line-latitude : (p q a b : ℤ × ℤ) → overlap p.0 q.0 a.0 b.0 ≡ true → (a.0 ≢ b.0) ⊎ (p.0 ≢ q.0) → turn a b p ≡ pos 0 → turn a b q ≡ pos 0 → turn p q a ≡ pos 0 → Meets p q a b
line-latitude p q a b h wide first last edge = ⊎_elim
    (λ (on : (a.0 ≢ b.0) × (InSpan p.0 a.0 b.0 ⊎ InSpan q.0 a.0 b.0)). ⊎_elim
    (λ (span : InSpan p.0 a.0 b.0). Meets-first p q a b (On-latitude p a b on.0 span first))
    (λ (span : InSpan q.0 a.0 b.0). Meets-last p q a b (On-latitude q a b on.0 span last))
    on.1)
    (λ (on : (p.0 ≢ q.0) × InSpan a.0 p.0 q.0). Meets-edge p q a b (On-latitude a p q on.0 on.1 edge))
    (pick p.0 q.0 a.0 b.0 h wide)

line-longitude : (p q a b : ℤ × ℤ) → overlap p.1 q.1 a.1 b.1 ≡ true → (a.1 ≢ b.1) ⊎ (p.1 ≢ q.1) → turn a b p ≡ pos 0 → turn a b q ≡ pos 0 → turn p q a ≡ pos 0 → Meets p q a b
line-longitude p q a b h wide first last edge = ⊎_elim
    (λ (on : (a.1 ≢ b.1) × (InSpan p.1 a.1 b.1 ⊎ InSpan q.1 a.1 b.1)). ⊎_elim
    (λ (span : InSpan p.1 a.1 b.1). Meets-first p q a b (On-longitude p a b on.0 span first))
    (λ (span : InSpan q.1 a.1 b.1). Meets-last p q a b (On-longitude q a b on.0 span last))
    on.1)
    (λ (on : (p.1 ≢ q.1) × InSpan a.1 p.1 q.1). Meets-edge p q a b (On-longitude a p q on.0 on.1 edge))
    (pick p.1 q.1 a.1 b.1 h wide)

single : (p q a b : ℤ) → overlap p q a b ≡ true → a ≡ b → p ≡ q → p ≡ a
unfolding overlap
single p q a b h e g = grind (arith, ints)

no_way : (p a b : ℤ) → p ≡ a → pos 1 *ℤ (p -ℤ a) ≡ pos 0 *ℤ (b -ℤ a)
no_way p a b is = let none : p -ℤ a ≡ pos 0 = omega (arith, ints) in ap (λ z. pos 1 *ℤ z) none ∙ *ℤ-zero (pos 1) ∙ sym (zero-*ℤ (b -ℤ a))

-- both segments are one place
line-single : (p q a b : ℤ × ℤ) → p.0 ≡ a.0 → p.1 ≡ a.1 → Meets p q a b
line-single p q a b x y = Meets-first p q a b (record { parts = 1; at = 0; some = omega arith; within = omega arith; latitude = no_way p.0 a.0 b.0 x; longitude = no_way p.1 a.1 b.1 y })

-- segments on one line
line-meet : (p q a b : ℤ × ℤ) → overlap p.0 q.0 a.0 b.0 ≡ true → overlap p.1 q.1 a.1 b.1 ≡ true → turn a b p ≡ pos 0 → turn a b q ≡ pos 0 → turn p q a ≡ pos 0 → Meets p q a b
line-meet p q a b x y first last edge = ⊎_elim
    (λ (a0 : a.0 ≡ b.0). ⊎_elim
    (λ (p0 : p.0 ≡ q.0). ⊎_elim
    (λ (a1 : a.1 ≡ b.1). ⊎_elim
    (λ (p1 : p.1 ≡ q.1). line-single p q a b (single p.0 q.0 a.0 b.0 x a0 p0) (single p.1 q.1 a.1 b.1 y a1 p1))
    (λ (p1 : p.1 ≢ q.1). line-longitude p q a b y (inr p1) first last edge)
    (cases_int p.1 q.1))
    (λ (a1 : a.1 ≢ b.1). line-longitude p q a b y (inl a1) first last edge)
    (cases_int a.1 b.1))
    (λ (p0 : p.0 ≢ q.0). line-latitude p q a b x (inr p0) first last edge)
    (cases_int p.0 q.0))
    (λ (a0 : a.0 ≢ b.0). line-latitude p q a b x (inl a0) first last edge)
    (cases_int a.0 b.0)

-- how far the cross products of the leg's ends are apart
leg-apart : (p q a b : ℤ × ℤ) → turn a b p -ℤ turn a b q ≡ (q.0 -ℤ p.0) *ℤ (b.1 -ℤ a.1) -ℤ (q.1 -ℤ p.1) *ℤ (b.0 -ℤ a.0)
leg-apart p q a b = ap (λ z. turn a b p -ℤ z) (turn-behind p q a b) ∙ between (q.0 -ℤ p.0) (q.1 -ℤ p.1) (b.0 -ℤ a.0) (b.1 -ℤ a.1) (p.0 -ℤ a.0) (p.1 -ℤ a.1)

-- those of the edge's ends are as far apart, the other way round
both-apart : (p q a b : ℤ × ℤ) → turn a b p -ℤ turn a b q +ℤ (turn p q a -ℤ turn p q b) ≡ pos 0
both-apart p q a b = ap (λ z. z +ℤ (turn p q a -ℤ turn p q b)) (leg-apart p q a b) ∙ ap (λ z. (q.0 -ℤ p.0) *ℤ (b.1 -ℤ a.1) -ℤ (q.1 -ℤ p.1) *ℤ (b.0 -ℤ a.0) +ℤ z) (leg-apart a b p q) ∙ swapped (q.0 -ℤ p.0) (q.1 -ℤ p.1) (b.0 -ℤ a.0) (b.1 -ℤ a.1)

back : (p a : ℤ) → a -ℤ p ≡ pos 0 -ℤ (p -ℤ a)
back p a = omega (arith, ints)

turn-back : (p q a : ℤ × ℤ) → turn p q a ≡ (q.0 -ℤ p.0) *ℤ (pos 0 -ℤ (p.1 -ℤ a.1)) -ℤ (q.1 -ℤ p.1) *ℤ (pos 0 -ℤ (p.0 -ℤ a.0))
turn-back p q a = ap (λ z. (q.0 -ℤ p.0) *ℤ z -ℤ (q.1 -ℤ p.1) *ℤ (a.0 -ℤ p.0)) (back p.1 a.1) ∙ ap (λ z. (q.0 -ℤ p.0) *ℤ (pos 0 -ℤ (p.1 -ℤ a.1)) -ℤ (q.1 -ℤ p.1) *ℤ z) (back p.0 a.0)

-- where the lines meet, in both coordinates
crossing-latitude : (p q a b : ℤ × ℤ) → (turn a b p -ℤ turn a b q) *ℤ (p.0 -ℤ a.0) +ℤ turn a b p *ℤ (q.0 -ℤ p.0) +ℤ turn p q a *ℤ (b.0 -ℤ a.0) ≡ pos 0
crossing-latitude p q a b = ap (λ z. z *ℤ (p.0 -ℤ a.0) +ℤ turn a b p *ℤ (q.0 -ℤ p.0) +ℤ turn p q a *ℤ (b.0 -ℤ a.0)) (leg-apart p q a b) ∙ ap (λ z. ((q.0 -ℤ p.0) *ℤ (b.1 -ℤ a.1) -ℤ (q.1 -ℤ p.1) *ℤ (b.0 -ℤ a.0)) *ℤ (p.0 -ℤ a.0) +ℤ turn a b p *ℤ (q.0 -ℤ p.0) +ℤ z *ℤ (b.0 -ℤ a.0)) (turn-back p q a) ∙ meeting (q.0 -ℤ p.0) (q.1 -ℤ p.1) (b.0 -ℤ a.0) (b.1 -ℤ a.1) (p.0 -ℤ a.0) (p.1 -ℤ a.1)

crossing-longitude : (p q a b : ℤ × ℤ) → (turn a b p -ℤ turn a b q) *ℤ (p.1 -ℤ a.1) +ℤ turn a b p *ℤ (q.1 -ℤ p.1) +ℤ turn p q a *ℤ (b.1 -ℤ a.1) ≡ pos 0
crossing-longitude p q a b = ap (λ z. z *ℤ (p.1 -ℤ a.1) +ℤ turn a b p *ℤ (q.1 -ℤ p.1) +ℤ turn p q a *ℤ (b.1 -ℤ a.1)) (leg-apart p q a b) ∙ ap (λ z. ((q.0 -ℤ p.0) *ℤ (b.1 -ℤ a.1) -ℤ (q.1 -ℤ p.1) *ℤ (b.0 -ℤ a.0)) *ℤ (p.1 -ℤ a.1) +ℤ turn a b p *ℤ (q.1 -ℤ p.1) +ℤ z *ℤ (b.1 -ℤ a.1)) (turn-back p q a) ∙ meeting_y (q.0 -ℤ p.0) (q.1 -ℤ p.1) (b.0 -ℤ a.0) (b.1 -ℤ a.1) (p.0 -ℤ a.0) (p.1 -ℤ a.1)

-- shares of the leg and of the edge, by cross products of which the first is above the second, or below it
share-up : (n s t e d c p q a b : ℤ) → n ≡ e → s ≡ d → t ≡ pos 0 -ℤ c → e *ℤ (p -ℤ a) +ℤ d *ℤ (q -ℤ p) +ℤ c *ℤ (b -ℤ a) ≡ pos 0 → n *ℤ p +ℤ s *ℤ (q -ℤ p) ≡ n *ℤ a +ℤ t *ℤ (b -ℤ a)
share-up n s t e d c p q a b hn hs ht h =
    let first : n *ℤ (p -ℤ a) ≡ e *ℤ (p -ℤ a) = ap (λ z. z *ℤ (p -ℤ a)) hn in
    let second : s *ℤ (q -ℤ p) ≡ d *ℤ (q -ℤ p) = ap (λ z. z *ℤ (q -ℤ p)) hs in
    let third : t *ℤ (b -ℤ a) ≡ pos 0 -ℤ c *ℤ (b -ℤ a) = ap (λ z. z *ℤ (b -ℤ a)) ht ∙ negated c (b -ℤ a) in
    let spread = dist n p a in
    omega (arith, ints)

share-down : (n s t e d c p q a b : ℤ) → n ≡ pos 0 -ℤ e → s ≡ pos 0 -ℤ d → t ≡ c → e *ℤ (p -ℤ a) +ℤ d *ℤ (q -ℤ p) +ℤ c *ℤ (b -ℤ a) ≡ pos 0 → n *ℤ p +ℤ s *ℤ (q -ℤ p) ≡ n *ℤ a +ℤ t *ℤ (b -ℤ a)
share-down n s t e d c p q a b hn hs ht h =
    let first : n *ℤ (p -ℤ a) ≡ pos 0 -ℤ e *ℤ (p -ℤ a) = ap (λ z. z *ℤ (p -ℤ a)) hn ∙ negated e (p -ℤ a) in
    let second : s *ℤ (q -ℤ p) ≡ pos 0 -ℤ d *ℤ (q -ℤ p) = ap (λ z. z *ℤ (q -ℤ p)) hs ∙ negated d (q -ℤ p) in
    let third : t *ℤ (b -ℤ a) ≡ c *ℤ (b -ℤ a) = ap (λ z. z *ℤ (b -ℤ a)) ht in
    let spread = dist n p a in
    omega (arith, ints)

-- two numbers that are not of one sign, the first above the second
straddle : (d e : ℤ) → same_sign d e ≡ false → e <ℤ d → (pos 0 ≤ℤ d) × (e ≤ℤ pos 0)
unfolding same_sign
straddle d e h less = (grind (arith, ints), grind (arith, ints))

straddle_down : (d e : ℤ) → same_sign d e ≡ false → d <ℤ e → (d ≤ℤ pos 0) × (pos 0 ≤ℤ e)
unfolding same_sign
straddle_down d e h less = (grind (arith, ints), grind (arith, ints))

alike : (d e : ℤ) → same_sign d e ≡ false → d ≡ e → d ≡ pos 0
unfolding same_sign
alike d e h same = grind (arith, ints)

Meets-up : (p q a b : ℤ × ℤ) → on_one_side p q a b ≡ false → on_one_side a b p q ≡ false → turn a b q <ℤ turn a b p → Meets p q a b
Meets-up p q a b edge leg above =
    let d = turn a b p in
    let d' = turn a b q in
    let c = turn p q a in
    let c' = turn p q b in
    let sum : d -ℤ d' +ℤ (c -ℤ c') ≡ pos 0 = both-apart p q a b in
    let less : c <ℤ c' = omega (arith, ints) in
    let signs = straddle d d' leg above in
    let others = straddle_down c c' edge less in
    let is_n : pos (unsigned_abs (d -ℤ d')) ≡ d -ℤ d' = omega (arith, ints) in
    let is_s : pos (unsigned_abs d) ≡ d = omega (arith, ints, signs.0) in
    let is_t : pos (unsigned_abs c) ≡ pos 0 -ℤ c = omega (arith, ints, others.0) in
    record {
      parts = unsigned_abs (d -ℤ d');
      of_leg = unsigned_abs d;
      of_edge = unsigned_abs c;
      some = omega (arith, ints);
      on_leg = omega (arith, ints, signs.0, signs.1, is_n, is_s);
      on_edge = omega (arith, ints, others.0, others.1, is_n, is_t, sum);
      latitude = share-up (pos (unsigned_abs (d -ℤ d'))) (pos (unsigned_abs d)) (pos (unsigned_abs c)) (d -ℤ d') d c p.0 q.0 a.0 b.0 is_n is_s is_t (crossing-latitude p q a b);
      longitude = share-up (pos (unsigned_abs (d -ℤ d'))) (pos (unsigned_abs d)) (pos (unsigned_abs c)) (d -ℤ d') d c p.1 q.1 a.1 b.1 is_n is_s is_t (crossing-longitude p q a b);
    }

Meets-down : (p q a b : ℤ × ℤ) → on_one_side p q a b ≡ false → on_one_side a b p q ≡ false → turn a b p <ℤ turn a b q → Meets p q a b
Meets-down p q a b edge leg below =
    let d = turn a b p in
    let d' = turn a b q in
    let c = turn p q a in
    let c' = turn p q b in
    let sum : d -ℤ d' +ℤ (c -ℤ c') ≡ pos 0 = both-apart p q a b in
    let more : c' <ℤ c = omega (arith, ints) in
    let signs = straddle_down d d' leg below in
    let others = straddle c c' edge more in
    let is_n : pos (unsigned_abs (d -ℤ d')) ≡ pos 0 -ℤ (d -ℤ d') = omega (arith, ints) in
    let is_s : pos (unsigned_abs d) ≡ pos 0 -ℤ d = omega (arith, ints, signs.0) in
    let is_t : pos (unsigned_abs c) ≡ c = omega (arith, ints, others.0) in
    record {
      parts = unsigned_abs (d -ℤ d');
      of_leg = unsigned_abs d;
      of_edge = unsigned_abs c;
      some = omega (arith, ints);
      on_leg = omega (arith, ints, signs.0, signs.1, is_n, is_s);
      on_edge = omega (arith, ints, others.0, others.1, is_n, is_t, sum);
      latitude = share-down (pos (unsigned_abs (d -ℤ d'))) (pos (unsigned_abs d)) (pos (unsigned_abs c)) (d -ℤ d') d c p.0 q.0 a.0 b.0 is_n is_s is_t (crossing-latitude p q a b);
      longitude = share-down (pos (unsigned_abs (d -ℤ d'))) (pos (unsigned_abs d)) (pos (unsigned_abs c)) (d -ℤ d') d c p.1 q.1 a.1 b.1 is_n is_s is_t (crossing-longitude p q a b);
    }

Meets-level : (p q a b : ℤ × ℤ) → overlap p.0 q.0 a.0 b.0 ≡ true → overlap p.1 q.1 a.1 b.1 ≡ true → on_one_side p q a b ≡ false → on_one_side a b p q ≡ false → turn a b p ≡ turn a b q → Meets p q a b
Meets-level p q a b x y edge leg same =
    let sum : turn a b p -ℤ turn a b q +ℤ (turn p q a -ℤ turn p q b) ≡ pos 0 = both-apart p q a b in
    let others : turn p q a ≡ turn p q b = omega (arith, ints) in
    let first : turn a b p ≡ pos 0 = alike (turn a b p) (turn a b q) leg same in
    line-meet p q a b x y first (sym same ∙ first) (alike (turn p q a) (turn p q b) edge others)

antisym : (d e : ℤ) → d ≤ℤ e → e ≤ℤ d → d ≡ e
antisym d e h g = omega (arith, ints)

both : (a b : Bool) → (a && b) ≡ true → (a ≡ true) × (b ≡ true)
both true b h = (refl, h)
both false b h = absurd cc

not_true : (a : Bool) → not a ≡ true → a ≡ false
not_true true h = absurd cc
not_true false h = refl

pub Meets-crossing : (p q a b : ℤ × ℤ) → boxes_overlap p q a b ≡ true → lines_cross p q a b ≡ true → Meets p q a b
Meets-crossing p q a b boxes lines =
    let box = both (overlap p.0 q.0 a.0 b.0) (overlap p.1 q.1 a.1 b.1) boxes in
    let line = both (not (on_one_side p q a b)) (not (on_one_side a b p q)) lines in
    let edge = not_true (on_one_side p q a b) line.0 in
    let leg = not_true (on_one_side a b p q) line.1 in
    by_lt_z (turn a b q) (turn a b p)
    (λ above. Meets-up p q a b edge leg above)
    (λ upto. by_lt_z (turn a b p) (turn a b q)
    (λ below. Meets-down p q a b edge leg below)
    (λ from. Meets-level p q a b box.0 box.1 edge leg (antisym (turn a b p) (turn a b q) upto from)))
