-- Bands in rising order, and which of them end below a latitude.
use Rattle.std.proofs.Common.{◌≡◌, ℕ, ◌+◌, ◌<◌, ◌≤◌, ℤ, ◌<ℤ◌, ◌≤ℤ◌, List, length, get_or, map, sym, ap, subst, ◌∙◌, arith, ⊎_elim, true, false}
use Rattle.std.specs.Prelude.{int_lt}
use Rattle.std.proofs.lemmas.List.{length-map, get_or-map, get_or_default}
use Rattle.std.proofs.lemmas.Bool.{cases_order}
use Rattle.std.proofs.lemmas.Int.{ints}
use Rattle.fence_polygon.specs.declared.band.Band.{Band}
use Rattle.fence_polygon.specs.Bands.{CutAt, range_of}
use Rattle.fence_polygon.specs.Marks.{InOrder}

-- an earlier band ends below a later one
pub InOrder-rise : (bands : List Band) (i j : ℕ) (d : Band) → InOrder bands → i < j → j < length bands → (get_or bands i d).to <ℤ (get_or bands j d).from
InOrder-rise bands i j d order lower within =
    let rise = order.rise i j (range_of d) lower (omega (arith, length-map bands range_of)) in
    let a : get_or (map range_of bands) i (range_of d) ≡ range_of (get_or bands i d) = get_or-map range_of bands i d (range_of d) (omega arith) in
    let b : get_or (map range_of bands) j (range_of d) ≡ range_of (get_or bands j d) = get_or-map range_of bands j d (range_of d) within in
    rw (a, b) at rise

-- and does not end above it
pub InOrder-ends : (bands : List Band) (i j : ℕ) (d : Band) → InOrder bands → i ≤ j → j < length bands → (get_or bands i d).to ≤ℤ (get_or bands j d).to
InOrder-ends bands i j d order lower within = ⊎_elim
    (λ same. subst (λ k. (get_or bands k d).to ≤ℤ (get_or bands j d).to) (sym same) (omega (arith, ints)))
    (λ other. ⊎_elim
    (λ less. let rise = InOrder-rise bands i j d order less within in let filled = order.filled j d within in omega (arith, ints))
    (λ more. absurd (omega arith))
    other)
    (cases_order i j)

test_true : (a b : ℤ) → int_lt a b ≡ true → a <ℤ b
test_true a b h = grind (arith, ints)

test_false : (a b : ℤ) → int_lt a b ≡ false → b ≤ℤ a
test_false a b h = grind (arith, ints)

-- the middle band ends below the latitude, and so do those before it
pub below-more : (bands : List Band) (x : ℤ) (middle : ℕ) (d : Band) → InOrder bands → middle < length bands → int_lt (get_or bands middle d).to x ≡ true → (k : ℕ) (e : Band) → k < middle + 1 → (get_or bands k e).to <ℤ x
below-more bands x middle d order within less k e lower =
    let ends = InOrder-ends bands k middle e order (omega arith) within in
    let less' : (get_or bands middle e).to <ℤ x = test_true _ _ (sym (ap (λ (band : Band). int_lt band.to x) (get_or_default bands middle d e within)) ∙ less) in
    omega (arith, ints)

-- the middle band does not end below the latitude, nor does any behind it
pub from-more : (bands : List Band) (x : ℤ) (middle : ℕ) (d : Band) → InOrder bands → middle < length bands → int_lt (get_or bands middle d).to x ≡ false → (k : ℕ) (e : Band) → middle ≤ k → k < length bands → x ≤ℤ (get_or bands k e).to
from-more bands x middle d order within more k e lower inside =
    let ends = InOrder-ends bands middle k e order lower inside in
    let more' : x ≤ℤ (get_or bands middle e).to = test_false _ _ (sym (ap (λ (band : Band). int_lt band.to x) (get_or_default bands middle d e within)) ∙ more) in
    omega (arith, ints)

-- the bands of a cut are in order
pub InOrder-cut : (xs : List ℤ) (bands : List Band) → CutAt xs (map range_of bands) → InOrder bands
InOrder-cut xs bands cut = record {
  filled = λ k d within.
      let at : get_or (map range_of bands) k (range_of d) ≡ range_of (get_or bands k d) = get_or-map range_of bands k d (range_of d) within in
      subst (λ (range : ℤ × ℤ). range.0 ≤ℤ range.1) at (cut.filled k (range_of d) (omega (arith, length-map bands range_of)));
  rise = cut.rise;
}
