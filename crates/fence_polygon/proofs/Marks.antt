-- Bits put into the bands of a list, one after the other.
use Rattle.std.proofs.Common.{◌≡◌, ℕ, ◌+◌, ◌<◌, ◌≤◌, ℤ, ◌<ℤ◌, Bool, true, false, cond, ◌&&◌, List, [], ◌∷◌, ◌++◌, length, get_or, map, take, drop, set, refl, sym, ap, subst, ◌∙◌, arith, ⊎_elim}
use Rattle.std.specs.Prelude.{int_le, bit_or}
use Rattle.std.specs.List.{All}
use Rattle.std.proofs.lemmas.List.{length-map, length-append, map-append, take-append-drop, map_more, drop_more, append_assoc, set_at, get_or_default, get_or-take, get_or-drop, length-drop, length-take, get_or_at}
use Rattle.std.proofs.lemmas.List.Folds.{map_fixed}
use Rattle.std.proofs.lemmas.Bool.{cases_order}
use Rattle.std.proofs.lemmas.Int.{ints}
use Rattle.fence_polygon.specs.declared.band.Band.{Band}
use Rattle.fence_polygon.specs.Marks.{InOrder, with_bit}
use Rattle.fence_polygon.proofs.Order.{InOrder-rise}

-- the first bands have the bit put into them, so many
abbrev pub put_upto : ℤ → ℤ → ℕ → ℕ → List Band → List Band
put_upto low high bit at bands = map (with_bit low high bit) (take at bands) ++ drop at bands

le_test : (a b : ℤ) → b <ℤ a → int_le a b ≡ false
le_test a b h = grind (arith, ints)

le_fails : (a b : ℤ) → int_le a b ≡ false → b <ℤ a
le_fails a b h = grind (arith, ints)

and_false : (b : Bool) → (b && false) ≡ false
and_false true = refl
and_false false = refl

kept : (b : Bool) (changed band : Band) → b ≡ false → cond b changed band ≡ band
kept true changed band h = absurd cc
kept false changed band h = refl

-- a band that begins below or above the range is as it was
with_bit-below : (low high : ℤ) (bit : ℕ) (band : Band) → band.from <ℤ low → with_bit low high bit band ≡ band
unfolding with_bit
with_bit-below low high bit band h = kept (int_le low band.from && int_le band.from high) (record band { edges = bit_or band.edges bit }) band (ap (λ b. b && int_le band.from high) (le_test low band.from h))

with_bit-above : (low high : ℤ) (bit : ℕ) (band : Band) → high <ℤ band.from → with_bit low high bit band ≡ band
unfolding with_bit
with_bit-above low high bit band h = kept (int_le low band.from && int_le band.from high) (record band { edges = bit_or band.edges bit }) band (ap (λ b. int_le low band.from && b) (le_test band.from high h) ∙ and_false (int_le low band.from))

pub put_upto-init : (low high : ℤ) (bit at : ℕ) (bands : List Band) → InOrder bands → at ≤ length bands → ((k : ℕ) (d : Band) → k < at → (get_or bands k d).to <ℤ low) → bands ≡ put_upto low high bit at bands
put_upto-init low high bit at bands order within below =
    let fixed : All (λ band. with_bit low high bit band ≡ band) (take at bands) = λ k d h.
    let lower : k < at = omega (arith, length-take at bands) in
    let is : get_or (take at bands) k d ≡ get_or bands k d = get_or-take at bands k d lower in
    let filled = order.filled k d (omega arith) in
    let ends = below k d lower in
    subst (λ (band : Band). with_bit low high bit band ≡ band) (sym is) (with_bit-below low high bit (get_or bands k d) (omega (arith, ints))) in
    sym (take-append-drop at bands) ∙ ap (λ front. front ++ drop at bands) (sym (map_fixed (with_bit low high bit) (take at bands) fixed))

pub length-put_upto : (low high : ℤ) (bit at : ℕ) (bands : List Band) → length (put_upto low high bit at bands) ≡ length bands
length-put_upto low high bit at bands = omega (arith, length-append (map (with_bit low high bit) (take at bands)) (drop at bands), length-map (take at bands) (with_bit low high bit), length-take at bands, length-drop at bands)

split_at : (low high : ℤ) (bit at : ℕ) (d : Band) (bands : List Band) → at < length bands → put_upto low high bit at bands ≡ map (with_bit low high bit) (take at bands) ++ get_or bands at d ∷ drop (at + 1) bands
split_at low high bit at d bands within = ap (λ rest. map (with_bit low high bit) (take at bands) ++ rest) (drop_more bands at d within)

front_length : (low high : ℤ) (bit at : ℕ) (bands : List Band) → at < length bands → length (map (with_bit low high bit) (take at bands)) ≡ at
front_length low high bit at bands within = omega (arith, length-map (take at bands) (with_bit low high bit), length-take at bands)

-- the next band is as it was
pub put_upto-at : (low high : ℤ) (bit at : ℕ) (d : Band) (bands : List Band) → at < length bands → get_or (put_upto low high bit at bands) at d ≡ get_or bands at d
put_upto-at low high bit at d bands within =
    ap (λ l. get_or l at d) (split_at low high bit at d bands within) ∙ get_or_at (map (with_bit low high bit) (take at bands)) (get_or bands at d) (drop (at + 1) bands) d at (front_length low high bit at bands within)

-- the next band gets it, too
pub put_upto-more : (low high : ℤ) (bit at : ℕ) (d : Band) (bands now : List Band) → at < length bands → now ≡ put_upto low high bit at bands → set now at (with_bit low high bit (get_or now at d)) ≡ put_upto low high bit (at + 1) bands
put_upto-more low high bit at d bands now within is =
    ap (λ l. set l at (with_bit low high bit (get_or l at d))) is
    ∙ ap (λ band. set (put_upto low high bit at bands) at (with_bit low high bit band)) (put_upto-at low high bit at d bands within)
    ∙ ap (λ l. set l at (with_bit low high bit (get_or bands at d))) (split_at low high bit at d bands within)
    ∙ set_at (map (with_bit low high bit) (take at bands)) (get_or bands at d) (drop (at + 1) bands) (with_bit low high bit (get_or bands at d)) at (front_length low high bit at bands within)
    ∙ sym (ap (λ front. front ++ drop (at + 1) bands) (map_more (with_bit low high bit) bands at d within) ∙ append_assoc (map (with_bit low high bit) (take at bands)) (with_bit low high bit (get_or bands at d) ∷ []) (drop (at + 1) bands))

-- the bands that are left begin above the range
pub put_upto-end : (low high : ℤ) (bit at : ℕ) (bands now : List Band) → now ≡ put_upto low high bit at bands → ((k : ℕ) (d : Band) → at ≤ k → k < length bands → high <ℤ (get_or bands k d).from) → now ≡ map (with_bit low high bit) bands
put_upto-end low high bit at bands now is above =
    let fixed : All (λ band. with_bit low high bit band ≡ band) (drop at bands) = λ k d h.
    let at_k : get_or (drop at bands) k d ≡ get_or bands (at + k) d = get_or-drop at bands k d in
    subst (λ (band : Band). with_bit low high bit band ≡ band) (sym at_k) (with_bit-above low high bit (get_or bands (at + k) d) (above (at + k) d (omega arith) (omega (arith, length-drop at bands)))) in
    is
    ∙ ap (λ rest. map (with_bit low high bit) (take at bands) ++ rest) (sym (map_fixed (with_bit low high bit) (drop at bands) fixed))
    ∙ sym (map-append (with_bit low high bit) (take at bands) (drop at bands))
    ∙ ap (map (with_bit low high bit)) (take-append-drop at bands)

-- from a band that begins above a latitude on, each does
pub above-more : (low high : ℤ) (bit at : ℕ) (d : Band) (bands now : List Band) → InOrder bands → at < length bands → now ≡ put_upto low high bit at bands → int_le (get_or now at d).from high ≡ false → (k : ℕ) (e : Band) → at ≤ k → k < length bands → high <ℤ (get_or bands k e).from
above-more low high bit at d bands now order within is fails k e lower inside =
    let here : high <ℤ (get_or bands at e).from = le_fails _ _ (sym (ap (λ (band : Band). int_le band.from high) (ap (λ l. get_or l at d) is ∙ put_upto-at low high bit at d bands within ∙ get_or_default bands at d e within)) ∙ fails) in
    ⊎_elim
    (λ same. subst (λ n. high <ℤ (get_or bands n e).from) same here)
    (λ other. ⊎_elim
    (λ less. let rise = InOrder-rise bands at k e order less inside in let filled = order.filled at e within in omega (arith, ints))
    (λ more. absurd (omega arith))
    other)
    (cases_order at k)
