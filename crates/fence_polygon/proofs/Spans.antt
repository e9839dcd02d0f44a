-- Which edges hold a latitude is the same for all latitudes between those of two neighbouring vertices.
use Rattle.std.proofs.Common.{◌≡◌, ℕ, suc, zero, ◌+◌, ◌*◌, ◌^◌, ◌<◌, ◌≤◌, ◌⊎◌, min, max, ℤ, pos, ◌+ℤ◌, ◌-ℤ◌, ◌<ℤ◌, ◌≤ℤ◌, Bool, true, false, cond, List, [], ◌∷◌, ◌++◌, length, get_or, map, take, drop, refl, sym, ap, subst, ◌∙◌, arith, inl, inr, ⊎_elim, length-drop, add-one}
use Rattle.std.specs.Prelude.{◌&&◌, int_le, bit_or}
use Rattle.std.specs.Int.{int_min, int_max}
use Rattle.std.specs.List.{All, Contains, zip}
use Rattle.std.specs.List.Sorted.{IsPermutation}
use Rattle.std.proofs.lemmas.Int.{ints, by_lt_z}
use Rattle.std.proofs.lemmas.Nat.{or_comm, or_shifted}
use Rattle.std.proofs.Math.Nat.{pow-suc}
use Rattle.std.proofs.lemmas.Simd.{map-map}
use Rattle.std.proofs.lemmas.List.{get_or-map, length-map, map-id}
use Rattle.std.proofs.lemmas.List.Elements.{All-nil, All-cons, All-head, All-tail, All-append, All-take, All-drop, All-map, All-weaker, Contains-get_or}
use Rattle.std.proofs.lemmas.List.Sorted.{Contains-permutation, IsPermutation-sym}
use Rattle.mission_model.specs.declared.plan.Item.{Item}
use Rattle.mission_model.specs.Command.{vertex_count}
use Rattle.mission_model.specs.Fence.{edges_of, is_in_range}
use Rattle.fence_polygon.specs.declared.band.Band.{Band}
use Rattle.fence_polygon.specs.declared.band.TheConstants.{MAX_BANDS}
use Rattle.fence_polygon.specs.Bands.{fence_edges, spans, edge_set, edges_at, latitudes, InRange, IsOneOf, IsBetween, CutAt, CutInBands, range_of}
use Rattle.fence_polygon.specs.Marks.{with_bit, with_edges}
use Rattle.fence_polygon.specs.Polygons.{FirstPolygon, FirstPolygon-cut, fence_edges-none}
use Rattle.fence_polygon.proofs.Puts.{range_of-with_bit, ranges-with_edges}
use Rattle.fence_polygon.proofs.Ranges.{IsEmpty}

-- both ends of the edge have one of the latitudes
abbrev pub EndsIn : List ℤ → Item × Item → Type 0
EndsIn xs edge = Contains xs edge.0.x × Contains xs edge.1.x

-- the vertex has one of the latitudes
abbrev pub LiesIn : List ℤ → Item → Type 0
LiesIn xs vertex = Contains xs vertex.x

ends-zip : (xs : List ℤ) (from to : List Item) → All (LiesIn xs) from → All (LiesIn xs) to → All (EndsIn xs) (zip from to)
ends-zip xs [] to p q = All-nil (EndsIn xs)
ends-zip xs (a ∷ from) [] p q = All-nil (EndsIn xs)
ends-zip xs (a ∷ from) (b ∷ to) p q = All-cons (EndsIn xs) (a, b) (zip from to) (All-head (LiesIn xs) a from p, All-head (LiesIn xs) b to q) (ends-zip xs from to (All-tail (LiesIn xs) a from p) (All-tail (LiesIn xs) b to q))

ends-edges_of : (xs : List ℤ) (polygon : List Item) → All (LiesIn xs) polygon → All (EndsIn xs) (edges_of polygon)
ends-edges_of xs polygon p = ends-zip xs polygon (drop 1 polygon ++ take 1 polygon) p (All-append (LiesIn xs) (drop 1 polygon) (take 1 polygon) (All-drop (LiesIn xs) 1 polygon p) (All-take (LiesIn xs) 1 polygon p))

ends-within : (n : ℕ) (xs : List ℤ) (items : List Item) → length items ≤ n → All (LiesIn xs) items → All (EndsIn xs) (fence_edges items)
ends-within n xs [] short p = rw (fence_edges-none [] refl) (All-nil (EndsIn xs))
ends-within zero xs (first ∷ rest) short p = absurd (omega arith)
ends-within (suc n) xs (first ∷ rest) short p =
    let size : ℕ = min (max 1 (vertex_count first)) (length (first ∷ rest)) in
    let cut : FirstPolygon (first ∷ rest) size = FirstPolygon-cut (first ∷ rest) first size refl refl in
    let fewer : length (drop size (first ∷ rest)) ≤ n = omega (arith, length-drop size (first ∷ rest), cut.some) in
    subst (All (EndsIn xs)) (sym cut.edges)
    (All-append (EndsIn xs) (edges_of (take size (first ∷ rest))) (fence_edges (drop size (first ∷ rest)))
    (ends-edges_of xs (take size (first ∷ rest)) (All-take (LiesIn xs) size (first ∷ rest) p))
    (ends-within n xs (drop size (first ∷ rest)) fewer (All-drop (LiesIn xs) size (first ∷ rest) p)))

lies-own : (items : List Item) → All (LiesIn (latitudes items)) items
lies-own items k d within =
    let at : get_or (latitudes items) k d.x ≡ (get_or items k d).x = get_or-map (λ (vertex : Item). vertex.x) items k d d.x within in
    subst (Contains (latitudes items)) at (Contains-get_or (latitudes items) k d.x (omega (arith, length-map items (λ (vertex : Item). vertex.x))))

-- each edge of a fence ends at latitudes of its vertices
pub ends-fence : (fence : List Item) → All (EndsIn (latitudes fence)) (fence_edges fence)
ends-fence fence = ends-within (length fence) (latitudes fence) fence (omega arith) (lies-own fence)

below_both : (a b low x : ℤ) → a <ℤ low → b <ℤ low → low ≤ℤ x → is_in_range a b x ≡ false
unfolding is_in_range
below_both a b low x p q h = grind (arith, ints)

above_both : (a b high x : ℤ) → high <ℤ a → high <ℤ b → x ≤ℤ high → is_in_range a b x ≡ false
unfolding is_in_range
above_both a b high x p q h = grind (arith, ints)

across : (a b low high x : ℤ) → a <ℤ low → high <ℤ b → low ≤ℤ x → x ≤ℤ high → is_in_range a b x ≡ true
unfolding is_in_range
across a b low high x p q h k = grind (arith, ints)

across_back : (a b low high x : ℤ) → b <ℤ low → high <ℤ a → low ≤ℤ x → x ≤ℤ high → is_in_range a b x ≡ true
unfolding is_in_range
across_back a b low high x p q h k = grind (arith, ints)

-- an end that lies in no such range lies below or above it
outside : (xs : List ℤ) (range : ℤ × ℤ) (x : ℤ) → IsBetween xs range → Contains xs x → (x <ℤ range.0) ⊎ (range.1 <ℤ x)
outside xs range x between has = by_lt_z x range.0 (λ below. inl below) (λ from. by_lt_z range.1 x (λ above. inr above) (λ upto. absurd (between.free x (from, upto) has)))

-- an edge holds one latitude of a range where it holds another
spans-range : (xs : List ℤ) (range : ℤ × ℤ) (x y : ℤ) (edge : Item × Item) → InRange x range → InRange y range → IsOneOf xs range ⊎ IsBetween xs range → EndsIn xs edge → spans x edge ≡ spans y edge
unfolding spans
spans-range xs range x y edge at also kind ends = ⊎_elim
    (λ one. let same : x ≡ y = omega (arith, ints, one.1, at.0, at.1, also.0, also.1) in ap (is_in_range edge.0.x edge.1.x) same)
    (λ between.
    ⊎_elim
    (λ a. ⊎_elim
    (λ b. below_both edge.0.x edge.1.x range.0 x a b at.0 ∙ sym (below_both edge.0.x edge.1.x range.0 y a b also.0))
    (λ b. across edge.0.x edge.1.x range.0 range.1 x a b at.0 at.1 ∙ sym (across edge.0.x edge.1.x range.0 range.1 y a b also.0 also.1))
    (outside xs range edge.1.x between ends.1))
    (λ a. ⊎_elim
    (λ b. across_back edge.0.x edge.1.x range.0 range.1 x b a at.0 at.1 ∙ sym (across_back edge.0.x edge.1.x range.0 range.1 y b a also.0 also.1))
    (λ b. above_both edge.0.x edge.1.x range.1 x a b at.1 ∙ sym (above_both edge.0.x edge.1.x range.1 y a b also.1))
    (outside xs range edge.1.x between ends.1))
    (outside xs range edge.0.x between ends.0))
    kind

edge_set-range : (xs : List ℤ) (range : ℤ × ℤ) (x y : ℤ) (edges : List (Item × Item)) → InRange x range → InRange y range → IsOneOf xs range ⊎ IsBetween xs range → All (EndsIn xs) edges → edge_set x edges ≡ edge_set y edges
edge_set-range xs range x y [] at also kind ends = refl
edge_set-range xs range x y (edge ∷ edges) at also kind ends = cc (spans-range xs range x y edge at also kind (All-head (EndsIn xs) edge edges ends), edge_set-range xs range x y edges at also kind (All-tail (EndsIn xs) edge edges ends))

-- one band with these edges put into it
abbrev pub put_all : ℕ → List (Item × Item) → Band → Band
put_all number [] band = band
put_all number ((a, b) ∷ edges) band = put_all (number + 1) edges (with_bit (int_min a.x b.x) (int_max a.x b.x) (2 ^ number) band)

with_edges-each : (number : ℕ) (edges : List (Item × Item)) (bands : List Band) → with_edges number edges bands ≡ map (put_all number edges) bands
with_edges-each number [] bands = sym (map-id bands)
with_edges-each number ((a, b) ∷ edges) bands =
    with_edges-each (number + 1) edges (map (with_bit (int_min a.x b.x) (int_max a.x b.x) (2 ^ number)) bands)
    ∙ map-map (put_all (number + 1) edges) (with_bit (int_min a.x b.x) (int_max a.x b.x) (2 ^ number)) bands

range_of-put_all : (number : ℕ) (edges : List (Item × Item)) (band : Band) → range_of (put_all number edges band) ≡ range_of band
range_of-put_all number [] band = refl
range_of-put_all number ((a, b) ∷ edges) band =
    range_of-put_all (number + 1) edges (with_bit (int_min a.x b.x) (int_max a.x b.x) (2 ^ number) band) ∙ range_of-with_bit (int_min a.x b.x) (int_max a.x b.x) (2 ^ number) band

set_bit-adds : (edges number : ℕ) → edges < 2 ^ number → bit_or edges (2 ^ number) ≡ edges + 2 ^ number
set_bit-adds edges number low =
    let one : 1 * 2 ^ number ≡ 2 ^ number = omega arith in
    or_comm edges (2 ^ number) ∙ ap (λ n. bit_or n edges) (sym one) ∙ or_shifted 1 number edges low ∙ omega arith

with_bit-adds : (a b : Item) (number : ℕ) (band : Band) → band.edges < 2 ^ number → (with_bit (int_min a.x b.x) (int_max a.x b.x) (2 ^ number) band).edges ≡ band.edges + cond (spans band.from (a, b)) 1 0 * 2 ^ number
unfolding with_bit spans is_in_range
with_bit-adds a b number band low = elim (int_le (int_min a.x b.x) band.from && int_le band.from (int_max a.x b.x)) as (λ t. (cond t (record band { edges = bit_or band.edges (2 ^ number) }) band).edges ≡ band.edges + cond t 1 0 * 2 ^ number) [
  | true ↦ set_bit-adds band.edges number low ∙ omega arith
  | false ↦ omega arith
]

adds_up : (edges one power rest : ℕ) → edges + one * power + rest * (2 * power) ≡ edges + (one + 2 * rest) * power
adds_up edges one power rest = omega arith

stays_low : (edges power : ℕ) (t : Bool) → edges < power → edges + cond t 1 0 * power < 2 * power
stays_low edges power true h = omega arith
stays_low edges power false h = omega arith

edges-put_all : (number : ℕ) (edges : List (Item × Item)) (band : Band) → band.edges < 2 ^ number → (put_all number edges band).edges ≡ band.edges + edge_set band.from edges * 2 ^ number
edges-put_all number [] band low = omega arith
edges-put_all number ((a, b) ∷ edges) band low =
    let after : Band = with_bit (int_min a.x b.x) (int_max a.x b.x) (2 ^ number) band in
    let added : after.edges ≡ band.edges + cond (spans band.from (a, b)) 1 0 * 2 ^ number = with_bit-adds a b number band low in
    let twice : 2 ^ (number + 1) ≡ 2 * 2 ^ number = ap (λ n. 2 ^ n) (add-one number) ∙ pow-suc 2 number ∙ omega arith in
    let from : after.from ≡ band.from = ap (λ (range : ℤ × ℤ). range.0) (range_of-with_bit (int_min a.x b.x) (int_max a.x b.x) (2 ^ number) band) in
    let stays : after.edges < 2 ^ (number + 1) = rw (added, twice) (stays_low band.edges (2 ^ number) (spans band.from (a, b)) low) in
    edges-put_all (number + 1) edges after stays
    ∙ ap (λ x. after.edges + edge_set x edges * 2 ^ (number + 1)) from
    ∙ ap (λ n. n + edge_set band.from edges * 2 ^ (number + 1)) added
    ∙ ap (λ n. band.edges + cond (spans band.from (a, b)) 1 0 * 2 ^ number + edge_set band.from edges * n) twice
    ∙ adds_up band.edges (cond (spans band.from (a, b)) 1 0) (2 ^ number) (edge_set band.from edges)

-- the latitudes' order and number do not matter
CutAt-permutation : (xs ys : List ℤ) (ranges : List (ℤ × ℤ)) → IsPermutation xs ys → CutAt ys ranges → CutAt xs ranges
CutAt-permutation xs ys ranges same cut =
    let forth : (x : ℤ) → Contains xs x → Contains ys x = λ x h. Contains-permutation xs ys x same h in
    let back : (x : ℤ) → Contains ys x → Contains xs x = λ x h. Contains-permutation ys xs x (IsPermutation-sym xs ys same) h in
    record {
      filled = cut.filled;
      rise = cut.rise;
      kinds = All-weaker (λ r. IsOneOf ys r ⊎ IsBetween ys r) (λ r. IsOneOf xs r ⊎ IsBetween xs r) (λ r kind. ⊎_elim
          (λ one. inl (back r.0 one.0, one.1))
          (λ between. inr (record { after = back (r.0 -ℤ pos 1) between.after; before = back (r.1 +ℤ pos 1) between.before; free = λ x inside has. between.free x inside (forth x has) }))
          kind) ranges cut.kinds;
      whole = λ low high x in_low in_high above below. cut.whole low high x (forth low in_low) (forth high in_high) above below;
    }

-- empty bands of the vertices' latitudes, with all edges put into them
pub CutInBands-made : (fence : List Item) (sorted : List ℤ) (bands after : List Band) → IsPermutation (latitudes fence) sorted → CutAt sorted (map range_of bands) → All IsEmpty bands → length bands ≤ MAX_BANDS → after ≡ with_edges 0 (fence_edges fence) bands → CutInBands fence after
unfolding edges_at
CutInBands-made fence sorted bands after same cut empty few made =
    let here : CutAt (latitudes fence) (map range_of bands) = CutAt-permutation (latitudes fence) sorted (map range_of bands) same cut in
    let ends = ends-fence fence in
    let each : with_edges 0 (fence_edges fence) bands ≡ map (put_all 0 (fence_edges fence)) bands = with_edges-each 0 (fence_edges fence) bands in
    let ranges : map range_of (with_edges 0 (fence_edges fence) bands) ≡ map range_of bands = ranges-with_edges 0 (fence_edges fence) bands in
    let held : All (λ band. (x : ℤ) → InRange x (range_of band) → band.edges ≡ edge_set x (fence_edges fence)) (map (put_all 0 (fence_edges fence)) bands) =
    All-map (λ (band : Band). (x : ℤ) → InRange x (range_of band) → band.edges ≡ edge_set x (fence_edges fence)) (put_all 0 (fence_edges fence)) bands (λ k d within x inside.
    let band : Band = get_or bands k d in
    let range : range_of (put_all 0 (fence_edges fence) band) ≡ range_of band = range_of-put_all 0 (fence_edges fence) band in
    let none : band.edges ≡ 0 = empty k d within in
    let in_range : InRange x (range_of band) = subst (InRange x) range inside in
    let at_range : get_or (map range_of bands) k (range_of d) ≡ range_of band = get_or-map range_of bands k d (range_of d) within in
    let kind : IsOneOf (latitudes fence) (range_of band) ⊎ IsBetween (latitudes fence) (range_of band) = subst (λ r. IsOneOf (latitudes fence) r ⊎ IsBetween (latitudes fence) r) at_range (here.kinds k (range_of d) (omega (arith, length-map bands range_of))) in
    let first : InRange band.from (range_of band) = (omega (arith, ints), omega (arith, ints, in_range.0, in_range.1)) in
    edges-put_all 0 (fence_edges fence) band (rw none (omega arith))
    ∙ ap (λ n. n + edge_set band.from (fence_edges fence) * 2 ^ 0) none
    ∙ omega arith
    ∙ edge_set-range (latitudes fence) (range_of band) band.from x (fence_edges fence) first in_range kind ends) in
    subst (CutInBands fence) (sym made)
    (record {
      few = rw each (omega (arith, few, length-map bands (put_all 0 (fence_edges fence))));
      cut = rw ranges here;
      edges = rw each held;
    })
