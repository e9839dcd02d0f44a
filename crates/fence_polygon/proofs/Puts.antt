-- Edges put into bands, one after the other.
use Rattle.std.proofs.Common.{◌≡◌, ℕ, suc, ◌+◌, ◌^◌, ◌<◌, ◌≤◌, ℤ, ◌≤ℤ◌, true, false, cond, List, [], ◌∷◌, ◌++◌, Some, length, get_or, map, take, drop, refl, sym, ap, subst, ◌∙◌, arith}
use Rattle.std.specs.Prelude.{◌&&◌, bit_or, int_le}
use Rattle.std.specs.Int.{int_min, int_max}
use Rattle.std.specs.List.{slice_get}
use Rattle.std.proofs.lemmas.List.{drop_more, drop_all}
use Rattle.std.proofs.lemmas.List.Elements.{All-map}
use Rattle.std.proofs.lemmas.Simd.{map-map}
use Rattle.mission_model.specs.declared.plan.Item.{Item}
use Rattle.mission_model.specs.Fence.{edges_of}
use Rattle.fence_polygon.specs.declared.band.Band.{Band}
use Rattle.fence_polygon.specs.Bands.{range_of, fence_edges}
use Rattle.fence_polygon.specs.Marks.{InOrder, with_bit, with_edges}
use Rattle.fence_polygon.specs.Polygons.{FirstPolygon, length-edges_of, get_or-edges_of}

-- a bit does not move a band
pub range_of-with_bit : (low high : ℤ) (bit : ℕ) (band : Band) → range_of (with_bit low high bit band) ≡ range_of band
unfolding with_bit
range_of-with_bit low high bit band = elim (int_le low band.from && int_le band.from high) as (λ b. range_of (cond b (record band { edges = bit_or band.edges bit }) band) ≡ range_of band) [ true ↦ refl | false ↦ refl ]

same_map : {X Y : Type 0} (f g : X → Y) (xs : List X) → ((x : X) → f x ≡ g x) → map f xs ≡ map g xs
same_map f g [] h = refl
same_map f g (x ∷ xs) h = cc (h x, same_map f g xs h)

pub ranges-with_bit : (low high : ℤ) (bit : ℕ) (bands : List Band) → map range_of (map (with_bit low high bit) bands) ≡ map range_of bands
ranges-with_bit low high bit bands = map-map range_of (with_bit low high bit) bands ∙ same_map (λ band. range_of (with_bit low high bit band)) range_of bands (range_of-with_bit low high bit)

pub InOrder-with_bit : (low high : ℤ) (bit : ℕ) (bands : List Band) → InOrder bands → InOrder (map (with_bit low high bit) bands)
InOrder-with_bit low high bit bands order = record {
  filled = All-map (λ band. band.from ≤ℤ band.to) (with_bit low high bit) bands (λ k d h. subst (λ (range : ℤ × ℤ). range.0 ≤ℤ range.1) (sym (range_of-with_bit low high bit (get_or bands k d))) (order.filled k d h));
  rise = rw ranges-with_bit order.rise;
}

pub ranges-with_edges : (number : ℕ) (edges : List (Item × Item)) (bands : List Band) → map range_of (with_edges number edges bands) ≡ map range_of bands
ranges-with_edges number [] bands = refl
ranges-with_edges number ((a, b) ∷ edges) bands =
    ranges-with_edges (number + 1) edges (map (with_bit (int_min a.x b.x) (int_max a.x b.x) (2 ^ number)) bands) ∙ ranges-with_bit (int_min a.x b.x) (int_max a.x b.x) (2 ^ number) bands

pub InOrder-with_edges : (number : ℕ) (edges : List (Item × Item)) (bands : List Band) → InOrder bands → InOrder (with_edges number edges bands)
InOrder-with_edges number [] bands order = order
InOrder-with_edges number ((a, b) ∷ edges) bands order =
    InOrder-with_edges (number + 1) edges (map (with_bit (int_min a.x b.x) (int_max a.x b.x) (2 ^ number)) bands) (InOrder-with_bit (int_min a.x b.x) (int_max a.x b.x) (2 ^ number) bands order)

-- two lists of edges one behind the other
pub with_edges-append : (number : ℕ) (edges more : List (Item × Item)) (bands : List Band) → with_edges number (edges ++ more) bands ≡ with_edges (number + length edges) more (with_edges number edges bands)
with_edges-append number [] more bands = ap (λ n. with_edges n more bands) (omega arith)
with_edges-append number ((a, b) ∷ edges) more bands =
    let count : number + 1 + length edges ≡ number + suc (length edges) = omega arith in
    with_edges-append (number + 1) edges more (map (with_bit (int_min a.x b.x) (int_max a.x b.x) (2 ^ number)) bands)
    ∙ ap (λ n. with_edges n more (with_edges (number + 1) edges (map (with_bit (int_min a.x b.x) (int_max a.x b.x) (2 ^ number)) bands))) count

-- the next edge of a polygon is put
pub with_edges-more : (number at : ℕ) (polygon : List Item) (from to : Item) (bands after : List Band) → at < length polygon → get_or polygon at from ≡ from → slice_get (drop 1 polygon ++ take 1 polygon) at ≡ Some to → after ≡ map (with_bit (int_min from.x to.x) (int_max from.x to.x) (2 ^ (number + at))) bands → with_edges (number + (at + 1)) (drop (at + 1) (edges_of polygon)) after ≡ with_edges (number + at) (drop at (edges_of polygon)) bands
with_edges-more number at polygon from to bands after within is next put =
    let here : drop at (edges_of polygon) ≡ (from, to) ∷ drop (at + 1) (edges_of polygon) = drop_more (edges_of polygon) at (from, from) (omega (arith, length-edges_of polygon)) ∙ ap (λ edge. edge ∷ drop (at + 1) (edges_of polygon)) (get_or-edges_of polygon at from to within is next) in
    let count : number + (at + 1) ≡ number + at + 1 = omega arith in
    ap (λ n. with_edges n (drop (at + 1) (edges_of polygon)) after) count
    ∙ ap (with_edges (number + at + 1) (drop (at + 1) (edges_of polygon))) put
    ∙ ap (λ edges. with_edges (number + at) edges bands) (sym here)

pub with_edges-end : (number at : ℕ) (polygon : List Item) (bands : List Band) → length polygon ≤ at → with_edges (number + at) (drop at (edges_of polygon)) bands ≡ bands
with_edges-end number at polygon bands h = ap (λ edges. with_edges (number + at) edges bands) (drop_all at (edges_of polygon) (omega (arith, length-edges_of polygon)))

-- the first polygon's edges are put
pub with_edges-polygon : (number size : ℕ) (rest polygon others : List Item) (bands after : List Band) → FirstPolygon rest size → polygon ≡ take size rest → others ≡ drop size rest → after ≡ with_edges number (edges_of polygon) bands → with_edges (number + length polygon) (fence_edges others) after ≡ with_edges number (fence_edges rest) bands
with_edges-polygon number size rest polygon others bands after cut front back put =
    ap (with_edges (number + length polygon) (fence_edges others)) put
    ∙ ap (λ n. with_edges (number + n) (fence_edges others) (with_edges number (edges_of polygon) bands)) (sym (length-edges_of polygon))
    ∙ sym (with_edges-append number (edges_of polygon) (fence_edges others) bands)
    ∙ ap (λ edges. with_edges number edges bands) (ap (λ l. edges_of l ++ fence_edges others) front ∙ ap (λ l. edges_of (take size rest) ++ fence_edges l) back ∙ sym cut.edges)
