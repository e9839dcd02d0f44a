-- A fence's list of vertices is its polygons one behind the other: how the first one is cut off, and the edges by number.
use Rattle.std.proofs.Common.{◌≡◌, ℕ, zero, suc, ◌-◌, ◌≤◌, ◌<◌, min, max, Some, None, List, [], ◌∷◌, ◌++◌, length, take, drop, get_or, refl, sym, ap, ◌∙◌, arith, length-take, length-drop, length-append}
use Rattle.std.specs.List.{slice_get, flat_map}
use Rattle.std.proofs.lemmas.List.{take_min, drop_min}
use Rattle.std.proofs.lemmas.Slice.Zip.{length-zip, get_or-zip}
use Rattle.mission_model.specs.declared.plan.Item.{Item}
use Rattle.mission_model.specs.Command.{vertex_count}
use Rattle.mission_model.specs.PlanCode.{groups_within, polygons_of}
use Rattle.mission_model.specs.Fence.{edges_of}
use Rattle.fence_polygon.specs.Bands.{fence_edges}

groups_within-nil : (cuts : ℕ) → groups_within cuts [] ≡ []
unfolding groups_within
groups_within-nil zero = refl
groups_within-nil (suc cuts) = refl

groups_within-cons : (cuts : ℕ) (first : Item) (rest : List Item) → groups_within (suc cuts) (first ∷ rest) ≡ (first ∷ take (vertex_count first - 1) rest) ∷ groups_within cuts (drop (vertex_count first - 1) rest)
unfolding groups_within
groups_within-cons cuts first rest = refl

-- the number of cuts does not matter where it is enough
groups_within-enough : (n m : ℕ) (items : List Item) → length items ≤ n → length items ≤ m → groups_within n items ≡ groups_within m items
groups_within-enough n m [] h k = groups_within-nil n ∙ sym (groups_within-nil m)
groups_within-enough zero m (first ∷ rest) h k = absurd (omega arith)
groups_within-enough (suc n) zero (first ∷ rest) h k = absurd (omega arith)
groups_within-enough (suc n) (suc m) (first ∷ rest) h k =
    groups_within-cons n first rest
    ∙ ap (λ groups. (first ∷ take (vertex_count first - 1) rest) ∷ groups) (groups_within-enough n m (drop (vertex_count first - 1) rest) (omega (arith, length-drop (vertex_count first - 1) rest)) (omega (arith, length-drop (vertex_count first - 1) rest)))
    ∙ sym (groups_within-cons m first rest)

pub polygons_of-nil : polygons_of [] ≡ []
polygons_of-nil = groups_within-nil 0

pub size_is : (count left size : ℕ) → size ≡ min (max 1 count) (suc left) → size ≡ suc (min (count - 1) left)
size_is count left size h = omega arith

-- the first polygon is cut off
pub polygons_of-cons : (first : Item) (rest : List Item) (size : ℕ) → size ≡ min (max 1 (vertex_count first)) (length (first ∷ rest)) → polygons_of (first ∷ rest) ≡ take size (first ∷ rest) ∷ polygons_of (drop size (first ∷ rest))
polygons_of-cons first rest size h =
    let is : size ≡ suc (min (vertex_count first - 1) (length rest)) = size_is (vertex_count first) (length rest) size h in
    let taken : take size (first ∷ rest) ≡ first ∷ take (vertex_count first - 1) rest = ap (λ n. take n (first ∷ rest)) is ∙ ap (λ l. first ∷ l) (take_min (vertex_count first - 1) rest) in
    let dropped : drop size (first ∷ rest) ≡ drop (vertex_count first - 1) rest = ap (λ n. drop n (first ∷ rest)) is ∙ drop_min (vertex_count first - 1) rest in
    groups_within-cons (length rest) first rest
    ∙ ap (λ groups. (first ∷ take (vertex_count first - 1) rest) ∷ groups) (groups_within-enough (length rest) (length (drop (vertex_count first - 1) rest)) (drop (vertex_count first - 1) rest) (omega (arith, length-drop (vertex_count first - 1) rest)) (omega arith))
    ∙ sym (cc (taken, dropped))

-- where a first vertex is there, its polygon is of this size, at least one vertex
pub record FirstPolygon (items : List Item) (size : ℕ) : Type 0 where
  pub some : 1 ≤ size
  pub within : size ≤ length items
  pub polygons : polygons_of items ≡ take size items ∷ polygons_of (drop size items)
  pub edges : fence_edges items ≡ edges_of (take size items) ++ fence_edges (drop size items)

pub FirstPolygon-cut : (items : List Item) (first : Item) (size : ℕ) → Some first ≡ slice_get items 0 → size ≡ min (max 1 (vertex_count first)) (length items) → FirstPolygon items size
FirstPolygon-cut [] first size h k = absurd cc
FirstPolygon-cut (found ∷ rest) first size h k =
    let same : first ≡ found = cc in
    let cut : size ≡ min (max 1 (vertex_count found)) (length (found ∷ rest)) = k ∙ ap (λ item. min (max 1 (vertex_count item)) (length (found ∷ rest))) same in
    let polygons = polygons_of-cons found rest size cut in
    record { some = omega arith; within = omega arith; polygons = polygons; edges = ap (flat_map edges_of) polygons }

-- without a first vertex there is no edge
pub fence_edges-none : (items : List Item) → None ≡ slice_get items 0 → fence_edges items ≡ []
fence_edges-none [] none = ap (flat_map edges_of) polygons_of-nil
fence_edges-none (first ∷ rest) none = absurd cc

-- each vertex begins one edge
pub length-edges_of : (polygon : List Item) → length (edges_of polygon) ≡ length polygon
length-edges_of polygon = length-zip polygon (drop 1 polygon ++ take 1 polygon) ∙ omega (arith, length-append (drop 1 polygon) (take 1 polygon), length-drop 1 polygon, length-take 1 polygon)

pub get_or-slice_get : (items : List Item) (at : ℕ) (item other : Item) → slice_get items at ≡ Some item → get_or items at other ≡ item
get_or-slice_get [] at item other h = absurd cc
get_or-slice_get (first ∷ items) zero item other h = cc
get_or-slice_get (first ∷ items) (suc at) item other h = get_or-slice_get items at item other h

-- the edge at a place, from its vertex to the next one
pub get_or-edges_of : (polygon : List Item) (at : ℕ) (from to : Item) → at < length polygon → get_or polygon at from ≡ from → slice_get (drop 1 polygon ++ take 1 polygon) at ≡ Some to → get_or (edges_of polygon) at (from, from) ≡ (from, to)
get_or-edges_of polygon at from to within is next =
    get_or-zip polygon (drop 1 polygon ++ take 1 polygon) at (from, from) within (omega (arith, length-append (drop 1 polygon) (take 1 polygon), length-drop 1 polygon, length-take 1 polygon))
    ∙ cc (is, get_or-slice_get (drop 1 polygon ++ take 1 polygon) at to from next)
