-- The first edge that a leg meets, polygon by polygon.
use Rattle.std.proofs.Common.{◌≡◌, ℕ, zero, suc, ◌+◌, ◌-◌, ◌<◌, ◌≤◌, ℤ, Option, Some, None, List, [], ◌∷◌, ◌++◌, length, take, drop, get_or, refl, sym, ap, subst, ◌∙◌, arith, ⊎_elim, length-take}
use Rattle.std.specs.List.{slice_get}
use Rattle.std.proofs.lemmas.Bool.{cases_lt}
use Rattle.std.proofs.lemmas.List.{get_or_default}
use Rattle.std.proofs.lemmas.Option.{slice_get_within, slice_get-get_or}
use Rattle.mission_model.specs.declared.plan.Item.{Item}
use Rattle.mission_model.specs.Fence.{edges_of}
use Rattle.fence_polygon.specs.Bands.{fence_edges}
use Rattle.fence_polygon.specs.Polygons.{FirstPolygon, fence_edges-none, length-edges_of, get_or-edges_of}
use Rattle.leg_fence.specs.Meets.{Meets}
use Rattle.leg_fence.specs.Sight.{MeetsEdge, MeetsFirst, IsFirstMet}

-- no edge of a lesser number is met
abbrev pub MetNone : List (Item × Item) → ℤ × ℤ → ℤ × ℤ → ℕ → Type 0
MetNone edges p q n = (k : ℕ) → k < n → ¬ (MeetsEdge edges p q k)

-- the edge at a place of a polygon
pub edge_at : (polygon : List Item) (at : ℕ) (d to : Item) → at < length polygon → slice_get (drop 1 polygon ++ take 1 polygon) at ≡ Some to → slice_get (edges_of polygon) at ≡ Some (get_or polygon at d, to)
edge_at polygon at d to within next =
    let from = get_or polygon at d in
    slice_get-get_or (edges_of polygon) at (from, from) (omega (arith, length-edges_of polygon))
    ∙ ap (λ (edge : Item × Item). Some edge) (get_or-edges_of polygon at from to within (get_or_default polygon at from d within) next)

-- one edge more that is not met
pub MetNone-more : (edges : List (Item × Item)) (p q : ℤ × ℤ) (at : ℕ) (from to : Item) → slice_get edges at ≡ Some (from, to) → ¬ (Meets p q (from.x, from.y) (to.x, to.y)) → MetNone edges p q at → MetNone edges p q (at + 1)
MetNone-more edges p q at from to is off before k lower met = ⊎_elim
    (λ earlier. before k earlier met)
    (λ later.
    let here : k ≡ at = omega arith in
    let same : Some (met.0, met.1) ≡ Some (from, to) = sym met.2 ∙ ap (slice_get edges) here ∙ is in
    let pair : (met.0, met.1) ≡ (from, to) = cc in
    let one : met.0 ≡ from = ap (λ (edge : Item × Item). edge.0) pair in
    let two : met.1 ≡ to = ap (λ (edge : Item × Item). edge.1) pair in
    off (subst (λ (a : Item). Meets p q (a.x, a.y) (to.x, to.y)) one (subst (λ (b : Item). Meets p q (met.0.x, met.0.y) (b.x, b.y)) two met.3)))
    (cases_lt k at)

pub MeetsFirst-at : (edges : List (Item × Item)) (p q : ℤ × ℤ) (at : ℕ) (from to : Item) → slice_get edges at ≡ Some (from, to) → Meets p q (from.x, from.y) (to.x, to.y) → MetNone edges p q at → MeetsFirst edges p q at
MeetsFirst-at edges p q at from to is on before = ((from, to, is, on), before)

-- none of all edges is met
pub MetNone-all : (edges : List (Item × Item)) (p q : ℤ × ℤ) (n : ℕ) → length edges ≤ n → MetNone edges p q n → IsFirstMet edges p q None
MetNone-all edges p q n all none i met = none i (omega (arith, slice_get_within edges i (met.0, met.1) met.2)) met

get_front : (first rest : List (Item × Item)) (i : ℕ) → i < length first → slice_get (first ++ rest) i ≡ slice_get first i
get_front [] rest i h = absurd (omega arith)
get_front (edge ∷ first) rest zero h = refl
get_front (edge ∷ first) rest (suc i) h = get_front first rest i (omega arith)

get_back : (first rest : List (Item × Item)) (i : ℕ) → slice_get (first ++ rest) (length first + i) ≡ slice_get rest i
get_back [] rest i = ap (slice_get rest) (omega arith)
get_back (edge ∷ first) rest i = let count : suc (length first) + i ≡ suc (length first + i) = omega arith in ap (slice_get (edge ∷ first ++ rest)) count ∙ get_back first rest i

-- a number behind so many edges
abbrev pub behind : ℕ → Option ℕ → Option ℕ
behind n None = None
behind n (Some i) = Some (n + i)

-- the first edge met is among the first ones
MeetsFirst-front : (first rest : List (Item × Item)) (p q : ℤ × ℤ) (i : ℕ) → MeetsFirst first p q i → MeetsFirst (first ++ rest) p q i
MeetsFirst-front first rest p q i met =
    let within : i < length first = slice_get_within first i (met.0.0, met.0.1) met.0.2 in
    ((met.0.0, met.0.1, get_front first rest i within ∙ met.0.2, met.0.3), λ k lower other. met.1 k lower (other.0, other.1, sym (get_front first rest k (omega arith)) ∙ other.2, other.3))

not_front : (first rest : List (Item × Item)) (p q : ℤ × ℤ) (k : ℕ) → IsFirstMet first p q None → k < length first → ¬ (MeetsEdge (first ++ rest) p q k)
not_front first rest p q k none lower met = none k (met.0, met.1, sym (get_front first rest k lower) ∙ met.2, met.3)

back_edge : (first rest : List (Item × Item)) (p q : ℤ × ℤ) (k : ℕ) → length first ≤ k → MeetsEdge (first ++ rest) p q k → MeetsEdge rest p q (k - length first)
back_edge first rest p q k from met =
    let count : length first + (k - length first) ≡ k = omega arith in
    (met.0, met.1, sym (get_back first rest (k - length first)) ∙ ap (slice_get (first ++ rest)) count ∙ met.2, met.3)

-- or it is behind them
IsFirstMet-back : (first rest : List (Item × Item)) (p q : ℤ × ℤ) (found : Option ℕ) → IsFirstMet first p q None → IsFirstMet rest p q found → IsFirstMet (first ++ rest) p q (behind (length first) found)
IsFirstMet-back first rest p q None none met = λ k other. ⊎_elim
    (λ lower. not_front first rest p q k none lower other)
    (λ from. met (k - length first) (back_edge first rest p q k from other))
    (cases_lt k (length first))
IsFirstMet-back first rest p q (Some i) none met = (
  (met.0.0, met.0.1, get_back first rest i ∙ met.0.2, met.0.3),
  λ k before other. ⊎_elim
      (λ lower. not_front first rest p q k none lower other)
      (λ from. met.1 (k - length first) (omega arith) (back_edge first rest p q k from other))
      (cases_lt k (length first)),
)

-- what is found in the edges that are left is found behind those before
abbrev pub Tells : List Item → List Item → ℤ × ℤ → ℤ × ℤ → ℕ → Type 0
Tells items rest p q begin = (found : Option ℕ) → IsFirstMet (fence_edges rest) p q found → IsFirstMet (fence_edges items) p q (behind begin found)

behind-none : (items : List Item) (p q : ℤ × ℤ) (found : Option ℕ) → IsFirstMet (fence_edges items) p q found → IsFirstMet (fence_edges items) p q (behind 0 found)
behind-none items p q None met = met
behind-none items p q (Some i) met = subst (MeetsFirst (fence_edges items) p q) (omega arith) met

pub Tells-begin : (items : List Item) (p q : ℤ × ℤ) → Tells items items p q 0
Tells-begin items p q = behind-none items p q

behind-twice : (items : List Item) (p q : ℤ × ℤ) (begin size : ℕ) (found : Option ℕ) → IsFirstMet (fence_edges items) p q (behind begin (behind size found)) → IsFirstMet (fence_edges items) p q (behind (begin + size) found)
behind-twice items p q begin size None met = met
behind-twice items p q begin size (Some i) met = subst (MeetsFirst (fence_edges items) p q) (omega arith) met

-- the first polygon's edges are not met
pub Tells-more : (items rest polygon after : List Item) (p q : ℤ × ℤ) (begin size : ℕ) → FirstPolygon rest size → polygon ≡ take size rest → after ≡ drop size rest → IsFirstMet (edges_of polygon) p q None → Tells items rest p q begin → Tells items after p q (begin + size)
Tells-more items rest polygon after p q begin size cut front back none tells found met =
    let long : length (edges_of polygon) ≡ size = length-edges_of polygon ∙ ap length front ∙ omega (arith, length-take size rest, cut.within) in
    let whole : fence_edges rest ≡ edges_of polygon ++ fence_edges after = cut.edges ∙ ap (λ l. edges_of l ++ fence_edges (drop size rest)) (sym front) ∙ ap (λ l. edges_of polygon ++ fence_edges l) (sym back) in
    let here : IsFirstMet (edges_of polygon ++ fence_edges after) p q (behind (length (edges_of polygon)) found) = IsFirstMet-back (edges_of polygon) (fence_edges after) p q found none met in
    let there : IsFirstMet (fence_edges rest) p q (behind size found) = subst (λ l. IsFirstMet l p q (behind size found)) (sym whole) (subst (λ n. IsFirstMet (edges_of polygon ++ fence_edges after) p q (behind n found)) long here) in
    behind-twice items p q begin size found (tells (behind size found) there)

-- one of them is
pub Tells-found : (items rest polygon : List Item) (p q : ℤ × ℤ) (begin size at : ℕ) → FirstPolygon rest size → polygon ≡ take size rest → MeetsFirst (edges_of polygon) p q at → Tells items rest p q begin → MeetsFirst (fence_edges items) p q (begin + at)
Tells-found items rest polygon p q begin size at cut front met tells =
    let whole : fence_edges rest ≡ edges_of polygon ++ fence_edges (drop size rest) = cut.edges ∙ ap (λ l. edges_of l ++ fence_edges (drop size rest)) (sym front) in
    tells (Some at) (subst (λ l. MeetsFirst l p q at) (sym whole) (MeetsFirst-front (edges_of polygon) (fence_edges (drop size rest)) p q at met))

-- no polygon is left
pub Tells-end : (items rest : List Item) (p q : ℤ × ℤ) (begin : ℕ) → None ≡ slice_get rest 0 → Tells items rest p q begin → IsFirstMet (fence_edges items) p q None
Tells-end items rest p q begin none tells = tells None (λ i met. let gone : slice_get (fence_edges rest) i ≡ None = ap (λ l. slice_get l i) (fence_edges-none rest none) in absurd (let clash : Some (met.0, met.1) ≡ None = sym met.2 ∙ gone in cc))
