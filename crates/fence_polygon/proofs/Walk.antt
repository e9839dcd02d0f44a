-- A walk over the polygons of a fence.
use Rattle.std.proofs.Common.{◌≡◌, ℕ, zero, suc, ◌+◌, ◌*◌, ◌/◌, ◌%◌, ◌^◌, ◌<◌, ◌≤◌, min, max, map, Some, None, ℤ, Bool, true, false, cond, not, ◌||◌, ◌&&◌, List, [], ◌∷◌, ◌++◌, length, get_or, take, drop, filter, refl, sym, ap, ◌∙◌, arith, ◌==◌, length-drop, length-take}
use Rattle.std.specs.List.{slice_get, flat_map, list_any}
use Rattle.std.proofs.lemmas.List.{length-map}
use Rattle.std.proofs.lemmas.Simd.{mask_l-lt}
use Rattle.std.proofs.Math.Nat.{pow-suc, add-mul-div_right, add-mul-mod_self_right, div-eq_of_lt, mod-eq_of_lt}
use Rattle.std.proofs.lemmas.Bool.Decides.{nat_tests}
use Rattle.mission_model.specs.declared.plan.Item.{Item}
use Rattle.mission_model.specs.declared.command.TheConstants.{NAV_FENCE_POLYGON_VERTEX_INCLUSION, NAV_FENCE_POLYGON_VERTEX_EXCLUSION}
use Rattle.mission_model.specs.Command.{vertex_count}
use Rattle.mission_model.specs.PlanCode.{polygons_of}
use Rattle.mission_model.specs.Fence.{edges_of, is_inside, is_inside_some, is_polygon_of, is_allowed}
use Rattle.fence_polygon.specs.Bands.{fence_edges, spans, edge_set, edges_at, some_inclusion}
use Rattle.fence_polygon.proofs.Edges.{Walked-begin, Walked-end}
use Rattle.std.proofs.lemmas.Option.{slice_get_read}
use Rattle.std.proofs.lemmas.Nat.{pow_pos}
use Rattle.fence_polygon.specs.Polygons.{FirstPolygon, FirstPolygon-cut, fence_edges-none, polygons_of-nil, length-edges_of}

-- whether the polygons that are left let the place be, where the fence has an inclusion or not, and the place was in an
-- inclusion, and in an exclusion, before
abbrev pub allowed_by : Bool → Bool → Bool → List (List Item) → ℤ → ℤ → Bool
allowed_by any is_included is_excluded polygons x y =
    (is_included || not any || is_inside_some (filter (is_polygon_of NAV_FENCE_POLYGON_VERTEX_INCLUSION) polygons) x y)
    && not (is_excluded || is_inside_some (filter (is_polygon_of NAV_FENCE_POLYGON_VERTEX_EXCLUSION) polygons) x y)

no_zero : (n : ℕ) → (suc n == 0) ≡ false
no_zero n = grind (arith, nat_tests)

none_of : (p : List Item → Bool) (polygons : List (List Item)) → not (list_any p polygons) ≡ (length (filter p polygons) == 0)
none_of p [] = refl
none_of p (polygon ∷ polygons) = elim (p polygon) as (λ b. not (b || list_any p polygons) ≡ (length (cond b (polygon ∷ filter p polygons) (filter p polygons)) == 0)) [ true ↦ sym (no_zero (length (filter p polygons))) | false ↦ none_of p polygons ]

allowed_by-begin : (fence : List Item) (x y : ℤ) → allowed_by (some_inclusion fence) false false (polygons_of fence) x y ≡ is_allowed fence x y
unfolding is_allowed some_inclusion
allowed_by-begin fence x y = ap (λ b. (b || is_inside_some (filter (is_polygon_of NAV_FENCE_POLYGON_VERTEX_INCLUSION) (polygons_of fence)) x y) && not (is_inside_some (filter (is_polygon_of NAV_FENCE_POLYGON_VERTEX_EXCLUSION) (polygons_of fence)) x y)) (none_of (is_polygon_of NAV_FENCE_POLYGON_VERTEX_INCLUSION) (polygons_of fence))

-- the first polygon is of the command of its first vertex
pub first-command : (items : List Item) (first : Item) (size command : ℕ) → Some first ≡ slice_get items 0 → 1 ≤ size → is_polygon_of command (take size items) ≡ (first.command == command)
first-command [] first size command h k = absurd cc
first-command (found ∷ rest) first zero command h k = absurd (omega arith)
first-command (found ∷ rest) first (suc size) command h k = let same : first ≡ found = cc in ap (λ (item : Item). item.command == command) (sym same)

-- what the walk over the polygons keeps: those that are left decide with what was seen, and the set is of their edges
pub record Passed (fence rest : List Item) (x y : ℤ) (is_included is_excluded : Bool) (edges : ℕ) : Type 0 where
  pub is : allowed_by (some_inclusion fence) is_included is_excluded (polygons_of rest) x y ≡ is_allowed fence x y
  pub few : length rest ≤ 64
  pub set : edges ≡ edge_set x (fence_edges rest)

doubled : (one n m power : ℕ) → one + 2 * (n + m * power) ≡ one + 2 * n + m * (2 * power)
doubled one n m power = omega arith

edge_set-append : (x : ℤ) (first rest : List (Item × Item)) → edge_set x (first ++ rest) ≡ edge_set x first + edge_set x rest * 2 ^ length first
edge_set-append x [] rest = omega arith
edge_set-append x (edge ∷ first) rest =
    let more = edge_set-append x first rest in
    let twice : 2 ^ suc (length first) ≡ 2 * 2 ^ length first = pow-suc 2 (length first) ∙ omega arith in
    ap (λ n. cond (spans x edge) 1 0 + 2 * n) more ∙ doubled (cond (spans x edge) 1 0) (edge_set x first) (edge_set x rest) (2 ^ length first) ∙ ap (λ n. cond (spans x edge) 1 0 + 2 * edge_set x first + edge_set x rest * n) (sym twice)

or_first : (na s : Bool) → (true || na || s) ≡ (na || (true || s))
or_first true s = refl
or_first false s = refl

in_more : (i na b s : Bool) → ((i || (b && true)) || na || s) ≡ (i || na || (b || s))
in_more true na b s = refl
in_more false na true s = or_first na s
in_more false na false s = refl

in_same : (i na b s : Bool) → ((i || (b && false)) || na || s) ≡ (i || na || s)
in_same true na b s = refl
in_same false na true s = refl
in_same false na false s = refl

out_more : (e b s : Bool) → ((e || (b && true)) || s) ≡ (e || (b || s))
out_more true b s = refl
out_more false true s = refl
out_more false false s = refl

out_same : (e b s : Bool) → ((e || (b && false)) || s) ≡ (e || s)
out_same true b s = refl
out_same false true s = refl
out_same false false s = refl

-- what the first polygon adds to the inclusions, and to the exclusions
in_step : (polygon : List Item) (polygons : List (List Item)) (x y : ℤ) (i na inclusion : Bool) → ((i || (is_inside polygon x y && inclusion)) || na || is_inside_some polygons x y) ≡ (i || na || is_inside_some (cond inclusion (polygon ∷ polygons) polygons) x y)
in_step polygon polygons x y i na true = in_more i na (is_inside polygon x y) (is_inside_some polygons x y)
in_step polygon polygons x y i na false = in_same i na (is_inside polygon x y) (is_inside_some polygons x y)

out_step : (polygon : List Item) (polygons : List (List Item)) (x y : ℤ) (e exclusion : Bool) → ((e || (is_inside polygon x y && exclusion)) || is_inside_some polygons x y) ≡ (e || is_inside_some (cond exclusion (polygon ∷ polygons) polygons) x y)
out_step polygon polygons x y e true = out_more e (is_inside polygon x y) (is_inside_some polygons x y)
out_step polygon polygons x y e false = out_same e (is_inside polygon x y) (is_inside_some polygons x y)

-- one more polygon
allowed_by-more : (any i e inside : Bool) (polygon : List Item) (polygons : List (List Item)) (x y : ℤ) → inside ≡ is_inside polygon x y → allowed_by any (i || (inside && is_polygon_of NAV_FENCE_POLYGON_VERTEX_INCLUSION polygon)) (e || (inside && is_polygon_of NAV_FENCE_POLYGON_VERTEX_EXCLUSION polygon)) polygons x y ≡ allowed_by any i e (polygon ∷ polygons) x y
allowed_by-more any i e inside polygon polygons x y is =
    ap (λ b. allowed_by any (i || (b && is_polygon_of NAV_FENCE_POLYGON_VERTEX_INCLUSION polygon)) (e || (b && is_polygon_of NAV_FENCE_POLYGON_VERTEX_EXCLUSION polygon)) polygons x y) is
    ∙ ap (λ b. b && not ((e || (is_inside polygon x y && is_polygon_of NAV_FENCE_POLYGON_VERTEX_EXCLUSION polygon)) || is_inside_some (filter (is_polygon_of NAV_FENCE_POLYGON_VERTEX_EXCLUSION) polygons) x y)) (in_step polygon (filter (is_polygon_of NAV_FENCE_POLYGON_VERTEX_INCLUSION) polygons) x y i (not any) (is_polygon_of NAV_FENCE_POLYGON_VERTEX_INCLUSION polygon))
    ∙ ap (λ b. (i || not any || is_inside_some (filter (is_polygon_of NAV_FENCE_POLYGON_VERTEX_INCLUSION) (polygon ∷ polygons)) x y) && not b) (out_step polygon (filter (is_polygon_of NAV_FENCE_POLYGON_VERTEX_EXCLUSION) polygons) x y e (is_polygon_of NAV_FENCE_POLYGON_VERTEX_EXCLUSION polygon))

no_sum : (n m : ℕ) → n + m ≡ 0 → (n ≡ 0) × (m ≡ 0)
no_sum n m h = (omega arith, omega arith)

no_product : (n k : ℕ) → n * 2 ^ k ≡ 0 → n ≡ 0
no_product zero k h = refl
no_product (suc n) k h = let some = pow_pos k in absurd (omega (arith, some))

-- no edge of a polygon holds the latitude, so the place is not inside
outside-none : (polygon : List Item) (x y : ℤ) → edge_set x (edges_of polygon) ≡ 0 → is_inside polygon x y ≡ false
outside-none polygon x y none = sym (Walked-end polygon x y 0 false (edge_set x (edges_of polygon)) (Walked-begin polygon x y (edge_set x (edges_of polygon)) refl) none)

inside_some-none : (p : List Item → Bool) (polygons : List (List Item)) (x y : ℤ) → edge_set x (flat_map edges_of polygons) ≡ 0 → is_inside_some (filter p polygons) x y ≡ false
inside_some-none p [] x y none = refl
inside_some-none p (polygon ∷ polygons) x y none =
    let parts = no_sum (edge_set x (edges_of polygon)) (edge_set x (flat_map edges_of polygons) * 2 ^ length (edges_of polygon)) (sym (edge_set-append x (edges_of polygon) (flat_map edges_of polygons)) ∙ none) in
    let rest : is_inside_some (filter p polygons) x y ≡ false = inside_some-none p polygons x y (no_product (edge_set x (flat_map edges_of polygons)) (length (edges_of polygon)) parts.1) in
    elim (p polygon) as (λ b. is_inside_some (cond b (polygon ∷ filter p polygons) (filter p polygons)) x y ≡ false) [
      | true ↦ ap (λ b. b || is_inside_some (filter p polygons) x y) (outside-none polygon x y parts.0) ∙ rest
      | false ↦ rest
    ]

or_false : (b : Bool) → (b || false) ≡ b
or_false true = refl
or_false false = refl

-- no edge that is left holds the latitude
pub Passed-end : (fence rest : List Item) (x y : ℤ) (i e : Bool) (edges : ℕ) → Passed fence rest x y i e edges → edges ≡ 0 → ((i || not (some_inclusion fence)) && not e) ≡ is_allowed fence x y
Passed-end fence rest x y i e edges passed none =
    let nothing : edge_set x (fence_edges rest) ≡ 0 = sym passed.set ∙ none in
    sym (ap (λ b. b && not (e || is_inside_some (filter (is_polygon_of NAV_FENCE_POLYGON_VERTEX_EXCLUSION) (polygons_of rest)) x y)) (ap (λ b. i || not (some_inclusion fence) || b) (inside_some-none (is_polygon_of NAV_FENCE_POLYGON_VERTEX_INCLUSION) (polygons_of rest) x y nothing) ∙ or_false (i || not (some_inclusion fence)))
    ∙ ap (λ b. (i || not (some_inclusion fence)) && not b) (ap (λ b. e || b) (inside_some-none (is_polygon_of NAV_FENCE_POLYGON_VERTEX_EXCLUSION) (polygons_of rest) x y nothing) ∙ or_false e))
    ∙ passed.is

-- an edge that is left has a vertex
pub Passed-some : (fence rest : List Item) (x y : ℤ) (i e : Bool) (edges : ℕ) → Passed fence rest x y i e edges → 0 < edges → 0 < length rest
Passed-some fence [] x y i e edges passed some = absurd (omega (arith, passed.set, ap (edge_set x) (fence_edges-none [] refl)))
Passed-some fence (first ∷ rest) x y i e edges passed some = omega arith

set-length : (x : ℤ) (edges : List (Item × Item)) → edge_set x edges < 2 ^ length edges
set-length x edges = omega (arith, mask_l-lt (map (spans x) edges), ap (λ n. 2 ^ n) (length-map edges (spans x)))

low_part : (n k m power : ℕ) → n ≡ k + m * power → k < power → n % power ≡ k
low_part n k m power h l = ap (λ j. j % power) h ∙ add-mul-mod_self_right k m power ∙ mod-eq_of_lt l

high_part : (n k m power : ℕ) → n ≡ k + m * power → k < power → n / power ≡ m
high_part n k m power h l = let some : 0 < power = omega arith in ap (λ j. j / power) h ∙ add-mul-div_right k m some ∙ ap (λ j. j + m) (div-eq_of_lt l) ∙ omega arith

-- the first polygon's edges are the lowest of the set
pub Passed-edges : (fence rest : List Item) (x y : ℤ) (i e : Bool) (edges size : ℕ) → Passed fence rest x y i e edges → FirstPolygon rest size → (edges % 2 ^ size ≡ edge_set x (edges_of (take size rest))) × (edges / 2 ^ size ≡ edge_set x (fence_edges (drop size rest)))
Passed-edges fence rest x y i e edges size passed cut =
    let long : length (edges_of (take size rest)) ≡ size = length-edges_of (take size rest) ∙ omega (arith, length-take size rest, cut.within) in
    let whole : edges ≡ edge_set x (edges_of (take size rest)) + edge_set x (fence_edges (drop size rest)) * 2 ^ size =
    passed.set ∙ ap (edge_set x) cut.edges ∙ edge_set-append x (edges_of (take size rest)) (fence_edges (drop size rest)) ∙ ap (λ n. edge_set x (edges_of (take size rest)) + edge_set x (fence_edges (drop size rest)) * 2 ^ n) long in
    let low : edge_set x (edges_of (take size rest)) < 2 ^ size = rw long at (set-length x (edges_of (take size rest))) in
    (low_part edges _ _ (2 ^ size) whole low, high_part edges _ _ (2 ^ size) whole low)

pub Passed-begin : (fence rest : List Item) (x y : ℤ) (edges : ℕ) → rest ≡ fence → length rest ≤ 64 → edges ≡ edges_at fence x → Passed fence rest x y false false edges
unfolding edges_at
Passed-begin fence rest x y edges all few set = record {
  is = ap (λ items. allowed_by (some_inclusion fence) false false (polygons_of items) x y) all ∙ allowed_by-begin fence x y;
  few = few;
  set = set ∙ ap (λ items. edge_set x (fence_edges items)) (sym all);
}

-- the first polygon is passed
pub Passed-more : (fence rest polygon after : List Item) (first : Item) (x y : ℤ) (i e inside inclusion exclusion : Bool) (edges size above : ℕ) → Passed fence rest x y i e edges → FirstPolygon rest size → Some first ≡ slice_get rest 0 → polygon ≡ take size rest → after ≡ drop size rest → inside ≡ is_inside polygon x y → inclusion ≡ (first.command == NAV_FENCE_POLYGON_VERTEX_INCLUSION) → exclusion ≡ (first.command == NAV_FENCE_POLYGON_VERTEX_EXCLUSION) → above ≡ edges / 2 ^ size → Passed fence after x y (i || (inside && inclusion)) (e || (inside && exclusion)) above
Passed-more fence rest polygon after first x y i e inside inclusion exclusion edges size above passed cut is front back inside_is inclusion_is exclusion_is above_is =
    let in_is : inclusion ≡ is_polygon_of NAV_FENCE_POLYGON_VERTEX_INCLUSION (take size rest) = inclusion_is ∙ sym (first-command rest first size NAV_FENCE_POLYGON_VERTEX_INCLUSION is cut.some) in
    let out_is : exclusion ≡ is_polygon_of NAV_FENCE_POLYGON_VERTEX_EXCLUSION (take size rest) = exclusion_is ∙ sym (first-command rest first size NAV_FENCE_POLYGON_VERTEX_EXCLUSION is cut.some) in
    let step = allowed_by-more (some_inclusion fence) i e inside (take size rest) (polygons_of (drop size rest)) x y (inside_is ∙ ap (λ l. is_inside l x y) front) in
    record {
      is = ap (λ items. allowed_by (some_inclusion fence) (i || (inside && inclusion)) (e || (inside && exclusion)) (polygons_of items) x y) back
          ∙ ap (λ b. allowed_by (some_inclusion fence) (i || (inside && b)) (e || (inside && exclusion)) (polygons_of (drop size rest)) x y) in_is
          ∙ ap (λ b. allowed_by (some_inclusion fence) (i || (inside && is_polygon_of NAV_FENCE_POLYGON_VERTEX_INCLUSION (take size rest))) (e || (inside && b)) (polygons_of (drop size rest)) x y) out_is
          ∙ step ∙ ap (λ polygons. allowed_by (some_inclusion fence) i e polygons x y) (sym cut.polygons) ∙ passed.is;
      few = omega (arith, passed.few, ap length back, length-drop size rest);
      set = above_is ∙ (Passed-edges fence rest x y i e edges size passed cut).1 ∙ ap (λ items. edge_set x (fence_edges items)) (sym back);
    }

-- whether the polygons that are left have an inclusion
pub some_inclusion-first : (rest : List Item) (first : Item) (size : ℕ) → FirstPolygon rest size → Some first ≡ slice_get rest 0 → some_inclusion rest ≡ ((first.command == NAV_FENCE_POLYGON_VERTEX_INCLUSION) || some_inclusion (drop size rest))
unfolding some_inclusion
some_inclusion-first rest first size cut is = ap (list_any (is_polygon_of NAV_FENCE_POLYGON_VERTEX_INCLUSION)) cut.polygons ∙ ap (λ b. b || list_any (is_polygon_of NAV_FENCE_POLYGON_VERTEX_INCLUSION) (polygons_of (drop size rest))) (first-command rest first size NAV_FENCE_POLYGON_VERTEX_INCLUSION is cut.some)

pub first-inclusion : (rest : List Item) (first : Item) → Some first ≡ slice_get rest 0 → (first.command == NAV_FENCE_POLYGON_VERTEX_INCLUSION) ≡ true → some_inclusion rest ≡ true
first-inclusion rest first is inclusion =
    let size : ℕ = min (max 1 (vertex_count first)) (length rest) in
    let cut : FirstPolygon rest size = FirstPolygon-cut rest first size is refl in
    some_inclusion-first rest first size cut is ∙ ap (λ b. b || some_inclusion (drop size rest)) inclusion

pub some_inclusion-none : (rest : List Item) → None ≡ slice_get rest 0 → some_inclusion rest ≡ false
unfolding some_inclusion
some_inclusion-none [] none = ap (list_any (is_polygon_of NAV_FENCE_POLYGON_VERTEX_INCLUSION)) polygons_of-nil
some_inclusion-none (first ∷ rest) none = absurd cc

pub first_read : (rest : List Item) (first : Item) → 0 < length rest → first ≡ get_or rest 0 first → Some first ≡ slice_get rest 0
first_read rest first some is = sym (slice_get_read rest (length rest) 0 first refl some is)
