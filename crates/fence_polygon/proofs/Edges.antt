-- A walk over the edges of a polygon that hold the place's latitude.
use Rattle.std.proofs.Common.{◌≡◌, ℕ, zero, suc, ◌+◌, ◌*◌, ◌/◌, ◌%◌, ◌^◌, ◌<◌, ◌≤◌, ℤ, Bool, true, false, cond, not, ◌&&◌, ◌||◌, ◌==◌, List, [], ◌∷◌, ◌++◌, Some, length, take, drop, get_or, count_by, refl, sym, ap, ◌∙◌, arith, length-drop, add-one}
use Rattle.std.specs.Prelude.{int_le, int_lt}
use Rattle.std.specs.Int.{w64, trailing_zeros}
use Rattle.std.specs.List.{slice_get, list_any, prefix_len}
use Rattle.std.proofs.lemmas.Int.{ints}
use Rattle.std.proofs.lemmas.Nat.{shr-shr}
use Rattle.std.proofs.Math.Nat.{zero-div}
use Rattle.std.proofs.lemmas.Simd.{trailing_mask_l}
use Rattle.std.proofs.lemmas.List.{drop-drop, drop_more}
use Rattle.std.proofs.lemmas.List.Sums.{sum_by-cons}
use Rattle.mission_model.specs.declared.plan.Item.{Item}
use Rattle.mission_model.specs.Fence.{edges_of, is_in_range, is_on_edge, crosses, crosses_upward, is_odd, is_inside}
use Rattle.fence_polygon.specs.Bands.{spans, edge_set}
use Rattle.fence_polygon.specs.Polygons.{length-edges_of, get_or-edges_of}

-- whether the place is inside, by the edges that are left and whether an odd number of those before crosses
abbrev pub inside_by : Bool → List (Item × Item) → ℤ → ℤ → Bool
inside_by odd edges x y = list_any (is_on_edge x y) edges || is_odd (cond odd 1 0 + count_by (crosses x y) edges)

off_range : (a b : Bool) → (a && false && b) ≡ false
off_range true b = refl
off_range false b = refl

-- an edge that does not hold the latitude does not hold the place, and does not cross
on_edge-spans : (x y : ℤ) (edge : Item × Item) → spans x edge ≡ false → is_on_edge x y edge ≡ false
unfolding spans is_on_edge
on_edge-spans x y edge h = rw h (off_range _ _)

upward : (a b x : ℤ) (t : Bool) → is_in_range a b x ≡ false → (int_le a x && int_lt x b && t) ≡ false
unfolding is_in_range
upward a b x t h = grind (arith, ints)

downward : (a b x : ℤ) (t : Bool) → is_in_range a b x ≡ false → (int_le b x && int_lt x a && t) ≡ false
unfolding is_in_range
downward a b x t h = grind (arith, ints)

crosses-spans : (x y : ℤ) (edge : Item × Item) → spans x edge ≡ false → crosses x y edge ≡ false
unfolding spans crosses crosses_upward
crosses-spans x y edge h = cc (upward edge.0.x edge.1.x x _ h, downward edge.0.x edge.1.x x _ h)

same_parity : (n m : ℕ) → n % 2 ≡ m % 2 → is_odd n ≡ is_odd m
same_parity n m h = ap (λ k. k == 1) h

turned : (odd c : Bool) (n : ℕ) → is_odd (cond odd 1 0 + (cond c 1 0 + n)) ≡ is_odd (cond (cond c (not odd) odd) 1 0 + n)
turned true true n = same_parity (1 + (1 + n)) (0 + n) (omega arith)
turned true false n = same_parity (1 + (0 + n)) (1 + n) (omega arith)
turned false true n = same_parity (0 + (1 + n)) (1 + n) (omega arith)
turned false false n = same_parity (0 + (0 + n)) (0 + n) (omega arith)

-- one edge less, which does not hold the place
inside_by-cons : (odd : Bool) (edge : Item × Item) (edges : List (Item × Item)) (x y : ℤ) → is_on_edge x y edge ≡ false → inside_by odd (edge ∷ edges) x y ≡ inside_by (cond (crosses x y edge) (not odd) odd) edges x y
inside_by-cons odd edge edges x y off =
    ap (λ b. (b || list_any (is_on_edge x y) edges) || is_odd (cond odd 1 0 + count_by (crosses x y) (edge ∷ edges))) off
    ∙ ap (λ n. list_any (is_on_edge x y) edges || is_odd (cond odd 1 0 + n)) (sum_by-cons (λ e. cond (crosses x y e) 1 0) edge edges)
    ∙ ap (λ b. list_any (is_on_edge x y) edges || b) (turned odd (crosses x y edge) (count_by (crosses x y) edges))

-- an edge less that does not hold the latitude
inside_by-skip : (odd : Bool) (edge : Item × Item) (edges : List (Item × Item)) (x y : ℤ) → spans x edge ≡ false → inside_by odd (edge ∷ edges) x y ≡ inside_by odd edges x y
inside_by-skip odd edge edges x y h = inside_by-cons odd edge edges x y (on_edge-spans x y edge h) ∙ ap (λ c. inside_by (cond c (not odd) odd) edges x y) (crosses-spans x y edge h)

-- how many edges stand before the first that holds the latitude
abbrev pub skipped : ℤ → List (Item × Item) → ℕ
skipped x edges = prefix_len (λ edge. not (spans x edge)) edges

inside_by-first : (odd : Bool) (edges : List (Item × Item)) (x y : ℤ) → inside_by odd edges x y ≡ inside_by odd (drop (skipped x edges) edges) x y
inside_by-first odd [] x y = refl
inside_by-first odd (edge ∷ edges) x y = elim (spans x edge) as (λ b. spans x edge ≡ b → inside_by odd (edge ∷ edges) x y ≡ inside_by odd (drop (cond (not b) (1 + skipped x edges) 0) (edge ∷ edges)) x y) [
  | true ↦ λ h. refl
  | false ↦ λ h. inside_by-skip odd edge edges x y h ∙ inside_by-first odd edges x y ∙ ap (λ n. inside_by odd (drop n (edge ∷ edges)) x y) (sym (add-one (skipped x edges) ∙ refl) ∙ omega arith)
] refl

skipped-within : (x : ℤ) (edges : List (Item × Item)) → 0 < edge_set x edges → skipped x edges < length edges
skipped-within x [] some = absurd (omega arith)
skipped-within x (edge ∷ edges) some = elim (spans x edge) as (λ b. 0 < cond b 1 0 + 2 * edge_set x edges → cond (not b) (1 + skipped x edges) 0 < suc (length edges)) [
  | true ↦ λ h. omega arith
  | false ↦ λ h. omega (arith, skipped-within x edges (omega arith))
] some

none_left : (odd : Bool) → is_odd (cond odd 1 0 + 0) ≡ odd
none_left true = refl
none_left false = refl

no_bit : (b : Bool) (n : ℕ) → cond b 1 0 + 2 * n ≡ 0 → b ≡ false
no_bit true n h = absurd (omega arith)
no_bit false n h = refl

no_more : (b : Bool) (n : ℕ) → cond b 1 0 + 2 * n ≡ 0 → n ≡ 0
no_more true n h = omega arith
no_more false n h = omega arith

-- where no edge that is left holds the latitude
inside_by-none : (odd : Bool) (edges : List (Item × Item)) (x y : ℤ) → edge_set x edges ≡ 0 → inside_by odd edges x y ≡ odd
inside_by-none odd [] x y none = none_left odd
inside_by-none odd (edge ∷ edges) x y none =
    let off : spans x edge ≡ false = no_bit (spans x edge) (edge_set x edges) none in
    let rest : edge_set x edges ≡ 0 = no_more (spans x edge) (edge_set x edges) none in
    inside_by-skip odd edge edges x y off ∙ inside_by-none odd edges x y rest

half : (b : Bool) (n : ℕ) → (cond b 1 0 + 2 * n) / 2 ≡ n
half true n = omega arith
half false n = omega arith

-- the set of the edges behind the first ones
edge_set-drop : (x : ℤ) (k : ℕ) (edges : List (Item × Item)) → edge_set x edges / 2 ^ k ≡ edge_set x (drop k edges)
edge_set-drop x zero edges = omega arith
edge_set-drop x (suc k) [] = zero-div (2 ^ suc k)
edge_set-drop x (suc k) (edge ∷ edges) =
    ap (λ n. edge_set x (edge ∷ edges) / 2 ^ n) (omega arith)
    ∙ sym (shr-shr (edge_set x (edge ∷ edges)) 1 k)
    ∙ ap (λ n. n / 2 ^ k) (half (spans x edge) (edge_set x edges))
    ∙ edge_set-drop x k edges

-- what the walk over the edges of a polygon keeps: the edges that are left decide, and the set is theirs
pub record Walked (polygon : List Item) (x y : ℤ) (at : ℕ) (odd : Bool) (left : ℕ) : Type 0 where
  pub is : inside_by odd (drop at (edges_of polygon)) x y ≡ is_inside polygon x y
  pub set : left ≡ edge_set x (drop at (edges_of polygon))

pub Walked-begin : (polygon : List Item) (x y : ℤ) (edges : ℕ) → edges ≡ edge_set x (edges_of polygon) → Walked polygon x y 0 false edges
unfolding is_inside
Walked-begin polygon x y edges h = record { is = ap (λ n. list_any (is_on_edge x y) (edges_of polygon) || is_odd n) (omega arith); set = h }

-- no edge that is left holds the latitude
pub Walked-end : (polygon : List Item) (x y : ℤ) (at : ℕ) (odd : Bool) (left : ℕ) → Walked polygon x y at odd left → left ≡ 0 → odd ≡ is_inside polygon x y
Walked-end polygon x y at odd left walked none = sym (inside_by-none odd (drop at (edges_of polygon)) x y (sym walked.set ∙ none)) ∙ walked.is

-- the next edge that holds the latitude
pub record Next (polygon : List Item) (x y : ℤ) (at : ℕ) (odd : Bool) (left : ℕ) : Type 0 where
  pub within : at < length polygon
  pub walked : Walked polygon x y at odd left

pub Next-found : (polygon : List Item) (x y : ℤ) (at : ℕ) (odd : Bool) (left zeros : ℕ) → length polygon ≤ 64 → Walked polygon x y at odd left → 0 < left → zeros ≡ trailing_zeros w64 left → Next polygon x y (at + zeros) odd (left / 2 ^ zeros)
Next-found polygon x y at odd left zeros few walked some is =
    let edges = drop at (edges_of polygon) in
    let short : length edges ≤ 64 = omega (arith, length-drop at (edges_of polygon), length-edges_of polygon) in
    let any : 0 < edge_set x edges = rw (← walked.set) some in
    let first : zeros ≡ skipped x edges = is ∙ ap (trailing_zeros w64) walked.set ∙ trailing_mask_l (spans x) 64 edges short any in
    let behind : drop zeros edges ≡ drop (at + zeros) (edges_of polygon) = drop-drop zeros at (edges_of polygon) in
    record {
      within = omega (arith, skipped-within x edges any, length-drop at (edges_of polygon), length-edges_of polygon);
      walked = record {
        is = ap (λ l. inside_by odd l x y) (sym (ap (λ n. drop n edges) (sym first) ∙ behind)) ∙ sym (inside_by-first odd edges x y) ∙ walked.is;
        set = ap (λ n. n / 2 ^ zeros) walked.set ∙ edge_set-drop x zeros edges ∙ ap (edge_set x) behind;
      };
    }

here_edge : (polygon : List Item) (at : ℕ) (from to : Item) → at < length polygon → get_or polygon at from ≡ from → slice_get (drop 1 polygon ++ take 1 polygon) at ≡ Some to → drop at (edges_of polygon) ≡ (from, to) ∷ drop (at + 1) (edges_of polygon)
here_edge polygon at from to within is next = drop_more (edges_of polygon) at (from, from) (omega (arith, length-edges_of polygon)) ∙ ap (λ edge. edge ∷ drop (at + 1) (edges_of polygon)) (get_or-edges_of polygon at from to within is next)

-- it holds the place
pub Next-on : (polygon : List Item) (x y : ℤ) (at : ℕ) (odd : Bool) (left : ℕ) (from to : Item) → Next polygon x y at odd left → get_or polygon at from ≡ from → slice_get (drop 1 polygon ++ take 1 polygon) at ≡ Some to → is_on_edge x y (from, to) ≡ true → is_inside polygon x y ≡ true
Next-on polygon x y at odd left from to next is joined on =
    sym next.walked.is ∙ ap (λ l. inside_by odd l x y) (here_edge polygon at from to next.within is joined)
    ∙ ap (λ b. (b || list_any (is_on_edge x y) (drop (at + 1) (edges_of polygon))) || is_odd (cond odd 1 0 + count_by (crosses x y) ((from, to) ∷ drop (at + 1) (edges_of polygon)))) on

-- it does not
pub Next-off : (polygon : List Item) (x y : ℤ) (at : ℕ) (odd after : Bool) (left : ℕ) (from to : Item) → Next polygon x y at odd left → get_or polygon at from ≡ from → slice_get (drop 1 polygon ++ take 1 polygon) at ≡ Some to → is_on_edge x y (from, to) ≡ false → after ≡ cond (crosses x y (from, to)) (not odd) odd → Walked polygon x y (at + 1) after (left / 2)
Next-off polygon x y at odd after left from to next is joined off turn = record {
  is = ap (λ b. inside_by b (drop (at + 1) (edges_of polygon)) x y) turn
      ∙ sym (inside_by-cons odd (from, to) (drop (at + 1) (edges_of polygon)) x y off)
      ∙ sym (ap (λ l. inside_by odd l x y) (here_edge polygon at from to next.within is joined))
      ∙ next.walked.is;
  set = ap (λ n. n / 2) (next.walked.set ∙ ap (edge_set x) (here_edge polygon at from to next.within is joined)) ∙ half (spans x (from, to)) (edge_set x (drop (at + 1) (edges_of polygon)));
}
