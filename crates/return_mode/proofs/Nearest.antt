-- The first of the nearest candidates, found one by one.
use Rattle.std.proofs.Common.{◌≡◌, ℕ, suc, ◌+◌, ◌<◌, ℤ, Bool, true, false, ◌&&◌, List, [], ◌∷◌, ◌++◌, Option, Some, None, find, filter_map, length, take, get_or, refl, sym, ap, subst, ◌≤◌, ◌∙◌, arith, append_assoc, zero-add, if◌then◌else◌}
use Rattle.std.specs.Prelude.{int_le, int_lt}
use Rattle.std.specs.List.{list_all, enumerate_from}
use Rattle.std.proofs.lemmas.Int.{ints}
use Rattle.std.proofs.lemmas.List.{append-nil, take_more, take_all, length-take-le}
use Rattle.std.proofs.lemmas.List.Folds.{list_all-append}
use Rattle.std.proofs.lemmas.List.Elements.{filter_map-append}
use Rattle.mission_model.specs.declared.plan.Item.{Item}
use Rattle.mission_model.specs.declared.plan.Home.{Home}
use Rattle.mission_model.specs.Fence.{is_allowed}
use Rattle.mission_model.specs.Returns.{Candidate, measure_to, safe_candidate, candidates, home_candidate, is_nearest, nearest, target_of}
use Rattle.return_mode.specs.declared.route.Target.{Target}
use Rattle.return_mode.specs.declared.route.Target.TheVariants as target
use Rattle.return_mode.specs.Route.{as_target}
use Rattle.return_mode.specs.Nearer.{as_candidate, nearer, measured_home, with_safe_point}

-- the candidate is farther than this measure
abbrev is_farther : ℤ → Candidate → Bool
is_farther least candidate = int_lt least candidate.measure

-- the candidate is not nearer than this measure
abbrev is_no_nearer : ℤ → Candidate → Bool
is_no_nearer least candidate = int_le least candidate.measure

-- this one stands among the candidates, each before it is farther, and none behind it is nearer
pub record IsFirst (others : List Candidate) (best : Candidate) : Type 0 where
  pub before : List Candidate
  pub after : List Candidate
  pub split : others ≡ before ++ best ∷ after
  pub farther : list_all (is_farther best.measure) before ≡ true
  pub no_nearer : list_all (is_no_nearer best.measure) after ≡ true

-- the best so far is the first of the nearest, or there is no candidate
abbrev pub IsBest : List Candidate → Option (ℤ × Target) → Type 0
IsBest others None = others ≡ []
IsBest others (Some best) = IsFirst others (as_candidate best)

le_from_lt : (a b : ℤ) → int_lt a b ≡ true → int_le a b ≡ true
le_from_lt a b h = grind (arith, ints)

le_refl : (a : ℤ) → int_le a a ≡ true
le_refl a = grind (arith, ints)

not_le_from_lt : (a b : ℤ) → int_lt a b ≡ true → int_le b a ≡ false
not_le_from_lt a b h = grind (arith, ints)

lt_from_not_le : (a b : ℤ) → int_le a b ≡ false → int_lt b a ≡ true
lt_from_not_le a b h = grind (arith, ints)

lt_le : (a b c : ℤ) → int_lt a b ≡ true → int_le b c ≡ true → int_lt a c ≡ true
lt_le a b c h k = grind (arith, ints)

lt_lt : (a b c : ℤ) → int_lt a b ≡ true → int_lt b c ≡ true → int_lt a c ≡ true
lt_lt a b c h k = grind (arith, ints)

both : (a b : Bool) → (a && b) ≡ true → (a ≡ true) × (b ≡ true)
both true b h = (refl, h)
both false b h = absurd cc

and_true : (a b : Bool) → a ≡ true → b ≡ true → (a && b) ≡ true
and_true a b h k = rw (h, k) refl

and_false : (a b : Bool) → b ≡ false → (a && b) ≡ false
and_false true b h = h
and_false false b h = refl

-- what is farther is no nearer
all_no_nearer : (least : ℤ) (others : List Candidate) → list_all (is_farther least) others ≡ true → list_all (is_no_nearer least) others ≡ true
all_no_nearer least [] h = refl
all_no_nearer least (other ∷ others) h =
    let parts = both (is_farther least other) (list_all (is_farther least) others) h in
    and_true (is_no_nearer least other) (list_all (is_no_nearer least) others) (le_from_lt least other.measure parts.0) (all_no_nearer least others parts.1)

-- what is farther than more is farther than less
all_farther : (less more : ℤ) (others : List Candidate) → int_lt less more ≡ true → list_all (is_farther more) others ≡ true → list_all (is_farther less) others ≡ true
all_farther less more [] h k = refl
all_farther less more (other ∷ others) h k =
    let parts = both (is_farther more other) (list_all (is_farther more) others) k in
    and_true (is_farther less other) (list_all (is_farther less) others) (lt_lt less more other.measure h parts.0) (all_farther less more others h parts.1)

-- what is no nearer than more is farther than less
all_no_nearer_farther : (less more : ℤ) (others : List Candidate) → int_lt less more ≡ true → list_all (is_no_nearer more) others ≡ true → list_all (is_farther less) others ≡ true
all_no_nearer_farther less more [] h k = refl
all_no_nearer_farther less more (other ∷ others) h k =
    let parts = both (is_no_nearer more other) (list_all (is_no_nearer more) others) k in
    and_true (is_farther less other) (list_all (is_farther less) others) (lt_le less more other.measure h parts.0) (all_no_nearer_farther less more others h parts.1)

-- a farther candidate is not nearest
not_nearest : (before after : List Candidate) (best other : Candidate) → int_lt best.measure other.measure ≡ true → is_nearest (before ++ best ∷ after) other ≡ false
not_nearest before after best other h =
    list_all-append (is_no_nearer other.measure) before (best ∷ after)
    ∙ and_false (list_all (is_no_nearer other.measure) before) (is_no_nearer other.measure best && list_all (is_no_nearer other.measure) after)
    (ap (λ b. b && list_all (is_no_nearer other.measure) after) (not_le_from_lt best.measure other.measure h))

-- the search for the nearest passes all that are farther
find_past : (test : Candidate → Bool) (least : ℤ) (others after : List Candidate) (best : Candidate) → ((other : Candidate) → int_lt least other.measure ≡ true → test other ≡ false) → test best ≡ true → list_all (is_farther least) others ≡ true → find test (others ++ best ∷ after) ≡ Some best
find_past test least [] after best fails passes h = rw passes refl
find_past test least (other ∷ others) after best fails passes h =
    let parts = both (is_farther least other) (list_all (is_farther least) others) h in
    rw (fails other parts.0) (find_past test least others after best fails passes parts.1)

-- the first of the nearest is what the definition finds
pub nearest-IsFirst : (others : List Candidate) (best : Candidate) → IsFirst others best → nearest others ≡ Some best
unfolding nearest
nearest-IsFirst others best first =
    let itself : is_nearest (first.before ++ best ∷ first.after) best ≡ true =
    list_all-append (is_no_nearer best.measure) first.before (best ∷ first.after)
    ∙ and_true (list_all (is_no_nearer best.measure) first.before) (is_no_nearer best.measure best && list_all (is_no_nearer best.measure) first.after)
    (all_no_nearer best.measure first.before first.farther)
    (and_true (is_no_nearer best.measure best) (list_all (is_no_nearer best.measure) first.after) (le_refl best.measure) first.no_nearer) in
    ap nearest first.split
    ∙ find_past (is_nearest (first.before ++ best ∷ first.after)) best.measure first.before first.after best (not_nearest first.before first.after best) itself first.farther

pub nearest-nil : nearest [] ≡ None
unfolding nearest
nearest-nil = refl

-- one more, which is nearer
IsFirst-nearer : (others : List Candidate) (best more : Candidate) → IsFirst others best → int_le best.measure more.measure ≡ false → IsFirst (others ++ more ∷ []) more
IsFirst-nearer others best more first h =
    let less : int_lt more.measure best.measure ≡ true = lt_from_not_le best.measure more.measure h in
    record {
      before = others;
      after = [];
      split = refl;
      farther = ap (list_all (is_farther more.measure)) first.split ∙ list_all-append (is_farther more.measure) first.before (best ∷ first.after)
          ∙ and_true (list_all (is_farther more.measure) first.before) (is_farther more.measure best && list_all (is_farther more.measure) first.after) (all_farther more.measure best.measure first.before less first.farther)
          (and_true (is_farther more.measure best) (list_all (is_farther more.measure) first.after) less (all_no_nearer_farther more.measure best.measure first.after less first.no_nearer));
      no_nearer = refl;
    }

-- one more, which is not nearer
IsFirst-kept : (others : List Candidate) (best more : Candidate) → IsFirst others best → int_le best.measure more.measure ≡ true → IsFirst (others ++ more ∷ []) best
IsFirst-kept others best more first h = record {
  before = first.before;
  after = first.after ++ more ∷ [];
  split = ap (λ l. l ++ more ∷ []) first.split ∙ append_assoc first.before (best ∷ first.after) (more ∷ []);
  farther = first.farther;
  no_nearer = list_all-append (is_no_nearer best.measure) first.after (more ∷ []) ∙ and_true (list_all (is_no_nearer best.measure) first.after) (is_no_nearer best.measure more && true) first.no_nearer (and_true (is_no_nearer best.measure more) true h refl);
}

-- one more candidate
pub IsBest-more : (others : List Candidate) (best : Option (ℤ × Target)) (measure : ℤ) (target : Target) → IsBest others best → IsBest (others ++ as_candidate (measure, target) ∷ []) (nearer best measure target)
IsBest-more others None measure target none = record { before = []; after = []; split = ap (λ l. l ++ as_candidate (measure, target) ∷ []) none; farther = refl; no_nearer = refl }
IsBest-more others (Some (least, best)) measure target first =
    elim (int_le least measure) as (λ b. int_le least measure ≡ b → IsBest (others ++ as_candidate (measure, target) ∷ []) (if b then Some (least, best) else Some (measure, target))) [
      | true ↦ λ h. IsFirst-kept others (as_candidate (least, best)) (as_candidate (measure, target)) first h
      | false ↦ λ h. IsFirst-nearer others (as_candidate (least, best)) (as_candidate (measure, target)) first h
    ] refl

enumerate_from-append : (n : ℕ) (points : List Item) (point : Item) → enumerate_from n (points ++ point ∷ []) ≡ enumerate_from n points ++ (n + length points, point) ∷ []
enumerate_from-append n [] point = ap (λ k. (k, point) ∷ []) (at_end n) where
  at_end : (n : ℕ) → n ≡ n + 0
  at_end n = omega arith
enumerate_from-append n (first ∷ points) point = ap (λ l. (n, first) ∷ l) (enumerate_from-append (n + 1) points point ∙ ap (λ k. enumerate_from (n + 1) points ++ (k, point) ∷ []) (one_on n (length points))) where
  one_on : (n k : ℕ) → n + 1 + k ≡ n + suc k
  one_on n k = omega arith

-- the candidates with one more safe point
candidates-append : (position : Option (ℤ × ℤ)) (place : Option Home) (fence points : List Item) (point : Item) → candidates position place fence (points ++ point ∷ []) ≡ candidates position place fence points ++ filter_map (safe_candidate position fence) ((length points, point) ∷ [])
unfolding candidates
candidates-append position place fence points point =
    ap (λ l. home_candidate position place ++ filter_map (safe_candidate position fence) l) (enumerate_from-append 0 points point ∙ ap (λ k. enumerate_from 0 points ++ (k, point) ∷ []) (zero-add (length points)))
    ∙ ap (λ l. home_candidate position place ++ l) (filter_map-append (safe_candidate position fence) (enumerate_from 0 points) ((length points, point) ∷ []))
    ∙ sym (append_assoc (home_candidate position place) (filter_map (safe_candidate position fence) (enumerate_from 0 points)) (filter_map (safe_candidate position fence) ((length points, point) ∷ [])))

pub candidates-nil : (position : Option (ℤ × ℤ)) (place : Option Home) (fence : List Item) → candidates position place fence [] ≡ home_candidate position place
unfolding candidates
candidates-nil position place fence = append-nil (home_candidate position place)

-- the best among the home and the safe points before this one
abbrev pub BestSoFar : Option (ℤ × ℤ) → Option Home → List Item → List Item → ℕ → Option (ℤ × Target) → Type 0
BestSoFar position place fence points seq best = IsBest (candidates position place fence (take seq points)) best

home_IsBest : (position : Option (ℤ × ℤ)) (place : Option Home) → IsBest (home_candidate position place) (measured_home position place)
home_IsBest position None = refl
home_IsBest position (Some place) = record { before = []; after = []; split = refl; farther = refl; no_nearer = refl }

-- no safe point yet
pub BestSoFar-begin : (position : Option (ℤ × ℤ)) (place : Option Home) (fence points : List Item) (best : Option (ℤ × Target)) → best ≡ measured_home position place → BestSoFar position place fence points 0 best
BestSoFar-begin position place fence points best is =
    subst (λ b. IsBest (candidates position place fence []) b) (sym is) (subst (λ l. IsBest l (measured_home position place)) (sym (candidates-nil position place fence)) (home_IsBest position place))

-- one more safe point, allowed or not
with_safe_point-IsBest : (position : Option (ℤ × ℤ)) (fence : List Item) (others : List Candidate) (best : Option (ℤ × Target)) (seq : ℕ) (point : Item) → IsBest others best → IsBest (others ++ filter_map (safe_candidate position fence) ((seq, point) ∷ [])) (with_safe_point best position fence seq point)
with_safe_point-IsBest position fence others best seq point so_far =
    elim (is_allowed fence point.x point.y) as (λ b. IsBest (others ++ filter_map (λ (p : ℕ × Item). if b then Some (as_candidate (measure_to position point.x point.y, target.Safe seq)) else None) ((seq, point) ∷ [])) (if b then nearer best (measure_to position point.x point.y) (target.Safe seq) else best)) [
      | true ↦ IsBest-more others best (measure_to position point.x point.y) (target.Safe seq) so_far
      | false ↦ subst (λ l. IsBest l best) (sym (append-nil others)) so_far
    ]

-- one more safe point
pub BestSoFar-more : (position : Option (ℤ × ℤ)) (place : Option Home) (fence points : List Item) (seq : ℕ) (other : Item) (best after : Option (ℤ × Target)) → seq < length points → after ≡ with_safe_point best position fence seq (get_or points seq other) → BestSoFar position place fence points seq best → BestSoFar position place fence points (seq + 1) after
BestSoFar-more position place fence points seq other best after within turned so_far =
    let grown : candidates position place fence (take (seq + 1) points) ≡ candidates position place fence (take seq points) ++ filter_map (safe_candidate position fence) ((seq, get_or points seq other) ∷ []) =
    ap (candidates position place fence) (take_more points seq other within) ∙ candidates-append position place fence (take seq points) (get_or points seq other) ∙ ap (λ k. candidates position place fence (take seq points) ++ filter_map (safe_candidate position fence) ((k, get_or points seq other) ∷ [])) (length-take-le seq points (omega arith)) in
    subst (λ b. IsBest (candidates position place fence (take (seq + 1) points)) b) (sym turned)
    (subst (λ l. IsBest l (with_safe_point best position fence seq (get_or points seq other))) (sym grown) (with_safe_point-IsBest position fence (candidates position place fence (take seq points)) best seq (get_or points seq other) so_far))

-- all safe points, and some candidate
pub BestSoFar-some : (position : Option (ℤ × ℤ)) (place : Option Home) (fence points : List Item) (seq : ℕ) (measure : ℤ) (found : Target) → length points ≤ seq → BestSoFar position place fence points seq (Some (measure, found)) → target_of (nearest (candidates position place fence points)) ≡ as_target found ∷ []
BestSoFar-some position place fence points seq measure found all best =
    ap (λ l. target_of (nearest (candidates position place fence l))) (sym (take_all seq points all)) ∙ ap target_of (nearest-IsFirst (candidates position place fence (take seq points)) (as_candidate (measure, found)) best)

-- all safe points, and no candidate
pub BestSoFar-none : (position : Option (ℤ × ℤ)) (place : Option Home) (fence points : List Item) (seq : ℕ) → length points ≤ seq → BestSoFar position place fence points seq None → target_of (nearest (candidates position place fence points)) ≡ []
BestSoFar-none position place fence points seq all none =
    ap (λ l. target_of (nearest (candidates position place fence l))) (sym (take_all seq points all)) ∙ ap (λ l. target_of (nearest l)) none ∙ ap target_of nearest-nil
