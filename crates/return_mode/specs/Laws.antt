-- Laws of the choice: what a type does not look at may be handed empty, and each target that is chosen is there.
use Rattle.std.specs.Prelude.{◌≡◌, ◌≢◌, ℕ, zero, suc, ◌+◌, ◌-◌, ◌==◌, ◌<◌, ◌≤◌, ℤ, Bool, true, false, nat_lt, List, [], ◌∷◌, ◌++◌, length, reverse, filter_map, find, Option, Some, None, if◌then◌else◌, refl}
use Rattle.std.proofs.Common.{sym, subst, arith, cond}
use Rattle.std.proofs.lemmas.List.{reverse-append}
use Rattle.std.proofs.lemmas.Bool.Decides.{nat_tests}
use Rattle.std.specs.List.{enumerate_from, cons_option}
use Rattle.mission_model.specs.declared.plan.Home.{Home}
use Rattle.mission_model.specs.declared.plan.Item.{Item}
use Rattle.mission_model.specs.declared.plan.Params.{Params}
use Rattle.mission_model.specs.Fence.{is_allowed}
use Rattle.mission_model.specs.Returns.{ReturnTarget, to_safe, Candidate, measure_to, home_candidate, safe_candidate, candidates, nearest, is_nearest, items_from, items_to, items_back, home_target, target_of, landing_targets, mission_targets, targets_by, landing_where, is_feasible, ReturnList}
use Rattle.return_mode.specs.There.{Places, IsThere, AreThere}
use Rattle.return_mode.specs.Landings.{landing_of-below}

first_alike : (b : Bool) (first x y : List ReturnTarget) → b ≡ true → cond b first x ≡ cond b first y
first_alike true first x y h = refl
first_alike false first x y h = absurd cc

rest_alike : (b : Bool) (x y rest : List ReturnTarget) → b ≡ false → cond b x rest ≡ cond b y rest
rest_alike true x y rest h = absurd cc
rest_alike false x y rest h = refl

is_zero : (n : ℕ) → n ≡ 0 → (n == 0) ≡ true
is_zero n h = grind (arith, nat_tests, h)

is_no_zero : (n : ℕ) → n ≢ 0 → (n == 0) ≡ false
is_no_zero n h = grind (arith, nat_tests, h)

-- a return of type 0 looks at no landing, no feasibility and no index, and so at no mission
pub ReturnList-nearest : (params : Params) (place : Option Home) (position : Option (ℤ × ℤ)) (fence points mission : List Item) (index seq : ℕ) (landing : Option (ℕ × ℕ)) (feasible : Bool) → params.rtl_type ≡ 0 → targets_by params.rtl_type position place fence points landing feasible seq ≡ ReturnList params place position points mission fence index
unfolding ReturnList
ReturnList-nearest params place position fence points mission index seq landing feasible h =
    first_alike (params.rtl_type == 0) (target_of (nearest (candidates position place fence points))) _ _ (is_zero params.rtl_type h)

-- a return of another type looks at no safe points and at no position, and at a fence only to judge the mission
pub ReturnList-along : (params : Params) (place : Option Home) (position here : Option (ℤ × ℤ)) (fence other points more mission : List Item) (index : ℕ) → params.rtl_type ≢ 0 → targets_by params.rtl_type here place other more (landing_where (is_feasible params place mission fence) mission) (is_feasible params place mission fence) index ≡ ReturnList params place position points mission fence index
unfolding ReturnList
ReturnList-along params place position here fence other points more mission index h =
    rest_alike (params.rtl_type == 0) (target_of (nearest (candidates here place other more))) (target_of (nearest (candidates position place fence points))) _ (is_no_zero params.rtl_type h)

module _ (places : Places) where
  AreThere-append : (targets more : List ReturnTarget) → AreThere places targets → AreThere places more → AreThere places (targets ++ more)
  AreThere-append [] more h k = k
  AreThere-append (target ∷ rest) more h k = (h.0, AreThere-append rest more h.1 k)

  AreThere-reverse : (targets : List ReturnTarget) → AreThere places targets → AreThere places (reverse targets)
  AreThere-reverse [] h = tt
  AreThere-reverse (target ∷ rest) h = subst (AreThere places) (sym (reverse-append (target ∷ []) rest)) (AreThere-append (reverse rest) (target ∷ []) (AreThere-reverse rest h.1) (h.0, tt))

  AreThere-items_from : (seq count : ℕ) → (0 < count → seq + count ≤ places.items) → AreThere places (items_from seq count)
  AreThere-items_from seq zero h = tt
  AreThere-items_from seq (suc count) h =
      let within : seq + suc count ≤ places.items = h (omega arith) in
      (omega (arith, within), AreThere-items_from (seq + 1) count (λ _. omega (arith, within)))

  AreThere-items_to : (first last : ℕ) → last < places.items → AreThere places (items_to first last)
  AreThere-items_to first last below = AreThere-items_from first (last + 1 - first) (λ some. omega (arith, some, below))

  AreThere-items_back : (index : ℕ) → index ≤ places.items → AreThere places (items_back index)
  AreThere-items_back index within = AreThere-reverse (items_from 0 index) (AreThere-items_from 0 index (λ _. omega (arith, within)))

  AreThere-if : (b : Bool) (one other : List ReturnTarget) → AreThere places one → AreThere places other → AreThere places (if b then one else other)
  AreThere-if true one other h k = h
  AreThere-if false one other h k = k

AreThere-home : (place : Option Home) (items points : ℕ) → AreThere (record { home = place; items = items; points = points }) (home_target place)
AreThere-home None items points = tt
AreThere-home (Some home) items points = (refl, tt)

-- candidates each of whose targets is there
abbrev MayReach : Places → List Candidate → Type 0
MayReach places [] = Unit {0}
MayReach places (candidate ∷ rest) = IsThere places candidate.target × MayReach places rest

MayReach-append : (places : Places) (some more : List Candidate) → MayReach places some → MayReach places more → MayReach places (some ++ more)
MayReach-append places [] more h k = k
MayReach-append places (candidate ∷ rest) more h k = (h.0, MayReach-append places rest more h.1 k)

MayReach-home : (position : Option (ℤ × ℤ)) (place : Option Home) (items points : ℕ) → MayReach (record { home = place; items = items; points = points }) (home_candidate position place)
MayReach-home position None items points = tt
MayReach-home position (Some home) items points = (refl, tt)

MayReach-cons : (places : Places) (b : Bool) (candidate : Candidate) (rest : List Candidate) → IsThere places candidate.target → MayReach places rest → MayReach places (cons_option (if b then Some candidate else None) rest)
MayReach-cons places true candidate rest here later = (here, later)
MayReach-cons places false candidate rest here later = later

MayReach-points : (places : Places) (position : Option (ℤ × ℤ)) (fence points : List Item) (seq : ℕ) → seq + length points ≤ places.points → MayReach places (filter_map (safe_candidate position fence) (enumerate_from seq points))
MayReach-points places position fence [] seq h = tt
MayReach-points places position fence (point ∷ rest) seq h =
    MayReach-cons places (is_allowed fence point.x point.y) (record { measure = measure_to position point.x point.y; target = to_safe seq }) _ (omega (arith, h)) (MayReach-points places position fence rest (seq + 1) (omega (arith, h)))

AreThere-found : (places : Places) (test : Candidate → Bool) (others : List Candidate) → MayReach places others → AreThere places (target_of (find test others))
AreThere-found places test [] h = tt
AreThere-found places test (candidate ∷ rest) h = by (test candidate) (AreThere-found places test rest h.1)
  where
    by : (b : Bool) → AreThere places (target_of (find test rest)) → AreThere places (target_of (if b then Some candidate else find test rest))
    by true later = (h.0, tt)
    by false later = later

AreThere-nearest : (position : Option (ℤ × ℤ)) (place : Option Home) (fence points : List Item) (items : ℕ) → AreThere (record { home = place; items = items; points = length points }) (target_of (nearest (candidates position place fence points)))
unfolding nearest candidates
AreThere-nearest position place fence points items =
    let places : Places = record { home = place; items = items; points = length points } in
    AreThere-found places (is_nearest (candidates position place fence points)) (candidates position place fence points)
    (MayReach-append places (home_candidate position place) _ (MayReach-home position place items (length points)) (MayReach-points places position fence points 0 (omega arith)))

-- each target of a return is there: an item of the mission, the home only where it is set, and a safe point among those
-- there are. Where the mission is feasible the index is to be within its count
pub ReturnList-there : (params : Params) (place : Option Home) (position : Option (ℤ × ℤ)) (points mission fence : List Item) (index : ℕ) → (is_feasible params place mission fence ≡ true → index ≤ length mission) → AreThere (record { home = place; items = length mission; points = length points }) (ReturnList params place position points mission fence index)
unfolding ReturnList
ReturnList-there params place position points mission fence index within =
    AreThere-if places (params.rtl_type == 0) _ _ (AreThere-nearest position place fence points (length mission))
    (AreThere-if places (params.rtl_type == 1) _ _
    (to_landing (landing_where (is_feasible params place mission fence) mission) (λ found is. below (is_feasible params place mission fence) found is))
    (along (is_feasible params place mission fence) (landing_where (is_feasible params place mission fence) mission) within (λ found is. below (is_feasible params place mission fence) found is)))
  where
    places : Places
    places = record { home = place; items = length mission; points = length points }

    below : (feasible : Bool) (found : ℕ × ℕ) → landing_where feasible mission ≡ Some found → found.1 < length mission
    below true found is = landing_of-below mission found is
    below false found is = absurd cc

    to_landing : (landing : Option (ℕ × ℕ)) → ((found : ℕ × ℕ) → landing ≡ Some found → found.1 < length mission) → AreThere places (landing_targets place landing)
    to_landing None h = AreThere-home place (length mission) (length points)
    to_landing (Some (start, landing)) h = AreThere-items_to places (start + 1) landing (h (start, landing) refl)

    along : (feasible : Bool) (landing : Option (ℕ × ℕ)) → (feasible ≡ true → index ≤ length mission) → ((found : ℕ × ℕ) → landing ≡ Some found → found.1 < length mission) → AreThere places (mission_targets place landing feasible index)
    along feasible (Some (start, landing)) reach h = AreThere-if places (nat_lt landing index) _ _ (h (start, landing) refl, tt) (AreThere-items_to places index landing (h (start, landing) refl))
    along true None reach h = AreThere-append places (items_back index) (home_target place) (AreThere-items_back places index (reach refl)) (AreThere-home place (length mission) (length points))
    along false None reach h = AreThere-home place (length mission) (length points)
