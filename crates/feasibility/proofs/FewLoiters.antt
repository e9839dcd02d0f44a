-- Of loiters in rising order, one more than there are jumps decide whether each can be left: a jump leads to one place.
use Rattle.std.proofs.Common.{◌≡◌, ℕ, zero, suc, ◌+◌, ◌<◌, ◌≤◌, ◌==◌, Bool, true, false, cond, not, ◌&&◌, ◌||◌, List, [], ◌∷◌, ◌++◌, Option, Some, None, length, nat_lt, take, refl, sym, ap, ◌∙◌, arith}
use Rattle.std.proofs.lemmas.Bool.{eqb-true}
use Rattle.std.proofs.lemmas.Bool.Decides.{nat_tests}
use Rattle.std.proofs.lemmas.List.{take_all}
use Rattle.mission_model.specs.declared.plan.Item.{Item}
use Rattle.mission_model.specs.declared.limits.TheConstants.{MAX_JUMPS}
use Rattle.mission_model.specs.Landing.{is_land_start}
use Rattle.mission_model.specs.Feasible.{is_unlimited_loiter, go_on_otherwise}
use Rattle.feasibility.specs.SoFar.{has_target, with_place, stuck_from, stuck_with, kept_with, most_loiters, first_not_left}

-- the places rise, the first of them from this one
abbrev RisesFrom : ℕ → List ℕ → Type 0
RisesFrom n [] = Unit {0}
RisesFrom n (place ∷ rest) = (n ≤ place) × RisesFrom (place + 1) rest

rises_lower : (n k : ℕ) (places : List ℕ) → n ≤ k → RisesFrom k places → RisesFrom n places
rises_lower n k [] lower h = h
rises_lower n k (place ∷ rest) lower h = let first : k ≤ place = h.0 in (omega (arith, first, lower), h.1)

rises_with : (b : Bool) (n : ℕ) (rest : List ℕ) → RisesFrom (n + 1) rest → RisesFrom n (with_place b n rest)
rises_with true n rest h = (omega arith, h)
rises_with false n rest h = rises_lower n (n + 1) rest (omega arith) h

stuck_from-rises : (n : ℕ) (items : List Item) → RisesFrom n (stuck_from n items)
stuck_from-rises n [] = tt
stuck_from-rises n (item ∷ after) = rises_with (is_unlimited_loiter item && go_on_otherwise after) n (stuck_from (n + 1) after) (stuck_from-rises (n + 1) after)

one_if : Bool → ℕ
one_if true = 1
one_if false = 0

-- how many of the jumps lead to a place behind this one
above : ℕ → List (ℕ × ℕ) → ℕ
above n [] = 0
above n (jump ∷ rest) = one_if (nat_lt n jump.1) + above n rest

one_at_most : (b : Bool) → one_if b ≤ 1
unfolding one_if
one_at_most true = omega arith
one_at_most false = omega arith

above-few : (n : ℕ) (jumps : List (ℕ × ℕ)) → above n jumps ≤ length jumps
unfolding above
above-few n [] = omega arith
above-few n (jump ∷ rest) = omega (arith, one_at_most (nat_lt n jump.1), above-few n rest)

one_lower : (n k t : ℕ) → n ≤ k → one_if (nat_lt k t) ≤ one_if (nat_lt n t)
unfolding one_if
one_lower n k t h = grind (arith, nat_tests, h)

above-lower : (n k : ℕ) (jumps : List (ℕ × ℕ)) → n ≤ k → above k jumps ≤ above n jumps
unfolding above
above-lower n k [] h = omega arith
above-lower n k (jump ∷ rest) h = omega (arith, one_lower n k jump.1 h, above-lower n k rest h)

-- a jump to the next place is one more of those that lead behind this one
lead_here : (n place t : ℕ) → n ≤ place → t ≡ place + 1 → one_if (nat_lt (place + 1) t) + 1 ≤ one_if (nat_lt n t)
unfolding one_if
lead_here n place t h is = grind (arith, nat_tests, h, is)

lead_on : (n place t more fewer : ℕ) → n ≤ place → fewer + 1 ≤ more → one_if (nat_lt (place + 1) t) + fewer + 1 ≤ one_if (nat_lt n t) + more
lead_on n place t more fewer h rest =
    let first : one_if (nat_lt (place + 1) t) ≤ one_if (nat_lt n t) = one_lower n (place + 1) t (omega arith) in
    omega (arith, first, rest)

above-lead : (n place : ℕ) (jumps : List (ℕ × ℕ)) → n ≤ place → has_target jumps (place + 1) ≡ true → above (place + 1) jumps + 1 ≤ above n jumps
unfolding above
above-lead n place [] h leads = absurd cc
above-lead n place (jump ∷ rest) h leads = by (jump.1 == place + 1) refl leads (above-lead n place rest h)
  where
    by : (t : Bool) → (jump.1 == place + 1) ≡ t → (t || has_target rest (place + 1)) ≡ true → (has_target rest (place + 1) ≡ true → above (place + 1) rest + 1 ≤ above n rest) → one_if (nat_lt (place + 1) jump.1) + above (place + 1) rest + 1 ≤ one_if (nat_lt n jump.1) + above n rest
    by true here _ _ =
        let is : jump.1 ≡ place + 1 = eqb-true jump.1 (place + 1) here in
        omega (arith, lead_here n place jump.1 h is, above-lower n (place + 1) rest (omega arith))
    by false _ later lead = lead_on n place jump.1 (above n rest) (above (place + 1) rest) h (lead later)

-- of loiters in rising order, more than there are jumps behind the first place decide
first_not_left-take : (jumps : List (ℕ × ℕ)) (n m : ℕ) (places : List ℕ) → RisesFrom n places → above n jumps < m → first_not_left jumps (take m places) ≡ first_not_left jumps places
first_not_left-take jumps n zero places rises few = absurd (omega (arith, few))
first_not_left-take jumps n (suc m) [] rises few = refl
first_not_left-take jumps n (suc m) (place ∷ rest) rises few = by (has_target jumps (place + 1)) refl (λ less. first_not_left-take jumps (place + 1) m rest rises.1 less)
  where
    by : (t : Bool) → has_target jumps (place + 1) ≡ t → (above (place + 1) jumps < m → first_not_left jumps (take m rest) ≡ first_not_left jumps rest) → cond (not t) (Some place) (first_not_left jumps (take m rest)) ≡ cond (not t) (Some place) (first_not_left jumps rest)
    by false _ _ = refl
    by true leads later =
        let from : n ≤ place = rises.0 in
        later (omega (arith, few, above-lead n place jumps from leads))

-- the loiters that a judge keeps decide whether each can be left
pub first_not_left-kept : (jumps : List (ℕ × ℕ)) (items : List Item) → length jumps ≤ MAX_JUMPS → first_not_left jumps (take most_loiters (stuck_from 0 items)) ≡ first_not_left jumps (stuck_from 0 items)
first_not_left-kept jumps items few = first_not_left-take jumps 0 most_loiters (stuck_from 0 items) (stuck_from-rises 0 items) (omega (arith, few, above-few 0 jumps))

kept_cons : (b : Bool) (x : ℕ) (kept more : List ℕ) → cond b (x ∷ kept ++ more) (x ∷ kept) ≡ x ∷ cond b (kept ++ more) kept
kept_cons true x kept more = refl
kept_cons false x kept more = refl

lt_suc : (a b : ℕ) → nat_lt (suc a) (suc b) ≡ nat_lt a b
lt_suc a b = grind (arith, nat_tests)

lt_zero : (m : ℕ) → nat_lt 0 (suc m) ≡ true
lt_zero m = grind (arith, nat_tests)

take_few : (m : ℕ) (more : List ℕ) → length more ≤ suc m → cond (nat_lt 0 (suc m)) more [] ≡ take (suc m) more
take_few m more h = ap (λ b. cond b more []) (lt_zero m) ∙ sym (take_all (suc m) more h)

kept_more : (m : ℕ) (places more : List ℕ) → length more ≤ 1 → cond (nat_lt (length (take m places)) m) (take m places ++ more) (take m places) ≡ take m (places ++ more)
kept_more zero places more few = refl
kept_more (suc m) [] more few = take_few m more (omega (arith, few))
kept_more (suc m) (place ∷ rest) more few =
    ap (λ b. cond b (place ∷ take m rest ++ more) (place ∷ take m rest)) (lt_suc (length (take m rest)) m)
    ∙ kept_cons (nat_lt (length (take m rest)) m) place (take m rest) more
    ∙ ap (λ l. place ∷ l) (kept_more m rest more few)

stuck_with-few : (last : Option ℕ) (item : Item) → length (stuck_with last item) ≤ 1
stuck_with-few None item = omega arith
stuck_with-few (Some place) item = by (is_land_start item)
  where
    by : (b : Bool) → length (cond b [] (place ∷ [])) ≤ 1
    by true = omega arith
    by false = omega arith

-- the loiters that are kept, with one more item
pub kept-more : (places : List ℕ) (last : Option ℕ) (item : Item) → kept_with (take most_loiters places) (stuck_with last item) ≡ take most_loiters (places ++ stuck_with last item)
kept-more places last item = kept_more most_loiters places (stuck_with last item) (stuck_with-few last item)
