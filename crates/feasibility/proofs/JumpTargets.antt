-- The jumps of a mission: with one more item, and the first one that leads to a jump.
use Rattle.std.proofs.Common.{◌≡◌, ℕ, zero, suc, ◌+◌, ◌<◌, ◌==◌, true, false, cond, ◌||◌, List, [], ◌∷◌, ◌++◌, Option, Some, None, is_some, length, refl, sym, ap, ◌∙◌, arith, append_assoc, zero-add}
use Rattle.std.proofs.lemmas.List.Sums.{sum_by-append}
use Rattle.std.specs.List.{slice_get}
use Rattle.std.proofs.lemmas.List.{length_push}
use Rattle.std.proofs.lemmas.Bool.Decides.{nat_tests}
use Rattle.mission_model.specs.declared.plan.Item.{Item}
use Rattle.mission_model.specs.declared.command.Jump.{Jump}
use Rattle.mission_model.specs.Command.{jump_of}
use Rattle.mission_model.specs.PlanCode.{jumps_in}
use Rattle.mission_model.specs.Feasible.{is_jump, leads_to, leads_to_jump, is_jump_target, first_place, first_place_after, breaks_jump_target}
use Rattle.feasibility.specs.SoFar.{jump_at, with_jump, jumps_from, has_jump_at, has_target, first_to_jump}

with_jump-nil : (n : ℕ) (jump : Option Jump) → with_jump n jump [] ≡ jump_at n jump
with_jump-nil n None = refl
with_jump-nil n (Some jump) = refl

with_jump-append : (n : ℕ) (jump : Option Jump) (xs ys : List (ℕ × ℕ)) → with_jump n jump (xs ++ ys) ≡ with_jump n jump xs ++ ys
with_jump-append n None xs ys = refl
with_jump-append n (Some jump) xs ys = refl

jumps_from-push : (place : ℕ) (items : List Item) (item : Item) → jumps_from place (items ++ item ∷ []) ≡ jumps_from place items ++ jump_at (place + length items) (jump_of item)
jumps_from-push place [] item =
    let same : place ≡ place + 0 = omega arith in
    with_jump-nil place (jump_of item) ∙ ap (λ k. jump_at k (jump_of item)) same
jumps_from-push place (first ∷ items) item =
    let same : place + 1 + length items ≡ place + length (first ∷ items) = omega arith in
    ap (with_jump place (jump_of first)) (jumps_from-push (place + 1) items item ∙ ap (λ k. jumps_from (place + 1) items ++ jump_at k (jump_of item)) same)
    ∙ with_jump-append place (jump_of first) (jumps_from (place + 1) items) (jump_at (place + length (first ∷ items)) (jump_of item))

-- the jumps of a mission, with one more item
pub jumps_from-more : (items : List Item) (item : Item) → jumps_from 0 (items ++ item ∷ []) ≡ jumps_from 0 items ++ jump_at (length items) (jump_of item)
jumps_from-more items item =
    let same : 0 + length items ≡ length items = omega arith in
    jumps_from-push 0 items item ∙ ap (λ k. jumps_from 0 items ++ jump_at k (jump_of item)) same

length-with_jump : (n : ℕ) (jump : Option Jump) (rest : List (ℕ × ℕ)) → length (with_jump n jump rest) ≡ cond (is_some jump) 1 0 + length rest
length-with_jump n None rest = omega arith
length-with_jump n (Some jump) rest = omega arith

jumps_in-cons : (item : Item) (items : List Item) → jumps_in (item ∷ items) ≡ cond (is_some (jump_of item)) 1 0 + jumps_in items
jumps_in-cons item items = sum_by-append (λ i. cond (is_some (jump_of i)) 1 0) (item ∷ []) items ∙ ap (λ n. n + jumps_in items) (zero-add (cond (is_some (jump_of item)) 1 0))

-- the jumps are as many as the items have
pub length-jumps_from : (place : ℕ) (items : List Item) → length (jumps_from place items) ≡ jumps_in items
length-jumps_from place [] = refl
length-jumps_from place (item ∷ items) = length-with_jump place (jump_of item) (jumps_from (place + 1) items) ∙ ap (λ n. cond (is_some (jump_of item)) 1 0 + n) (length-jumps_from (place + 1) items) ∙ sym (jumps_in-cons item items)

eq_above : (n t : ℕ) → t < n → (n == t) ≡ false
eq_above n t h = grind (arith, nat_tests)

eq_below : (n t k : ℕ) → t ≡ n + suc k → (n == t) ≡ false
eq_below n t k h = grind (arith, nat_tests)

eq_same : (n t : ℕ) → t ≡ n + 0 → (n == t) ≡ true
eq_same n t h = grind (arith, nat_tests)

has_jump_at-other : (jump : Option Jump) (n t : ℕ) (rest : List (ℕ × ℕ)) → (n == t) ≡ false → has_jump_at (with_jump n jump rest) t ≡ has_jump_at rest t
has_jump_at-other None n t rest h = refl
has_jump_at-other (Some jump) n t rest h = ap (λ b. b || has_jump_at rest t) h

has_jump_at-first : (jump : Option Jump) (n t : ℕ) (rest : List (ℕ × ℕ)) → (n == t) ≡ true → has_jump_at rest t ≡ false → has_jump_at (with_jump n jump rest) t ≡ is_some jump
has_jump_at-first None n t rest h k = k
has_jump_at-first (Some jump) n t rest h k = ap (λ b. b || has_jump_at rest t) h

has_jump_at-below : (items : List Item) (n t : ℕ) → t < n → has_jump_at (jumps_from n items) t ≡ false
has_jump_at-below [] n t h = refl
has_jump_at-below (item ∷ items) n t h = has_jump_at-other (jump_of item) n t (jumps_from (n + 1) items) (eq_above n t h) ∙ has_jump_at-below items (n + 1) t (omega arith)

-- a jump stands at a place where the item there is one
has_jump_at-from : (items : List Item) (n t k : ℕ) → t ≡ n + k → has_jump_at (jumps_from n items) t ≡ is_jump (slice_get items k)
has_jump_at-from [] n t k h = refl
has_jump_at-from (item ∷ items) n t zero h = has_jump_at-first (jump_of item) n t (jumps_from (n + 1) items) (eq_same n t h) (has_jump_at-below items (n + 1) t (omega arith))
has_jump_at-from (item ∷ items) n t (suc k) h = has_jump_at-other (jump_of item) n t (jumps_from (n + 1) items) (eq_below n t k h) ∙ has_jump_at-from items (n + 1) t k (omega arith)

to_jump : (mission : List Item) (jump : Option Jump) (n : ℕ) (rest : List (ℕ × ℕ)) (later : Option ℕ) → later ≡ first_to_jump (jumps_from 0 mission) rest → cond (leads_to_jump mission jump) (Some n) later ≡ first_to_jump (jumps_from 0 mission) (with_jump n jump rest)
to_jump mission None n rest later h = h
to_jump mission (Some jump) n rest later h =
    let same : jump.target ≡ 0 + jump.target = omega arith in
    ap (λ l. cond (is_jump (slice_get mission jump.target)) (Some n) l) h
    ∙ ap (λ b. cond b (Some n) (first_to_jump (jumps_from 0 mission) rest)) (sym (has_jump_at-from mission 0 jump.target jump.target same))

first_to_jump-after : (mission before items : List Item) → before ++ items ≡ mission → first_place_after before breaks_jump_target items ≡ first_to_jump (jumps_from 0 mission) (jumps_from (length before) items)
first_to_jump-after mission before [] h = refl
first_to_jump-after mission before (item ∷ after) h =
    ap (λ m. cond (leads_to_jump m (jump_of item)) (Some (length before)) (first_place_after (before ++ item ∷ []) breaks_jump_target after)) h
    ∙ to_jump mission (jump_of item) (length before) (jumps_from (length before + 1) after) (first_place_after (before ++ item ∷ []) breaks_jump_target after)
    (first_to_jump-after mission (before ++ item ∷ []) after (append_assoc before (item ∷ []) after ∙ h) ∙ ap (λ n. first_to_jump (jumps_from 0 mission) (jumps_from n after)) (length_push before item))

-- the first jump that leads to a jump
pub first_to_jump-in : (items : List Item) → first_place breaks_jump_target items ≡ first_to_jump (jumps_from 0 items) (jumps_from 0 items)
first_to_jump-in items = first_to_jump-after items [] items refl

has_target-with : (n t : ℕ) (jump : Option Jump) (rest : List (ℕ × ℕ)) → has_target (with_jump n jump rest) t ≡ (leads_to t jump || has_target rest t)
has_target-with n t None rest = refl
has_target-with n t (Some jump) rest = refl

-- a place is the target of one of the jumps where it is the target of a jump of the items
pub has_target-from : (place : ℕ) (items : List Item) (t : ℕ) → has_target (jumps_from place items) t ≡ is_jump_target items t
has_target-from place [] t = refl
has_target-from place (item ∷ items) t = has_target-with place t (jump_of item) (jumps_from (place + 1) items) ∙ ap (λ b. leads_to t (jump_of item) || b) (has_target-from (place + 1) items t)
