-- Loiters without an end: with one more item, and the first one that cannot be left.
use Rattle.std.proofs.Common.{◌≡◌, ℕ, ◌+◌, Bool, true, false, cond, not, ◌&&◌, List, [], ◌∷◌, ◌++◌, Option, Some, None, length, refl, sym, ap, ◌∙◌, arith, append_assoc}
use Rattle.std.proofs.lemmas.List.{length_push}
use Rattle.mission_model.specs.declared.plan.Item.{Item}
use Rattle.mission_model.specs.Landing.{is_land_start}
use Rattle.mission_model.specs.Feasible.{is_unlimited_loiter, go_on_otherwise, is_jump_target, first_place, first_place_after, breaks_loiter_left}
use Rattle.feasibility.specs.SoFar.{or_place, jumps_from, with_place, stuck_from, stuck_with, last_loiter_from, first_not_left}
use Rattle.feasibility.proofs.JumpTargets.{has_target-from}

with_place-append : (b : Bool) (n : ℕ) (xs ys : List ℕ) → with_place b n (xs ++ ys) ≡ with_place b n xs ++ ys
with_place-append true n xs ys = refl
with_place-append false n xs ys = refl

none_yet : (b : Bool) (n : ℕ) → with_place (b && false) n [] ≡ []
none_yet true n = refl
none_yet false n = refl

one_more : (loiter starts : Bool) (n : ℕ) → with_place (loiter && not starts) n [] ≡ cond loiter (cond starts [] (n ∷ [])) []
one_more true true n = refl
one_more true false n = refl
one_more false starts n = refl

stuck_with-last : (loiter : Bool) (n : ℕ) (item : Item) → stuck_with (or_place None loiter n) item ≡ cond loiter (cond (is_land_start item) [] (n ∷ [])) []
stuck_with-last true n item = refl
stuck_with-last false n item = refl

stuck_from-push : (place : ℕ) (items : List Item) (item : Item) → stuck_from place (items ++ item ∷ []) ≡ stuck_from place items ++ stuck_with (last_loiter_from place items) item
stuck_from-push place [] item = none_yet (is_unlimited_loiter item) place
stuck_from-push place (first ∷ []) item =
    ap (with_place (is_unlimited_loiter first && not (is_land_start item)) place) (none_yet (is_unlimited_loiter item) (place + 1))
    ∙ one_more (is_unlimited_loiter first) (is_land_start item) place
    ∙ sym (stuck_with-last (is_unlimited_loiter first) place item)
    ∙ ap (λ l. l ++ stuck_with (or_place None (is_unlimited_loiter first) place) item) (sym (none_yet (is_unlimited_loiter first) place))
stuck_from-push place (first ∷ next ∷ rest) item =
    ap (with_place (is_unlimited_loiter first && not (is_land_start next)) place) (stuck_from-push (place + 1) (next ∷ rest) item)
    ∙ with_place-append (is_unlimited_loiter first && not (is_land_start next)) place (stuck_from (place + 1) (next ∷ rest)) (stuck_with (last_loiter_from (place + 1) (next ∷ rest)) item)

-- the loiters whose next item is no land start, with one more item
pub stuck_from-more : (items : List Item) (item : Item) → stuck_from 0 (items ++ item ∷ []) ≡ stuck_from 0 items ++ stuck_with (last_loiter_from 0 items) item
stuck_from-more items item = stuck_from-push 0 items item

last_loiter_from-push : (place : ℕ) (items : List Item) (item : Item) → last_loiter_from place (items ++ item ∷ []) ≡ or_place None (is_unlimited_loiter item) (place + length items)
last_loiter_from-push place [] item =
    let same : place ≡ place + 0 = omega arith in
    ap (or_place None (is_unlimited_loiter item)) same
last_loiter_from-push place (first ∷ []) item =
    let same : place + 1 ≡ place + length (first ∷ []) = omega arith in
    ap (or_place None (is_unlimited_loiter item)) same
last_loiter_from-push place (first ∷ next ∷ rest) item =
    let same : place + 1 + length (next ∷ rest) ≡ place + length (first ∷ next ∷ rest) = omega arith in
    last_loiter_from-push (place + 1) (next ∷ rest) item ∙ ap (or_place None (is_unlimited_loiter item)) same

-- the last item is the one more
pub last_loiter_from-more : (items : List Item) (item : Item) → last_loiter_from 0 (items ++ item ∷ []) ≡ or_place None (is_unlimited_loiter item) (length items)
last_loiter_from-more items item =
    let same : 0 + length items ≡ length items = omega arith in
    last_loiter_from-push 0 items item ∙ ap (or_place None (is_unlimited_loiter item)) same

not_left : (mission : List Item) (loiter other : Bool) (n : ℕ) (rest : List ℕ) (later : Option ℕ) → later ≡ first_not_left (jumps_from 0 mission) rest → cond (loiter && other && not (is_jump_target mission (n + 1))) (Some n) later ≡ first_not_left (jumps_from 0 mission) (with_place (loiter && other) n rest)
not_left mission true true n rest later h =
    ap (λ l. cond (not (is_jump_target mission (n + 1))) (Some n) l) h
    ∙ ap (λ b. cond (not b) (Some n) (first_not_left (jumps_from 0 mission) rest)) (sym (has_target-from 0 mission (n + 1)))
not_left mission true false n rest later h = h
not_left mission false other n rest later h = h

first_not_left-after : (mission before items : List Item) → before ++ items ≡ mission → first_place_after before breaks_loiter_left items ≡ first_not_left (jumps_from 0 mission) (stuck_from (length before) items)
first_not_left-after mission before [] h = refl
first_not_left-after mission before (item ∷ after) h =
    ap (λ m. cond (is_unlimited_loiter item && go_on_otherwise after && not (is_jump_target m (length before + 1))) (Some (length before)) (first_place_after (before ++ item ∷ []) breaks_loiter_left after)) h
    ∙ not_left mission (is_unlimited_loiter item) (go_on_otherwise after) (length before) (stuck_from (length before + 1) after) (first_place_after (before ++ item ∷ []) breaks_loiter_left after)
    (first_not_left-after mission (before ++ item ∷ []) after (append_assoc before (item ∷ []) after ∙ h) ∙ ap (λ n. first_not_left (jumps_from 0 mission) (stuck_from n after)) (length_push before item))

-- the first loiter that cannot be left
pub first_not_left-in : (items : List Item) → first_place breaks_loiter_left items ≡ first_not_left (jumps_from 0 items) (stuck_from 0 items)
first_not_left-in items = first_not_left-after items [] items refl
