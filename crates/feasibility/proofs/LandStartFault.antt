-- Land starts and their landing: with one more item, and which of them is at fault.
use Rattle.std.proofs.Common.{◌≡◌, ℕ, ◌+◌, Bool, true, false, cond, not, ◌&&◌, ◌||◌, List, [], ◌∷◌, ◌++◌, Option, Some, None, is_some, length, refl, sym, ap, ◌∙◌, arith}
use Rattle.std.specs.List.{list_any, position_from}
use Rattle.std.specs.Option.{option_map}
use Rattle.std.proofs.lemmas.List.{length_push}
use Rattle.mission_model.specs.declared.plan.Item.{Item}
use Rattle.mission_model.specs.Feasible.{first_place, first_place_after, breaks_one_land_start}
use Rattle.mission_model.specs.Landing.{is_landing, is_land_start, landing_from, landing_of}
use Rattle.feasibility.specs.SoFar.{or_place, landing_with, is_second_land_start}
use Rattle.feasibility.proofs.Places.{list_any-push, position_from-push, is_some-position_from}

map-cond : (c : Bool) (n place : ℕ) → option_map {U = ℕ × ℕ} (λ landing. (n, landing)) (cond c (Some place) None) ≡ cond c (Some (n, place)) None
map-cond true n place = refl
map-cond false n place = refl

cond_same : (b : Bool) (o : Option (ℕ × ℕ)) → cond b o o ≡ o
cond_same true o = refl
cond_same false o = refl

landing-cond : (b : Bool) (n : ℕ) (later more : Option ℕ) (rest longer : Option (ℕ × ℕ)) (start : Option ℕ) (place : ℕ) (item : Item) → more ≡ or_place later (is_landing item) place → longer ≡ landing_with rest start place item → cond b (option_map {U = ℕ × ℕ} (λ landing. (n, landing)) more) longer ≡ landing_with (cond b (option_map {U = ℕ × ℕ} (λ landing. (n, landing)) later) rest) (cond b (Some n) start) place item
landing-cond true n None more rest longer start place item h k = ap (option_map {U = ℕ × ℕ} (λ landing. (n, landing))) h ∙ map-cond (is_landing item) n place
landing-cond true n (Some landing) more rest longer start place item h k = ap (option_map {U = ℕ × ℕ} (λ l. (n, l))) h
landing-cond false n later more rest longer start place item h k = k

-- the landing of the first land start, with one more item
landing_from-push : (place : ℕ) (items : List Item) (item : Item) → landing_from place (items ++ item ∷ []) ≡ landing_with (landing_from place items) (position_from is_land_start place items) (place + length items) item
landing_from-push place [] item = cond_same (is_land_start item) None
landing_from-push place (first ∷ items) item =
    let same : place + 1 + length items ≡ place + length (first ∷ items) = omega arith in
    landing-cond (is_land_start first) place (position_from is_landing (place + 1) items) (position_from is_landing (place + 1) (items ++ item ∷ [])) (landing_from (place + 1) items) (landing_from (place + 1) (items ++ item ∷ [])) (position_from is_land_start (place + 1) items) (place + length (first ∷ items)) item
    (position_from-push is_landing (place + 1) items item ∙ ap (λ k. or_place (position_from is_landing (place + 1) items) (is_landing item) k) same)
    (landing_from-push (place + 1) items item ∙ ap (λ k. landing_with (landing_from (place + 1) items) (position_from is_land_start (place + 1) items) k item) same)

pub landing_of-push : (items : List Item) (item : Item) → landing_of (items ++ item ∷ []) ≡ landing_with (landing_of items) (position_from is_land_start 0 items) (length items) item
landing_of-push items item =
    let same : 0 + length items ≡ length items = omega arith in
    landing_from-push 0 items item ∙ ap (λ k. landing_with (landing_of items) (position_from is_land_start 0 items) k item) same

-- behind a land start each further one is at fault
all_at_fault : (before items : List Item) → list_any is_land_start before ≡ true → first_place_after before breaks_one_land_start items ≡ first_place_after before is_second_land_start items
all_at_fault before [] h = refl
all_at_fault before (first ∷ after) h =
    ap (λ b. cond (is_land_start first && (b || not (list_any is_landing after))) (Some (length before)) (first_place_after (before ++ first ∷ []) breaks_one_land_start after)) h
    ∙ ap (λ rest. cond (is_land_start first && true) (Some (length before)) rest) (all_at_fault (before ++ first ∷ []) after (list_any-push is_land_start before first ∙ ap (λ b. b || is_land_start first) h))
    ∙ sym (ap (λ b. cond (is_land_start first && b) (Some (length before)) (first_place_after (before ++ first ∷ []) is_second_land_start after)) h)

is_some-map : (n : ℕ) (o : Option ℕ) → is_some (option_map {U = ℕ × ℕ} (λ landing. (n, landing)) o) ≡ is_some o
is_some-map n None = refl
is_some-map n (Some k) = refl

swapped : (c : Bool) (first a b : Option ℕ) → a ≡ b → cond (not c) first a ≡ cond c b first
swapped true first a b h = h
swapped false first a b h = refl

at_start : (found before lands : Bool) (m : ℕ) (a b : Option ℕ) → before ≡ false → found ≡ lands → a ≡ b → cond (before || not lands) (Some m) a ≡ cond found (cond before (Some m) b) (Some m)
at_start found before lands m a b none same h =
    ap (λ p. cond (p || not lands) (Some m) a) none
    ∙ swapped lands (Some m) a b h
    ∙ ap (λ c. cond c b (Some m)) (sym same)
    ∙ sym (ap (λ p. cond found (cond p (Some m) b) (Some m)) none)

-- the first land start at fault is the second one, or the first one where no landing stands after it
fault_after : (before items : List Item) → list_any is_land_start before ≡ false → first_place_after before breaks_one_land_start items ≡ cond (is_some (landing_from (length before) items)) (first_place_after before is_second_land_start items) (position_from is_land_start (length before) items)
fault_after before [] h = refl
fault_after before (first ∷ after) h =
    elim (is_land_start first) as (λ b. is_land_start first ≡ b → cond (b && (list_any is_land_start before || not (list_any is_landing after))) (Some (length before)) (first_place_after (before ++ first ∷ []) breaks_one_land_start after) ≡ cond (is_some (cond b (option_map {U = ℕ × ℕ} (λ landing. (length before, landing)) (position_from is_landing (length before + 1) after)) (landing_from (length before + 1) after))) (cond (b && list_any is_land_start before) (Some (length before)) (first_place_after (before ++ first ∷ []) is_second_land_start after)) (cond b (Some (length before)) (position_from is_land_start (length before + 1) after))) [
      | true ↦ λ is. at_start (is_some (option_map {U = ℕ × ℕ} (λ landing. (length before, landing)) (position_from is_landing (length before + 1) after))) (list_any is_land_start before) (list_any is_landing after) (length before) (first_place_after (before ++ first ∷ []) breaks_one_land_start after) (first_place_after (before ++ first ∷ []) is_second_land_start after) h
          (is_some-map (length before) (position_from is_landing (length before + 1) after) ∙ is_some-position_from is_landing (length before + 1) after)
          (all_at_fault (before ++ first ∷ []) after (list_any-push is_land_start before first ∙ ap (λ b. b || is_land_start first) h ∙ is))
      | false ↦ λ is. fault_after (before ++ first ∷ []) after (list_any-push is_land_start before first ∙ ap (λ b. b || is_land_start first) h ∙ is)
          ∙ ap (λ n. cond (is_some (landing_from n after)) (first_place_after (before ++ first ∷ []) is_second_land_start after) (position_from is_land_start n after)) (length_push before first)
    ] refl

pub fault_in : (items : List Item) → first_place breaks_one_land_start items ≡ cond (is_some (landing_of items)) (first_place is_second_land_start items) (position_from is_land_start 0 items)
fault_in items = fault_after [] items refl
