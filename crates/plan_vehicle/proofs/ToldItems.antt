-- The items of a plan that are told.
use Rattle.std.proofs.Common.{◌≡◌, ℕ, zero, suc, ◌<◌, List, [], ◌∷◌, map, length, get_or, set, Option, Some, None, filter_map, refl, sym, ap, ◌∙◌, subst, arith}
use Rattle.std.specs.Prelude.{slice_get}
use Rattle.std.proofs.lemmas.List.{set-get_or}
use Rattle.mission_model.specs.declared.plan.Item.{Item}
use Rattle.mission_model.specs.declared.plan.PlanType.{PlanType}
use Rattle.plan_vehicle.specs.PlanState.{PlanState, told_at, with_told, CanBe, told_items, IsKnown}

-- items that are all told are what is told of them
pub told_items-map : (items : List Item) → filter_map (λ (item : Option Item). item) (map (λ item. Some item) items) ≡ items
told_items-map [] = refl
told_items-map (item ∷ items) = ap (λ l. item ∷ l) (told_items-map items)

-- and so the plan is that of what is told of it
pub whole : (plan : PlanState) (items : List Item) → plan.items ≡ map (λ item. Some item) items → (plan.items ≡ map (λ item. Some item) (told_items plan)) × (items ≡ told_items plan)
whole plan items h =
    let same : told_items plan ≡ items = ap (λ l. filter_map (λ (item : Option Item). item) l) h ∙ told_items-map items in
    (h ∙ ap (λ l. map (λ item. Some item) l) (sym same), sym same)

get_or-told : (items : List Item) (k : ℕ) (d : Option Item) → k < length (map (λ item. Some item) items) → get_or (map (λ item. Some item) items) k d ≡ None → ⊥
get_or-told [] k d within none = absurd (omega (arith, within))
get_or-told (item ∷ items) zero d within none = cc
get_or-told (item ∷ items) (suc k) d within none = get_or-told items k d (omega (arith, within)) none

-- where an item is untold, not all are told
pub untold_item : (xs : List (Option Item)) (items : List Item) (k : ℕ) (d : Option Item) → k < length xs → get_or xs k d ≡ None → xs ≡ map (λ item. Some item) items → ⊥
untold_item xs items k d within none h =
    get_or-told items k d (subst (λ (l : List (Option Item)). k < length l) h within) (subst (λ (l : List (Option Item)). get_or l k d ≡ None) h none)

map-get : (items : List Item) (k : ℕ) → get_or (map (λ item. Some item) items) k None ≡ slice_get items k
map-get [] k = refl
map-get (item ∷ items) zero = refl
map-get (item ∷ items) (suc k) = map-get items k

-- what is told at a seq of a plan that is known
pub told_at-known : (kind : PlanType) (plan : PlanState) (seq : ℕ) → IsKnown kind plan → told_at plan seq ≡ slice_get (told_items plan) seq
told_at-known kind plan seq h = ap (λ xs. get_or xs seq None) h.told ∙ map-get (told_items plan) seq

-- an item that is told once more changes nothing
pub told_again : (plan : PlanState) (seq : ℕ) (other item : Item) → told_at plan seq ≡ Some other → CanBe (told_at plan seq) item → with_told plan seq item ≡ plan
told_again plan seq other item at can =
    let same : other ≡ item = subst (λ o. CanBe o item) at can in
    ap (λ (xs : List (Option Item)). record { id = plan.id; items = xs }) (ap (set plan.items seq) (ap (λ i. Some i) (sym same) ∙ sym at) ∙ set-get_or plan.items seq None)
