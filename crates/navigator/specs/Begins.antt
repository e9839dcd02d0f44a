-- Over a cache that knows a plan's own items the taking goes along that plan: for those who know which plan the replies are of.
use Rattle.std.specs.Prelude.{◌≡◌, ℕ, zero, suc, ◌+◌, ◌-◌, ◌<◌, ◌≤◌, ◌⊎◌, Bool, true, false, List, [], ◌∷◌, ◌++◌, length, slice_get, Option, Some, None, if◌then◌else◌, refl}
use Rattle.std.proofs.Common.{sym, ap, subst, ◌∙◌, inl, inr, arith, length-append, append-nil}
use Rattle.mission_model.specs.declared.plan.Item.{Item}
use Rattle.mission_model.specs.declared.plan.PlanType.{PlanType}
use Rattle.client_cache.specs.CacheState.{CacheState, count_of, known_at}
use Rattle.client_cache.specs.Knowing.{Knows}
use Rattle.navigator.specs.Uses.{JumpUses}
use Rattle.navigator.specs.Taking.{can_follow, following, next_of, added, with_next_of, with_up_to, whole_taking}

-- the plan begins with these items
pub record Begins (items plan : List Item) : Type 0 where
  pub rest : List Item
  pub whole : items ++ rest ≡ plan

same_item : {a b : Item} → Some a ≡ Some b → a ≡ b
same_item h = cc

grown : (items rest : List Item) (item : Item) → slice_get (items ++ rest) (length items) ≡ Some item → (more : List Item) × ((items ++ item ∷ []) ++ more ≡ items ++ rest)
grown [] [] item h = absurd cc
grown [] (next ∷ rest) item h = (rest, ap (λ i. i ∷ rest) (sym (same_item h)))
grown (first ∷ items) rest item h = let g = grown items rest item h in (g.0, ap (λ l. first ∷ l) g.1)

begins_more : (items plan : List Item) (item : Item) → Begins items plan → slice_get plan (length items) ≡ Some item → Begins (items ++ item ∷ []) plan
begins_more items plan item b at =
    let g = grown items b.rest item (subst (λ (l : List Item). slice_get l (length items) ≡ Some item) (sym b.whole) at) in
    record { rest = g.0; whole = g.1 ∙ b.whole }

some_if : (b : Bool) (item other : Item) → (if b then Some other else None) ≡ Some item → other ≡ item
some_if true item other h = same_item h
some_if false item other h = absurd cc

pub known_next : (kind : PlanType) (uses : JumpUses) (count : ℕ) (items : List Item) (o : Option Item) (item : Item) → following kind uses count items o ≡ Some item → o ≡ Some item
known_next kind uses count items None item h = absurd cc
known_next kind uses count items (Some other) item h = ap (λ i. Some i) (some_if (can_follow kind uses count items other) item other h)

begins_next : (kind : PlanType) (uses : JumpUses) (c : CacheState) (items plan : List Item) (o : Option Item) → next_of kind uses c items ≡ o → Knows c plan → Begins items plan → Begins (added items o) plan
begins_next kind uses c items plan None is knows b = b
begins_next kind uses c items plan (Some item) is knows b = begins_more items plan item b (knows (length items) item (known_next kind uses (count_of c.head) items (known_at c (length items)) item is))

with_up_to-begins : (n : ℕ) (kind : PlanType) (uses : JumpUses) (c : CacheState) (items plan : List Item) → Knows c plan → Begins items plan → Begins (with_up_to n kind uses c items) plan
with_up_to-begins zero kind uses c items plan knows b = b
with_up_to-begins (suc n) kind uses c items plan knows b = begins_next kind uses c (with_up_to n kind uses c items) plan (next_of kind uses c (with_up_to n kind uses c items)) refl knows (with_up_to-begins n kind uses c items plan knows b)

-- the plan begins with what was taken, and does so when more is taken
pub whole_taking-begins : (kind : PlanType) (uses : JumpUses) (c : CacheState) (items plan : List Item) → Knows c plan → Begins items plan → Begins (whole_taking kind uses c items) plan
unfolding whole_taking
whole_taking-begins kind uses c items plan knows b = with_up_to-begins (count_of c.head - length items) kind uses c items plan knows b

grows_or_stops : (kind : PlanType) (uses : JumpUses) (c : CacheState) (items : List Item) (o : Option Item) → next_of kind uses c items ≡ o → (length (added items o) ≡ length items + 1) ⊎ ((added items o ≡ items) × (o ≡ None))
grows_or_stops kind uses c items None is = inr (refl, refl)
grows_or_stops kind uses c items (Some item) is = inl (length-append items (item ∷ []))

-- n more were taken, or none can be
with_up_to-stops : (n : ℕ) (kind : PlanType) (uses : JumpUses) (c : CacheState) (items : List Item) → (length (with_up_to n kind uses c items) ≡ length items + n) ⊎ (next_of kind uses c (with_up_to n kind uses c items) ≡ None)
with_up_to-stops zero kind uses c items = inl (omega arith)
with_up_to-stops (suc n) kind uses c items = elim (grows_or_stops kind uses c (with_up_to n kind uses c items) (next_of kind uses c (with_up_to n kind uses c items)) refl) [
  | inl more ↦ elim (with_up_to-stops n kind uses c items) [
    | inl so_far ↦ inl (omega (arith, more, so_far))
    | inr stopped ↦ inr (stays kind uses c (with_up_to n kind uses c items) stopped)
  ]
  | inr stops ↦ inr (stays kind uses c (with_up_to n kind uses c items) stops.1)
]
  where
    stays : (kind : PlanType) (uses : JumpUses) (c : CacheState) (ys : List Item) → next_of kind uses c ys ≡ None → next_of kind uses c (with_next_of kind uses c ys) ≡ None
    stays kind uses c ys none = ap (λ (o : Option Item). next_of kind uses c (added ys o)) none ∙ none

-- before the plan's end the taking stops where none can be taken
pub whole_taking-stops : (kind : PlanType) (uses : JumpUses) (c : CacheState) (items : List Item) → length items ≤ count_of c.head → length (whole_taking kind uses c items) < count_of c.head → next_of kind uses c (whole_taking kind uses c items) ≡ None
unfolding whole_taking
whole_taking-stops kind uses c items within short = elim (with_up_to-stops (count_of c.head - length items) kind uses c items) [
  | inl so_far ↦ absurd (omega (arith, so_far, within, short))
  | inr stopped ↦ stopped
]

unknown_by : (kind : PlanType) (uses : JumpUses) (count : ℕ) (items : List Item) (o : Option Item) → ((item : Item) → o ≡ Some item → can_follow kind uses count items item ≡ true) → following kind uses count items o ≡ None → o ≡ None
unknown_by kind uses count items None goes_with h = refl
unknown_by kind uses count items (Some item) goes_with h = absurd (taken (can_follow kind uses count items item) item (goes_with item refl) h)
  where
    taken : (b : Bool) (item : Item) → b ≡ true → (if b then Some item else None) ≡ None → ⊥
    taken true item yes_it h = cc
    taken false item yes_it h = cc

-- and that is the first item that is not known, where a known one may always follow
pub stops_at_unknown : (kind : PlanType) (uses : JumpUses) (c : CacheState) (items : List Item) → length items ≤ count_of c.head → length (whole_taking kind uses c items) < count_of c.head → ((item : Item) → known_at c (length (whole_taking kind uses c items)) ≡ Some item → can_follow kind uses (count_of c.head) (whole_taking kind uses c items) item ≡ true) → known_at c (length (whole_taking kind uses c items)) ≡ None
stops_at_unknown kind uses c items within short goes_with = unknown_by kind uses (count_of c.head) (whole_taking kind uses c items) (known_at c (length (whole_taking kind uses c items))) goes_with (whole_taking-stops kind uses c items within short)

no_rest : (rest : List Item) → length rest ≡ 0 → rest ≡ []
no_rest [] h = refl
no_rest (item ∷ rest) h = absurd (omega (arith, h))

-- a beginning with as many items as the plan is all of it
pub whole_is_plan : (items plan : List Item) → Begins items plan → length items ≡ length plan → items ≡ plan
whole_is_plan items plan b whole =
    let none : b.rest ≡ [] = no_rest b.rest (omega (arith, whole, ap (λ (l : List Item). length l) b.whole, length-append items b.rest)) in
    sym (append-nil items) ∙ ap (λ (l : List Item). items ++ l) (sym none) ∙ b.whole
