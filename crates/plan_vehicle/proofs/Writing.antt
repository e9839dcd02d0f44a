-- A draft among drafts: its items, and one item more.
use Rattle.std.proofs.Common.{◌≡◌, ℕ, true, List, [], ◌∷◌, ◌++◌, get_or, set, Some, None, sym, ap, ◌∙◌}
use Rattle.std.specs.List.{position}
use Rattle.mission_model.specs.declared.plan.PlanType.{PlanType}
use Rattle.mission_model.specs.declared.plan.Item.{Item}
use Rattle.plan_vehicle.specs.Drafts.{DraftState, is_draft, items_of, draft_of, with_written}
use Rattle.plan_vehicle.specs.Kept.{is_draft-true}
use Rattle.plan_vehicle.proofs.FirstBy.{find-Some, find-None, put_first-Some, put_first-None}

-- the draft in the place that is found has the items
pub draft_of-Some : (kind : PlanType) (id : ℕ) (drafts : List DraftState) (i : ℕ) (draft : DraftState) → position (is_draft kind id) drafts ≡ Some i → draft ≡ get_or drafts i draft → draft_of drafts kind id ≡ draft.items
draft_of-Some kind id drafts i draft found at =
    let there = find-Some (is_draft kind id) draft drafts i found in
    ap items_of there.1 ∙ ap (λ d. d.items) (sym at)

-- without a place there are no items
pub draft_of-None : (kind : PlanType) (id : ℕ) (drafts : List DraftState) → position (is_draft kind id) drafts ≡ None → draft_of drafts kind id ≡ []
draft_of-None kind id drafts none = ap items_of (find-None (is_draft kind id) drafts none)

-- one more item goes behind those of the draft in the place that is found
pub with_written-Some : (kind : PlanType) (id : ℕ) (item : Item) (drafts : List DraftState) (i : ℕ) (draft : DraftState) → position (is_draft kind id) drafts ≡ Some i → draft ≡ get_or drafts i draft → with_written drafts kind id item ≡ set drafts i (record { kind = draft.kind; id = draft.id; items = draft.items ++ item ∷ [] })
with_written-Some kind id item drafts i draft found at =
    let there = find-Some (is_draft kind id) draft drafts i found in
    let passes : is_draft kind id draft ≡ true = ap (is_draft kind id) at ∙ there.2 in
    let is = is_draft-true kind id draft passes in
    let items_are : draft_of drafts kind id ≡ draft.items = draft_of-Some kind id drafts i draft found at in
    rw (is.0, is.1, ← items_are) (put_first-Some (is_draft kind id) (record { kind = kind; id = id; items = draft_of drafts kind id ++ item ∷ [] }) draft drafts i found)

-- without a place a draft of one item is begun
pub with_written-None : (kind : PlanType) (id : ℕ) (item : Item) (drafts : List DraftState) → position (is_draft kind id) drafts ≡ None → with_written drafts kind id item ≡ record { kind = kind; id = id; items = item ∷ [] } ∷ drafts
with_written-None kind id item drafts none =
    let begun : DraftState = record { kind = kind; id = id; items = draft_of drafts kind id ++ item ∷ [] } in
    put_first-None (is_draft kind id) begun drafts none ∙ ap (λ items. (record { kind = kind; id = id; items = items ++ item ∷ [] }) ∷ drafts) (draft_of-None kind id drafts none)
