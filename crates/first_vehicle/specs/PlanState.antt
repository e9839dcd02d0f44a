-- A plan as the lines of a record show it, and the drafts that links write.
use Rattle.std.specs.Prelude.{◌≡◌, ℕ, ◌==◌, ◌&&◌, Bool, List, [], ◌∷◌, ◌++◌, Option, Some, None, map, replicate, find, slice_index_or, slice_set, if◌then◌else◌}
use Rattle.first_model.specs.declared.plan.PlanType.{PlanType}
use Rattle.first_model.specs.declared.plan.PlanHead.{PlanHead}
use Rattle.first_model.specs.declared.plan.Item.{Item}
use Rattle.first_model.specs.Command.{is_kind}

-- a plan's id and its items, of which some may be untold
pub record PlanState : Type 0 where
  pub id : ℕ
  pub items : List (Option Item)

-- the items that a link's answers wrote so far for a plan of this kind and id
pub record DraftState : Type 0 where
  pub kind : PlanType
  pub id : ℕ
  pub items : List Item

-- the plan that a boot line names: no item of it is told
abbrev pub untold : PlanHead → PlanState
untold head = record { id = head.id; items = replicate head.count None }

-- the plan of these items, each of them told
abbrev pub told : ℕ → List Item → PlanState
told id items = record { id = id; items = map (λ item. Some item) items }

-- the item at a seq, where it is told
abbrev pub told_at : PlanState → ℕ → Option Item
told_at plan seq = slice_index_or plan.items seq None

-- what is told is this item, or nothing is told
abbrev pub CanBe : Option Item → Item → Type 0
CanBe None item = Unit {0}
CanBe (Some other) item = other ≡ item

-- the plan with the item at a seq told
abbrev pub with_told : PlanState → ℕ → Item → PlanState
with_told plan seq item = record { id = plan.id; items = slice_set plan.items seq (Some item) }

-- the list with an element in the place of the first that passes the test, or behind the last where none does
abbrev pub put_by : {A : Type 0} → (A → Bool) → A → List A → List A
put_by test new [] = new ∷ []
put_by test new (old ∷ rest) = if test old then new ∷ rest else old ∷ put_by test new rest

-- the draft is of this kind and id
abbrev pub is_draft : PlanType → ℕ → DraftState → Bool
is_draft kind id draft = is_kind draft.kind kind && draft.id == id

-- the items of a draft that may be there
abbrev pub items_of : Option DraftState → List Item
items_of None = []
items_of (Some draft) = draft.items

-- the items of the draft of this kind and id; there are none before the first was written
abbrev pub draft_of : List DraftState → PlanType → ℕ → List Item
draft_of drafts kind id = items_of (find (is_draft kind id) drafts)

-- the drafts with one more item in that of this kind and id
abbrev pub with_written : List DraftState → PlanType → ℕ → Item → List DraftState
with_written drafts kind id item = put_by (is_draft kind id) (record { kind = kind; id = id; items = draft_of drafts kind id ++ item ∷ [] }) drafts
