-- The drafts that links write in a boot: of each type and id the items so far.
use Rattle.std.specs.Prelude.{ℕ, ◌==◌, ◌&&◌, Bool, List, [], ◌∷◌, ◌++◌, Option, Some, None, find, if◌then◌else◌}
use Rattle.std.specs.List.{list_any}
use Rattle.mission_model.specs.declared.plan.PlanType.{PlanType}
use Rattle.mission_model.specs.declared.plan.Item.{Item}
use Rattle.mission_model.specs.PlanTypes.{is_kind}

-- the items that a link's answers wrote so far for a plan of this type and id
pub record DraftState : Type 0 where
  pub kind : PlanType
  pub id : ℕ
  pub items : List Item

-- the list with an element in the place of the first that passes the test, or behind the last where none does
abbrev pub put_by : {A : Type 0} → (A → Bool) → A → List A → List A
put_by test new [] = new ∷ []
put_by test new (old ∷ rest) = if test old then new ∷ rest else old ∷ put_by test new rest

-- the same, but before the first where none does
abbrev pub put_first : {A : Type 0} → (A → Bool) → A → List A → List A
put_first test new xs = if list_any test xs then put_by test new xs else new ∷ xs

-- the draft is of this type and id
abbrev pub is_draft : PlanType → ℕ → DraftState → Bool
is_draft kind id draft = is_kind draft.kind kind && draft.id == id

-- the items of a draft that may be there
abbrev pub items_of : Option DraftState → List Item
items_of None = []
items_of (Some draft) = draft.items

-- the items of the draft of this type and id; there are none before the first was written
abbrev pub draft_of : List DraftState → PlanType → ℕ → List Item
draft_of drafts kind id = items_of (find (is_draft kind id) drafts)

-- the drafts, the newest first, with one more item in that of this type and id
abbrev pub with_written : List DraftState → PlanType → ℕ → Item → List DraftState
with_written drafts kind id item = put_first (is_draft kind id) (record { kind = kind; id = id; items = draft_of drafts kind id ++ item ∷ [] }) drafts
