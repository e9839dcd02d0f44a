-- A plan as the lines of a record show it: its id, and its items as far as they are told.
use Rattle.std.specs.Prelude.{◌≡◌, ℕ, List, Option, Some, None, map, replicate, length, filter_map, slice_index_or, slice_set}
use Rattle.mission_model.specs.declared.plan.PlanType.{PlanType}
use Rattle.mission_model.specs.declared.plan.PlanHead.{PlanHead}
use Rattle.mission_model.specs.declared.plan.Item.{Item}
use Rattle.mission_model.specs.PlanCode.{PlanValid}

-- a plan's id and its items, of which some may be untold
pub record PlanState : Type 0 where
  pub id : ℕ
  pub items : List (Option Item)

-- the plan that a boot line names: no item of it is told
abbrev pub untold : PlanHead → PlanState
untold head = record { id = head.id; items = replicate head.count None }

-- the plan of these items, each of them told
abbrev pub told : ℕ → List Item → PlanState
told id items = record { id = id; items = map (λ item. Some item) items }

-- the plan's id and the number of its items, as a boot line names them
abbrev pub plan_head : PlanState → PlanHead
plan_head plan = record { id = plan.id; count = length plan.items }

-- the item at a seq, where it is told
abbrev pub told_at : PlanState → ℕ → Option Item
told_at plan seq = slice_index_or plan.items seq None

-- what is told is this item, or nothing is told
abbrev pub CanBe : Option Item → Item → Type 0
CanBe None item = Unit {0}
CanBe (Some other) item = other ≡ item

-- the plan with the item at a seq told
abbrev pub with_told : PlanState → ℕ → Item → PlanState
with_told plan seq item = record { id = plan.id; items = slice_set plan.items seq (Some item) }

-- the items that are told, in their order
abbrev pub told_items : PlanState → List Item
told_items plan = filter_map (λ item. item) plan.items

-- every item is told, and together they are a valid plan of this type
pub record IsKnown (kind : PlanType) (plan : PlanState) : Type 0 where
  pub told : plan.items ≡ map (λ item. Some item) (told_items plan)
  pub valid : PlanValid kind (told_items plan)
