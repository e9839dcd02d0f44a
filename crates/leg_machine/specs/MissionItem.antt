-- An item of a valid mission.
use Rattle.std.specs.Prelude.{◌≡◌, ℕ, List, Some, length, slice_get}
use Rattle.mission_model.specs.declared.plan.Item.{Item}
use Rattle.mission_model.specs.declared.plan.PlanType.TheVariants.{Mission}
use Rattle.mission_model.specs.PlanCode.{PlanValid}

-- the item stands at this index of a valid mission of so many items
pub record IsItemAt (count index : ℕ) (item : Item) : Type 0 where
  pub items : List Item
  pub valid : PlanValid Mission items
  pub same_count : length items ≡ count
  pub stands : slice_get items index ≡ Some item
