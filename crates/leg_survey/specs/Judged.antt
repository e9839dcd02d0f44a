-- How a plan is judged: accepted, or refused at a seq.
use Rattle.std.specs.Prelude.{◌≡◌, ℕ, ◌≤◌, ◌<◌, List, length, Option, Some, None}
use Rattle.mission_model.specs.declared.message.AckCode.{AckCode}
use Rattle.mission_model.specs.declared.message.AckCode.TheVariants.{NoSpace}
use Rattle.mission_model.specs.declared.plan.Item.{Item}
use Rattle.mission_model.specs.declared.plan.PlanType.{PlanType}
use Rattle.mission_model.specs.PlanCode.{limit_of, PlanValid, FirstRefused}

-- the first refused seq and its code; a list over the limit of its type is refused there, whatever its items are
pub record IsRefusal (kind : PlanType) (items : List Item) (at : ℕ × AckCode) : Type 0 where
  pub over : limit_of kind < length items → at ≡ (limit_of kind, NoSpace)
  pub within : length items ≤ limit_of kind → FirstRefused kind items at.0 at.1

abbrev pub IsJudged : PlanType → List Item → Option (ℕ × AckCode) → Type 0
IsJudged kind items None = PlanValid kind items
IsJudged kind items (Some at) = IsRefusal kind items at
