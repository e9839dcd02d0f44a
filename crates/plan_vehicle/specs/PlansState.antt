-- The plans of a vehicle with what missions are judged by, and what a check keeps of the judgement.
use Rattle.std.specs.Prelude.{◌≡◌, ◌<◌, ◌==◌, true, false, ℕ, ℤ, List, Option, Some, None, is_none}
use Rattle.std.specs.Option.{ForSome}
use Rattle.mission_model.specs.declared.plan.Params.{Params}
use Rattle.mission_model.specs.declared.plan.Home.{Home}
use Rattle.mission_model.specs.declared.plan.PlanHead.{PlanHead}
use Rattle.mission_model.specs.declared.plan.PlanType.{PlanType}
use Rattle.mission_model.specs.declared.plan.PlanType.TheVariants.{Mission, Fence, Safe}
use Rattle.mission_model.specs.Feasible.{FirstBroken}
use Rattle.mission_model.specs.Returns.{ReturnList, landing_where}
use Rattle.return_mode.specs.ReturnState.{ReturnState, begun}
use Rattle.mission_model.specs.PlanTypes.{head_of}
use Rattle.plan_vehicle.specs.declared.found.Found.{Found}
use Rattle.plan_vehicle.specs.PlanState.{PlanState, untold, told_items, IsKnown}
use Rattle.plan_vehicle.specs.VehicleState.{no_plan}

pub record PlansState : Type 0 where
  pub params : Params
  pub home : Option Home
  pub mission : PlanState
  pub fence : PlanState
  pub safe : PlanState

-- no plans yet
abbrev pub no_plans : Params → Option Home → PlansState
no_plans params home = record { params = params; home = home; mission = no_plan; fence = no_plan; safe = no_plan }

-- the plans that a boot line names
abbrev pub named_plans : PlansState → List PlanHead → PlansState
named_plans plans heads = record plans { mission = untold (head_of heads Mission); fence = untold (head_of heads Fence); safe = untold (head_of heads Safe) }

-- the plans with another one of a type
abbrev pub plans_with : PlansState → PlanType → PlanState → PlansState
plans_with plans Mission plan = record plans { mission = plan }
plans_with plans Fence plan = record plans { fence = plan }
plans_with plans Safe plan = record plans { safe = plan }

-- this is found of the mission with the fence
pub record IsFound (plans : PlansState) (found : Found) : Type 0 where
  pub mission_known : IsKnown Mission plans.mission
  pub fence_known : IsKnown Fence plans.fence
  pub is_broken : found.broken ≡ FirstBroken plans.params plans.home (told_items plans.mission) (told_items plans.fence)
  pub is_landing : found.landing ≡ landing_where (is_none found.broken) (told_items plans.mission)
  pub in_order : ForSome found.landing (λ landing. landing.0 < landing.1)

-- what is kept is found of the plans as they are
abbrev pub IsKept : PlansState → Option Found → Type 0
IsKept plans None = Unit {0}
IsKept plans (Some found) = IsFound plans found

-- the mission and the fence are known
abbrev pub CanJudge : PlansState → Type 0
CanJudge plans = IsKnown Mission plans.mission × IsKnown Fence plans.fence

-- what a return looks at is known: the fence, and by the type of the return the safe points or the mission
pub record CanReturn (plans : PlansState) : Type 0 where
  pub fence : IsKnown Fence plans.fence
  pub safe : (plans.params.rtl_type == 0) ≡ true → IsKnown Safe plans.safe
  pub mission : (plans.params.rtl_type == 0) ≡ false → IsKnown Mission plans.mission

-- this is the return that is chosen from a position and an index of the mission
abbrev pub IsReturn : PlansState → Option (ℤ × ℤ) → ℕ → ReturnState → Type 0
IsReturn plans position index way = CanReturn plans × (way ≡ begun (ReturnList plans.params plans.home position (told_items plans.safe) (told_items plans.mission) (told_items plans.fence) index))
