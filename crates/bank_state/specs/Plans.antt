-- A plan of each type and a mark, and the changes of them.
use Rattle.std.specs.Prelude.{ℕ, length}
use Rattle.mission_model.specs.declared.plan.PlanType.{PlanType}
use Rattle.mission_model.specs.declared.plan.PlanType.TheVariants.{Mission, Fence, Safe}
use Rattle.mission_model.specs.declared.plan.PlanHead.{PlanHead}
use Rattle.mission_model.specs.PlainMark.{PlainMark}
use Rattle.plan_store.specs.StoreState.{StoredPlan, Change, Commit, SetMark, first_mark}

-- a plan of each type
pub record Plans : Type 0 where
  pub mission : StoredPlan
  pub fence : StoredPlan
  pub safe : StoredPlan

abbrev pub plan_among : Plans → PlanType → StoredPlan
plan_among plans Mission = plans.mission
plan_among plans Fence = plans.fence
plan_among plans Safe = plans.safe

-- the plans with another of its type
abbrev pub with_plan : Plans → PlanType → StoredPlan → Plans
with_plan plans Mission plan = record plans { mission = plan }
with_plan plans Fence plan = record plans { fence = plan }
with_plan plans Safe plan = record plans { safe = plan }

-- a plan's name
abbrev pub head_of : StoredPlan → PlanHead
head_of plan = record { id = plan.id; count = length plan.items }

-- what a store holds
pub record Holding : Type 0 where
  pub plans : Plans
  pub mark : PlainMark

-- the mark once a plan was replaced: a new mission is at its begin
abbrev pub mark_after : PlanType → ℕ → PlainMark → PlainMark
mark_after Mission id mark = first_mark id
mark_after Fence id mark = mark
mark_after Safe id mark = mark

-- what is held once a change was applied
abbrev pub changed : Holding → Change → Holding
changed holding (Commit kind plan) = record { plans = with_plan holding.plans kind plan; mark = mark_after kind plan.id holding.mark }
changed holding (SetMark mark) = record holding { mark = mark }
