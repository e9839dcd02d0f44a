-- The vehicle's events in the modes Hold and Mission: how it goes along its mission.
use Rattle.std.specs.Prelude.{◌≡◌, ℕ, ◌+◌, ◌<◌, ◌==◌, ◌&&◌, not, Bool, true, false, List, [], Option, Some, None, if◌then◌else◌}
use Rattle.mission_model.specs.declared.command.TheConstants.{NAV_LOITER_UNLIM, NAV_RETURN_TO_LAUNCH}
use Rattle.mission_model.specs.declared.plan.PlanType.TheVariants.{Mission, Fence}
use Rattle.mission_model.specs.declared.plan.Item.{Item}
use Rattle.mission_model.specs.declared.vehicle.Mode.{Mode}
use Rattle.mission_model.specs.declared.vehicle.Mode.TheVariants as mode
use Rattle.mission_model.specs.declared.vehicle.NavWhat.{NavWhat}
use Rattle.mission_model.specs.declared.vehicle.NavWhat.TheVariants as what
use Rattle.mission_model.specs.Feasible.{FirstBroken}
use Rattle.mission_model.specs.Legs.{LegEvent, LegStep, Leg, Action, Jump, JumpSpent, Done}
use Rattle.mission_model.specs.Pairs.{Takes, with_pair}
use Rattle.plan_vehicle.specs.PlanState.{told_at, told_items, IsKnown}
use Rattle.plan_vehicle.specs.VehicleState.{VehicleState, mission_count}

-- the vehicle once an event has taken the index that a link asked for; the first item begins the mission again
abbrev pub index_taken : VehicleState → Option ℕ → VehicleState
index_taken v None = v
index_taken v (Some index) = record v { index = index; counts = (if index == 0 then [] else v.counts); at_leg = false; wanted = None }

-- the mission can be judged: it has an item, and all items of it and of the fence are known. The line names both plans
pub record IsJudged (v : VehicleState) (mission fence : ℕ) : Type 0 where
  pub some : 0 < mission_count v
  pub mission_known : IsKnown Mission v.mission
  pub fence_known : IsKnown Fence v.fence
  pub mission_is : mission ≡ v.mission.id
  pub fence_is : fence ≡ v.fence.id

-- the first rule that the mission breaks with the fence in force, and the first item that breaks it
abbrev pub broken_rule : VehicleState → Option (ℕ × ℕ)
broken_rule v = FirstBroken v.params v.home (told_items v.mission) (told_items v.fence)

-- the mission breaks this rule at this item
pub record Holds (v : VehicleState) (rule seq mission fence : ℕ) : Type 0 where
  pub judged : IsJudged v mission fence
  pub broken : broken_rule v ≡ Some (rule, seq)

-- the mission is feasible, and at its index does this, which leads to another index and other counts
pub record Flies (v : VehicleState) (mission fence : ℕ) (event : LegEvent) (index : ℕ) (counts : List (ℕ × ℕ)) : Type 0 where
  pub judged : IsJudged v mission fence
  pub feasible : broken_rule v ≡ None
  pub step : LegStep (told_items v.mission) (v.index, v.counts) event (index, counts)

-- the vehicle at another index
abbrev pub moved : VehicleState → ℕ → List (ℕ × ℕ) → VehicleState
moved v index counts = record v { index = index; counts = counts; at_leg = false }

-- the mode after an action: the command to return begins a return
abbrev pub mode_after : Mode → Item → Mode
mode_after before item = if item.command == NAV_RETURN_TO_LAUNCH then mode.Return else before

-- a look in mode Mission. A jump is taken only where the counts have room for it
abbrev pub LooksOn : VehicleState → NavWhat → VehicleState → Type 0
LooksOn v what.HoldEmpty v' = (mission_count v ≡ 0) × (v' ≡ v)
LooksOn v (what.Pending kind seq) v' = (0 < mission_count v) × (v' ≡ v)
LooksOn v (what.Hold rule seq mission fence) v' = Holds v rule seq mission fence × (v' ≡ v)
LooksOn v (what.Leg seq mission fence item) v' = Flies v mission fence (Leg seq) v.index v.counts × (told_at v.mission seq ≡ Some item) × (v' ≡ record v { at_leg = true })
LooksOn v (what.Action seq mission fence item) v' = Flies v mission fence (Action seq) (v.index + 1) v.counts × (told_at v.mission seq ≡ Some item) × (v' ≡ record (moved v (v.index + 1) v.counts) { mode = mode_after v.mode item })
LooksOn v (what.Jump seq to used mission fence) v' = Flies v mission fence (Jump seq to used) to (with_pair v.counts v.index used) × Takes v.counts v.index × (v' ≡ moved v to (with_pair v.counts v.index used))
LooksOn v (what.JumpSpent seq mission fence) v' = Flies v mission fence (JumpSpent seq) (v.index + 1) v.counts × (v' ≡ moved v (v.index + 1) v.counts)
LooksOn v (what.Done mission fence) v' = Flies v mission fence Done v.index v.counts × (v' ≡ v)
LooksOn v other v' = ⊥

-- the item is an unlimited loiter, which is never reached
abbrev pub is_endless : Option Item → Bool
is_endless None = false
is_endless (Some item) = item.command == NAV_LOITER_UNLIM

-- a leg of the index was shown, and its item can be reached
abbrev pub can_go_on : VehicleState → Bool
can_go_on v = v.at_leg && not (is_endless (told_at v.mission v.index))

-- a shown leg that is reached makes the next index; else nothing was reached
abbrev pub ReachesOn : VehicleState → NavWhat → VehicleState → Type 0
ReachesOn v (what.Next index) v' = (can_go_on v ≡ true) × (index ≡ v.index + 1) × (v' ≡ moved v index v.counts)
ReachesOn v what.Ignored v' = (can_go_on v ≡ false) × (v' ≡ v)
ReachesOn v other v' = ⊥
