-- The vehicle's events in mode Return: how it goes along a return.
use Rattle.std.specs.Prelude.{◌≡◌, ℕ, ◌==◌, Bool, true, false, Option, Some, None}
use Rattle.std.specs.Option.{option_map}
use Rattle.mission_model.specs.declared.plan.Item.{Item}
use Rattle.mission_model.specs.declared.plan.PlanType.TheVariants.{Mission, Fence, Safe}
use Rattle.mission_model.specs.declared.vehicle.Look.{Look}
use Rattle.mission_model.specs.declared.vehicle.Look.TheVariants.{Here, Pending}
use Rattle.mission_model.specs.declared.vehicle.NavWhat.{NavWhat}
use Rattle.mission_model.specs.declared.vehicle.NavWhat.TheVariants as what
use Rattle.mission_model.specs.Returns.{ReturnList}
use Rattle.return_mode.specs.declared.plan.ReturnOut.{ReturnOut}
use Rattle.return_mode.specs.declared.plan.ReturnOut.TheVariants as out
use Rattle.return_mode.specs.ReturnState.{ReturnState, begun, out_of, after_out, after_reached}
use Rattle.plan_vehicle.specs.PlanState.{told_at, told_items, IsKnown}
use Rattle.plan_vehicle.specs.VehicleState.{VehicleState}

-- what a choice looks at is known: the fence, and by the type of the return the safe points or the mission
pub record CanChoose (v : VehicleState) : Type 0 where
  pub fence : IsKnown Fence v.fence
  pub safe : (v.params.rtl_type == 0) ≡ true → IsKnown Safe v.safe
  pub mission : (v.params.rtl_type == 0) ≡ false → IsKnown Mission v.mission

-- the return that is chosen from here
abbrev pub chosen : VehicleState → ReturnState
chosen v = begun (ReturnList v.params v.home v.position (told_items v.safe) (told_items v.mission) (told_items v.fence) v.index)

-- the return that is gone through: the one that was chosen before, or else it is chosen now
abbrev pub IsWay : VehicleState → Option ReturnState → ReturnState → Type 0
IsWay v (Some before) way = way ≡ before
IsWay v None way = CanChoose v × (way ≡ chosen v)

-- the return shows this of its present target, of which so much is known; what was skipped is passed
pub record Shows (v : VehicleState) (look : Look) (shown : ReturnOut) (v' : VehicleState) : Type 0 where
  pub way : ReturnState
  pub is_way : IsWay v v.way way
  pub shows : out_of way look ≡ shown
  pub after : v' ≡ record v { way = Some (after_out way shown) }

-- the line names the plans in force
abbrev pub InForce : VehicleState → ℕ → ℕ → Type 0
InForce v mission fence = (mission ≡ v.mission.id) × (fence ≡ v.fence.id)

-- a look in mode Return
abbrev pub LooksBack : VehicleState → NavWhat → VehicleState → Type 0
LooksBack v (what.Pending kind seq) v' = v' ≡ v
LooksBack v (what.ReturnLeg seq mission fence item) v' = InForce v mission fence × (told_at v.mission seq ≡ Some item) × Shows v (Here item) (out.Leg seq) v'
LooksBack v (what.ReturnSkip seq mission fence) v' = InForce v mission fence × (item : Item) × (told_at v.mission seq ≡ Some item) × Shows v (Here item) (out.Skip seq) v'
LooksBack v (what.ReturnHome home) v' = (v.home ≡ Some home) × Shows v Pending out.Home v'
LooksBack v (what.ReturnSafe seq safe fence item) v' = (safe ≡ v.safe.id) × (fence ≡ v.fence.id) × (told_at v.safe seq ≡ Some item) × Shows v Pending (out.Safe seq) v'
LooksBack v what.ReturnNone v' = Shows v Pending out.None v'
LooksBack v what.ReturnDone v' = Shows v Pending out.Done v'
LooksBack v other v' = ⊥

-- a target was shown that was not reached yet
abbrev pub has_target : Option ReturnState → Bool
has_target None = false
has_target (Some way) = way.shown

-- a shown target that is reached is passed; else nothing was reached
abbrev pub ReachesBack : VehicleState → NavWhat → VehicleState → Type 0
ReachesBack v what.NextReturn v' = (has_target v.way ≡ true) × (v' ≡ record v { way = option_map after_reached v.way })
ReachesBack v what.Ignored v' = (has_target v.way ≡ false) × (v' ≡ v)
ReachesBack v other v' = ⊥
