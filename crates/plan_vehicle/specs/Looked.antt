-- What the rows of a look have in common.
use Rattle.std.specs.Prelude.{◌≡◌, ◌↔◌, ℕ, Bool, IsTrue, Option, Some, None}
use Rattle.mission_model.specs.declared.plan.Item.{Item}
use Rattle.mission_model.specs.declared.command.Jump.{Jump}
use Rattle.mission_model.specs.Command.{jump_of}
use Rattle.mission_model.specs.declared.vehicle.Look.{Look}
use Rattle.return_mode.specs.declared.plan.ReturnOut.{ReturnOut}
use Rattle.return_mode.specs.ReturnState.{ReturnState, out_of, after_out}
use Rattle.plan_vehicle.specs.VehicleState.{VehicleState}
use Rattle.plan_vehicle.specs.MissionEvents.{IsJudged, broken_rule}
use Rattle.plan_vehicle.specs.ReturnEvents.{IsWay}

-- a feasible mission is at this seq
pub record IsAt (v : VehicleState) (seq mission fence : ℕ) : Type 0 where
  pub seq_is : seq ≡ v.index
  pub judged : IsJudged v mission fence
  pub feasible : broken_rule v ≡ None

-- the jump that an item is, where it is told
abbrev pub jump_told : Option Item → Option Jump
jump_told None = None
jump_told (Some item) = jump_of item

-- a return is gone through: one that was chosen before, or one that is chosen now
pub record SetsOut (v v' : VehicleState) : Type 0 where
  pub way : ReturnState
  pub is_way : IsWay v v.way way
  pub after : v' ≡ record v { way = Some way }

-- whether the return that is gone through shows this of its present target, and the vehicle once it is shown
abbrev pub NextIs : VehicleState → Look → ReturnOut → Bool → VehicleState → Type 0
NextIs v look shown answer v' = (way : ReturnState) → v.way ≡ Some way → (IsTrue answer ↔ (out_of way look ≡ shown)) × (v' ≡ record v { way = Some (after_out way (out_of way look)) })
