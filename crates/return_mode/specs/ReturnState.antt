-- A return as it is gone through.
use Rattle.std.specs.Prelude.{ℕ, ◌==◌, Bool, true, false, List, Option, Some, None, length, drop, slice_get, if◌then◌else◌}
use Rattle.mission_model.specs.declared.vehicle.Look.{Look}
use Rattle.mission_model.specs.declared.vehicle.Look.TheVariants.{Here, Pending}
use Rattle.mission_model.specs.Returns.{ReturnTarget, to_item, to_home, to_safe, is_return_leg}
use Rattle.return_mode.specs.declared.plan.ReturnOut.{ReturnOut}
use Rattle.return_mode.specs.declared.plan.ReturnOut.TheVariants as out

-- the targets that are left, whether there was none to choose, and whether the present one was shown
pub record ReturnState : Type 0 where
  pub left : List ReturnTarget
  pub is_none : Bool
  pub shown : Bool

-- a return to these targets
abbrev pub begun : List ReturnTarget → ReturnState
begun targets = record { left = targets; is_none = length targets == 0; shown = false }

-- the seq of a target that is an item of the mission
abbrev pub seq_at : Option ReturnTarget → Option ℕ
seq_at (Some (to_item seq)) = Some seq
seq_at _ = None

-- the seq of the present target, where that is an item of the mission
abbrev pub seq_of : ReturnState → Option ℕ
seq_of state = seq_at (slice_get state.left 0)

-- what is shown where no target is left
abbrev pub shown_at_end : Bool → ReturnOut
shown_at_end true = out.None
shown_at_end false = out.Done

-- what is shown of a target
abbrev pub out_at : Bool → Option ReturnTarget → Look → ReturnOut
out_at is_none None look = shown_at_end is_none
out_at is_none (Some (to_item seq)) (Here item) = if is_return_leg item then out.Leg seq else out.Skip seq
out_at is_none (Some (to_item seq)) Pending = out.Pending
out_at is_none (Some to_home) look = out.Home
out_at is_none (Some (to_safe seq)) look = out.Safe seq

-- what is shown of the present target
abbrev pub out_of : ReturnState → Look → ReturnOut
out_of state look = out_at state.is_none (slice_get state.left 0) look

-- one target on
abbrev pub onward : ReturnState → ReturnState
onward state = record { left = drop 1 state.left; is_none = state.is_none; shown = false }

-- the return after this was shown: an item of the mission that is skipped is passed
abbrev pub after_out : ReturnState → ReturnOut → ReturnState
after_out state (out.Leg seq) = record state { shown = true }
after_out state (out.Skip seq) = onward state
after_out state out.Home = record state { shown = true }
after_out state (out.Safe seq) = record state { shown = true }
after_out state out.None = record state { shown = false }
after_out state out.Done = record state { shown = false }
after_out state out.Pending = state

-- the return after its present target was reached, which counts where that was shown
abbrev pub after_reached : ReturnState → ReturnState
after_reached state = if state.shown then onward state else state
