-- What a step does at one item, by the item alone.
use Rattle.std.specs.Prelude.{◌≡◌, ℕ, ◌+◌, ◌<◌, ◌≤◌, ◌==◌, true, false, not, Some, None}
use Rattle.mission_model.specs.declared.command.Jump.{Jump}
use Rattle.mission_model.specs.declared.command.TheConstants.{NAV_LOITER_UNLIM}
use Rattle.mission_model.specs.declared.plan.Item.{Item}
use Rattle.mission_model.specs.Command.{jump_of}
use Rattle.mission_model.specs.Legs.{is_leg}
use Rattle.mission_model.specs.Pairs.{used_of, with_pair}
use Rattle.leg_machine.specs.declared.machine.LegOut.{LegOut}
use Rattle.leg_machine.specs.declared.machine.LegOut.TheVariants as out
use Rattle.leg_machine.specs.MachineState.{MachineState, made}

-- a jump leads to an item of a mission of so many items
abbrev pub LeadsWithin : ℕ → Item → Type 0
LeadsWithin count item = (jump : Jump) → jump_of item ≡ Some jump → jump.target < count

-- this jump at the index is taken or passed
abbrev pub Jumps : Jump → MachineState → LegOut → MachineState → Type 0
Jumps jump old (out.Jump seq to used) new = (seq ≡ old.index) × (to ≡ jump.target) × (used_of old.pairs old.index < jump.repeats) × (used ≡ used_of old.pairs old.index + 1) × (new ≡ made old.count to (with_pair old.pairs old.index used))
Jumps jump old (out.JumpSpent seq) new = (seq ≡ old.index) × (jump.repeats ≤ used_of old.pairs old.index) × (new ≡ made old.count (old.index + 1) old.pairs)
Jumps jump old answer new = ⊥

-- this item at the index is a leg that is shown, an action that is done, or a jump
abbrev pub StepsAt : Item → MachineState → LegOut → MachineState → Type 0
StepsAt item old (out.Leg seq) new = (seq ≡ old.index) × (is_leg item.command ≡ true) × (new ≡ record old { at_leg = not (item.command == NAV_LOITER_UNLIM) })
StepsAt item old (out.Action seq) new = (seq ≡ old.index) × (is_leg item.command ≡ false) × (jump_of item ≡ None) × (new ≡ made old.count (old.index + 1) old.pairs)
StepsAt item old answer new = (jump : Jump) × (jump_of item ≡ Some jump) × Jumps jump old answer new
