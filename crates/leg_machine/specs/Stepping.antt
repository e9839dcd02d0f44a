-- What a step of the machine may be given, and what it does in the mission.
use Rattle.std.specs.Prelude.{◌≡◌, ◌<◌, ◌==◌, Bool, false, not, List, Option, Some, None, length, slice_get, IfSome}
use Rattle.mission_model.specs.declared.command.TheConstants.{DO_JUMP, NAV_LOITER_UNLIM}
use Rattle.mission_model.specs.declared.plan.Item.{Item}
use Rattle.mission_model.specs.declared.vehicle.Look.{Look}
use Rattle.mission_model.specs.declared.vehicle.Look.TheVariants.{Here, Pending}
use Rattle.mission_model.specs.Pairs.{Takes}
use Rattle.mission_model.specs.Legs.{LegEvent, LegStep}
use Rattle.mission_model.specs.Legs as event
use Rattle.leg_machine.specs.declared.machine.LegOut.{LegOut}
use Rattle.leg_machine.specs.declared.machine.LegOut.TheVariants as out
use Rattle.leg_machine.specs.MissionItem.{IsItemAt}
use Rattle.leg_machine.specs.MachineState.{MachineState}

-- what is shown, if anything, is the item at the index of some valid mission of so many items
abbrev pub ShowsItem : MachineState → Look → Type 0
ShowsItem s (Here item) = s.index < s.count → IsItemAt s.count s.index item
ShowsItem s Pending = Unit {0}

-- a jump that is shown has a pair, or there is room for one
abbrev pub HasRoom : MachineState → Look → Type 0
HasRoom s (Here item) = s.index < s.count → item.command ≡ DO_JUMP → Takes s.pairs s.index
HasRoom s Pending = Unit {0}

-- the mission has these items, and what is shown, if anything, is the one at the index
abbrev pub ShowsOf : List Item → MachineState → Look → Type 0
ShowsOf items s (Here item) = (length items ≡ s.count) × (s.index < s.count → slice_get items s.index ≡ Some item)
ShowsOf items s Pending = length items ≡ s.count

-- what the mission does, by the answer of a step: nothing while it is pending
abbrev pub event_of : LegOut → Option LegEvent
event_of (out.Leg seq) = Some (event.Leg seq)
event_of (out.Action seq) = Some (event.Action seq)
event_of (out.Jump seq to used) = Some (event.Jump seq to used)
event_of (out.JumpSpent seq) = Some (event.JumpSpent seq)
event_of out.Done = Some event.Done
event_of out.Pending = None

-- a step with this answer does in a mission of these items what the mission does there
abbrev pub Steps : List Item → MachineState → LegOut → MachineState → Type 0
Steps items old answer new = IfSome (event_of answer) (λ happened. LegStep items (old.index, old.pairs) happened (new.index, new.pairs))

-- whether the leg of an item may be reached: an unlimited loiter may not
abbrev pub may_reach : Look → Bool
may_reach (Here item) = not (item.command == NAV_LOITER_UNLIM)
may_reach Pending = false

-- whether the leg at the index was shown and may be reached, after a step that gave this answer to what was shown
abbrev pub at_leg_after : MachineState → Look → LegOut → Bool
at_leg_after s look (out.Leg seq) = may_reach look
at_leg_after s look out.Done = s.at_leg
at_leg_after s look out.Pending = s.at_leg
at_leg_after s look answer = false
