-- A boot script that is in limits.
use Rattle.std.specs.Prelude.{◌≡◌, ℕ, ◌<◌, ◌≤◌, ◌⊎◌, ◌≤ℤ◌, length}
use Rattle.std.specs.List.{All}
use Rattle.mission_model.specs.declared.limits.TheConstants.{MAX_PLAN_ROWS, MAX_LINKS, MAX_WATCHERS, MAX_PLACES, MAX_TKO_LAND, MAX_RTL_TYPE}
use Rattle.mission_model.specs.declared.item_check.TheConstants.{MIN_LATITUDE, MAX_LATITUDE, MIN_LONGITUDE, MAX_LONGITUDE}
use Rattle.mission_model.specs.declared.plan.Params.{Params}
use Rattle.mission_model.specs.declared.plan_type.TheConstants.{ALL_TYPES}
use Rattle.mission_model.specs.declared.message.Message.{Message}
use Rattle.mission_model.specs.declared.message.Message.TheVariants as message
use Rattle.mission_model.specs.declared.vehicle.VehicleLine.{VehicleLine}
use Rattle.mission_model.specs.declared.vehicle.VehicleLine.TheVariants.{Position}
use Rattle.mission_model.specs.declared.flight_line.Actor.{Actor}
use Rattle.mission_model.specs.declared.flight_line.Actor.TheVariants as actor
use Rattle.mission_model.specs.declared.schedule.InputLine.{InputLine}
use Rattle.mission_model.specs.declared.schedule.InputLine.TheVariants as input
use Rattle.mission_model.specs.declared.schedule.BootScript.{BootScript}

-- parameters that the vehicle knows
pub record ParamsInLimits (params : Params) : Type 0 where
  pub tko_land : params.tko_land ≤ MAX_TKO_LAND
  pub rtl_type : params.rtl_type ≤ MAX_RTL_TYPE

-- the number names a plan type, or all of them
abbrev pub NamesTypes : ℕ → Type 0
NamesTypes number = (number ≤ 2) ⊎ (number ≡ ALL_TYPES)

-- a message that a script can send
abbrev pub MessageInLimits : Message → Type 0
MessageInLimits (message.Count kind count) = NamesTypes kind
MessageInLimits (message.ClearAll kind) = NamesTypes kind
MessageInLimits other = Unit {0}

-- an event that a script can have; a position is one of the globe
abbrev pub EventInLimits : VehicleLine → Type 0
EventInLimits (Position x y) = (MIN_LATITUDE ≤ℤ x) × (x ≤ℤ MAX_LATITUDE) × (MIN_LONGITUDE ≤ℤ y) × (y ≤ℤ MAX_LONGITUDE)
EventInLimits other = Unit {0}

-- a meeting is at one of the places, and of at least one arrival
abbrev pub MeetingInLimits : ℕ → ℕ → Type 0
MeetingInLimits place count = (place < MAX_PLACES) × (1 ≤ count)

-- an input that a link can have
abbrev pub LinkInput : InputLine → Type 0
LinkInput (input.Message sent) = MessageInLimits sent
LinkInput (input.Upload kind items) = length items ≤ MAX_PLAN_ROWS
LinkInput input.Wait = Unit {0}
LinkInput (input.Meet place count) = MeetingInLimits place count
LinkInput other = ⊥

-- an input that the Navigator can have
abbrev pub NavInput : InputLine → Type 0
NavInput (input.Vehicle event) = EventInLimits event
NavInput input.Wait = Unit {0}
NavInput (input.Meet place count) = MeetingInLimits place count
NavInput other = ⊥

-- an input that a watcher can have
abbrev pub WatcherInput : InputLine → Type 0
WatcherInput (input.Watch given) = Unit {0}
WatcherInput other = ⊥

-- an actor of a boot of so many links and watchers, and an input that it can have
abbrev pub ActorInput : ℕ → ℕ → Actor × InputLine → Type 0
ActorInput links watchers (actor.Nav, given) = NavInput given
ActorInput links watchers (actor.Link number, given) = (number < links) × LinkInput given
ActorInput links watchers (actor.Watch number, given) = (number < watchers) × WatcherInput given
ActorInput links watchers (actor.Worker, given) = ⊥

-- a boot script in limits: its parameters, its numbers of links and watchers, and each input
pub record BootInLimits (boot : BootScript) : Type 0 where
  pub params : ParamsInLimits boot.params
  pub links : boot.links ≤ MAX_LINKS
  pub watchers : boot.watchers ≤ MAX_WATCHERS
  pub inputs : All (ActorInput boot.links boot.watchers) boot.inputs
