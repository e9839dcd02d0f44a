-- A boot of the script's forms is one that the core takes.
use Rattle.std.proofs.Common.{ℕ, List, get_or}
use Rattle.std.proofs.lemmas.List.Elements.{All-weaker}
use Rattle.first_model.specs.declared.plan.Item.{Item}
use Rattle.first_model.specs.declared.plan.PlanType.TheVariants as kind
use Rattle.first_model.specs.declared.flight_line.Actor.{Actor}
use Rattle.first_model.specs.declared.flight_line.Actor.TheVariants as actor
use Rattle.first_model.specs.declared.schedule.BootScript.{BootScript}
use Rattle.first_model.specs.declared.schedule.InputLine.{InputLine}
use Rattle.first_model.specs.declared.schedule.InputLine.TheVariants as input
use Rattle.first_model.specs.declared.vehicle.Mode.TheVariants as mode
use Rattle.first_model.specs.declared.vehicle.VehicleLine.{VehicleLine}
use Rattle.first_model.specs.declared.vehicle.VehicleLine.TheVariants as event
use Rattle.first_model.specs.PlainMission.{IsGlobalWaypoint, IsPlainMission}
use Rattle.first_script.specs.Plain.{IsWaypoint, IsPlain}
use Rattle.first_script.specs.Flyable.{IsPlainEvent, IsLinkInput, IsNavInput, IsListed, IsOfRun, IsFlyableBoot}
use Rattle.first_core.specs.LinkState.{IsForLink}
use Rattle.first_core.specs.NavState.{IsForMission, IsForNav}
use Rattle.first_core.specs.NewCore.{IsInput, InLimits}

plain_mission : (items : List Item) → IsPlain kind.Mission items → IsPlainMission items
plain_mission items is = record {
  some = is.some;
  waypoints = All-weaker IsWaypoint IsGlobalWaypoint (λ item w. record { frame = w.0; command = w.1 }) items is.waypoints;
  valid = is.valid;
}

link_input : (given : InputLine) → IsLinkInput given → IsForLink given
link_input (input.Message message) is = absurd is
link_input (input.Upload kind.Mission items) is = plain_mission items is
link_input (input.Upload kind.Fence items) is = let other = is.mission in cc
link_input (input.Upload kind.Safe items) is = let other = is.mission in cc
link_input input.Wait is = tt
link_input (input.Meet place count) is = is.0
link_input (input.Vehicle event) is = absurd is
link_input (input.Watch watch) is = absurd is

event_of_mission : (given : VehicleLine) → IsPlainEvent given → IsForMission given
event_of_mission event.Tick is = tt
event_of_mission event.Go is = tt
event_of_mission event.Reached is = tt
event_of_mission (event.Mode mode.Hold) is = tt
event_of_mission (event.Mode mode.Mission) is = tt
event_of_mission (event.Mode mode.Return) is = absurd is
event_of_mission (event.Position x y) is = absurd is

nav_input : (given : InputLine) → IsNavInput given → IsForNav given
nav_input (input.Message message) is = absurd is
nav_input (input.Upload type items) is = absurd is
nav_input input.Wait is = tt
nav_input (input.Meet place count) is = is.0
nav_input (input.Vehicle event) is = event_of_mission event is
nav_input (input.Watch watch) is = absurd is

input_fits : (links : ℕ) (who : Actor) (given : InputLine) → IsListed (who, given) → IsOfRun links who → IsInput links (who, given)
input_fits links actor.Worker given listed run = absurd listed
input_fits links (actor.Link number) given listed run = (run, link_input given listed)
input_fits links actor.Nav given listed run = nav_input given listed
input_fits links (actor.Watch number) given listed run = absurd listed

pub in_limits : (boot : BootScript) → IsFlyableBoot boot → InLimits boot
in_limits boot is = record {
  links = is.links;
  watchers = is.watchers;
  inputs = λ k d below. let one = get_or boot.inputs k d in input_fits boot.links one.0 one.1 (is.inputs k d below) (is.input_actors k d below);
}
