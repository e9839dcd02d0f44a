-- What a line tells by itself: who made it, whether the power is on behind it, which reply it says.
use Rattle.std.specs.Prelude.{◌≡◌, Bool, true, false, Option, Some, None}
use Rattle.mission_model.specs.declared.flight_line.Actor.{Actor}
use Rattle.mission_model.specs.declared.flight_line.Actor.TheVariants as actor
use Rattle.mission_model.specs.declared.flight_line.Line.{Line}
use Rattle.mission_model.specs.declared.flight_line.Line.TheVariants as line
use Rattle.mission_model.specs.declared.request.Client.{Client}
use Rattle.mission_model.specs.declared.request.Client.TheVariants as client
use Rattle.mission_model.specs.declared.request.Reply.{Reply}
use Rattle.turn_cell.specs.declared.machine.StepOut.{StepOut}
use Rattle.turn_cell.specs.declared.machine.StepOut.TheVariants.{Made, Idle}
use Rattle.vehicle_core.specs.ActorStep.{power_after}

-- the actor that a client is
abbrev pub actor_of : Client → Actor
actor_of client.Nav = actor.Nav
actor_of (client.Link number) = actor.Link number
actor_of (client.Watch number) = actor.Watch number

-- the actor that made a line; none made the lines at which a part begins and ends
abbrev pub maker : Line → Option Actor
maker (line.Boot number heads mark) = None
maker (line.BootCut number) = None
maker (line.Arrived who place) = Some (actor_of who)
maker (line.Met who place) = Some (actor_of who)
maker (line.Waited who) = Some (actor_of who)
maker (line.Sent number said given) = Some (actor.Link number)
maker (line.Heard number given said) = Some (actor.Link number)
maker (line.Took who about) = Some actor.Worker
maker (line.Served who given) = Some actor.Worker
maker (line.Got about given) = Some actor.Nav
maker (line.Nav given entry) = Some actor.Nav
maker (line.Dropped kind seq) = Some actor.Nav
maker (line.WatchDid number given note asks) = Some (actor.Watch number)
maker (line.WatchGot number about given note asks) = Some (actor.Watch number)
maker line.End = None
maker line.Stuck = None

-- the power behind a line that was made while it was on
abbrev pub power_by : Line → Bool
power_by (line.Served who given) = power_after given
power_by other = true

-- the reply that a line says the worker gave, if it says one
abbrev pub reply_given : Line → Option Reply
reply_given (line.Served who given) = Some given
reply_given other = None

-- where a reply was given, the line that was made says it, and no other line says one
abbrev pub SaysGiven : Option Reply → StepOut Line → Type 0
SaysGiven given (Made made) = reply_given made ≡ given
SaysGiven given Idle = given ≡ None
