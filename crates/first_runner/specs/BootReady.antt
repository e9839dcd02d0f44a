-- Whose step a line is, and who may take a step now: read off the lines of a boot so far.
use Rattle.std.specs.Prelude.{◌==◌, ◌&&◌, ◌||◌, min, nat_le, nat_lt, Bool, true, false, List, [], ◌∷◌, length, Option, Some, None, is_some}
use Rattle.first_model.specs.declared.request.Client.{Client}
use Rattle.first_model.specs.declared.request.Client.TheVariants as client
use Rattle.first_model.specs.declared.vehicle.VehicleLine.TheVariants as event
use Rattle.first_model.specs.declared.schedule.InputLine.{InputLine}
use Rattle.first_model.specs.declared.schedule.InputLine.TheVariants as input
use Rattle.first_model.specs.declared.flight_line.Actor.{Actor}
use Rattle.first_model.specs.declared.flight_line.Actor.TheVariants as actor
use Rattle.first_model.specs.declared.flight_line.Line.{Line}
use Rattle.first_model.specs.declared.flight_line.Line.TheVariants as line
use Rattle.first_runner.specs.BootTold.{BootTold, LinkTold, open_asks, next_reply, arrivals, schedule_of}
use Rattle.first_core.specs.ScheduleState.{ScheduleState}

-- the actor that a client is
abbrev pub actor_of : Client → Actor
actor_of client.Nav = actor.Nav
actor_of (client.Link number) = actor.Link number
actor_of (client.Watch number) = actor.Watch number

-- the actor whose step a line is; a boot and an end are nobody's
abbrev pub maker_of : Line → Option Actor
maker_of (line.Took client asked) = Some actor.Worker
maker_of (line.Served client reply) = Some actor.Worker
maker_of (line.Sent link said answer) = Some (actor.Link link)
maker_of (line.Heard link reply answer) = Some (actor.Link link)
maker_of (line.Got asked reply) = Some actor.Nav
maker_of (line.Nav event entry) = Some actor.Nav
maker_of (line.Dropped kind seq) = Some actor.Nav
maker_of (line.Arrived client place) = Some (actor_of client)
maker_of (line.Met client place) = Some (actor_of client)
maker_of (line.Waited client) = Some (actor_of client)
maker_of (line.WatchDid watch input note asked) = Some (actor.Watch watch)
maker_of (line.WatchGot watch asked reply note asks) = Some (actor.Watch watch)
maker_of other = None

-- the client has no request outstanding
abbrev pub is_free : BootTold → Client → Bool
is_free t client = length (open_asks t client) == 0

-- a schedule gives its client a step: a wait, and a look of a go after a pending one, need that nothing of its own is
-- outstanding; a meeting that it came to needs enough arrivals, which are counted up to 255, the most that one can need
abbrev pub gives_step : BootTold → Client → List InputLine → Bool → Bool
gives_step t client [] begun = false
gives_step t client (input.Wait ∷ rest) begun = is_free t client
gives_step t client (input.Meet place count ∷ rest) false = true
gives_step t client (input.Meet place count ∷ rest) true = nat_le count (min 255 (arrivals t.arrived place))
gives_step t client (input.Vehicle event.Go ∷ rest) true = is_free t client
gives_step t client (current ∷ rest) begun = true

-- the actor is ready: the worker where a request is not served yet; a link where a reply waits for it, or where nothing
-- of its own is outstanding and its schedule gives it a step; the Navigator where a reply waits for it, or its schedule
-- gives it a step
abbrev pub is_ready : BootTold → Actor → Bool
is_ready t actor.Worker = nat_lt (length t.replies) (length t.asked)
is_ready t (actor.Link link) = is_some (next_reply t (client.Link link)) || (is_free t (client.Link link) && gives_step t (client.Link link) (schedule_of t (client.Link link)).inputs (schedule_of t (client.Link link)).begun)
is_ready t actor.Nav = is_some (next_reply t client.Nav) || gives_step t client.Nav t.nav.inputs t.nav.begun
is_ready t (actor.Watch watch) = false

-- one of these actors is ready
abbrev pub is_any_ready : BootTold → List Actor → Bool
is_any_ready t [] = false
is_any_ready t (actor ∷ actors) = is_ready t actor || is_any_ready t actors

-- nothing is left of a schedule
abbrev pub is_done : ScheduleState → Bool
is_done schedule = length schedule.inputs == 0

-- every schedule is finished
abbrev pub are_finished : List LinkTold → Bool
are_finished [] = true
are_finished (link ∷ links) = is_done link.schedule && are_finished links

abbrev pub is_finished : BootTold → Bool
is_finished t = is_done t.nav && are_finished t.links
