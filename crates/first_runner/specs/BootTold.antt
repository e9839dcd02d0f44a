-- What the lines of a boot tell so far: who asked what in which order, which request has which reply, which replies
-- were taken, where each link's upload stands, and how far each actor is in its schedule. It is read off the lines
-- alone, one after another.
use Rattle.std.specs.Prelude.{ℕ, zero, suc, ◌+◌, ◌-◌, ◌==◌, ◌&&◌, ◌||◌, nat_lt, Bool, true, false, List, [], ◌∷◌, ◌++◌, length, drop, take, Option, None, slice_get, slice_index_or, slice_set, if◌then◌else◌}
use Rattle.first_model.specs.declared.limits.TheConstants.{NAV_ROOM}
use Rattle.first_model.specs.declared.plan.PlanType.TheVariants.{Mission}
use Rattle.first_model.specs.declared.request.Client.{Client}
use Rattle.first_model.specs.declared.request.Client.TheVariants as client
use Rattle.first_model.specs.declared.request.Asked.{Asked}
use Rattle.first_model.specs.declared.request.Asked.TheVariants as about
use Rattle.first_model.specs.declared.request.Reply.{Reply}
use Rattle.first_model.specs.declared.request.Reply.TheVariants as reply
use Rattle.first_model.specs.declared.message.Answer.{Answer}
use Rattle.first_model.specs.declared.message.Answer.TheVariants as answer
use Rattle.first_model.specs.declared.message.Said.{Said}
use Rattle.first_model.specs.declared.message.Said.TheVariants as said
use Rattle.first_model.specs.declared.vehicle.VehicleLine.{VehicleLine}
use Rattle.first_model.specs.declared.vehicle.VehicleLine.TheVariants as event
use Rattle.first_model.specs.declared.vehicle.NavWhat.{NavWhat}
use Rattle.first_model.specs.declared.vehicle.NavWhat.TheVariants as what
use Rattle.first_model.specs.declared.schedule.InputLine.{InputLine}
use Rattle.first_model.specs.declared.schedule.BootScript.{BootScript}
use Rattle.first_model.specs.declared.flight_line.Actor.{Actor}
use Rattle.first_model.specs.declared.flight_line.Actor.TheVariants as actor
use Rattle.first_model.specs.declared.flight_line.Line.{Line}
use Rattle.first_model.specs.declared.flight_line.Line.TheVariants as line
use Rattle.first_board.specs.BoardState.{same_client}
use Rattle.first_vehicle.specs.VehicleState.{VehicleState, mission_count}
use Rattle.first_core.specs.ScheduleState.{ScheduleState, fresh, begun_on, advanced, inputs_of}

-- what a link is at: nothing; an upload of so many items under an id, so many of which were heard; the write of its last
-- heard item; its commit
pub data SessionTold : Type 0 where
  Free : SessionTold
  Receiving : ℕ → ℕ → ℕ → SessionTold
  Writing : ℕ → ℕ → ℕ → SessionTold
  Committing : ℕ → ℕ → SessionTold

-- a link's schedule and session
pub record LinkTold : Type 0 where
  pub schedule : ScheduleState
  pub session : SessionTold

-- every request that was asked in this boot, in order, and how many of them the worker took; the replies to those that
-- were served, in order; who took a reply, one after another; the meeting places that clients came to; the greatest id
-- that a mission of this boot has, or has taken; each link; the Navigator's schedule
pub record BootTold : Type 0 where
  pub asked : List (Client × Asked)
  pub taken : ℕ
  pub replies : List Reply
  pub heard : List Client
  pub arrived : List ℕ
  pub last_id : ℕ
  pub links : List LinkTold
  pub nav : ScheduleState

-- the requests of a client among these
abbrev pub own : Client → List (Client × Asked) → List Asked
own client [] = []
own client ((other, asked) ∷ asks) = if same_client client other then asked ∷ own client asks else own client asks

-- how often a client stands among these
abbrev pub times : Client → List Client → ℕ
times client [] = 0
times client (other ∷ clients) = (if same_client client other then 1 else 0) + times client clients

-- the client's requests whose reply it has not taken, in order
abbrev pub open_asks : BootTold → Client → List Asked
open_asks t client = drop (times client t.heard) (own client t.asked)

-- the client's requests that were served, each with its reply, in order
abbrev pub replies_to : Client → List (Client × Asked) → List Reply → List (Asked × Reply)
replies_to client [] replies = []
replies_to client asks [] = []
replies_to client ((other, asked) ∷ asks) (given ∷ replies) = if same_client client other then (asked, given) ∷ replies_to client asks replies else replies_to client asks replies

-- the next reply that the client may take: after k of them, the one at place k
abbrev pub next_reply : BootTold → Client → Option (Asked × Reply)
next_reply t client = slice_get (replies_to client t.asked t.replies) (times client t.heard)

-- the replies that the client took
abbrev pub replies_taken : BootTold → Client → List (Asked × Reply)
replies_taken t client = take (times client t.heard) (replies_to client t.asked t.replies)

-- the request that the worker has taken and not served
abbrev pub in_service : BootTold → Option (Client × Asked)
in_service t = if nat_lt (length t.replies) t.taken then slice_get t.asked (length t.replies) else None

-- how many clients came to a meeting place
abbrev pub arrivals : List ℕ → ℕ → ℕ
arrivals [] place = 0
arrivals (other ∷ places) place = (if other == place then 1 else 0) + arrivals places place

-- nothing of a link
abbrev pub no_link : LinkTold
no_link = record { schedule = fresh []; session = Free }

-- a link
abbrev pub link_at : BootTold → ℕ → LinkTold
link_at t link = slice_index_or t.links link no_link

-- the schedule of a client
abbrev pub schedule_of : BootTold → Client → ScheduleState
schedule_of t client.Nav = t.nav
schedule_of t (client.Link link) = (link_at t link).schedule
schedule_of t (client.Watch watch) = fresh []

-- one of these is a read of this mission's seq that was answered with its item
abbrev pub tells : ℕ → ℕ → List (Asked × Reply) → Bool
tells id seq [] = false
tells id seq ((about.Read Mission other at, reply.Item item) ∷ replies) = (other == id && at == seq) || tells id seq replies
tells id seq (said ∷ replies) = tells id seq replies

-- one of these is a read of this mission's seq
abbrev pub asks_for : ℕ → ℕ → List Asked → Bool
asks_for id seq [] = false
asks_for id seq (about.Read Mission other at ∷ asks) = (other == id && at == seq) || asks_for id seq asks
asks_for id seq (asked ∷ asks) = asks_for id seq asks

-- the Navigator took the item at a seq of the mission of this id
abbrev pub is_known : BootTold → ℕ → ℕ → Bool
is_known t id seq = tells id seq (replies_taken t client.Nav)

-- the Navigator has asked that item, and taken no reply to this yet
abbrev pub is_in_flight : BootTold → ℕ → ℕ → Bool
is_in_flight t id seq = asks_for id seq (open_asks t client.Nav)

-- the seq, where its item is neither known nor in flight
abbrev pub missing_at : BootTold → ℕ → ℕ → List ℕ
missing_at t id seq = if is_known t id seq || is_in_flight t id seq then [] else seq ∷ []

-- of so many seqs from one on, those whose item is neither known nor in flight, rising
abbrev pub missing : BootTold → ℕ → ℕ → ℕ → List ℕ
missing t id from zero = []
missing t id from (suc n) = missing t id from n ++ missing_at t id (from + n)

-- those that a look at the index of the mission in force asks: from the index up to the mission's end, as far as one
-- place of the Navigator's room is left free
abbrev pub wanted : BootTold → VehicleState → List ℕ
wanted t v = take (NAV_ROOM - length (open_asks t client.Nav) - 1) (missing t v.mission.id v.index (mission_count v - v.index))

-- the Navigator's reads of these seqs
abbrev pub reads : ℕ → List ℕ → List (Client × Asked)
reads id [] = []
reads id (seq ∷ seqs) = (client.Nav, about.Read Mission id seq) ∷ reads id seqs

-- what the Navigator asks at an event, by what it shows: a look at the index asks
abbrev pub nav_asks : BootTold → VehicleState → NavWhat → List (Client × Asked)
nav_asks t v (what.Leg seq mission fence item) = reads v.mission.id (wanted t v)
nav_asks t v (what.Pending kind seq) = reads v.mission.id (wanted t v)
nav_asks t v other = []

-- what a link asks by its answer
abbrev pub link_asks : ℕ → Answer → List (Client × Asked)
link_asks link (answer.Writes kind id seq item) = (client.Link link, about.Write kind id seq) ∷ []
link_asks link (answer.Commits kind id count) = (client.Link link, about.Commit kind id count) ∷ []
link_asks link other = []

-- a Count whose first item is requested has taken an id
abbrev pub takes_id : Said → Answer → Bool
takes_id (said.Count kind count) (answer.RequestInt seq) = true
takes_id message given = false

-- a link's session after a message: the upload that it begins has the next id
abbrev pub said_session : ℕ → SessionTold → Said → Answer → SessionTold
said_session last_id session (said.Count kind count) (answer.RequestInt seq) = Receiving (suc last_id) count 0
said_session last_id (Receiving id count seq) (said.Item at) (answer.Writes kind other written item) = Writing id count seq
said_session last_id session message given = Free

-- a link's session after a reply was heard
abbrev pub heard_session : SessionTold → Answer → SessionTold
heard_session (Writing id count seq) (answer.RequestInt next) = Receiving id count next
heard_session (Writing id count seq) (answer.Commits kind other written) = Committing id count
heard_session session given = Free

-- a link's schedule after an answer: an upload is done once it is acknowledged
abbrev pub answered_schedule : ScheduleState → Answer → ScheduleState
answered_schedule schedule (answer.Ack code) = advanced schedule
answered_schedule schedule given = begun_on schedule

-- the Navigator's schedule after an event: a go stays after a pending entry
abbrev pub acted_schedule : ScheduleState → VehicleLine → NavWhat → ScheduleState
acted_schedule schedule event.Go (what.Pending kind seq) = begun_on schedule
acted_schedule schedule event given = advanced schedule

-- what is told with another schedule of a client
abbrev pub with_schedule : BootTold → Client → ScheduleState → BootTold
with_schedule t client.Nav schedule = record t { nav = schedule }
with_schedule t (client.Link link) schedule = record t { links = slice_set t.links link (record (link_at t link) { schedule = schedule }) }
with_schedule t (client.Watch watch) schedule = t

-- a link's message and its answer
abbrev pub after_message : BootTold → ℕ → Said → Answer → BootTold
after_message t link message given = record t {
  asked = t.asked ++ link_asks link given;
  last_id = if takes_id message given then suc t.last_id else t.last_id;
  links = slice_set t.links link (record { schedule = answered_schedule (link_at t link).schedule given; session = said_session t.last_id (link_at t link).session message given });
}

-- a reply that a link took, and the answer
abbrev pub after_hearing : BootTold → ℕ → Answer → BootTold
after_hearing t link said = record t {
  asked = t.asked ++ link_asks link said;
  heard = t.heard ++ client.Link link ∷ [];
  links = slice_set t.links link (record { schedule = answered_schedule (link_at t link).schedule said; session = heard_session (link_at t link).session said });
}

-- what is told after one line more; v is the vehicle before it
abbrev pub told_after : BootTold → VehicleState → Line → BootTold
told_after t v (line.Took client asked) = record t { taken = suc t.taken }
told_after t v (line.Served client given) = record t { replies = t.replies ++ given ∷ [] }
told_after t v (line.Sent link message given) = after_message t link message given
told_after t v (line.Heard link given said) = after_hearing t link said
told_after t v (line.Got asked given) = record t { heard = t.heard ++ client.Nav ∷ [] }
told_after t v (line.Nav event entry) = record t { asked = t.asked ++ nav_asks t v entry.what; nav = acted_schedule t.nav event entry.what }
told_after t v (line.Arrived client place) = record (with_schedule t client (begun_on (schedule_of t client))) { arrived = t.arrived ++ place ∷ [] }
told_after t v (line.Met client place) = with_schedule t client (advanced (schedule_of t client))
told_after t v (line.Waited client) = with_schedule t client (advanced (schedule_of t client))
told_after t v other = t

-- the first so many links at the beginning of a boot, each with its own inputs
abbrev pub links_begun : ℕ → List (Actor × InputLine) → List LinkTold
links_begun zero inputs = []
links_begun (suc count) inputs = links_begun count inputs ++ record { schedule = fresh (inputs_of (actor.Link count) inputs); session = Free } ∷ []

-- what is told at the beginning of a boot, whose mission has this id
abbrev pub begun : BootScript → ℕ → BootTold
begun boot mission = record { asked = []; taken = 0; replies = []; heard = []; arrived = []; last_id = mission; links = links_begun boot.links boot.inputs; nav = fresh (inputs_of actor.Nav boot.inputs) }
