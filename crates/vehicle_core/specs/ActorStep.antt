-- How one line of an actor leads on what was told, by the public law of the part that made the line.
use Rattle.std.specs.Prelude.{◌≡◌, ℕ, Bool, true, false, List, [], ◌∷◌, length, Option, Some, None, slice_get}
use Rattle.mission_model.specs.declared.plan.Item.{Item}
use Rattle.mission_model.specs.declared.plan.PlanType.{PlanType}
use Rattle.mission_model.specs.declared.request.Asked.{Asked}
use Rattle.mission_model.specs.declared.request.Client.{Client}
use Rattle.mission_model.specs.declared.request.Client.TheVariants as client
use Rattle.mission_model.specs.declared.request.Reply.{Reply}
use Rattle.mission_model.specs.declared.request.Reply.TheVariants as reply
use Rattle.mission_model.specs.declared.request.Request.{Request}
use Rattle.mission_model.specs.declared.message.Answer.{Answer}
use Rattle.mission_model.specs.declared.message.Answer.TheVariants as answer
use Rattle.mission_model.specs.declared.message.Message.{Message}
use Rattle.mission_model.specs.declared.message.Message.TheVariants as message
use Rattle.mission_model.specs.declared.message.Said.{Said}
use Rattle.mission_model.specs.declared.schedule.InputLine.{InputLine}
use Rattle.mission_model.specs.declared.schedule.InputLine.TheVariants as input
use Rattle.mission_model.specs.declared.vehicle.NavEntry.{NavEntry}
use Rattle.mission_model.specs.declared.vehicle.NavWhat.{NavWhat}
use Rattle.mission_model.specs.declared.vehicle.NavWhat.TheVariants as what
use Rattle.mission_model.specs.declared.vehicle.VehicleLine.{VehicleLine}
use Rattle.mission_model.specs.declared.vehicle.VehicleLine.TheVariants as event
use Rattle.mission_model.specs.declared.watch.WatchInput.{WatchInput}
use Rattle.mission_model.specs.declared.flight_line.Line.{Line}
use Rattle.mission_model.specs.declared.flight_line.Line.TheVariants as line
use Rattle.mission_model.specs.PlanTypes.{number_of}
use Rattle.mission_model.specs.Replies.{Suits}
use Rattle.mission_model.specs.Shown.{asked_of, said_of}
use Rattle.request_board.specs.BoardState.{BoardState, posted}
use Rattle.request_board.specs.BoardCalls.{asked, taken, answered, heard}
use Rattle.request_board.specs.WatchLaw.{WatchRules, WatchSays, WatchStep, Does, Got}
use Rattle.upload_session.specs.SessionLaw.{Outcome, message_law, reply_law}
use Rattle.navigator.specs.EventLaw.{EventLaw}
use Rattle.vehicle_core.specs.ScheduleState.{ScheduleState, begun_on, advanced, requesting}
use Rattle.vehicle_core.specs.Told.{SharedTold, LinkTold, NavTold, WatchTold, ActorTold, Worker, Link, Nav, Watch}
use Rattle.navigator.specs.NavCalls.{reply_taken, drop_now, drop_taken}
use Rattle.vehicle_core.specs.Ready.{Turn, Replies, Drops, Goes, worker_turn, asking_turn, nav_turn}

-- what is told with another board
abbrev pub with_board : SharedTold → BoardState → SharedTold
with_board t board = record t { board = board }

-- Worker.

-- the worker takes the first request that waits
pub record Takes (t : SharedTold) (who : Client) (about : Asked) (t' : SharedTold) : Type 0 where
  pub turn : worker_turn t.board ≡ Goes
  pub request : Request
  pub rest : List (Client × Request)
  pub first : t.board.waiting ≡ (who, request) ∷ rest
  pub shown : about ≡ asked_of request
  pub shared : t' ≡ with_board t (taken t.board (who, request) rest)

-- the power after a reply
abbrev pub power_after : Reply → Bool
power_after reply.PowerOff = false
power_after other = true

-- the worker replies to the request that it has, in a form that such a request can have
pub record Serves (t : SharedTold) (who : Client) (given : Reply) (t' : SharedTold) : Type 0 where
  pub turn : worker_turn t.board ≡ Replies
  pub request : Request
  pub service : t.board.service ≡ Some (who, request)
  pub suits : Suits (asked_of request) given
  pub shared : t' ≡ record t { board = answered t.board who (asked_of request) given; power = power_after given }

-- Steps that are the same for every client: a meeting's two, and a wait.

pub record Arrives (t : SharedTold) (s : ScheduleState) (place : ℕ) (t' : SharedTold) (s' : ScheduleState) : Type 0 where
  pub count : ℕ
  pub rest : List InputLine
  pub input : s.inputs ≡ input.Meet place count ∷ rest
  pub first : s.begun ≡ false
  pub shared : t' ≡ record t { arrived = place ∷ t.arrived }
  pub after : s' ≡ begun_on s

pub record Meets (t : SharedTold) (s : ScheduleState) (place : ℕ) (t' : SharedTold) (s' : ScheduleState) : Type 0 where
  pub count : ℕ
  pub rest : List InputLine
  pub input : s.inputs ≡ input.Meet place count ∷ rest
  pub second : s.begun ≡ true
  pub shared : t' ≡ t
  pub after : s' ≡ advanced s

pub record Waits (t : SharedTold) (s : ScheduleState) (t' : SharedTold) (s' : ScheduleState) : Type 0 where
  pub rest : List InputLine
  pub input : s.inputs ≡ input.Wait ∷ rest
  pub shared : t' ≡ t
  pub after : s' ≡ advanced s

abbrev pub ClientStep : Client → SharedTold → ScheduleState → Line → SharedTold → ScheduleState → Type 0
ClientStep client t s (line.Arrived who place) t' s' = (who ≡ client) × Arrives t s place t' s'
ClientStep client t s (line.Met who place) t' s' = (who ≡ client) × Meets t s place t' s'
ClientStep client t s (line.Waited who) t' s' = (who ≡ client) × Waits t s t' s'
ClientStep client t s other t' s' = ⊥

-- Links.

-- the item that was requested, where the plan has it
abbrev pub item_message : ℕ → Option Item → Option Message
item_message seq None = None
item_message seq (Some item) = Some (message.Item seq item)

-- the message that the current input sends: its own; of an upload the Count first, and then the item that was requested last
abbrev pub message_of : List InputLine → Bool → ℕ → Option Message
message_of (input.Message sent ∷ rest) begun requested = Some sent
message_of (input.Upload kind items ∷ rest) false requested = Some (message.Count (number_of kind) (length items))
message_of (input.Upload kind items ∷ rest) true requested = item_message requested (slice_get items requested)
message_of other begun requested = None

-- an upload after an answer: it is done once it is acknowledged, and else goes on with the seq that was requested last
abbrev pub upload_after : Answer → ScheduleState → ScheduleState
upload_after (answer.Ack code) s = advanced s
upload_after (answer.RequestInt seq) s = requesting (begun_on s) seq
upload_after other s = begun_on s

-- the schedule after a message was answered: any input but an upload is done
abbrev pub after_message : List InputLine → Answer → ScheduleState → ScheduleState
after_message (input.Upload kind items ∷ rest) given s = upload_after given s
after_message inputs given s = advanced s

-- the schedule after a reply was answered: only an upload that has begun heeds it
abbrev pub after_hearing : List InputLine → Bool → Answer → ScheduleState → ScheduleState
after_hearing (input.Upload kind items ∷ rest) true given s = upload_after given s
after_hearing inputs begun given s = s

-- the answer and what it leaves are those of this outcome of the session, and the schedule is this
pub record Answers (o : Outcome) (t : SharedTold) (l : LinkTold) (s : ScheduleState) (given : Answer) (t' : SharedTold) (l' : LinkTold) : Type 0 where
  pub answer : given ≡ o.answer
  pub shared : t' ≡ record t { board = o.board; transfer = o.transfer }
  pub link : l' ≡ record { number = l.number; upload = o.link; schedule = s }

-- a message is sent and answered
pub record Says (t : SharedTold) (l : LinkTold) (said : Said) (given : Answer) (t' : SharedTold) (l' : LinkTold) : Type 0 where
  pub message : Message
  pub sends : message_of l.schedule.inputs l.schedule.begun l.schedule.requested ≡ Some message
  pub shown : said ≡ said_of message
  pub answers : Answers (message_law l.number l.upload message t.transfer t.board) t l (after_message l.schedule.inputs given l.schedule) given t' l'

-- the first reply is taken and answered
pub record Hears (t : SharedTold) (l : LinkTold) (given : Reply) (said : Answer) (t' : SharedTold) (l' : LinkTold) : Type 0 where
  pub about : Asked
  pub rest : List (Asked × Reply)
  pub first : posted t.board (client.Link l.number) ≡ (about, given) ∷ rest
  pub answers : Answers (reply_law l.number l.upload given t.transfer (heard t.board (client.Link l.number) rest)) t l (after_hearing l.schedule.inputs l.schedule.begun said l.schedule) said t' l'

-- a meeting or a wait of a link
pub record LinkRests (t : SharedTold) (l : LinkTold) (made : Line) (t' : SharedTold) (l' : LinkTold) : Type 0 where
  pub step : ClientStep (client.Link l.number) t l.schedule made t' l'.schedule
  pub link : l' ≡ record l { schedule = l'.schedule }

abbrev pub link_turn : SharedTold → LinkTold → Turn
link_turn t l = asking_turn t (client.Link l.number) l.schedule

abbrev pub LinkStep : SharedTold → LinkTold → Line → SharedTold → LinkTold → Type 0
LinkStep t l (line.Sent number said given) t' l' = (number ≡ l.number) × (link_turn t l ≡ Goes) × Says t l said given t' l'
LinkStep t l (line.Heard number given said) t' l' = (number ≡ l.number) × (link_turn t l ≡ Replies) × Hears t l given said t' l'
LinkStep t l other t' l' = (link_turn t l ≡ Goes) × LinkRests t l other t' l'

-- The Navigator.

-- the first reply is taken
pub record NavGets (t : SharedTold) (n : NavTold) (about : Asked) (given : Reply) (t' : SharedTold) (n' : NavTold) : Type 0 where
  pub rest : List (Asked × Reply)
  pub first : posted t.board client.Nav ≡ (about, given) ∷ rest
  pub shared : t' ≡ with_board t (heard t.board client.Nav rest)
  pub nav : n' ≡ record n { nav = reply_taken n.nav about given }

-- the window for which a drop is owed is moved
pub record NavDrops (t : SharedTold) (n : NavTold) (kind : PlanType) (seq : ℕ) (t' : SharedTold) (n' : NavTold) : Type 0 where
  pub owed : drop_now n.nav t.board.published ≡ Some (kind, seq)
  pub shared : t' ≡ t
  pub nav : n' ≡ record n { nav = drop_taken n.nav kind seq }

-- the schedule after an event: a go stays after a pending entry
abbrev pub after_event : VehicleLine → NavWhat → ScheduleState → ScheduleState
after_event event.Go (what.Pending kind seq) s = begun_on s
after_event given shown s = advanced s

-- an event of the vehicle, by the Navigator's law
pub record NavActs (t : SharedTold) (n : NavTold) (given : VehicleLine) (entry : NavEntry) (t' : SharedTold) (n' : NavTold) : Type 0 where
  pub rest : List InputLine
  pub input : n.schedule.inputs ≡ input.Vehicle given ∷ rest
  pub law : EventLaw n.nav t.board given entry n'.nav t'.board
  pub shared : t' ≡ with_board t t'.board
  pub after : n'.schedule ≡ after_event given entry.what n.schedule

-- a meeting or a wait of the Navigator
pub record NavRests (t : SharedTold) (n : NavTold) (made : Line) (t' : SharedTold) (n' : NavTold) : Type 0 where
  pub step : ClientStep client.Nav t n.schedule made t' n'.schedule
  pub nav : n'.nav ≡ n.nav

abbrev pub NavStep : SharedTold → NavTold → Line → SharedTold → NavTold → Type 0
NavStep t n (line.Got about given) t' n' = (nav_turn t n ≡ Replies) × NavGets t n about given t' n'
NavStep t n (line.Dropped kind seq) t' n' = (nav_turn t n ≡ Drops) × NavDrops t n kind seq t' n'
NavStep t n (line.Nav given entry) t' n' = (nav_turn t n ≡ Goes) × NavActs t n given entry t' n'
NavStep t n other t' n' = (nav_turn t n ≡ Goes) × NavRests t n other t' n'

-- Watchers.

-- a client's requests wait behind all others, in their order
abbrev pub all_asked : BoardState → Client → List Request → BoardState
all_asked b client [] = b
all_asked b client (request ∷ requests) = all_asked (asked b client request) client requests

module _ {W : Type 0} where
  -- a watcher begins its next input
  pub record WatchDoes (rules : WatchRules W) (t : SharedTold) (w : WatchTold W) (given : WatchInput) (says : WatchSays) (t' : SharedTold) (w' : WatchTold W) : Type 0 where
    pub rest : List InputLine
    pub input : w.schedule.inputs ≡ input.Watch given ∷ rest
    pub requests : List Request
    pub law : WatchStep rules w.watch (Does given t.board.published) says requests w'.watch
    pub shared : t' ≡ with_board t (all_asked t.board (client.Watch w.number) requests)
    pub after : w' ≡ record { number = w.number; watch = w'.watch; schedule = advanced w.schedule }

  -- a watcher takes its first reply
  pub record WatchHears (rules : WatchRules W) (t : SharedTold) (w : WatchTold W) (about : Asked) (given : Reply) (says : WatchSays) (t' : SharedTold) (w' : WatchTold W) : Type 0 where
    pub rest : List (Asked × Reply)
    pub first : posted t.board (client.Watch w.number) ≡ (about, given) ∷ rest
    pub requests : List Request
    pub law : WatchStep rules w.watch (Got about given t.board.published) says requests w'.watch
    pub shared : t' ≡ with_board t (all_asked (heard t.board (client.Watch w.number) rest) (client.Watch w.number) requests)
    pub after : w' ≡ record w { watch = w'.watch }

  abbrev pub watch_turn : SharedTold → WatchTold W → Turn
  watch_turn t w = asking_turn t (client.Watch w.number) w.schedule

  abbrev pub WatcherStep : WatchRules W → SharedTold → WatchTold W → Line → SharedTold → WatchTold W → Type 0
  WatcherStep rules t w (line.WatchDid number given note asks) t' w' = (number ≡ w.number) × (watch_turn t w ≡ Goes) × WatchDoes rules t w given (record { note = note; asks = asks }) t' w'
  WatcherStep rules t w (line.WatchGot number about given note asks) t' w' = (number ≡ w.number) × (watch_turn t w ≡ Replies) × WatchHears rules t w about given (record { note = note; asks = asks }) t' w'
  WatcherStep rules t w other t' w' = ⊥

  -- the step of an actor
  abbrev pub ActorStep : WatchRules W → SharedTold → ActorTold W → Line → SharedTold → ActorTold W → Type 0
  ActorStep rules t Worker (line.Took who about) t' Worker = Takes t who about t'
  ActorStep rules t Worker (line.Served who given) t' Worker = Serves t who given t'
  ActorStep rules t (Link l) made t' (Link l') = LinkStep t l made t' l'
  ActorStep rules t (Nav n) made t' (Nav n') = NavStep t n made t' n'
  ActorStep rules t (Watch w) made t' (Watch w') = WatcherStep rules t w made t' w'
  ActorStep rules t a made t' a' = ⊥
