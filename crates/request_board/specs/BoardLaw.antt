-- What holds of a board after any calls: order of requests and replies, limits and published heads.
use Rattle.std.specs.Prelude.{◌≡◌, ℕ, ◌<◌, ◌≤◌, ◌==◌, List, [], ◌∷◌, ◌++◌, Option, Some, None, Result, Ok, Err, slice_get, if◌then◌else◌}
use Rattle.mission_model.specs.declared.plan.PlanHead.{PlanHead}
use Rattle.mission_model.specs.declared.plan.PlanType.{PlanType}
use Rattle.mission_model.specs.declared.request.Client.{Client}
use Rattle.mission_model.specs.declared.request.Request.{Request}
use Rattle.mission_model.specs.declared.request.Asked.{Asked}
use Rattle.mission_model.specs.declared.request.Asked.TheVariants.{Commit}
use Rattle.mission_model.specs.declared.request.Reply.{Reply}
use Rattle.mission_model.specs.declared.request.Reply.TheVariants.{Done}
use Rattle.mission_model.specs.PlanTypes.{place_of}
use Rattle.request_board.specs.declared.board.Full.{Full}
use Rattle.request_board.specs.Asks.{same_client, in_service, listed, abouts, own_abouts, replied}
use Rattle.request_board.specs.BoardState.{BoardState, IsAmong, HasClient, posted, open_asks, outstanding, limit}
use Rattle.request_board.specs.BoardCalls.{asked, taken, answered, heard}

-- what a call does: a client's request is let in; the worker takes a client's request; it posts a reply to a client; a
-- client takes a reply; another index is kept, or none; nothing
pub data Event : Type 0 where
  Asks : Client → Request → Event
  Takes : Client → Request → Event
  Posts : Client → Asked → Reply → Event
  Hears : Client → Asked → Reply → Event
  Keeps : Option (ℕ × ℕ) → Event
  Stays : Event

-- a call does this to the board
abbrev pub Call : BoardState → Event → BoardState → Type 0
Call old (Asks client request) new = HasClient old client × (outstanding old client < limit client) × (new ≡ asked old client request)
Call old (Takes client request) new = (old.service ≡ None) × (old.waiting ≡ (client, request) ∷ new.waiting) × (new ≡ taken old (client, request) new.waiting)
Call old (Posts client about reply) new = HasClient old client × (in_service old.service ≡ Some (client, about)) × (new ≡ answered old client about reply)
Call old (Hears client about reply) new = HasClient old client × (posted old client ≡ (about, reply) ∷ posted new client) × (new ≡ heard old client (posted new client))
Call old (Keeps index) new = new ≡ record old { index = index }
Call old Stays new = new ≡ old

-- these calls, one after another, lead from one board to the other
abbrev pub Calls : BoardState → List Event → BoardState → Type 0
Calls old [] new = new ≡ old
Calls old (event ∷ events) new = (mid : BoardState) × Call old event mid × Calls mid events new

-- what an answer of the board's ask, take_next and take_reply says of the call
abbrev pub ask_event : Client → Request → Result (Unit {0}) Full → Event
ask_event client request (Ok done) = Asks client request
ask_event client request (Err full) = Stays

abbrev pub take_event : Option (Client × Request) → Event
take_event (Some (client, request)) = Takes client request
take_event None = Stays

abbrev pub reply_event : Client → Option (Asked × Reply) → Event
reply_event client (Some (about, reply)) = Hears client about reply
reply_event client None = Stays

-- the requests that were let in, in their order
abbrev pub all_asked : List Event → List (Client × Request)
all_asked [] = []
all_asked (Asks client request ∷ events) = (client, request) ∷ all_asked events
all_asked (event ∷ events) = all_asked events

-- the requests that the worker took, in their order
abbrev pub all_taken : List Event → List (Client × Request)
all_taken [] = []
all_taken (Takes client request ∷ events) = (client, request) ∷ all_taken events
all_taken (event ∷ events) = all_taken events

-- who was replied to and on what, in their order
abbrev pub all_served : List Event → List (Client × Asked)
all_served [] = []
all_served (Posts client about reply ∷ events) = (client, about) ∷ all_served events
all_served (event ∷ events) = all_served events

-- the client's replies that were posted, in their order
abbrev pub all_posted : Client → List Event → List (Asked × Reply)
all_posted client [] = []
all_posted client (Posts other about reply ∷ events) = if same_client client other then (about, reply) ∷ all_posted client events else all_posted client events
all_posted client (event ∷ events) = all_posted client events

-- the client's replies that it took, in their order
abbrev pub all_heard : Client → List Event → List (Asked × Reply)
all_heard client [] = []
all_heard client (Hears other about reply ∷ events) = if same_client client other then (about, reply) ∷ all_heard client events else all_heard client events
all_heard client (event ∷ events) = all_heard client events

-- the head of a type after one reply: a commit of that type that is done gives it
abbrev pub head_after : PlanType → Option PlanHead → Asked → Reply → Option PlanHead
head_after kind head (Commit other id count) Done = if place_of other == place_of kind then Some (record { id = id; count = count }) else head
head_after kind head about reply = head

-- the head of a type after all replies, the last commit that was done deciding
abbrev pub head_by : PlanType → Option PlanHead → List Event → Option PlanHead
head_by kind head [] = head
head_by kind head (Posts client about reply ∷ events) = head_by kind (head_after kind head about reply) events
head_by kind head (event ∷ events) = head_by kind head events

-- What holds of a new board after any calls.
-- taken: the requests taken are a beginning of the requests asked; the others wait.
-- served: each request taken has its reply before the next is taken; the last may still be in service.
-- heard: the replies that a client took are a beginning of those posted to it; the others are posted still.
-- own: the k-th reply posted to a client is on the k-th request of it that was taken.
-- unheard: the requests of a client are those whose reply it took, and then those that are outstanding.
-- within: a client's outstanding requests are at most as many as its limit.
-- published: the published head of a type is that of its last commit that was done, and else the first one.
pub record InOrder (links watchers : ℕ) (heads : List PlanHead) (events : List Event) (last : BoardState) : Type 0 where
  pub taken : all_asked events ≡ all_taken events ++ last.waiting
  pub served : abouts (all_taken events) ≡ all_served events ++ listed (in_service last.service)
  pub heard : (client : Client) → IsAmong links watchers client → all_posted client events ≡ all_heard client events ++ posted last client
  pub own : (client : Client) → own_abouts client (all_served events) ≡ replied (all_posted client events)
  pub unheard : (client : Client) → IsAmong links watchers client → own_abouts client (abouts (all_asked events)) ≡ replied (all_heard client events) ++ open_asks last client
  pub within : (client : Client) → IsAmong links watchers client → outstanding last client ≤ limit client
  pub published : (kind : PlanType) → slice_get last.published (place_of kind) ≡ head_by kind (slice_get heads (place_of kind)) events
