-- What a contract sees of the board, and which requests of a client are outstanding.
use Rattle.std.specs.Prelude.{◌≡◌, ◌≢◌, ℕ, ◌<◌, List, [], ◌++◌, length, Option, slice_index_or, slice_set}
use Rattle.mission_model.specs.declared.limits.TheConstants.{NAV_ROOM, LINK_ROOM, WATCH_ROOM}
use Rattle.mission_model.specs.declared.plan.PlanHead.{PlanHead}
use Rattle.mission_model.specs.declared.request.Client.{Client}
use Rattle.mission_model.specs.declared.request.Client.TheVariants.{Nav, Link, Watch}
use Rattle.mission_model.specs.declared.request.Request.{Request}
use Rattle.mission_model.specs.declared.request.Asked.{Asked}
use Rattle.mission_model.specs.declared.request.Reply.{Reply}
use Rattle.request_board.specs.Asks.{in_service, listed, abouts, own_abouts, replied}

-- the requests that wait, first asked first; the one in service; the replies posted to each client, first posted first;
-- the published heads of mission, fence and safe points; the index that was asked last and not taken, with its plan's id
pub record BoardState : Type 0 where
  pub waiting : List (Client × Request)
  pub service : Option (Client × Request)
  pub nav_posted : List (Asked × Reply)
  pub link_posted : List (List (Asked × Reply))
  pub watch_posted : List (List (Asked × Reply))
  pub published : List PlanHead
  pub index : Option (ℕ × ℕ)

-- the client is the Navigator, one of so many links or one of so many watchers
abbrev pub IsAmong : ℕ → ℕ → Client → Type 0
IsAmong links watchers Nav = Unit {0}
IsAmong links watchers (Link number) = number < links
IsAmong links watchers (Watch number) = number < watchers

-- the client is the Navigator, one of the board's links or one of its watchers
abbrev pub HasClient : BoardState → Client → Type 0
HasClient b client = IsAmong (length b.link_posted) (length b.watch_posted) client

-- the replies that are posted to the client and not taken, in their order
abbrev pub posted : BoardState → Client → List (Asked × Reply)
posted b Nav = b.nav_posted
posted b (Link number) = slice_index_or b.link_posted number []
posted b (Watch number) = slice_index_or b.watch_posted number []

-- the board with these replies posted to the client
abbrev pub with_posted : BoardState → Client → List (Asked × Reply) → BoardState
with_posted b Nav replies = record b { nav_posted = replies }
with_posted b (Link number) replies = record b { link_posted = slice_set b.link_posted number replies }
with_posted b (Watch number) replies = record b { watch_posted = slice_set b.watch_posted number replies }

-- the requests that have no reply yet, in the order asked: the one in service and those that wait
abbrev pub unanswered : BoardState → List (Client × Asked)
unanswered b = listed (in_service b.service) ++ abouts b.waiting

-- the client's outstanding requests, in the order asked: those whose reply it has not taken, then its own of those that have
-- none yet
abbrev pub open_asks : BoardState → Client → List Asked
open_asks b client = replied (posted b client) ++ own_abouts client (unanswered b)

-- how many requests the client has outstanding
abbrev pub outstanding : BoardState → Client → ℕ
outstanding b client = length (open_asks b client)

-- the most requests that the client may have outstanding
abbrev pub limit : Client → ℕ
limit Nav = NAV_ROOM
limit (Link number) = LINK_ROOM
limit (Watch number) = WATCH_ROOM

-- the board has still each client that it had
abbrev pub ClientsStay : BoardState → BoardState → Type 0
ClientsStay old new = (client : Client) → HasClient old client → HasClient new client

-- the replies that are posted to each client are the same
abbrev pub PostedStays : BoardState → BoardState → Type 0
PostedStays old new = (client : Client) → posted new client ≡ posted old client

-- each client has the same requests outstanding
abbrev pub OpenStays : BoardState → BoardState → Type 0
OpenStays old new = (client : Client) → open_asks new client ≡ open_asks old client

-- for each client but this one, the posted replies and the outstanding requests are the same
abbrev pub OthersStay : Client → BoardState → BoardState → Type 0
OthersStay client old new = (other : Client) → other ≢ client → (posted new other ≡ posted old other) × (open_asks new other ≡ open_asks old other)

-- nothing is posted to any client, and no client has a request outstanding
abbrev pub IsQuiet : BoardState → Type 0
IsQuiet b = (client : Client) → (posted b client ≡ []) × (open_asks b client ≡ [])
