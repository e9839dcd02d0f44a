-- What a contract sees of the board, and how a client's requests are counted.
use Rattle.std.specs.Prelude.{◌≡◌, ◌≢◌, ℕ, ◌+◌, ◌<◌, ◌==◌, Bool, true, false, List, [], ◌∷◌, length, Option, Some, None, slice_index_or, slice_set, if◌then◌else◌}
use Rattle.first_model.specs.declared.limits.TheConstants.{NAV_ROOM, LINK_ROOM, WATCH_ROOM}
use Rattle.first_model.specs.declared.plan.PlanHead.{PlanHead}
use Rattle.first_model.specs.declared.request.Client.{Client}
use Rattle.first_model.specs.declared.request.Client.TheVariants.{Nav, Link, Watch}
use Rattle.first_model.specs.declared.request.Request.{Request}
use Rattle.first_model.specs.declared.request.Asked.{Asked}
use Rattle.first_model.specs.declared.request.Reply.{Reply}

-- the requests that wait, first asked first; the one in service; the replies posted to each client, first posted first;
-- the published heads of mission, fence and safe points; the index that was asked last and not taken, with its plan's id
pub record BoardState : Type 0 where
  pub waiting : List (Client × Request)
  pub service : Option (Client × Request)
  pub nav_posted : List (Asked × Reply)
  pub link_posted : List (List (Asked × Reply))
  pub watch_posted : List (List (Asked × Reply))
  pub published : List PlanHead
  pub index : Option (ℕ × ℕ)

-- the client is the Navigator, one of so many links or one of so many watchers
abbrev pub IsAmong : ℕ → ℕ → Client → Type 0
IsAmong links watchers Nav = Unit {0}
IsAmong links watchers (Link number) = number < links
IsAmong links watchers (Watch number) = number < watchers

-- the client is the Navigator, one of the board's links or one of its watchers
abbrev pub HasClient : BoardState → Client → Type 0
HasClient b client = IsAmong (length b.link_posted) (length b.watch_posted) client

-- the replies that are posted to the client and not taken, in their order
abbrev pub posted : BoardState → Client → List (Asked × Reply)
posted b Nav = b.nav_posted
posted b (Link number) = slice_index_or b.link_posted number []
posted b (Watch number) = slice_index_or b.watch_posted number []

-- the board with these replies posted to the client
abbrev pub with_posted : BoardState → Client → List (Asked × Reply) → BoardState
with_posted b Nav replies = record b { nav_posted = replies }
with_posted b (Link number) replies = record b { link_posted = slice_set b.link_posted number replies }
with_posted b (Watch number) replies = record b { watch_posted = slice_set b.watch_posted number replies }

-- the two are one client
abbrev pub same_client : Client → Client → Bool
same_client Nav Nav = true
same_client (Link number) (Link other) = number == other
same_client (Watch number) (Watch other) = number == other
same_client client other = false

-- how many of these requests are the client's
abbrev pub asks_of : Client → List (Client × Request) → ℕ
asks_of client [] = 0
asks_of client ((other, request) ∷ asks) = (if same_client client other then 1 else 0) + asks_of client asks

-- 1 where the request in service is the client's, and else 0
abbrev pub serving : Client → Option (Client × Request) → ℕ
serving client None = 0
serving client (Some (other, request)) = if same_client client other then 1 else 0

-- the number of the client's requests whose reply it has not taken
abbrev pub outstanding : BoardState → Client → ℕ
outstanding b client = asks_of client b.waiting + serving client b.service + length (posted b client)

-- the most requests that the client may have outstanding
abbrev pub limit : Client → ℕ
limit Nav = NAV_ROOM
limit (Link number) = LINK_ROOM
limit (Watch number) = WATCH_ROOM

-- the board has still each client that it had
abbrev pub ClientsStay : BoardState → BoardState → Type 0
ClientsStay old new = (client : Client) → HasClient old client → HasClient new client

-- the replies that are posted to each client are the same
abbrev pub PostedStays : BoardState → BoardState → Type 0
PostedStays old new = (client : Client) → posted new client ≡ posted old client

-- each client has as many requests outstanding as before
abbrev pub OutstandingStays : BoardState → BoardState → Type 0
OutstandingStays old new = (client : Client) → outstanding new client ≡ outstanding old client

-- for each client but this one, the posted replies are the same, and as many requests are outstanding as before
abbrev pub OthersStay : Client → BoardState → BoardState → Type 0
OthersStay client old new = (other : Client) → other ≢ client → (posted new other ≡ posted old other) × (outstanding new other ≡ outstanding old other)

-- nothing is posted to any client, and no client has a request outstanding
abbrev pub IsQuiet : BoardState → Type 0
IsQuiet b = (client : Client) → (posted b client ≡ []) × (outstanding b client ≡ 0)
