-- What is true of the board's fields at all times.
use Rattle.std.specs.Prelude.{◌≡◌, ℕ, ◌+◌, ◌*◌, ◌≤◌, List, [], ◌∷◌, length, Option, Some, None, slice_index_or}
use Rattle.mission_model.specs.declared.limits.TheConstants.{MAX_LINKS, MAX_WATCHERS, NAV_ROOM, LINK_ROOM, WATCH_ROOM}
use Rattle.mission_model.specs.declared.request.Client.{Client}
use Rattle.mission_model.specs.declared.request.Client.TheVariants.{Nav, Link, Watch}
use Rattle.mission_model.specs.declared.request.Request.{Request}
use Rattle.request_board.specs.declared.board.TheConstants.{SEATS}
use Rattle.request_board.specs.declared.board.Board.TheInside.{Inside}
use Rattle.request_board.specs.BoardState.{BoardState, IsAmong, HasClient, outstanding, limit}

abbrev pub view_of : Inside → BoardState
view_of a = record { waiting = a.waiting.items; service = a.service; nav_posted = a.nav; link_posted = a.links.items; watch_posted = a.watchers.items; published = a.heads; index = a.index }

-- each of these requests is of the Navigator, of one of so many links or of one of so many watchers
abbrev pub AllAmong : ℕ → ℕ → List (Client × Request) → Type 0
AllAmong links watchers [] = Unit {0}
AllAmong links watchers ((client, request) ∷ asks) = IsAmong links watchers client × AllAmong links watchers asks

-- so is the request in service
abbrev pub ServedAmong : ℕ → ℕ → Option (Client × Request) → Type 0
ServedAmong links watchers None = Unit {0}
ServedAmong links watchers (Some (client, request)) = IsAmong links watchers client

-- who asked is a client of the board, and no client is above its limit
pub record Sound (b : BoardState) : Type 0 where
  pub within : (client : Client) → HasClient b client → outstanding b client ≤ limit client
  pub waiting : AllAmong (length b.link_posted) (length b.watch_posted) b.waiting
  pub served : ServedAmong (length b.link_posted) (length b.watch_posted) b.service

-- as many requests as the Navigator, so many links and so many watchers together may have outstanding
abbrev pub all_room : ℕ → ℕ → ℕ
all_room links watchers = NAV_ROOM + links * LINK_ROOM + watchers * WATCH_ROOM

-- a client's place among the counts: the Navigator's is the first, then the links' and the watchers'
abbrev pub seat_of : Client → ℕ
seat_of Nav = 0
seat_of (Link number) = 1 + number
seat_of (Watch number) = 1 + MAX_LINKS + number

-- each client's count is of its outstanding requests
abbrev pub Counted : List ℕ → BoardState → Type 0
Counted counts b = (client : Client) → HasClient b client → slice_index_or counts (seat_of client) 0 ≡ outstanding b client

-- the board is sound, its queue has room for all that the limits let in, there are no more links and watchers than have
-- seats, and there is a count a seat, which is of the outstanding requests
pub record Kept (a : Inside) : Type 0 where
  pub sound : Sound (view_of a)
  pub room : a.waiting.capacity ≡ all_room (length a.links.items) (length a.watchers.items)
  pub links : length a.links.items ≤ MAX_LINKS
  pub watchers : length a.watchers.items ≤ MAX_WATCHERS
  pub seats : length a.counts ≡ SEATS
  pub counts : Counted a.counts (view_of a)
