-- What is true of the board's fields at all times.
use Rattle.std.specs.Prelude.{◌≡◌, ℕ, ◌+◌, ◌*◌, ◌≤◌, List, [], ◌∷◌, length, Option, Some, None}
use Rattle.first_model.specs.declared.limits.TheConstants.{NAV_ROOM, LINK_ROOM, WATCH_ROOM}
use Rattle.first_model.specs.declared.request.Client.{Client}
use Rattle.first_model.specs.declared.request.Request.{Request}
use Rattle.first_board.specs.declared.board.Board.TheInside.{Inside}
use Rattle.first_board.specs.BoardState.{BoardState, IsAmong, HasClient, outstanding, limit}

abbrev pub view_of : Inside → BoardState
view_of a = record { waiting = a.waiting.items; service = a.service; nav_posted = a.nav; link_posted = a.links.items; watch_posted = a.watchers.items; published = a.heads; index = a.index }

-- each of these requests is of the Navigator, of one of so many links or of one of so many watchers
abbrev pub AllAmong : ℕ → ℕ → List (Client × Request) → Type 0
AllAmong links watchers [] = Unit {0}
AllAmong links watchers ((client, request) ∷ asks) = IsAmong links watchers client × AllAmong links watchers asks

-- so is the request in service
abbrev pub ServedAmong : ℕ → ℕ → Option (Client × Request) → Type 0
ServedAmong links watchers None = Unit {0}
ServedAmong links watchers (Some (client, request)) = IsAmong links watchers client

-- who asked is a client of the board, and no client is above its limit
pub record Sound (b : BoardState) : Type 0 where
  pub within : (client : Client) → HasClient b client → outstanding b client ≤ limit client
  pub waiting : AllAmong (length b.link_posted) (length b.watch_posted) b.waiting
  pub served : ServedAmong (length b.link_posted) (length b.watch_posted) b.service

-- as many requests as the Navigator, so many links and so many watchers together may have outstanding
abbrev pub all_room : ℕ → ℕ → ℕ
all_room links watchers = NAV_ROOM + links * LINK_ROOM + watchers * WATCH_ROOM

-- the board is sound, and its queue has room for all that the limits let in
pub record Kept (a : Inside) : Type 0 where
  pub sound : Sound (view_of a)
  pub room : a.waiting.capacity ≡ all_room (length a.links.items) (length a.watchers.items)
