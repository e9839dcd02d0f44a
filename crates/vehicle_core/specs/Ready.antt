-- What an actor's next step is, and so when it is ready: a table on what the lines tell.
use Rattle.std.specs.Prelude.{ℕ, ◌==◌, ◌&&◌, ◌||◌, Bool, true, false, List, [], ◌∷◌, length, is_some, nat_le, nat_lt, if◌then◌else◌}
use Rattle.mission_model.specs.declared.flight_line.Actor.{Actor}
use Rattle.mission_model.specs.declared.request.Client.{Client}
use Rattle.mission_model.specs.declared.request.Client.TheVariants as client
use Rattle.mission_model.specs.declared.schedule.InputLine.{InputLine}
use Rattle.mission_model.specs.declared.schedule.InputLine.TheVariants as input
use Rattle.mission_model.specs.declared.vehicle.VehicleLine.TheVariants as event
use Rattle.request_board.specs.BoardState.{BoardState, posted, open_asks}
use Rattle.vehicle_core.specs.ScheduleState.{ScheduleState, same_actor}
use Rattle.vehicle_core.specs.Told.{SharedTold, arrivals, NavTold, ActorTold, Worker, Link, Nav, Watch, name_of}
use Rattle.navigator.specs.NavCalls.{drop_now}

-- the kinds of a step: a reply is taken, or posted by the worker; a window is moved; the next input or request has its turn;
-- there is nothing to do
pub data Turn : Type 0 where
  Replies : Turn
  Drops : Turn
  Goes : Turn
  Rests : Turn

-- the list has a first element
abbrev pub has_first : {X : Type 0} → List X → Bool
has_first [] = false
has_first (x ∷ xs) = true

-- a reply waits for the client
abbrev pub has_reply : BoardState → Client → Bool
has_reply b client = has_first (posted b client)

-- the client has no request outstanding
abbrev pub is_free : BoardState → Client → Bool
is_free b client = length (open_asks b client) == 0

-- The next input is ready: a wait, and a go after a pending entry, once nothing of its own is outstanding; a meeting at which
-- the client has arrived, once enough clients came there in this boot; an upload that has begun, while the plan has the item
-- that was requested; every other step at any time.
abbrev pub input_ready : SharedTold → Client → List InputLine → Bool → ℕ → Bool
input_ready t client [] begun requested = false
input_ready t client (input.Wait ∷ rest) begun requested = is_free t.board client
input_ready t client (input.Meet place count ∷ rest) true requested = nat_le count (arrivals t.arrived place)
input_ready t client (input.Vehicle event.Go ∷ rest) true requested = is_free t.board client
input_ready t client (input.Upload kind items ∷ rest) true requested = nat_lt requested (length items)
input_ready t client (current ∷ rest) begun requested = true

-- the next step on the schedule
abbrev pub on_schedule : SharedTold → Client → ScheduleState → Turn
on_schedule t client s = if input_ready t client s.inputs s.begun s.requested then Goes else Rests

-- the worker posts the reply to the request that it has, or takes the next request
abbrev pub worker_turn : BoardState → Turn
worker_turn b = if is_some b.service then Replies else (if has_first b.waiting then Goes else Rests)

-- a link or a watcher takes the reply that waits; else it goes on with its schedule once it has no request outstanding
abbrev pub asking_turn : SharedTold → Client → ScheduleState → Turn
asking_turn t client s = if has_reply t.board client then Replies else (if is_free t.board client then on_schedule t client s else Rests)

-- the Navigator takes the reply that waits; else it moves the window for which a drop is owed; else it goes on with its
-- schedule
abbrev pub nav_turn : SharedTold → NavTold → Turn
nav_turn t n = if has_reply t.board client.Nav then Replies else (if is_some (drop_now n.nav t.board.published) then Drops else on_schedule t client.Nav n.schedule)

-- there is something to do
abbrev pub is_turn : Turn → Bool
is_turn Rests = false
is_turn other = true

module _ {W : Type 0} where
  abbrev pub turn_of : SharedTold → ActorTold W → Turn
  turn_of t Worker = worker_turn t.board
  turn_of t (Link l) = asking_turn t (client.Link l.number) l.schedule
  turn_of t (Nav n) = nav_turn t n
  turn_of t (Watch w) = asking_turn t (client.Watch w.number) w.schedule

  -- the actor is ready: the power is on, and it has something to do
  abbrev pub is_ready : SharedTold → ActorTold W → Bool
  is_ready t a = t.power && is_turn (turn_of t a)

  -- the actor of this name is among these and ready
  abbrev pub has_ready : SharedTold → Actor → List (ActorTold W) → Bool
  has_ready t name [] = false
  has_ready t name (a ∷ actors) = (same_actor name (name_of a) && is_ready t a) || has_ready t name actors

  -- one of these is ready
  abbrev pub is_any_ready : SharedTold → List (ActorTold W) → Bool
  is_any_ready t [] = false
  is_any_ready t (a ∷ actors) = is_ready t a || is_any_ready t actors

  -- no input is left; the worker has none
  abbrev pub is_finished : ActorTold W → Bool
  is_finished Worker = true
  is_finished (Link l) = length l.schedule.inputs == 0
  is_finished (Nav n) = length n.schedule.inputs == 0
  is_finished (Watch w) = length w.schedule.inputs == 0

  abbrev pub all_finished : List (ActorTold W) → Bool
  all_finished [] = true
  all_finished (a ∷ actors) = is_finished a && all_finished actors
