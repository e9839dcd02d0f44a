-- What ties the core to what the lines of the boot tell. Each part names only what it reads, so that a step which leaves
-- that alone hands the part on as it is.
use Rattle.std.specs.Prelude.{◌≡◌, ℕ, suc, ◌+◌, ◌<◌, ◌≤◌, ◌==◌, ◌&&◌, min, Bool, true, false, List, [], ◌∷◌, length, drop, map, Option, Some, None, is_some, slice_get, slice_index_or, if◌then◌else◌}
use Rattle.first_model.specs.declared.limits.TheConstants.{MAX_MISSION_ITEMS, MAX_PLACES}
use Rattle.first_model.specs.declared.plan.PlanType.TheVariants.{Mission}
use Rattle.first_model.specs.declared.request.Client.{Client}
use Rattle.first_model.specs.declared.request.Client.TheVariants as client
use Rattle.first_model.specs.declared.request.Asked.{Asked}
use Rattle.first_model.specs.declared.request.Asked.TheVariants as about
use Rattle.first_model.specs.declared.request.Reply.{Reply}
use Rattle.first_board.specs.BoardState.{BoardState, posted}
use Rattle.first_board.specs.BoardCalls.{in_service}
use Rattle.first_board.specs.BoardLaw.{abouts}
use Rattle.first_cache.specs.CacheState.{CacheState, known_at, is_in_flight}
use Rattle.first_core.specs.declared.link.Session.{Session}
use Rattle.first_core.specs.declared.link.Session.TheVariants as session
use Rattle.first_core.specs.SharedState.{last_id}
use Rattle.first_core.specs.LinkState.{LinkState}
use Rattle.first_core.specs.CoreState.{CoreState}
use Rattle.first_runner.specs.BootTold.{BootTold, LinkTold, SessionTold, Free, Receiving, Writing, Committing, own, times, replies_to, open_asks, replies_taken, arrivals, tells, asks_for}
use Rattle.first_runner.specs.CoreRun.{IsWithin}

-- the request in service is the one that was taken last, whose reply is still to come
abbrev pub ServiceTold : List (Client × Asked) → ℕ → ℕ → Option (Client × Asked) → Type 0
ServiceTold asked taken served None = taken ≡ served
ServiceTold asked taken served (Some ask) = (taken ≡ suc served) × (slice_get asked served ≡ Some ask)

-- on the board wait the requests that were asked and not taken; to each client are posted the replies that it has not
-- taken
pub record BoardTold (asked : List (Client × Asked)) (taken : ℕ) (replies : List Reply) (heard : List Client) (b : BoardState) : Type 0 where
  pub waiting : abouts b.waiting ≡ drop taken asked
  pub within : taken ≤ length asked
  pub service : ServiceTold asked taken (length replies) (in_service b.service)
  pub posted : (client : Client) → posted b client ≡ drop (times client heard) (replies_to client asked replies)
  pub served : (client : Client) → times client heard ≤ length (replies_to client asked replies)

-- how many of these requests are reads of the seq of a mission
abbrev pub read_at : ℕ → ℕ → Asked → ℕ
read_at id seq (about.Read Mission other at) = if other == id && at == seq then 1 else 0
read_at id seq asked = 0

abbrev pub reads_of : ℕ → ℕ → List Asked → ℕ
reads_of id seq [] = 0
reads_of id seq (asked ∷ asks) = read_at id seq asked + reads_of id seq asks

-- the Navigator's cache knows the items that it was told of the adopted mission, and has in flight the reads whose reply
-- it has not taken; of a newer mission it has asked nothing
pub record CacheTold (taken : List (Asked × Reply)) (unheard asked : List Asked) (c : CacheState) : Type 0 where
  pub known : (seq : ℕ) → seq < c.count → is_some (known_at c seq) ≡ tells c.id seq taken
  pub flying : (seq : ℕ) → seq < c.count → (if is_in_flight c seq then 1 else 0) ≡ reads_of c.id seq unheard
  pub newer : (id seq : ℕ) → c.id < id → asks_for id seq asked ≡ false
  pub flags : MAX_MISSION_ITEMS ≤ length c.in_flight

-- a link's session, by its words
abbrev pub session_told : Session → SessionTold
session_told session.Free = Free
session_told (session.Receiving id count seq) = Receiving id count seq
session_told (session.Writing id count seq) = Writing id count seq
session_told (session.Committing id count) = Committing id count

abbrev pub link_told : LinkState → LinkTold
link_told l = record { schedule = l.schedule; session = session_told l.session }

-- at each meeting place the arrivals are counted, up to 255
pub record PlacesTold (places arrived : List ℕ) : Type 0 where
  pub all : length places ≡ MAX_PLACES
  pub at : (place : ℕ) → place < MAX_PLACES → slice_index_or places place 0 ≡ min 255 (arrivals arrived place)

-- the core is where the lines tell that it is
pub record CoreTold (t : BootTold) (c : CoreState) : Type 0 where
  pub board : BoardTold t.asked t.taken t.replies t.heard c.shared.board
  pub within : IsWithin t
  pub cache : CacheTold (replies_taken t client.Nav) (open_asks t client.Nav) (own client.Nav t.asked) c.nav.cache
  pub nav : t.nav ≡ c.nav.schedule
  pub links : t.links ≡ map link_told c.links
  pub last_id : t.last_id ≡ last_id c.shared
  pub places : PlacesTold c.shared.arrivals t.arrived
