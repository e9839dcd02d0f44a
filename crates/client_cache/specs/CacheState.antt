-- What a contract sees of a cache.
use Rattle.std.specs.Prelude.{ℕ, ◌+◌, ◌-◌, ◌==◌, ◌&&◌, Bool, false, nat_le, nat_lt, List, [], length, Option, Some, None, replicate, slice_index_or, slice_set, if◌then◌else◌}
use Rattle.mission_model.specs.declared.plan.Item.{Item}
use Rattle.mission_model.specs.declared.plan.PlanHead.{PlanHead}
use Rattle.mission_model.specs.declared.plan.PlanType.{PlanType}
use Rattle.mission_model.specs.declared.request.Client.{Client}
use Rattle.mission_model.specs.declared.request.Asked.{Asked}
use Rattle.mission_model.specs.declared.request.Asked.TheVariants as about
use Rattle.mission_model.specs.declared.request.Reply.{Reply}
use Rattle.mission_model.specs.declared.request.Reply.TheVariants as reply
use Rattle.mission_model.specs.declared.vehicle.Look.{Look}
use Rattle.mission_model.specs.declared.vehicle.Look.TheVariants.{Here, Pending}
use Rattle.mission_model.specs.PlanTypes.{is_kind}

-- whose cache it is and of which kind; the adopted plan, if one was adopted; the window's beginning; what is known at each
-- place of the window; for each seq of the adopted plan, whether a read of it is in flight
pub record CacheState : Type 0 where
  pub client : Client
  pub kind : PlanType
  pub head : Option PlanHead
  pub from : ℕ
  pub known : List (Option Item)
  pub in_flight : List Bool

-- the adopted plan has this id
abbrev pub has_id : Option PlanHead → ℕ → Bool
has_id None id = false
has_id (Some head) id = head.id == id

-- the adopted plan's id and its count, 0 where none is adopted
abbrev pub id_of : Option PlanHead → ℕ
id_of None = 0
id_of (Some head) = head.id

abbrev pub count_of : Option PlanHead → ℕ
count_of None = 0
count_of (Some head) = head.count

-- the seq behind the window
abbrev pub window_end : CacheState → ℕ
window_end c = c.from + length c.known

-- the seq is in the window
abbrev pub in_window : CacheState → ℕ → Bool
in_window c seq = nat_le c.from seq && nat_lt seq (window_end c)

-- the item that is known at a seq, if any
abbrev pub known_at : CacheState → ℕ → Option Item
known_at c seq = if nat_le c.from seq then slice_index_or c.known (seq - c.from) None else None

-- a read of the seq is in flight
abbrev pub is_in_flight : CacheState → ℕ → Bool
is_in_flight c seq = slice_index_or c.in_flight seq false

-- a cache that has adopted no plan
abbrev pub opened : Client → PlanType → ℕ → CacheState
opened client kind capacity = record { client = client; kind = kind; head = None; from = 0; known = replicate capacity None; in_flight = [] }

-- the cache after a head was adopted: one of another id than the adopted plan's empties it, and the window begins at 0
abbrev pub adopted : CacheState → PlanHead → CacheState
adopted c head = if has_id c.head head.id then c else record { client = c.client; kind = c.kind; head = Some head; from = 0; known = replicate (length c.known) None; in_flight = replicate head.count false }

-- what a look at a seq answers
abbrev pub look_of : Option Item → Look
look_of (Some item) = Here item
look_of None = Pending

-- the read of a seq is answered
abbrev pub answered_at : CacheState → ℕ → CacheState
answered_at c seq = record c { in_flight = slice_set c.in_flight seq false }

-- the item at a seq of the window is this one, or is not known
abbrev pub known_with : CacheState → ℕ → Option Item → CacheState
known_with c seq item = record c { known = slice_set c.known (seq - c.from) item }

-- the item at a seq is not known any more
abbrev pub forgotten : CacheState → ℕ → CacheState
forgotten c seq = if in_window c seq then known_with c seq None else c

-- the cache after the reply to a read of this seq, of its kind and its adopted id: an item inside the window is kept
abbrev pub kept : CacheState → ℕ → Reply → CacheState
kept c seq (reply.Item item) = if in_window c seq then known_with (answered_at c seq) seq (Some item) else answered_at c seq
kept c seq other = answered_at c seq

-- the cache after the reply to a request: one to anything but a read of its kind and its adopted id changes nothing
abbrev pub got : CacheState → Asked → Reply → CacheState
got c (about.Read kind id seq) given = if is_kind kind c.kind && has_id c.head id then kept c seq given else c
got c other given = c

-- the reply to such a read of this seq is an item that is kept
abbrev pub keeps_at : CacheState → ℕ → Reply → Bool
keeps_at c seq (reply.Item item) = in_window c seq
keeps_at c seq other = false

-- the reply to a request is an item that is kept
abbrev pub keeps : CacheState → Asked → Reply → Bool
keeps c (about.Read kind id seq) given = if is_kind kind c.kind && has_id c.head id then keeps_at c seq given else false
keeps c other given = false
