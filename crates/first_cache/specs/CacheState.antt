-- What a contract sees of a cache.
use Rattle.std.specs.Prelude.{ℕ, ◌+◌, ◌-◌, ◌==◌, ◌&&◌, Bool, true, false, nat_le, nat_lt, List, length, Option, Some, None, replicate, slice_index_or, slice_set, if◌then◌else◌}
use Rattle.first_model.specs.declared.plan.Item.{Item}
use Rattle.first_model.specs.declared.plan.PlanHead.{PlanHead}
use Rattle.first_model.specs.declared.plan.PlanType.{PlanType}
use Rattle.first_model.specs.declared.plan.PlanType.TheVariants.{Mission, Fence, Safe}
use Rattle.first_model.specs.declared.request.Client.{Client}
use Rattle.first_model.specs.declared.request.Asked.{Asked}
use Rattle.first_model.specs.declared.request.Asked.TheVariants as about
use Rattle.first_model.specs.declared.request.Reply.{Reply}
use Rattle.first_model.specs.declared.request.Reply.TheVariants as reply
use Rattle.first_model.specs.declared.vehicle.Look.{Look}
use Rattle.first_model.specs.declared.vehicle.Look.TheVariants.{Here, Pending}
use Rattle.first_cache.specs.declared.cache.TheConstants.{SEQS}

-- whose cache it is and of which kind; the adopted plan's id and count; the window's beginning; what is known at each
-- place of the window; for each seq, whether a read of it under the adopted id is in flight
pub record CacheState : Type 0 where
  pub client : Client
  pub kind : PlanType
  pub id : ℕ
  pub count : ℕ
  pub from : ℕ
  pub known : List (Option Item)
  pub in_flight : List Bool

-- the seq behind the window
abbrev pub window_end : CacheState → ℕ
window_end c = c.from + length c.known

-- the seq is in the window
abbrev pub in_window : CacheState → ℕ → Bool
in_window c seq = nat_le c.from seq && nat_lt seq (window_end c)

-- the item that is known at a seq, if any
abbrev pub known_at : CacheState → ℕ → Option Item
known_at c seq = if nat_le c.from seq then slice_index_or c.known (seq - c.from) None else None

-- a read of the seq is in flight
abbrev pub is_in_flight : CacheState → ℕ → Bool
is_in_flight c seq = slice_index_or c.in_flight seq false

-- a cache that has adopted no plan
abbrev pub opened : Client → PlanType → ℕ → CacheState
opened client kind capacity = record { client = client; kind = kind; id = 0; count = 0; from = 0; known = replicate capacity None; in_flight = replicate SEQS false }

-- the cache after a head was adopted: one of another id empties it, and the window begins at 0
abbrev pub adopted : CacheState → PlanHead → CacheState
adopted c head = if c.id == head.id then c else record { client = c.client; kind = c.kind; id = head.id; count = head.count; from = 0; known = replicate (length c.known) None; in_flight = replicate (length c.in_flight) false }

-- what a look at a seq answers
abbrev pub look_of : Option Item → Look
look_of (Some item) = Here item
look_of None = Pending

-- the two are one kind
abbrev pub same_kind : PlanType → PlanType → Bool
same_kind Mission Mission = true
same_kind Fence Fence = true
same_kind Safe Safe = true
same_kind kind other = false

-- the request is a read of this seq, of the cache's kind and adopted id
abbrev pub reads_here : CacheState → Asked → Bool
reads_here c (about.Read kind id seq) = same_kind kind c.kind && id == c.id
reads_here c other = false

-- the read of a seq is answered
abbrev pub answered_at : CacheState → ℕ → CacheState
answered_at c seq = record c { in_flight = slice_set c.in_flight seq false }

-- the item at a seq is known
abbrev pub known_with : CacheState → ℕ → Item → CacheState
known_with c seq item = record c { known = slice_set c.known (seq - c.from) (Some item) }

-- the cache after the reply to a read of this seq, of its kind and its adopted id: an item inside the window is kept
abbrev pub kept : CacheState → ℕ → Reply → CacheState
kept c seq (reply.Item item) = if in_window c seq then known_with (answered_at c seq) seq item else answered_at c seq
kept c seq other = answered_at c seq

-- the cache after the reply to a request: one to anything but a read of its kind and its adopted id changes nothing
abbrev pub got : CacheState → Asked → Reply → CacheState
got c (about.Read kind id seq) given = if same_kind kind c.kind && id == c.id then kept c seq given else c
got c other given = c

-- the reply is an item that is kept
abbrev pub keeps : CacheState → Asked → Reply → Bool
keeps c (about.Read kind id seq) (reply.Item item) = same_kind kind c.kind && id == c.id && in_window c seq
keeps c other given = false
