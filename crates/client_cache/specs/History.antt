-- What a cache knows, told from the calls that were made on it: what was adopted, where the window was, which replies came.
use Rattle.std.specs.Prelude.{◌≡◌, ◌≢◌, ◌↔◌, ℕ, ◌+◌, ◌≤◌, ◌<◌, true, is_some, List, [], ◌∷◌, length, Option, Some, None, if◌then◌else◌}
use Rattle.std.proofs.Common.{◌⊎◌}
use Rattle.mission_model.specs.declared.plan.Item.{Item}
use Rattle.mission_model.specs.declared.plan.PlanHead.{PlanHead}
use Rattle.mission_model.specs.declared.plan.PlanType.{PlanType}
use Rattle.mission_model.specs.declared.request.Asked.{Asked}
use Rattle.mission_model.specs.declared.request.Asked.TheVariants as about
use Rattle.mission_model.specs.declared.request.Reply.{Reply}
use Rattle.mission_model.specs.declared.request.Reply.TheVariants as reply
use Rattle.mission_model.specs.declared.vehicle.Look.TheVariants.{Here}
use Rattle.client_cache.specs.CacheState.{CacheState, has_id, known_at, look_of, adopted, got, forgotten}
use Rattle.client_cache.specs.Moves.{moved}
use Rattle.client_cache.specs.Wants.{flying}

-- a call on a cache: a head is adopted; a look asks reads of these seqs; a reply is taken; the window is moved to a seq, or
-- is given so many places; the item at a seq is forgotten
pub data CacheEvent : Type 0 where
  Adopts : PlanHead → CacheEvent
  Looks : List ℕ → CacheEvent
  Hears : Asked → Reply → CacheEvent
  Aims : ℕ → CacheEvent
  Resizes : ℕ → CacheEvent
  Forgets : ℕ → CacheEvent

-- a call does this to the cache
abbrev pub CacheCall : CacheState → CacheEvent → CacheState → Type 0
CacheCall old (Adopts head) new = new ≡ adopted old head
CacheCall old (Looks seqs) new = new ≡ flying old seqs
CacheCall old (Hears asked given) new = new ≡ got old asked given
CacheCall old (Aims seq) new = new ≡ moved old seq (length old.known)
CacheCall old (Resizes capacity) new = new ≡ moved old old.from capacity
CacheCall old (Forgets seq) new = new ≡ forgotten old seq

-- these calls, one after another, lead from one cache to the other
abbrev pub CacheCalls : CacheState → List CacheEvent → CacheState → Type 0
CacheCalls old [] new = new ≡ old
CacheCalls old (event ∷ events) new = (mid : CacheState) × CacheCall old event mid × CacheCalls mid events new

-- what the calls say of the plan and of the window: the adopted plan, if any, the window's beginning and its places
pub record View : Type 0 where
  pub head : Option PlanHead
  pub from : ℕ
  pub places : ℕ

-- before any call
abbrev pub at_first : ℕ → View
at_first capacity = record { head = None; from = 0; places = capacity }

-- after one call: another plan lets the window begin at 0
abbrev pub next : View → CacheEvent → View
next v (Adopts head) = if has_id v.head head.id then v else record { head = Some head; from = 0; places = v.places }
next v (Aims seq) = record v { from = seq }
next v (Resizes capacity) = record v { places = capacity }
next v event = v

-- after all calls
abbrev pub after_all : View → List CacheEvent → View
after_all v [] = v
after_all v (event ∷ events) = after_all (next v event) events

-- the window has a place for the seq
abbrev pub Covers : View → ℕ → Type 0
Covers v seq = (v.from ≤ seq) × (seq < v.from + v.places)

-- the call brings an item to a seq: the reply to a read of the adopted plan's item there, while its seq is in the window
abbrev pub Brings : PlanType → View → ℕ → Item → CacheEvent → Type 0
Brings kind v seq item (Hears (about.Read other id place) (reply.Item given)) = (other ≡ kind) × (has_id v.head id ≡ true) × (place ≡ seq) × (given ≡ item) × Covers v seq
Brings kind v seq item event = ⊥

-- the call leaves what is known at a seq: no other plan is adopted, the seq is in the window still, the item is not
-- forgotten, and no other item is brought in its place
abbrev pub Leaves : PlanType → View → ℕ → CacheEvent → Type 0
Leaves kind v seq (Adopts head) = has_id v.head head.id ≡ true
Leaves kind v seq (Hears asked given) = (item : Item) → Brings kind v seq item (Hears asked given) → ⊥
Leaves kind v seq (Forgets place) = place ≢ seq
Leaves kind v seq event = Covers (next v event) seq

-- so do all of these calls
abbrev pub LeavesAll : PlanType → View → ℕ → List CacheEvent → Type 0
LeavesAll kind v seq [] = Unit {0}
LeavesAll kind v seq (event ∷ events) = Leaves kind v seq event × LeavesAll kind (next v event) seq events

-- one of these calls brought the item to the seq, and the calls since left it
abbrev pub Brought : PlanType → View → ℕ → Item → List CacheEvent → Type 0
Brought kind v seq item [] = ⊥
Brought kind v seq item (event ∷ events) = (Brings kind v seq item event × LeavesAll kind (next v event) seq events) ⊎ Brought kind (next v event) seq item events

-- how many of these places have a known item
abbrev pub number_known : List (Option Item) → ℕ
number_known [] = 0
number_known (item ∷ items) = (if is_some item then 1 else 0) + number_known items

-- What holds of a new cache after any calls.
-- known: at a seq exactly that item is known that was brought there, and was left since.
-- look: exactly that item is what a look there finds.
-- few: no more items are known than the window has places.
pub record Remembers (kind : PlanType) (capacity : ℕ) (events : List CacheEvent) (last : CacheState) : Type 0 where
  pub known : (seq : ℕ) (item : Item) → known_at last seq ≡ Some item ↔ Brought kind (at_first capacity) seq item events
  pub look : (seq : ℕ) (item : Item) → look_of (known_at last seq) ≡ Here item ↔ Brought kind (at_first capacity) seq item events
  pub few : number_known last.known ≤ (after_all (at_first capacity) events).places
