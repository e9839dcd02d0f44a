-- What holds of a transfer after any calls: one grant at a time, and ids that rise by one.
use Rattle.std.specs.Prelude.{◌≡◌, ℕ, ◌+◌, ◌==◌, List, [], ◌∷◌, Option, Some, None, Result, Ok, Err, slice_index_or, if◌then◌else◌}
use Rattle.mission_model.specs.declared.plan.PlanHead.{PlanHead}
use Rattle.mission_model.specs.declared.plan.PlanType.{PlanType}
use Rattle.transfer_lock.specs.declared.transfer.Busy.{Busy}
use Rattle.transfer_lock.specs.TransferState.{TransferState, place_of, last_id, HasId, begun, finished, id_taken}

-- what a call does: a link gets the grant; it gives it back; an id of a type is used; nothing
pub data Event : Type 0 where
  Begins : ℕ → Event
  Finishes : ℕ → Event
  Uses : PlanType → ℕ → Event
  Stays : Event

-- a call does this to the transfer
abbrev pub Call : TransferState → Event → TransferState → Type 0
Call old (Begins link) new = (old.holder ≡ None) × (new ≡ begun old link)
Call old (Finishes link) new = (old.holder ≡ Some link) × (new ≡ finished old)
Call old (Uses kind id) new = HasId old kind × (id ≡ last_id old kind + 1) × (new ≡ id_taken old kind)
Call old Stays new = new ≡ old

-- these calls, one after another, lead from one transfer to the other
abbrev pub Calls : TransferState → List Event → TransferState → Type 0
Calls old [] new = new ≡ old
Calls old (event ∷ events) new = (mid : TransferState) × Call old event mid × Calls mid events new

-- what an answer of try_begin and take_id says of the call
abbrev pub begin_event : Result ℕ Busy → Event
begin_event (Ok link) = Begins link
begin_event (Err busy) = Stays

abbrev pub id_event : PlanType → Option ℕ → Event
id_event kind (Some id) = Uses kind id
id_event kind None = Stays

-- the ids of a type that were used, in their order
abbrev pub ids_used : PlanType → List Event → List ℕ
ids_used kind [] = []
ids_used kind (Uses other id ∷ events) = if place_of other == place_of kind then id ∷ ids_used kind events else ids_used kind events
ids_used kind (event ∷ events) = ids_used kind events

-- each of these is one above the one before it, and the first is one above this number
abbrev pub RisesFrom : ℕ → List ℕ → Type 0
RisesFrom before [] = Unit {0}
RisesFrom before (id ∷ ids) = (id ≡ before + 1) × RisesFrom id ids

-- from this holder on, a grant is given only while none is out, and is given back by its holder
abbrev pub InTurn : Option ℕ → List Event → Type 0
InTurn holder [] = Unit {0}
InTurn holder (Begins link ∷ events) = (holder ≡ None) × InTurn (Some link) events
InTurn holder (Finishes link ∷ events) = (holder ≡ Some link) × InTurn None events
InTurn holder (event ∷ events) = InTurn holder events

-- What holds of a new transfer after any calls.
-- grants: at most one grant is out at a time, from the call that gave it to the one that gave it back.
-- ids: the ids of a type rise by one, from the id that was in force at the boot.
pub record OneAtATime (heads : List PlanHead) (events : List Event) : Type 0 where
  pub grants : InTurn None events
  pub ids : (kind : PlanType) → RisesFrom (slice_index_or heads (place_of kind) (record { id = 0; count = 0 })).id (ids_used kind events)
