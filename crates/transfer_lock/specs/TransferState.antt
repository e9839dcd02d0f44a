-- What a contract sees of the transfer that all links share.
use Rattle.std.specs.Prelude.{ℕ, ◌+◌, ◌<◌, Bool, List, Option, Some, None, slice_index_or, slice_set, nat_lt, map}
use Rattle.mission_model.specs.declared.plan.PlanHead.{PlanHead}
use Rattle.mission_model.specs.declared.plan.PlanType.{PlanType}
pub use Rattle.mission_model.specs.PlanTypes.{place_of}

-- the link whose grant is out; the last id of each type: the one that a link took last, and before any the one in force when
-- the boot began
pub record TransferState : Type 0 where
  pub holder : Option ℕ
  pub ids : List ℕ

-- the last id of a type
abbrev pub last_id : TransferState → PlanType → ℕ
last_id t kind = slice_index_or t.ids (place_of kind) 0

-- an id is left after the last one
abbrev pub HasId : TransferState → PlanType → Type 0
HasId t kind = last_id t kind < 4294967295

-- the same, as a test
abbrev pub has_id : TransferState → PlanType → Bool
has_id t kind = nat_lt (last_id t kind) 4294967295

-- the transfer at the beginning of a boot: no grant is out, and no id is used beyond those in force
abbrev pub opened : List PlanHead → TransferState
opened heads = record { holder = None; ids = map (λ (head : PlanHead). head.id) heads }

-- the link's grant is out
abbrev pub begun : TransferState → ℕ → TransferState
begun t link = record t { holder = Some link }

-- no grant is out
abbrev pub finished : TransferState → TransferState
finished t = record t { holder = None }

-- the id after the last one of this type is used
abbrev pub id_taken : TransferState → PlanType → TransferState
id_taken t kind = record t { ids = slice_set t.ids (place_of kind) (last_id t kind + 1) }
