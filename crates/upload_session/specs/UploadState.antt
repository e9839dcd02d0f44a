-- Where a link is with the plans that it brings, as its messages and replies leave it.
use Rattle.std.specs.Prelude.{ℕ, List, [], ◌∷◌, ◌++◌}
use Rattle.mission_model.specs.declared.plan.PlanType.{PlanType}
use Rattle.mission_model.specs.declared.plan.Item.{Item}
pub use Rattle.mission_model.specs.PlanTypes.{type_of, types_named}

-- the plan that a link brings: its type, its new id, the count that it announced, and the items that were heard and not refused
pub record Upload : Type 0 where
  pub kind : PlanType
  pub id : ℕ
  pub count : ℕ
  pub heard : List Item

-- the upload with one more item
abbrev pub with_item : Upload → Item → Upload
with_item u item = record u { heard = u.heard ++ item ∷ [] }

-- nothing is going on; an item is waited for; the last item that was heard is being written; a plan is being committed, and
-- these types are left to be cleared after it
pub data UploadState : Type 0 where
  Free : UploadState
  Receiving : Upload → UploadState
  Writing : Upload → UploadState
  Committing : List PlanType → UploadState
