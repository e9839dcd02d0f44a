-- What a request must meet to be served.
use Rattle.std.specs.Prelude.{◌≡◌, ℕ, ◌<◌, ◌≤◌, List, length, slice_get, Some}
use Rattle.std.specs.List.{All}
use Rattle.first_model.specs.declared.command.Jump.{Jump}
use Rattle.first_model.specs.declared.plan.Item.{Item}
use Rattle.first_model.specs.declared.plan.PlanType.{PlanType}
use Rattle.first_model.specs.declared.request.Request.{Request}
use Rattle.first_model.specs.declared.request.Request.TheVariants as request
use Rattle.first_model.specs.Command.{jump_of}
use Rattle.first_model.specs.PlanCode.{PlanValid, limit_of}
use Rattle.first_model.specs.PlainMark.{PlainMark, plain_mark}
use Rattle.first_store.specs.StoreState.{StoredPlan, KindState, StoreState, of_kind, plan_of, IsWhole, drafted}

-- the pair's seq is a DO_JUMP among the items, which repeats at least as often as it is used
abbrev pub IsJumpUsed : List Item → ℕ × ℕ → Type 0
IsJumpUsed items pair = (item : Item) × (jump : Jump) × (slice_get items pair.0 ≡ Some item) × (jump_of item ≡ Some jump) × (pair.1 ≤ jump.repeats)

-- a mark fits a mission: it is of this one, stands at one of its items or at its end, and counts jumps of it alone
pub record MarkFits (mark : PlainMark) (mission : StoredPlan) : Type 0 where
  pub id : mark.id ≡ mission.id
  pub index : mark.index ≤ length mission.items
  pub jumps : All (IsJumpUsed mission.items) mark.pairs

-- a plan that is written is newer than the one in force, and within the limit of its kind
pub record CanWrite (k : KindState) (kind : PlanType) (id seq : ℕ) : Type 0 where
  pub newer : k.plan.id < id
  pub within : seq < limit_of kind

-- a plan that is committed is newer than the one in force and within the limit of its kind; each of its items was written
-- last at its seq; and they are a valid plan
pub record CanCommit (k : KindState) (kind : PlanType) (id count : ℕ) : Type 0 where
  pub newer : k.plan.id < id
  pub within : count ≤ limit_of kind
  pub written : IsWhole k.drafts id count
  pub valid : PlanValid kind (drafted k.drafts id count)

-- the store can serve the request; a read or a mark of another id than the one in force can always be served
abbrev pub CanServe : StoreState → Request → Type 0
CanServe st (request.Read kind id seq) = id ≡ (plan_of st kind).id → seq < length (plan_of st kind).items
CanServe st (request.Write kind id seq item) = CanWrite (of_kind st kind) kind id seq
CanServe st (request.Commit kind id count) = CanCommit (of_kind st kind) kind id count
CanServe st (request.SetMark mark) = mark.id ≡ st.mission.plan.id → MarkFits (plain_mark mark) st.mission.plan
