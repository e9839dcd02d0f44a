-- What a watcher may be told, and what its answers are: a read of a plan that is published, and the input goes on exactly then.
use Rattle.std.specs.Prelude.{◌≡◌, ℕ, ◌<◌, ◌≤◌, is_some, List, Option, Some, None}
use Rattle.mission_model.specs.declared.plan.PlanHead.{PlanHead}
use Rattle.mission_model.specs.declared.plan.PlanType.{PlanType}
use Rattle.mission_model.specs.declared.request.Asked.{Asked}
use Rattle.mission_model.specs.declared.request.Asked.TheVariants as about
use Rattle.mission_model.specs.declared.request.Reply.{Reply}
use Rattle.mission_model.specs.declared.watch.WatchOut.{WatchOut}
use Rattle.mission_model.specs.PlanTypes.{limit_of, head_of}
use Rattle.mission_model.specs.Replies.{CanHear}

-- a read that a watcher waits for: its kind, the head of that kind that was published when it was answered, and its seq
pub record Awaited : Type 0 where
  pub kind : PlanType
  pub head : PlanHead
  pub seq : ℕ

-- each published count is within its type's limit
abbrev pub HeadsFit : List PlanHead → Type 0
HeadsFit heads = (kind : PlanType) → (head_of heads kind).count ≤ limit_of kind

-- the reply is one that may be heard on the read that the watcher waits for, which was of an item of a published plan; where
-- that plan is published still, it has the same head
pub record IsTold (read : Awaited) (asked : Asked) (given : Reply) (heads : List PlanHead) : Type 0 where
  pub asked_it : asked ≡ about.Read read.kind read.head.id read.seq
  pub reply : CanHear asked given
  pub within : read.seq < read.head.count
  pub same_head : (head_of heads read.kind).id ≡ read.head.id → head_of heads read.kind ≡ read.head

-- a read that is answered names the published id of its kind and a seq below its count
abbrev pub IsPublished : List PlanHead → Option (PlanType × ℕ × ℕ) → Type 0
IsPublished heads None = Unit {0}
IsPublished heads (Some (kind, id, seq)) = (id ≡ (head_of heads kind).id) × (seq < (head_of heads kind).count)

-- a read that is answered is the one that is waited for then
abbrev pub IsAwaited : List PlanHead → Option (PlanType × ℕ × ℕ) → Awaited → Type 0
IsAwaited heads None waits = Unit {0}
IsAwaited heads (Some (kind, id, seq)) waits = waits ≡ record { kind = kind; head = head_of heads kind; seq = seq }

-- what holds of each answer: its read is of a published plan, the input goes on exactly where a read is answered, and that
-- read is the one that is waited for
pub record Answers (heads : List PlanHead) (out : WatchOut) (waits : Awaited) : Type 0 where
  pub read : IsPublished heads out.read
  pub more : out.more ≡ is_some out.read
  pub next : IsAwaited heads out.read waits
