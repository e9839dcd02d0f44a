-- What a request must meet to be asked of banks.
use Rattle.std.specs.Prelude.{◌≡◌, ℕ, ◌-◌, ◌<◌, ◌≤◌, IsTrue}
use Rattle.mission_model.specs.declared.plan.PlanType.{PlanType}
use Rattle.mission_model.specs.declared.plan.PlanType.TheVariants.{Mission}
use Rattle.mission_model.specs.declared.request.Request.{Request}
use Rattle.mission_model.specs.declared.request.Request.TheVariants as request
use Rattle.mission_model.specs.PlanCode.{PlanValid, limit_of}
use Rattle.mission_model.specs.PlainMark.{plain_mark}
use Rattle.disk_model.specs.Disk.{DiskState}
use Rattle.plan_store.specs.CanServe.{MarkFits}
use Rattle.bank_state.specs.StandsFor.{HasItems}
use Rattle.bank_state.specs.Ledger.{Ledger, plan_by, draft_by}

-- A plan that is committed is newer than the one in force and within the limit of its kind. Where the disk tells, each of
-- its items is read in the spare bank, and they are a valid plan.
pub record CanPut (ledger : Ledger) (disk : DiskState) (kind : PlanType) (id count : ℕ) : Type 0 where
  pub newer : (ledger.entries kind).head.id < id
  pub within : count ≤ limit_of kind
  pub written : IsTrue disk.tells → HasItems kind (1 - (ledger.entries kind).bank) (draft_by ledger kind (record { id = id; count = count }) disk.seen) disk.seen
  pub valid : IsTrue disk.tells → PlanValid kind (draft_by ledger kind (record { id = id; count = count }) disk.seen).items

-- Banks that say this can be asked, whether a change is in doubt or not. A read or a mark of another id than the one in
-- force can always be asked; a mark of the mission in force must fit it where the disk tells.
abbrev pub CanAsk : Ledger → DiskState → Request → Type 0
CanAsk ledger disk (request.Read kind id seq) = id ≡ (ledger.entries kind).head.id → seq < (ledger.entries kind).head.count
CanAsk ledger disk (request.Write kind id seq item) = ((ledger.entries kind).head.id < id) × (seq < limit_of kind)
CanAsk ledger disk (request.Commit kind id count) = CanPut ledger disk kind id count
CanAsk ledger disk (request.SetMark mark) = mark.id ≡ (ledger.entries Mission).head.id → IsTrue disk.tells → MarkFits (plain_mark mark) (plan_by ledger Mission disk.seen)
