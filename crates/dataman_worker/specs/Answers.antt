-- What a reply says of the banks and of the calls of their disk, whatever the disk tells.
use Rattle.std.specs.Prelude.{◌≡◌, ◌≢◌, ◌⊎◌, ℕ, ◌+◌, Bool, false, Option, Some, None, IsSome, Result, Ok, Err}
use Rattle.mission_model.specs.declared.limits.TheConstants.{LAST_GENERATION}
use Rattle.mission_model.specs.declared.plan.PlanType.TheVariants.{Mission}
use Rattle.mission_model.specs.declared.request.Request.{Request}
use Rattle.mission_model.specs.declared.request.Request.TheVariants as request
use Rattle.mission_model.specs.declared.request.Reply.{Reply}
use Rattle.mission_model.specs.declared.request.Reply.TheVariants as reply
use Rattle.disk_model.specs.declared.disk.DiskFault.{DiskFault}
use Rattle.disk_model.specs.declared.disk.DiskFault.TheVariants as fault
use Rattle.disk_model.specs.Disk.{Meter}
use Rattle.disk_model.specs.Meters.{Uncut}
use Rattle.gated_cell.specs.declared.fault.CellFault.{CellFault}
use Rattle.gated_cell.specs.declared.fault.CellFault.TheVariants as cell_fault
use Rattle.bank_state.specs.declared.parts.Doubt.{Doubt}
use Rattle.bank_state.specs.declared.parts.Doubt.TheVariants as doubt
use Rattle.bank_state.specs.Ledger.{Ledger, done}
use Rattle.bank_state.specs.Outcomes.{RefusedBy}

-- how many writes and syncs settle a doubt, if there is one
abbrev pub settling : Option Doubt → ℕ
settling None = 0
settling (Some change) = 2

-- how many writes and syncs a request makes itself
abbrev pub changes_of : Request → ℕ
changes_of (request.Read kind id seq) = 0
changes_of (request.Write kind id seq item) = 1
changes_of (request.Commit kind id count) = 6
changes_of (request.SetMark mark) = 6

-- and how many reads
abbrev pub reads_of : Request → ℕ
reads_of (request.Read kind id seq) = 1
reads_of (request.Write kind id seq item) = 0
reads_of (request.Commit kind id count) = 0
reads_of (request.SetMark mark) = 0

-- what the banks say once nothing is in doubt
abbrev pub calm : Ledger → Ledger
calm ledger = record ledger { doubt = None }

-- a request makes calls of its own: none where it names another id than the one in force, or its cell is at the last generation
abbrev pub HasCalls : Request → Ledger → Type 0
HasCalls (request.Read kind id seq) before = id ≡ (before.entries kind).head.id
HasCalls (request.Write kind id seq item) before = Unit {0}
HasCalls (request.Commit kind id count) before = (before.entries kind).generation ≢ LAST_GENERATION
HasCalls (request.SetMark mark) before = (mark.id ≡ (before.entries Mission).head.id) × (before.mark_generation ≢ LAST_GENERATION)

-- what the banks say after a change that was refused: what they said, or, of a fault, that it is in doubt
abbrev pub RefusedChange : Doubt → DiskFault → Ledger → Ledger → Type 0
RefusedChange change fault.Failed before after = (after ≡ calm before) ⊎ (after ≡ record before { doubt = Some change })
RefusedChange change fault.Cut before after = after ≡ calm before

-- what they say after a request of which a call was refused
abbrev pub LeftBy : Request → DiskFault → Ledger → Ledger → Type 0
LeftBy (request.Read kind id seq) fault before after = after ≡ calm before
LeftBy (request.Write kind id seq item) fault before after = after ≡ calm before
LeftBy (request.Commit kind id count) fault before after = RefusedChange (doubt.Plan kind (record { id = id; count = count })) fault before after
LeftBy (request.SetMark mark) fault before after = RefusedChange (doubt.Mark mark) fault before after

-- the disk refused a call by which a doubt was to be settled, and no other call was made
pub record NotSettled (fault : DiskFault) (before after : Ledger) (old new : Meter) : Type 0 where
  pub doubted : IsSome before.doubt
  pub same : after ≡ before
  pub refused : RefusedBy 2 0 old new fault

-- no doubt was left, and the disk refused a call of the request
pub record NotServed (asked : Request) (fault : DiskFault) (before after : Ledger) (old new : Meter) : Type 0 where
  pub calls : HasCalls asked before
  pub left : LeftBy asked fault before after
  pub refused : RefusedBy (settling before.doubt + changes_of asked) (reads_of asked) old new fault

-- no doubt was left, this was done to the banks, and the request made all its calls
pub record Made (asked : Request) (before after by : Ledger) (old new : Meter) : Type 0 where
  pub calls : HasCalls asked before
  pub done : after ≡ by
  pub made : Uncut (settling before.doubt + changes_of asked) (reads_of asked) old new
  pub no_fault : new.faults ≡ old.faults

-- no doubt was left, and the request made no call
pub record Unmade (before after : Ledger) (old new : Meter) : Type 0 where
  pub same : after ≡ calm before
  pub made : Uncut (settling before.doubt) 0 old new
  pub no_fault : new.faults ≡ old.faults

-- an item answers a read of the plan in force
abbrev pub GivesItem : Request → Ledger → Ledger → Meter → Meter → Type 0
GivesItem (request.Read kind id seq) before after old new = Made (request.Read kind id seq) before after (calm before) old new
GivesItem (request.Write kind id seq item) before after old new = ⊥
GivesItem (request.Commit kind id count) before after old new = ⊥
GivesItem (request.SetMark mark) before after old new = ⊥

-- The id in force answers a read or a mark of another id. A read of the id in force it answers only over a disk that tells
-- nothing: there the bytes that were read were not the record.
abbrev pub GivesStale : Request → ℕ → Bool → Ledger → Ledger → Meter → Meter → Type 0
GivesStale (request.Read kind id seq) n tells before after old new = (n ≡ (before.entries kind).head.id)
    × (((id ≢ n) × Unmade before after old new) ⊎ ((tells ≡ false) × Made (request.Read kind id seq) before after (calm before) old new))
GivesStale (request.Write kind id seq item) n tells before after old new = ⊥
GivesStale (request.Commit kind id count) n tells before after old new = ⊥
GivesStale (request.SetMark mark) n tells before after old new = (n ≡ (before.entries Mission).head.id) × (mark.id ≢ n) × Unmade before after old new

-- what is done is a write, a commit, or a mark of the mission in force
abbrev pub GivesDone : Request → Ledger → Ledger → Meter → Meter → Type 0
GivesDone (request.Read kind id seq) before after old new = ⊥
GivesDone (request.Write kind id seq item) before after old new = Made (request.Write kind id seq item) before after (calm before) old new
GivesDone (request.Commit kind id count) before after old new = Made (request.Commit kind id count) before after (done (doubt.Plan kind (record { id = id; count = count })) (calm before)) old new
GivesDone (request.SetMark mark) before after old new = Made (request.SetMark mark) before after (done (doubt.Mark mark) (calm before)) old new

-- a cell at its last generation answers a commit, or a mark of the mission in force
abbrev pub GivesSpent : Request → ℕ → Ledger → Ledger → Meter → Meter → Type 0
GivesSpent (request.Read kind id seq) g before after old new = ⊥
GivesSpent (request.Write kind id seq item) g before after old new = ⊥
GivesSpent (request.Commit kind id count) g before after old new = (g ≡ LAST_GENERATION) × ((before.entries kind).generation ≡ g) × Unmade before after old new
GivesSpent (request.SetMark mark) g before after old new = (g ≡ LAST_GENERATION) × (before.mark_generation ≡ g) × (mark.id ≡ (before.entries Mission).head.id) × Unmade before after old new

-- Why this reply came, what the banks say then, and which calls were made: of a refusal at most how many, or inside how many
-- the cut came. A doubt is settled first; where that is refused, nothing else is done.
abbrev pub Answers : Request → Bool → Ledger → Ledger → Meter → Meter → Reply → Type 0
Answers asked tells before after old new (reply.Item item) = GivesItem asked before after old new
Answers asked tells before after old new (reply.Stale n) = GivesStale asked n tells before after old new
Answers asked tells before after old new reply.Done = GivesDone asked before after old new
Answers asked tells before after old new reply.DiskFailed = NotSettled fault.Failed before after old new ⊎ NotServed asked fault.Failed before after old new
Answers asked tells before after old new reply.PowerOff = NotSettled fault.Cut before after old new ⊎ NotServed asked fault.Cut before after old new
Answers asked tells before after old new (reply.Spent g) = GivesSpent asked g before after old new

-- a change is never refused for twins
abbrev pub IsNoTwins : CellFault → Type 0
IsNoTwins cell_fault.Failed = Unit {0}
IsNoTwins cell_fault.Cut = Unit {0}
IsNoTwins (cell_fault.Spent g) = Unit {0}
IsNoTwins (cell_fault.Twins g) = ⊥

-- what a fault of the disk is replied
abbrev pub fault_told : DiskFault → Reply
fault_told fault.Failed = reply.DiskFailed
fault_told fault.Cut = reply.PowerOff

-- what a fault of a cell is replied
abbrev pub cell_told : CellFault → Reply
cell_told cell_fault.Failed = reply.DiskFailed
cell_told cell_fault.Cut = reply.PowerOff
cell_told (cell_fault.Spent g) = reply.Spent g
cell_told (cell_fault.Twins g) = reply.DiskFailed

-- what a change is replied
abbrev pub change_told : Result (Unit {0}) CellFault → Reply
change_told (Ok u) = reply.Done
change_told (Err fault) = cell_told fault
