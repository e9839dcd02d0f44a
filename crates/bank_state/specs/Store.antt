-- What is known of the store between two calls: what the cells hold, and what stands in the banks.
use Rattle.dataman_layout.specs.Layouts.{most_pairs}
use Rattle.dataman_layout.specs.declared.layout.Layout.TheVariants.{Two}
use Rattle.std.specs.Prelude.{◌≡◌, ◌⊎◌, ℕ, ◌-◌, ◌<◌, ◌≤◌, ◌==◌, ◌&&◌, Bool, true, false, IsTrue, List, Option, Some, None}
use Rattle.mission_model.specs.declared.limits.TheConstants.{STORE_BYTES}
use Rattle.mission_model.specs.declared.plan.PlanType.{PlanType}
use Rattle.mission_model.specs.declared.plan.PlanType.TheVariants.{Mission}
use Rattle.mission_model.specs.declared.plan.PlanHead.{PlanHead}
use Rattle.mission_model.specs.Command.{is_kind}
use Rattle.mission_model.specs.PlanCode.{PlanValid, limit_of}
use Rattle.disk_model.specs.Disk.{DiskState}
use Rattle.disk_model.specs.Every.{Every}
use Rattle.gated_cell.specs.declared.cell.GatedCell.{GatedCell}
use Rattle.gated_cell.specs.Cell.{Held, Empty, Twins, InForce, held, Known, Doubtful, in_force, next_of}
use Rattle.dataman_layout.specs.Mark.{PlainMark, MarkRecord, plain_mark, plain_marks}
use Rattle.bank_state.specs.declared.parts.PlanBanks.{PlanBanks}
use Rattle.bank_state.specs.declared.parts.Parts.{Parts}
use Rattle.bank_state.specs.declared.parts.Doubt.{Doubt}
use Rattle.bank_state.specs.declared.parts.Doubt.TheVariants as doubt
use Rattle.plan_store.specs.StoreState.{StoredPlan, Change}
use Rattle.plan_store.specs.CanServe.{MarkFits}
use Rattle.bank_state.specs.Plans.{Holding, changed}
use Rattle.bank_state.specs.StandsFor.{compat_place, state_place, mark_place, IsThisLayout, Names, HasItems, HasMark, IsOf, record_in}
use Rattle.bank_state.specs.Ledger.{banks_of, Ledger, ledger_of, items_in, plan_in, plan_by, holding_in, change_in}

-- whether the plan of a type is in doubt, or the mark
abbrev pub doubts_plan : Option Doubt → PlanType → Bool
doubts_plan None kind = false
doubts_plan (Some (doubt.Plan other head)) kind = is_kind other kind
doubts_plan (Some (doubt.Mark mark)) kind = false

abbrev pub doubts_mark : Option Doubt → Bool
doubts_mark None = false
doubts_mark (Some (doubt.Plan kind head)) = false
doubts_mark (Some (doubt.Mark mark)) = true

-- what is known of a cell that is in doubt or not
abbrev pub KnownBy : Bool → GatedCell → DiskState → Type 0
KnownBy false cell disk = Known cell disk
KnownBy true cell disk = Doubtful cell disk

-- The banks of a type: their cell names the bank in force and its plan; each image has the plan's items there.
pub record BanksStand (kind : PlanType) (doubted : Bool) (banks : PlanBanks) (disk : DiskState) : Type 0 where
  pub place : banks.cell.place ≡ state_place kind
  pub bank : banks.bank < 2
  pub count : banks.head.count ≤ limit_of kind
  pub flag : banks.cell.doubt ≡ doubted
  pub known : KnownBy doubted banks.cell disk
  pub named : IsTrue disk.tells → Names kind banks.bank banks.head (in_force banks.cell disk)
  pub items : Every (HasItems kind banks.bank (plan_in kind banks.bank banks.head disk.seen)) disk
  pub valid : IsTrue disk.tells → PlanValid kind (items_in kind banks.bank banks.head.count disk.seen)

-- the mark's cell has this mark of the mission, or none of it
pub record MarkStands (mission : StoredPlan) (doubted : Bool) (cell : GatedCell) (mark : Option PlainMark) (disk : DiskState) : Type 0 where
  pub place : cell.place ≡ mark_place
  pub flag : cell.doubt ≡ doubted
  pub known : KnownBy doubted cell disk
  pub has : IsTrue disk.tells → HasMark mission mark (in_force cell disk)

-- a plan in doubt: its state stands behind the gate, and its items in the spare bank of each image
pub record PlanInDoubt (kind : PlanType) (banks : PlanBanks) (head : PlanHead) (disk : DiskState) : Type 0 where
  pub newer : banks.head.id < head.id
  pub within : head.count ≤ limit_of kind
  pub named : IsTrue disk.tells → Names kind (1 - banks.bank) head (next_of banks.cell disk)
  pub items : Every (HasItems kind (1 - banks.bank) (plan_in kind (1 - banks.bank) head disk.seen)) disk
  pub valid : IsTrue disk.tells → PlanValid kind (items_in kind (1 - banks.bank) head.count disk.seen)

-- a mark in doubt stands behind the gate
abbrev pub HoldsMark : PlainMark → Held → Type 0
HoldsMark mark (InForce second generation payload) = MarkRecord (most_pairs Two) payload mark
HoldsMark mark (Twins generation) = ⊥
HoldsMark mark Empty = ⊥

pub record MarkInDoubt (mission : StoredPlan) (cell : GatedCell) (mark : PlainMark) (disk : DiskState) : Type 0 where
  pub held : IsTrue disk.tells → HoldsMark mark (next_of cell disk)
  pub fits : IsTrue disk.tells → MarkFits mark mission

abbrev pub InDoubt : Parts → Option Doubt → DiskState → Type 0
InDoubt parts None disk = Unit {0}
InDoubt parts (Some (doubt.Plan kind head)) disk = PlanInDoubt kind (banks_of parts kind) head disk
InDoubt parts (Some (doubt.Mark mark)) disk = MarkInDoubt (plan_by (ledger_of parts) Mission disk.seen) parts.mark_cell (plain_mark mark) disk

-- The store between two calls: the layout's version, the banks of each type, the mark, and what is in doubt.
pub record IsStore (parts : Parts) (disk : DiskState) : Type 0 where
  pub room : STORE_BYTES ≤ disk.meter.size
  pub layout : Every (λ c. IsThisLayout (held compat_place c)) disk
  pub each : (kind : PlanType) → BanksStand kind (doubts_plan parts.doubt kind) (banks_of parts kind) disk
  pub mark : MarkStands (plan_by (ledger_of parts) Mission disk.seen) (doubts_mark parts.doubt) parts.mark_cell (plain_marks parts.mark) disk
  pub in_doubt : InDoubt parts parts.doubt disk

-- an image of the store stands for what is held, or for that with the change in doubt
abbrev pub MayBe : Holding → Option Change → List ℕ → Type 0
MayBe holding None image = IsOf holding image
MayBe holding (Some change) image = IsOf holding image ⊎ IsOf (changed holding change) image

-- the change in doubt, by what a read gives
abbrev pub doubt_in : Ledger → Option Doubt → List ℕ → Option Change
doubt_in ledger None image = None
doubt_in ledger (Some change) image = Some (change_in ledger change image)

-- each image of now stands for what is held, or for that with the change in doubt
abbrev pub StandsNow : Ledger → DiskState → List ℕ → Type 0
StandsNow ledger disk image = MayBe (holding_in ledger disk.seen) (doubt_in ledger ledger.doubt disk.seen) image

-- each record of each bank is read as before
abbrev pub SameRecords : DiskState → DiskState → Type 0
SameRecords old new = (kind : PlanType) (bank seq : ℕ) → seq < limit_of kind → record_in kind bank seq new.seen ≡ record_in kind bank seq old.seen

-- each record of each bank but this one is read as before
abbrev pub OtherRecords : PlanType → ℕ → ℕ → DiskState → DiskState → Type 0
OtherRecords kind bank seq old new = (other : PlanType) (side place : ℕ) → side < 2 → place < limit_of other → ((is_kind other kind && side == bank && place == seq) ≡ false)
    → record_in other side place new.seen ≡ record_in other side place old.seen
