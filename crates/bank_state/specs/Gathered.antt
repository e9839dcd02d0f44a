-- The banks of a disk that was read.
use Rattle.std.specs.Prelude.{◌≡◌, ℕ, ◌≤◌, ◌<◌, false, IsTrue, List, Option, None, get_or, slice_index_or}
use Rattle.mission_model.specs.declared.limits.TheConstants.{STORE_BYTES}
use Rattle.mission_model.specs.declared.plan.PlanType.{PlanType}
use Rattle.mission_model.specs.declared.plan.PlanType.TheVariants.{Mission}
use Rattle.mission_model.specs.declared.plan.PlanHead.{PlanHead}
use Rattle.mission_model.specs.declared.counts.Mark.{Mark}
use Rattle.mission_model.specs.PlanCode.{PlanValid, limit_of}
use Rattle.disk_model.specs.Disk.{DiskState, Only}
use Rattle.gated_cell.specs.declared.cell.GatedCell.{GatedCell}
use Rattle.gated_cell.specs.Cell.{held, Known}
use Rattle.dataman_layout.specs.Mark.{PlainMark, plain_marks}
use Rattle.plan_store.specs.StoreState.{StoredPlan}
use Rattle.bank_state.specs.declared.parts.PlanBanks.{PlanBanks}
use Rattle.bank_state.specs.declared.parts.Parts.{Parts}
use Rattle.bank_state.specs.StandsFor.{compat_place, state_place, mark_place, IsThisLayout, Names, HasItems, HasMark}
use Rattle.bank_state.specs.Ledger.{banks_of, ledger_of, items_in, plan_in, plan_by}

abbrev no_cell : GatedCell
no_cell = record { place = record { at = 0; slot_bytes = 0 }; in_force = None; generation = 0; spare_closed = false; doubt = false }

abbrev no_head : PlanHead
no_head = record { id = 0; count = 0 }

-- the parts of the mission, the fence and the safe points, and of the mark
abbrev pub gathered : List GatedCell → List ℕ → List PlanHead → Option Mark → Parts
gathered cells banks heads mark = record {
  mission = record { cell = slice_index_or cells 0 no_cell; bank = get_or banks 0 0; head = slice_index_or heads 0 no_head };
  fence = record { cell = slice_index_or cells 1 no_cell; bank = get_or banks 1 0; head = slice_index_or heads 1 no_head };
  safe = record { cell = slice_index_or cells 2 no_cell; bank = get_or banks 2 0; head = slice_index_or heads 2 no_head };
  mark_cell = slice_index_or cells 3 no_cell;
  mark = mark;
  doubt = None;
}

-- the banks of a type, as a disk that is not in doubt is read: their cell was opened at its place, and names this bank and this
-- plan, which is valid and stands there
pub record BanksRead (kind : PlanType) (banks : PlanBanks) (disk : DiskState) : Type 0 where
  pub place : banks.cell.place ≡ state_place kind
  pub bank : banks.bank < 2
  pub count : banks.head.count ≤ limit_of kind
  pub calm : banks.cell.doubt ≡ false
  pub known : Known banks.cell disk
  pub named : IsTrue disk.tells → Names kind banks.bank banks.head (held (state_place kind) disk.seen)
  pub items : IsTrue disk.tells → HasItems kind banks.bank (plan_in kind banks.bank banks.head disk.seen) disk.seen
  pub valid : IsTrue disk.tells → PlanValid kind (items_in kind banks.bank banks.head.count disk.seen)

-- the same of the mark's cell, which has this mark of the mission, or none of it
pub record MarkRead (mission : StoredPlan) (cell : GatedCell) (mark : Option PlainMark) (disk : DiskState) : Type 0 where
  pub place : cell.place ≡ mark_place
  pub calm : cell.doubt ≡ false
  pub known : Known cell disk
  pub has : IsTrue disk.tells → HasMark mission mark (held mark_place disk.seen)

-- the cells were opened, what a read gives is the only image, and it holds these parts
pub record IsReady (parts : Parts) (disk : DiskState) : Type 0 where
  pub room : STORE_BYTES ≤ disk.meter.size
  pub only : Only disk.seen disk.images
  pub layout : IsTrue disk.tells → IsThisLayout (held compat_place disk.seen)
  pub each : (kind : PlanType) → BanksRead kind (banks_of parts kind) disk
  pub mark : MarkRead (plan_by (ledger_of parts) Mission disk.seen) parts.mark_cell (plain_marks parts.mark) disk
