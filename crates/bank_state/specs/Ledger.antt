-- What banks keep beside their disk, and what of it a caller sees.
use Rattle.std.specs.Prelude.{ℕ, pos, zero, suc, ◌+◌, ◌-◌, false, List, [], ◌∷◌, ◌++◌, Option, Some, None, if◌then◌else◌, unwrap_or}
use Rattle.mission_model.specs.declared.plan.PlanType.{PlanType}
use Rattle.mission_model.specs.declared.plan.PlanType.TheVariants.{Mission, Fence, Safe}
use Rattle.mission_model.specs.declared.plan.PlanHead.{PlanHead}
use Rattle.mission_model.specs.declared.plan.Param.TheVariants.{Unset}
use Rattle.mission_model.specs.declared.plan.Item.{Item}
use Rattle.mission_model.specs.declared.counts.Mark.{Mark}
use Rattle.mission_model.specs.Command.{is_kind}
use Rattle.gated_cell.specs.declared.cell.GatedCell.{GatedCell}
use Rattle.dataman_layout.specs.declared.item.Record.{Record}
use Rattle.dataman_layout.specs.declared.layout.Layout.{Layout}
use Rattle.dataman_layout.specs.declared.layout.Layout.TheVariants.{Two}
use Rattle.dataman_layout.specs.Mark.{PlainMark, plain_mark, plain_marks}
use Rattle.bank_state.specs.declared.parts.PlanBanks.{PlanBanks}
use Rattle.bank_state.specs.declared.parts.Parts.{Parts}
use Rattle.bank_state.specs.declared.parts.Doubt.{Doubt}
use Rattle.bank_state.specs.declared.parts.Doubt.TheVariants as doubt
use Rattle.plan_store.specs.StoreState.{StoredPlan, Change, Commit, SetMark, first_mark}
use Rattle.bank_state.specs.Plans.{Holding}
use Rattle.bank_state.specs.StandsFor.{record_of}

-- the banks of a plan type
abbrev pub banks_of : Parts → PlanType → PlanBanks
banks_of parts Mission = parts.mission
banks_of parts Fence = parts.fence
banks_of parts Safe = parts.safe

-- the parts with other banks of this type
abbrev pub with_banks : Parts → PlanType → PlanBanks → Parts
with_banks parts kind banks = record parts {
  mission = if is_kind kind Mission then banks else parts.mission;
  fence = if is_kind kind Fence then banks else parts.fence;
  safe = if is_kind kind Safe then banks else parts.safe;
}

-- the cell of a change
abbrev pub cell_of : Parts → Doubt → GatedCell
cell_of parts (doubt.Plan kind head) = (banks_of parts kind).cell
cell_of parts (doubt.Mark mark) = parts.mark_cell

abbrev pub with_cell : Parts → Doubt → GatedCell → Parts
with_cell parts (doubt.Plan kind head) cell = with_banks parts kind (record (banks_of parts kind) { cell = cell })
with_cell parts (doubt.Mark mark) cell = record parts { mark_cell = cell }

-- the stored mark of the mission once a plan was replaced
abbrev pub kept_mark : PlanType → Option Mark → Option Mark
kept_mark Mission mark = None
kept_mark Fence mark = mark
kept_mark Safe mark = mark

-- the plan of the spare bank is in force, with its cell so
abbrev pub after_plan : Parts → PlanType → GatedCell → PlanHead → Parts
after_plan parts kind cell head = record (with_banks parts kind (record { cell = cell; bank = 1 - (banks_of parts kind).bank; head = head })) { mark = kept_mark kind parts.mark }

-- the mark is stored, with its cell so
abbrev pub after_mark : Parts → GatedCell → Mark → Parts
after_mark parts cell mark = record parts { mark_cell = cell; mark = Some mark }

-- the change was refused, with its cell so
abbrev pub after_refusal : Parts → Doubt → GatedCell → Parts
after_refusal parts change cell = record (with_cell parts change cell) { doubt = if cell.doubt then Some change else parts.doubt }

-- the change in doubt was settled, with its cell so
abbrev pub after_settling : Parts → Doubt → GatedCell → Parts
after_settling parts change cell = record (with_cell parts change cell) { doubt = None }

-- of a plan type: the bank in force, the plan in it, and how often one was put in force
pub record Entry : Type 0 where
  pub bank : ℕ
  pub head : PlanHead
  pub generation : ℕ

-- what banks say, whatever their disk tells
pub record Ledger : Type 0 where
  pub entries : PlanType → Entry
  pub mark : Option Mark  -- the stored mark of the mission, if one is stored
  pub mark_generation : ℕ
  pub doubt : Option Doubt  -- the change that a restart may find done

abbrev pub entry_in : PlanBanks → Entry
entry_in banks = record { bank = banks.bank; head = banks.head; generation = banks.cell.generation }

abbrev pub ledger_of : Parts → Ledger
ledger_of parts = record { entries = λ kind. entry_in (banks_of parts kind); mark = parts.mark; mark_generation = parts.mark_cell.generation; doubt = parts.doubt }

-- the entries with another of this type
abbrev pub with_entry : (PlanType → Entry) → PlanType → Entry → PlanType → Entry
with_entry entries kind entry other = if is_kind kind other then entry else entries other

-- a plan type's entry once the plan of the spare bank is in force
abbrev pub next_entry : Entry → PlanHead → Entry
next_entry entry head = record { bank = 1 - entry.bank; head = head; generation = entry.generation + 1 }

-- what they say once a change is done
abbrev pub done : Doubt → Ledger → Ledger
done (doubt.Plan kind head) ledger = record ledger { entries = with_entry ledger.entries kind (next_entry (ledger.entries kind) head); mark = kept_mark kind ledger.mark }
done (doubt.Mark mark) ledger = record ledger { mark = Some mark; mark_generation = ledger.mark_generation + 1 }

-- the item of a record, and some item where there is none
abbrev pub item_of : Option Record → Item
item_of (Some r) = r.item
item_of None = record { frame = 0; command = 0; p1 = Unset; p2 = Unset; p3 = Unset; p4 = Unset; x = pos 0; y = pos 0; z = pos 0; auto = false }

-- the first n items in a bank of a layout, as they are read
abbrev pub items_read : Layout → PlanType → ℕ → ℕ → List ℕ → List Item
items_read layout kind bank zero image = []
items_read layout kind bank (suc n) image = items_read layout kind bank n image ++ item_of (record_of layout kind bank n image) ∷ []

-- the plan of this head in a bank
abbrev pub plan_read : Layout → PlanType → ℕ → PlanHead → List ℕ → StoredPlan
plan_read layout kind bank head image = record { id = head.id; items = items_read layout kind bank head.count image }

-- the same in layout 2
abbrev pub items_in : PlanType → ℕ → ℕ → List ℕ → List Item
items_in kind bank n image = items_read Two kind bank n image

abbrev pub plan_in : PlanType → ℕ → PlanHead → List ℕ → StoredPlan
plan_in kind bank head image = plan_read Two kind bank head image

abbrev pub plan_by : Ledger → PlanType → List ℕ → StoredPlan
plan_by ledger kind image = plan_in kind (ledger.entries kind).bank (ledger.entries kind).head image

-- the plan of this head in the spare bank
abbrev pub draft_by : Ledger → PlanType → PlanHead → List ℕ → StoredPlan
draft_by ledger kind head image = plan_in kind (1 - (ledger.entries kind).bank) head image

-- the mark in force
abbrev pub mark_by : Ledger → PlainMark
mark_by ledger = unwrap_or (plain_marks ledger.mark) (first_mark (ledger.entries Mission).head.id)

-- what an image holds by what banks say
abbrev pub holding_in : Ledger → List ℕ → Holding
holding_in ledger image = record {
  plans = record { mission = plan_by ledger Mission image; fence = plan_by ledger Fence image; safe = plan_by ledger Safe image };
  mark = mark_by ledger;
}

-- a change of it, whose plan stands in the spare bank of its type
abbrev pub change_in : Ledger → Doubt → List ℕ → Change
change_in ledger (doubt.Plan kind head) image = Commit kind (draft_by ledger kind head image)
change_in ledger (doubt.Mark mark) image = SetMark (plain_mark mark)
