-- What the steps of a boot find, by the bytes that are read.
use Rattle.dataman_layout.specs.Layouts.{limit_in, most_pairs}
use Rattle.dataman_layout.specs.declared.layout.Layout.{Layout}
use Rattle.std.specs.Prelude.{◌≡◌, ℕ, ◌+◌, ◌≤◌, ◌<◌, Bool, false, List, Option, Some, None, length, slice_get, Result, Ok, Err, ◌==◌, if◌then◌else◌}
use Rattle.std.specs.List.{All}
use Rattle.mission_model.specs.declared.command.Jump.{Jump}
use Rattle.mission_model.specs.declared.counts.Counts.{Counts}
use Rattle.mission_model.specs.declared.counts.Mark.{Mark}
use Rattle.mission_model.specs.CountsList.{pairs_of}
use Rattle.mission_model.specs.Pairs.{used_of, with_pair}
use Rattle.mission_model.specs.declared.plan.Item.{Item}
use Rattle.mission_model.specs.declared.plan.PlanHead.{PlanHead}
use Rattle.mission_model.specs.declared.plan.PlanType.{PlanType}
use Rattle.mission_model.specs.declared.plan.PlanType.TheVariants.{Mission, Fence, Safe}
use Rattle.gated_cell.specs.declared.cell.GatedCell.{GatedCell}
use Rattle.gated_cell.specs.declared.place.CellPlace.{CellPlace}
use Rattle.gated_cell.specs.Cell.{Held, InForce, Empty, Fits, stored, held}
use Rattle.bank_state.specs.declared.parts.PlanBanks.{PlanBanks}
use Rattle.bank_state.specs.StandsFor.{state_cell, mark_cell}
use Rattle.bank_state.specs.Ledger.{plan_read}
use Rattle.dataman_layout.specs.Mark.{PlainMark, plain_marks, mark_in}
use Rattle.recovery.specs.Faults.{named_by, jump_in, plans_fault, mark_fault}
use Rattle.recovery.specs.Standing.{mark_at}
use Rattle.recovery.specs.declared.fault.BootFault.{BootFault}
use Rattle.recovery.specs.declared.cells.States.{States}
use Rattle.recovery.specs.declared.finding.Found.{Found}

-- the cell is as an image has it
abbrev pub IsOpened : GatedCell → List ℕ → Type 0
IsOpened cell image = Fits cell (stored cell image) image

-- what is in force in a cell that was opened is this payload, if anything is
abbrev pub IsHeld : Option Bool → ℕ → List ℕ → Held → Type 0
IsHeld None generation payload h = h ≡ Empty
IsHeld (Some second) generation payload h = h ≡ InForce second generation payload

-- a cell that was opened over an image, and the payload that this gave
pub record IsFound (cell : GatedCell) (place : CellPlace) (payload image : List ℕ) : Type 0 where
  pub opened : IsOpened cell image
  pub held : IsHeld cell.in_force cell.generation payload (held place image)

-- what is in force in a mark cell that was opened is the bytes that are read as this mark, if anything is
abbrev pub HoldsMarkIn : Layout → Option Bool → ℕ → Option PlainMark → Held → Type 0
HoldsMarkIn layout None generation mark h = h ≡ Empty
HoldsMarkIn layout (Some second) generation mark h = (payload : List ℕ) × (h ≡ InForce second generation payload) × (mark ≡ mark_in (most_pairs layout) payload)

-- a mark cell that was opened over an image, and the mark that its payload is read as
pub record IsMarkFound (layout : Layout) (cell : GatedCell) (mark : Option PlainMark) (image : List ℕ) : Type 0 where
  pub opened : IsOpened cell image
  pub held : HoldsMarkIn layout cell.in_force cell.generation mark (held (mark_cell layout) image)

-- banks of a type, whatever is read
pub record AreBanks (layout : Layout) (kind : PlanType) (banks : PlanBanks) : Type 0 where
  pub place : banks.cell.place ≡ state_cell layout kind
  pub calm : banks.cell.doubt ≡ false
  pub bank : banks.bank < 2
  pub count : banks.head.count ≤ limit_in layout kind

-- and as they are read
pub record BanksIn (layout : Layout) (kind : PlanType) (banks : PlanBanks) (image : List ℕ) : Type 0 where
  pub opened : IsOpened banks.cell image
  pub named : named_by layout kind (held (state_cell layout kind) image) ≡ Some (banks.bank, banks.head)

-- the banks of a type among those that the state cells name
abbrev pub banks_among : States → PlanType → PlanBanks
banks_among states Mission = states.mission
banks_among states Fence = states.fence
banks_among states Safe = states.safe

pub record AreStates (layout : Layout) (states : States) : Type 0 where
  pub mission : AreBanks layout Mission states.mission
  pub fence : AreBanks layout Fence states.fence
  pub safe : AreBanks layout Safe states.safe

pub record StatesIn (layout : Layout) (states : States) (image : List ℕ) : Type 0 where
  pub mission : BanksIn layout Mission states.mission image
  pub fence : BanksIn layout Fence states.fence image
  pub safe : BanksIn layout Safe states.safe image

-- how often a jump repeats
abbrev pub repeats_by : Option Jump → ℕ
repeats_by None = 0
repeats_by (Some jump) = jump.repeats

-- pairs with this number of repeats for the seq, if it is one
abbrev pub with_repeats : List (ℕ × ℕ) → ℕ → ℕ → List (ℕ × ℕ)
with_repeats pairs seq number = if number == 0 then pairs else with_pair pairs seq number

-- pairs with the repeats of the jump at a seq, if one is there
abbrev pub noted : List (ℕ × ℕ) → ℕ → Option Jump → List (ℕ × ℕ)
noted pairs seq None = pairs
noted pairs seq (Some jump) = with_repeats pairs seq jump.repeats

-- the counts are how often the jumps of these items repeat, by their seqs
abbrev pub HasJumps : List Item → Counts → Type 0
HasJumps items repeats = (seq : ℕ) → used_of (pairs_of repeats) seq ≡ repeats_by (jump_in (slice_get items seq))

-- over any disk: they are how often the jumps of some items repeat, as many as were read
abbrev pub HasJumpsOf : ℕ → Counts → Type 0
HasJumpsOf count repeats = (items : List Item) × (length items ≡ count) × HasJumps items repeats

-- the mark stands at an item of the plan of this head or at its end, and each of its pairs is of one of its items
pub record IsWithin (head : PlanHead) (mark : PlainMark) : Type 0 where
  pub id : mark.id ≡ head.id
  pub index : mark.index ≤ head.count
  pub pairs : All (λ (pair : ℕ × ℕ). pair.0 < head.count) mark.pairs

-- what was read of all cells and plans
pub record AllRead (version : Layout) (image : List ℕ) (states : States) (cell : GatedCell) (mark : Option Mark) : Type 0 where
  pub states_are : StatesIn version states image
  pub plans : plans_fault version image ≡ None
  pub opened : IsOpened cell image
  pub marked : mark_fault version (plan_read version Mission states.mission.bank states.mission.head image) (held (mark_cell version) image) ≡ None
  pub stored : plain_marks mark ≡ mark_at version states.mission.head.id (held (mark_cell version) image)

-- the reads that find what is behind the compat cell: two a cell, and one an item
abbrev pub reads_behind : Result Found BootFault → ℕ
reads_behind (Ok found) = 8 + (found.states.mission.head.count + (found.states.fence.head.count + found.states.safe.head.count))
reads_behind (Err fault) = 0
