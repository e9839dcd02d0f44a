-- What an image of the store stands for, in either layout.
use Rattle.std.specs.Prelude.{◌≡◌, ℕ, ◌-◌, ◌^◌, ◌<◌, List, Option, Some, None, slice_get, unwrap_or}
use Rattle.mission_model.specs.declared.plan.PlanType.{PlanType}
use Rattle.mission_model.specs.declared.plan.PlanHead.{PlanHead}
use Rattle.mission_model.specs.declared.plan.Item.{Item}
use Rattle.mission_model.specs.PlanCode.{PlanValid}
use Rattle.disk_model.specs.Bytes.{field}
use Rattle.gated_cell.specs.declared.place.CellPlace.{CellPlace}
use Rattle.gated_cell.specs.Cell.{Held, Empty, Twins, InForce, held}
use Rattle.dataman_layout.specs.declared.item.Record.{Record}
use Rattle.dataman_layout.specs.declared.layout.Layout.{Layout}
use Rattle.dataman_layout.specs.declared.layout.Layout.TheVariants.{One, Two}
use Rattle.dataman_layout.specs.declared.places.TheConstants.{SMALL_SLOT_BYTES, COMPAT_AT}
use Rattle.dataman_layout.specs.Layouts.{limit_in, most_pairs}
use Rattle.dataman_layout.specs.Compat.{CompatRecord}
use Rattle.dataman_layout.specs.Item.{item_in}
use Rattle.dataman_layout.specs.State.{StateRecord}
use Rattle.dataman_layout.specs.Mark.{PlainMark, MarkRecord}
use Rattle.dataman_layout.specs.Places.{state_at, mark_at, mark_slot, record_at}
use Rattle.plan_store.specs.StoreState.{StoredPlan, first_mark}
use Rattle.plan_store.specs.CanServe.{MarkFits}
use Rattle.bank_state.specs.Plans.{Plans, plan_among, head_of, Holding}

-- where the cells stand
abbrev pub compat_place : CellPlace
compat_place = record { at = COMPAT_AT; slot_bytes = SMALL_SLOT_BYTES }

abbrev pub state_cell : Layout → PlanType → CellPlace
state_cell layout kind = record { at = state_at layout kind; slot_bytes = SMALL_SLOT_BYTES }

abbrev pub mark_cell : Layout → CellPlace
mark_cell layout = record { at = mark_at layout; slot_bytes = mark_slot layout }

-- the compat cell tells this layout by its version; a store of layout 1 can be migrated, so one more change of the cell is left
abbrev pub IsLayout : Layout → Held → Type 0
IsLayout One (InForce second generation payload) = CompatRecord payload 1 × (generation < 2 ^ 64 - 1)
IsLayout Two (InForce second generation payload) = CompatRecord payload 2
IsLayout layout (Twins generation) = ⊥
IsLayout layout Empty = ⊥

-- a state cell names this bank and the plan in it
abbrev pub NamesIn : Layout → PlanType → ℕ → PlanHead → Held → Type 0
NamesIn layout kind bank head (InForce second generation payload) = StateRecord (limit_in layout kind) payload bank head
NamesIn layout kind bank head (Twins generation) = ⊥
NamesIn layout kind bank head Empty = ⊥

-- the record at a place of a bank, if one is there
abbrev pub record_of : Layout → PlanType → ℕ → ℕ → List ℕ → Option Record
record_of layout kind bank seq image = item_in (field (record_at layout kind bank seq) 48 image)

-- each item of the plan stands as the record of its type, id and seq at its place in the bank
abbrev pub HasItemsIn : Layout → PlanType → ℕ → StoredPlan → List ℕ → Type 0
HasItemsIn layout kind bank plan image = (seq : ℕ) (item : Item) → slice_get plan.items seq ≡ Some item
    → record_of layout kind bank seq image ≡ Some (record { kind = kind; id = plan.id; seq = seq; item = item })

-- the state cell names a bank that has this plan, and the plan is valid
pub record HasPlanIn (layout : Layout) (kind : PlanType) (plan : StoredPlan) (image : List ℕ) : Type 0 where
  pub bank : ℕ
  pub named : NamesIn layout kind bank (head_of plan) (held (state_cell layout kind) image)
  pub items : HasItemsIn layout kind bank plan image
  pub valid : PlanValid kind plan.items

-- a stored mark is the mission's, and then it fits, or that of a mission before, and then it is as good as none
abbrev pub IsMarkOf : StoredPlan → Option PlainMark → PlainMark → Type 0
IsMarkOf mission (Some mark) stored = (stored ≡ mark) × MarkFits mark mission
IsMarkOf mission None stored = stored.id < mission.id

-- the mark cell has this mark of the mission, or none of it
abbrev pub HasMarkIn : Layout → StoredPlan → Option PlainMark → Held → Type 0
HasMarkIn layout mission mark (InForce second generation payload) = (stored : PlainMark) × MarkRecord (most_pairs layout) payload stored × IsMarkOf mission mark stored
HasMarkIn layout mission mark (Twins generation) = ⊥
HasMarkIn layout mission mark Empty = mark ≡ None

-- The image stands for these plans and this mark in this layout: the mission's mark where one is stored, and else its begin.
pub record StandsIn (version : Layout) (image : List ℕ) (plans : Plans) (mark : PlainMark) : Type 0 where
  pub layout : IsLayout version (held compat_place image)
  pub each : (kind : PlanType) → HasPlanIn version kind (plan_among plans kind) image
  pub stored : Option PlainMark
  pub has : HasMarkIn version plans.mission stored (held (mark_cell version) image)
  pub is : mark ≡ unwrap_or stored (first_mark plans.mission.id)

-- The image stands for them in one layout or the other.
abbrev pub StandsFor : List ℕ → Plans → PlainMark → Type 0
StandsFor image plans mark = (layout : Layout) × StandsIn layout image plans mark

-- the image stands for what is held
abbrev pub IsOf : Holding → List ℕ → Type 0
IsOf holding image = StandsFor image holding.plans holding.mark

-- Of layout 2, in which banks serve.
abbrev pub state_place : PlanType → CellPlace
state_place kind = state_cell Two kind

abbrev pub mark_place : CellPlace
mark_place = mark_cell Two

abbrev pub IsThisLayout : Held → Type 0
IsThisLayout h = IsLayout Two h

abbrev pub Names : PlanType → ℕ → PlanHead → Held → Type 0
Names kind bank head h = NamesIn Two kind bank head h

abbrev pub record_in : PlanType → ℕ → ℕ → List ℕ → Option Record
record_in kind bank seq image = record_of Two kind bank seq image

abbrev pub HasItems : PlanType → ℕ → StoredPlan → List ℕ → Type 0
HasItems kind bank plan image = HasItemsIn Two kind bank plan image

abbrev pub HasMark : StoredPlan → Option PlainMark → Held → Type 0
HasMark mission mark h = HasMarkIn Two mission mark h
