-- What a boot finds wrong with an image of the store: the first fault in the order of its reads.
use Rattle.dataman_layout.specs.Layouts.{limit_in, most_pairs}
use Rattle.dataman_layout.specs.declared.layout.Layout.{Layout}
use Rattle.dataman_layout.specs.declared.layout.Layout.TheVariants.{One, Two}
use Rattle.std.specs.Prelude.{ℕ, zero, suc, ◌+◌, ◌-◌, ◌^◌, ◌==◌, ◌&&◌, ◌||◌, Bool, false, List, [], ◌∷◌, drop, get_or, length, nat_le, nat_lt, slice_get, Option, Some, None, if◌then◌else◌}
use Rattle.std.specs.List.{list_all}
use Rattle.mission_model.specs.declared.command.Jump.{Jump}
use Rattle.mission_model.specs.declared.message.AckCode.{AckCode}
use Rattle.mission_model.specs.declared.plan.Item.{Item}
use Rattle.mission_model.specs.declared.plan.PlanHead.{PlanHead}
use Rattle.mission_model.specs.declared.plan.PlanType.{PlanType}
use Rattle.mission_model.specs.declared.plan.PlanType.TheVariants.{Mission, Fence, Safe}
use Rattle.mission_model.specs.Command.{jump_of}
use Rattle.mission_model.specs.PlainMark.{PlainMark}
use Rattle.mission_model.specs.PlanCode.{PlanCode}
use Rattle.gated_cell.specs.Cell.{Held, Empty, Twins, InForce, held}
use Rattle.dataman_layout.specs.Fields.{number_at, is_zeros}
use Rattle.dataman_layout.specs.Places.{type_rank}
use Rattle.dataman_layout.specs.State.{state_in}
use Rattle.dataman_layout.specs.Mark.{mark_in}
use Rattle.plan_store.specs.StoreState.{StoredPlan}
use Rattle.bank_state.specs.StandsFor.{compat_place, state_cell, mark_cell, record_of}
use Rattle.bank_state.specs.Ledger.{item_of, items_read, plan_read}
use Rattle.bank_state.specs.Outcomes.{item_by}
use Rattle.recovery.specs.declared.fault.BootFault.{BootFault}
use Rattle.recovery.specs.declared.fault.BootFault.TheVariants.{NotAStore, UnknownVersion, BadCell, BadItem}

-- this fault, or else the other
abbrev pub or_else : Option BootFault → Option BootFault → Option BootFault
or_else (Some fault) other = Some fault
or_else None other = other

-- the first of these faults, if there is one
abbrev pub first_of : List (Option BootFault) → Option BootFault
first_of [] = None
first_of (fault ∷ faults) = or_else fault (first_of faults)

-- the numbers of the cells: the compat cell, the states in order of their types, the mark
abbrev pub compat_number : ℕ
compat_number = 0

abbrev pub state_number : PlanType → ℕ
state_number kind = 1 + type_rank kind

abbrev pub mark_number : ℕ
mark_number = 4

-- both gates of this cell are open with one generation
abbrev pub twins_fault : ℕ → Held → Option BootFault
twins_fault number Empty = None
twins_fault number (Twins generation) = Some (BadCell number)
twins_fault number (InForce second generation payload) = None

-- the layout that a version tells: 1 the first, 2 the second
abbrev pub layout_by : ℕ → Layout
layout_by number = if number == 1 then One else Two

-- the layout that the compat cell tells
abbrev pub layout_in : Held → Layout
layout_in Empty = Two
layout_in (Twins generation) = Two
layout_in (InForce second generation payload) = layout_by (number_at 0 4 payload)

-- a version of no layout
abbrev pub unknown : ℕ → Option BootFault
unknown number = if number == 1 then None else (if number == 2 then None else Some (UnknownVersion number))

-- other bytes behind the version than zeros
abbrev pub unclean : List ℕ → Option BootFault
unclean payload = if is_zeros (drop 4 payload) then None else Some (BadCell compat_number)

-- a store of layout 1 whose compat cell has the last generation, so that it cannot be migrated
abbrev pub unmovable : Layout → ℕ → Option BootFault
unmovable One generation = if nat_lt generation (2 ^ 64 - 1) then None else Some (BadCell compat_number)
unmovable Two generation = None

-- the fault of the payload in force in the compat cell, behind this generation
abbrev pub version_fault : ℕ → List ℕ → Option BootFault
version_fault generation payload = first_of (unknown (number_at 0 4 payload) ∷ unclean payload ∷ unmovable (layout_by (number_at 0 4 payload)) generation ∷ [])

-- the fault of the compat cell, and of the first byte of the store, where none of its gates is open
abbrev pub compat_fault : ℕ → Held → Option BootFault
compat_fault byte Empty = Some (NotAStore byte)
compat_fault byte (Twins generation) = Some (BadCell compat_number)
compat_fault byte (InForce second generation payload) = version_fault generation payload

-- the bank and the plan that a state cell names: none with twins, without an open gate, and by other bytes than a state's
abbrev pub named_by : Layout → PlanType → Held → Option (ℕ × PlanHead)
named_by layout kind Empty = None
named_by layout kind (Twins generation) = None
named_by layout kind (InForce second generation payload) = state_in (limit_in layout kind) payload

abbrev pub unnamed : ℕ → Option (ℕ × PlanHead) → Option BootFault
unnamed number None = Some (BadCell number)
unnamed number (Some named) = None

-- the fault of a state cell
abbrev pub state_fault : Layout → PlanType → Held → Option BootFault
state_fault layout kind cell = unnamed (state_number kind) (named_by layout kind cell)

-- a place that has no record of its type, id and seq
abbrev pub missing : PlanType → ℕ → Option Item → Option BootFault
missing kind seq None = Some (BadItem kind seq)
missing kind seq (Some item) = None

-- an item that the check of plans refuses
abbrev pub refused : PlanType → ℕ → Option AckCode → Option BootFault
refused kind seq None = None
refused kind seq (Some code) = Some (BadItem kind seq)

-- the fault of an item of a plan in a bank: its record is missing, or it has a code after the items before it
abbrev pub item_fault : Layout → PlanType → ℕ → PlanHead → ℕ → List ℕ → Option BootFault
item_fault layout kind bank head seq image =
    or_else (missing kind seq (item_by kind head.id seq (record_of layout kind bank seq image)))
    (refused kind seq (PlanCode kind head.count (items_read layout kind bank seq image) (item_of (record_of layout kind bank seq image))))

-- the first fault of the first n items of a plan
abbrev pub items_fault : Layout → PlanType → ℕ → PlanHead → ℕ → List ℕ → Option BootFault
items_fault layout kind bank head zero image = None
items_fault layout kind bank head (suc n) image = or_else (items_fault layout kind bank head n image) (item_fault layout kind bank head n image)

abbrev pub named_fault : Layout → PlanType → List ℕ → Option (ℕ × PlanHead) → Option BootFault
named_fault layout kind image None = None
named_fault layout kind image (Some named) = items_fault layout kind named.0 named.1 named.1.count image

-- the first fault of the items of the plan in force
abbrev pub plan_fault : Layout → PlanType → List ℕ → Option BootFault
plan_fault layout kind image = named_fault layout kind image (named_by layout kind (held (state_cell layout kind) image))

-- the jump allows so many uses
abbrev pub allows : Option Jump → ℕ → Bool
allows None used = false
allows (Some jump) used = nat_le used jump.repeats

-- the jump at a place of a plan, if one is there
abbrev pub jump_in : Option Item → Option Jump
jump_in None = None
jump_in (Some item) = jump_of item

-- the pair counts a jump of the plan, which repeats at least as often as it was used
abbrev pub counts_jump : List Item → ℕ × ℕ → Bool
counts_jump items pair = allows (jump_in (slice_get items pair.0)) pair.1

-- the mark stands at an item of its mission or at its end, and each of its pairs counts a jump
abbrev pub fits : PlainMark → StoredPlan → Bool
fits mark mission = mark.id == mission.id && (nat_le mark.index (length mission.items) && list_all (counts_jump mission.items) mark.pairs)

-- other bytes than a mark's, or the mark of a mission to come, or one of this mission that does not fit
abbrev pub unfit : StoredPlan → Option PlainMark → Option BootFault
unfit mission None = Some (BadCell mark_number)
unfit mission (Some mark) = if nat_lt mark.id mission.id || fits mark mission then None else Some (BadCell mark_number)

-- the fault of the mark cell
abbrev pub mark_fault : Layout → StoredPlan → Held → Option BootFault
mark_fault layout mission Empty = None
mark_fault layout mission (Twins generation) = Some (BadCell mark_number)
mark_fault layout mission (InForce second generation payload) = unfit mission (mark_in (most_pairs layout) payload)

abbrev pub named_plan : Layout → PlanType → List ℕ → Option (ℕ × PlanHead) → StoredPlan
named_plan layout kind image None = record { id = 0; items = [] }
named_plan layout kind image (Some named) = plan_read layout kind named.0 named.1 image

-- the plan in force
abbrev pub plan_at : Layout → PlanType → List ℕ → StoredPlan
plan_at layout kind image = named_plan layout kind image (named_by layout kind (held (state_cell layout kind) image))

-- the first fault of the state cells, in order of their types
abbrev pub states_fault : Layout → List ℕ → Option BootFault
states_fault layout image =
    first_of (state_fault layout Mission (held (state_cell layout Mission) image) ∷ state_fault layout Fence (held (state_cell layout Fence) image) ∷ state_fault layout Safe (held (state_cell layout Safe) image) ∷ [])

-- the first fault of the items in force, in order of their types and seqs
abbrev pub plans_fault : Layout → List ℕ → Option BootFault
plans_fault layout image = first_of (plan_fault layout Mission image ∷ plan_fault layout Fence image ∷ plan_fault layout Safe image ∷ [])

-- the first fault behind the compat cell: of the state cells, of the items in force, of the mark cell
abbrev pub fault_behind : Layout → List ℕ → Option BootFault
fault_behind layout image = first_of (states_fault layout image ∷ plans_fault layout image ∷ mark_fault layout (plan_at layout Mission image) (held (mark_cell layout) image) ∷ [])

-- The first fault of an image: of the compat cell, and behind it by the layout that this tells.
abbrev pub fault_in : List ℕ → Option BootFault
fault_in image = or_else (compat_fault (get_or image 0 0) (held compat_place image)) (fault_behind (layout_in (held compat_place image)) image)
