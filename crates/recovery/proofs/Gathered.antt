-- What a boot found, put together.
use Rattle.std.specs.Prelude.{◌≡◌, ◌≤◌, ℕ, false, IsTrue, List, [], ◌∷◌, Option, Some, None}
use Rattle.std.proofs.Common.{refl, sym, ap, subst, ◌∙◌}
use Rattle.mission_model.specs.declared.limits.TheConstants.{STORE_BYTES}
use Rattle.mission_model.specs.declared.counts.Mark.{Mark}
use Rattle.mission_model.specs.declared.plan.PlanType.{PlanType}
use Rattle.mission_model.specs.declared.plan.PlanType.TheVariants.{Mission, Fence, Safe}
use Rattle.mission_model.specs.PlainMark.{PlainMark}
use Rattle.disk_model.specs.Disk.{DiskState, IsSound, Only}
use Rattle.gated_cell.specs.declared.cell.GatedCell.{GatedCell}
use Rattle.gated_cell.specs.Cell.{held, Fits, stored, Known}
use Rattle.dataman_layout.specs.declared.layout.Layout.{Layout}
use Rattle.dataman_layout.specs.declared.layout.Layout.TheVariants.{Two}
use Rattle.dataman_layout.specs.Mark.{plain_marks}
use Rattle.plan_store.specs.StoreState.{StoredPlan}
use Rattle.bank_state.specs.declared.parts.PlanBanks.{PlanBanks}
use Rattle.bank_state.specs.Plans.{head_of}
use Rattle.bank_state.specs.StandsFor.{compat_place, state_cell, mark_cell, IsThisLayout, HasMark}
use Rattle.bank_state.specs.Ledger.{banks_of, items_read, plan_read}
use Rattle.bank_state.specs.Frames.{head_of-plan_read}
use Rattle.bank_state.specs.Gathered.{BanksRead, IsReady}
use Rattle.bank_state.specs.Running.{every_only}
use Rattle.recovery.specs.declared.cells.States.{States}
use Rattle.recovery.specs.declared.fault.BootFault.{BootFault}
use Rattle.mission_model.specs.declared.counts.Counts.{Counts}
use Rattle.recovery.specs.Faults.{or_else, first_of, states_fault, plan_fault, plans_fault, named_fault, items_fault, mark_fault, plan_at, named_plan, fault_behind}
use Rattle.recovery.specs.Standing.{mark_at}
use Rattle.recovery.specs.Steps.{StoppedBy}
use Rattle.recovery.specs.Found.{IsOpened, AllRead, AreBanks, BanksIn, AreStates, StatesIn, HasJumps}
use Rattle.recovery.proofs.Items.{stopped_as}
use Rattle.recovery.proofs.Faultless.{neither, none_of_two, held_size, names_of, items_stand, items_valid, mark_of}

-- the first fault of a plan is the first of its items
pub plan_named : (layout : Layout) (kind : PlanType) (banks : PlanBanks) (image : List ℕ) → BanksIn layout kind banks image → plan_fault layout kind image ≡ items_fault layout kind banks.bank banks.head banks.head.count image
plan_named layout kind banks image read = ap (named_fault layout kind image) read.named

pub plan_is : (layout : Layout) (kind : PlanType) (banks : PlanBanks) (image : List ℕ) → BanksIn layout kind banks image → plan_at layout kind image ≡ plan_read layout kind banks.bank banks.head image
plan_is layout kind banks image read = ap (named_plan layout kind image) read.named

-- no fault of a cell or a plan before, and this one here
pub first_here : (a b : Option BootFault) (f : BootFault) → a ≡ Some f → or_else a b ≡ Some f
first_here a b f is = ap (λ (o : Option BootFault). or_else o b) is

pub later_here : (a b : Option BootFault) (f : BootFault) → a ≡ None → b ≡ Some f → or_else a b ≡ Some f
later_here a b f none is = λ i. or_else (none i) (is i)

-- Disks of the same bytes
module _ (a z : DiskState) (seen : z.seen ≡ a.seen) (tells : z.tells ≡ a.tells) where
  -- what is said of the later is said of the earlier
  pub of_first : (G : List ℕ → Type 0) → (IsTrue z.tells → G z.seen) → IsTrue a.tells → G a.seen
  of_first G was told = subst G seen (was (subst (λ b. IsTrue b) (sym tells) told))

  -- and the other way round
  pub of_last : (G : List ℕ → Type 0) → (IsTrue a.tells → G a.seen) → IsTrue z.tells → G z.seen
  of_last G was told = subst G (sym seen) (was (subst (λ b. IsTrue b) tells told))

-- The parts, by what was read.
module _ (z : DiskState) (sound : IsSound z) (only : Only z.seen z.images) where
  pub known_of : (cell : GatedCell) → (IsTrue z.tells → IsOpened cell z.seen) → Known cell z
  known_of cell opened = every_only (Fits cell (stored cell z.seen)) z sound only opened

  banks_read : (kind : PlanType) (banks : PlanBanks) → AreBanks Two kind banks → (IsTrue z.tells → BanksIn Two kind banks z.seen × (plan_fault Two kind z.seen ≡ None)) → BanksRead kind banks z
  banks_read kind banks are read = record {
    place = are.place;
    bank = are.bank;
    count = are.count;
    calm = are.calm;
    known = known_of banks.cell (λ told. (read told).0.opened);
    named = λ told. names_of Two kind (held (state_cell Two kind) z.seen) banks.bank banks.head (held_size (state_cell Two kind) 7 z.seen refl) (read told).0.named;
    items = λ told. items_stand Two kind banks.bank banks.head z.seen (sym (plan_named Two kind banks z.seen (read told).0) ∙ (read told).1);
    valid = λ told. items_valid Two kind banks.bank banks.head z.seen (sym (plan_named Two kind banks z.seen (read told).0) ∙ (read told).1) are.count;
  }

  pub ready_of : (IsTrue z.tells → IsThisLayout (held compat_place z.seen)) → (states : States) (cell : GatedCell) (mark : Option Mark) → STORE_BYTES ≤ z.meter.size → AreStates Two states → cell.place ≡ (mark_cell Two) → cell.doubt ≡ false
      → (IsTrue z.tells → AllRead Two z.seen states cell mark) → IsReady (record { mission = states.mission; fence = states.fence; safe = states.safe; mark_cell = cell; mark = mark; doubt = None }) z
  ready_of told_layout states cell mark room are place calm read = record {
    room = room;
    only = only;
    layout = told_layout;
    each = each;
    mark = record {
      place = place;
      calm = calm;
      known = known_of cell (λ told. (read told).opened);
      has = λ told. subst (λ (o : Option PlainMark). HasMark (plan_read Two Mission states.mission.bank states.mission.head z.seen) o (held (mark_cell Two) z.seen)) (sym (read told).stored)
          (mark_of Two (plan_read Two Mission states.mission.bank states.mission.head z.seen) (held (mark_cell Two) z.seen) (held_size (mark_cell Two) 135 z.seen refl) (read told).marked);
    };
  }
    where
      plans_of : IsTrue z.tells → (plan_fault Two Mission z.seen ≡ None) × (plan_fault Two Fence z.seen ≡ None) × (plan_fault Two Safe z.seen ≡ None)
      plans_of told =
          let first = neither (plan_fault Two Mission z.seen) (first_of (plan_fault Two Fence z.seen ∷ plan_fault Two Safe z.seen ∷ [])) (read told).plans in
          let second = neither (plan_fault Two Fence z.seen) (first_of (plan_fault Two Safe z.seen ∷ [])) first.1 in
          (first.0, second.0, (neither (plan_fault Two Safe z.seen) None second.1).0)

      each : (kind : PlanType) → BanksRead kind (banks_of (record { mission = states.mission; fence = states.fence; safe = states.safe; mark_cell = cell; mark = mark; doubt = None }) kind) z
      each Mission = banks_read Mission states.mission are.mission (λ told. ((read told).states_are.mission, (plans_of told).0))
      each Fence = banks_read Fence states.fence are.fence (λ told. ((read told).states_are.fence, (plans_of told).1))
      each Safe = banks_read Safe states.safe are.safe (λ told. ((read told).states_are.safe, (plans_of told).2))

-- what was read before the mark
pub record BeforeMark (version : Layout) (image : List ℕ) (states : States) (jumps : Counts) : Type 0 where
  pub named : states_fault version image ≡ None
  pub states_are : StatesIn version states image
  pub plans : plans_fault version image ≡ None
  pub jumps_are : HasJumps (items_read version Mission states.mission.bank states.mission.head.count image) jumps

pub before_mark : (layout : Layout) (a b : DiskState) (states : States) (jumps : Counts) → b.seen ≡ a.seen → b.tells ≡ a.tells
    → (IsTrue a.tells → (states_fault layout a.seen ≡ None) × StatesIn layout states a.seen)
    → (IsTrue b.tells → StatesIn layout states b.seen → (plans_fault layout b.seen ≡ None) × HasJumps (items_read layout Mission states.mission.bank states.mission.head.count b.seen) jumps)
    → IsTrue a.tells → BeforeMark layout a.seen states jumps
before_mark layout a b states jumps seen tells cells plans told =
    let first = cells told in
    let second = of_first a b seen tells (λ l. StatesIn layout states l → (plans_fault layout l ≡ None) × HasJumps (items_read layout Mission states.mission.bank states.mission.head.count l) jumps) plans told first.1 in
    record { named = first.0; states_are = first.1; plans = second.0; jumps_are = second.1 }

-- the mission is known by its bank and its head
mission_is : (layout : Layout) (image : List ℕ) (states : States) (jumps : Counts) → BeforeMark layout image states jumps → plan_at layout Mission image ≡ plan_read layout Mission states.mission.bank states.mission.head image
mission_is layout image states jumps before = plan_is layout Mission states.mission image before.states_are.mission

-- what stopped the last step, by any plan of this head and these jumps
abbrev pub MarkStopped : Layout → States → Counts → BootFault → List ℕ → Type 0
MarkStopped layout states jumps f image = (plan : StoredPlan) → head_of plan ≡ states.mission.head → HasJumps plan.items jumps → StoppedBy (mark_fault layout plan (held (mark_cell layout) image)) f

-- the mark's fault is the first
pub mark_first : (layout : Layout) (image : List ℕ) (states : States) (jumps : Counts) (f : BootFault) → BeforeMark layout image states jumps
    → MarkStopped layout states jumps f image → StoppedBy (fault_behind layout image) f
mark_first layout image states jumps f before stopped =
    let plan = plan_read layout Mission states.mission.bank states.mission.head image in
    stopped_as (mark_fault layout plan (held (mark_cell layout) image)) (fault_behind layout image) f (λ x is.
    later_here _ _ x before.named (later_here _ _ x before.plans
    (first_here _ None x (ap (λ (p : StoredPlan). mark_fault layout p (held (mark_cell layout) image)) (mission_is layout image states jumps before) ∙ is))))
    (stopped plan (head_of-plan_read layout Mission states.mission.bank states.mission.head image) before.jumps_are)

-- what the mark's cell was found with, whose mission is any plan of this head and these jumps
abbrev pub MarkFound : Layout → States → Counts → GatedCell → Option Mark → List ℕ → Type 0
MarkFound layout states jumps cell mark image = (plan : StoredPlan) → head_of plan ≡ states.mission.head → HasJumps plan.items jumps
    → (mark_fault layout plan (held (mark_cell layout) image) ≡ None) × (IsOpened cell image × (plain_marks mark ≡ mark_at layout states.mission.head.id (held (mark_cell layout) image)))

-- and all is read where it has none
pub all_read : (layout : Layout) (image : List ℕ) (states : States) (jumps : Counts) (cell : GatedCell) (mark : Option Mark) → BeforeMark layout image states jumps → MarkFound layout states jumps cell mark image → AllRead layout image states cell mark
all_read layout image states jumps cell mark before found =
    let last = found (plan_read layout Mission states.mission.bank states.mission.head image) (head_of-plan_read layout Mission states.mission.bank states.mission.head image) before.jumps_are in
    record { states_are = before.states_are; plans = before.plans; opened = last.1.0; marked = last.0; stored = last.1.1 }

pub none_at_all : (layout : Layout) (image : List ℕ) (states : States) (jumps : Counts) (cell : GatedCell) (mark : Option Mark) → BeforeMark layout image states jumps → AllRead layout image states cell mark → fault_behind layout image ≡ None
none_at_all layout image states jumps cell mark before read =
    none_of_two _ _ before.named (none_of_two _ _ before.plans
    (none_of_two _ _ (ap (λ (p : StoredPlan). mark_fault layout p (held (mark_cell layout) image)) (mission_is layout image states jumps before) ∙ read.marked) refl))

-- The plans of three types, one after another.
pub plans_none : (layout : Layout) (states : States) (image : List ℕ) → StatesIn layout states image → items_fault layout Mission states.mission.bank states.mission.head states.mission.head.count image ≡ None
    → items_fault layout Fence states.fence.bank states.fence.head states.fence.head.count image ≡ None → items_fault layout Safe states.safe.bank states.safe.head states.safe.head.count image ≡ None → plans_fault layout image ≡ None
plans_none layout states image read mission fence safe =
    none_of_two _ _ (plan_named layout Mission states.mission image read.mission ∙ mission)
    (none_of_two _ _ (plan_named layout Fence states.fence image read.fence ∙ fence) (none_of_two _ _ (plan_named layout Safe states.safe image read.safe ∙ safe) refl))
