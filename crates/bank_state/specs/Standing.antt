-- What an image shows of the store, and that it stands for what is held.
use Rattle.dataman_layout.specs.declared.layout.Layout.TheVariants.{Two}
use Rattle.std.proofs.Common.{◌≡◌, ◌⊎◌, ◌≤◌, ℕ, Bool, false, IsTrue, List, length, Option, None, unwrap_or, refl, sym, ap, subst, arith}
use Rattle.mission_model.specs.declared.limits.TheConstants.{STORE_BYTES}
use Rattle.mission_model.specs.declared.plan.PlanType.{PlanType}
use Rattle.mission_model.specs.declared.plan.PlanType.TheVariants.{Mission, Fence, Safe}
use Rattle.mission_model.specs.declared.plan.PlanHead.{PlanHead}
use Rattle.mission_model.specs.PlanCode.{PlanValid, limit_of}
use Rattle.disk_model.specs.Bytes.{Torn}
use Rattle.disk_model.specs.Disk.{DiskState, IsSound}
use Rattle.disk_model.specs.Every.{Every, Run, every_run}
use Rattle.gated_cell.specs.declared.place.CellPlace.{CellPlace}
use Rattle.gated_cell.specs.declared.cell.GatedCell.{GatedCell}
use Rattle.gated_cell.specs.Cell.{Held, held, stored, staged, Known, Doubtful, in_force, next_of}
use Rattle.gated_cell.specs.Slots.{every_held, either_held}
use Rattle.gated_cell.specs.Beside.{IsBeside, held_beside, Stays, stays_run}
use Rattle.dataman_layout.specs.Places.{Compat, State, TheMark, Bank}
use Rattle.dataman_layout.specs.Mark.{PlainMark, plain_marks}
use Rattle.plan_store.specs.StoreState.{StoredPlan, first_mark}
use Rattle.bank_state.specs.declared.parts.PlanBanks.{PlanBanks}
use Rattle.bank_state.specs.declared.parts.Parts.{Parts}
use Rattle.bank_state.specs.declared.parts.Doubt.{Doubt}
use Rattle.bank_state.specs.Plans.{Plans, plan_among, head_of}
use Rattle.bank_state.specs.StandsFor.{compat_place, state_place, mark_place, IsThisLayout, Names, HasItems, HasMark, StandsFor, IsOf}
use Rattle.bank_state.specs.Ledger.{banks_of, Ledger, ledger_of, items_in, plan_in, plan_by, holding_in}
use Rattle.bank_state.specs.Store.{doubts_plan, doubts_mark, BanksStand, MarkStands, InDoubt, IsStore}
use Rattle.bank_state.specs.Frames.{IsOff, items_stay, length-items_in, head_of-plan_in, plan_same, compat_fills, state_fills, mark_fills, cell_beside}

-- a store without a doubt
pub record Calm (parts : Parts) (disk : DiskState) : Type 0 where
  pub layout : Every (λ c. IsThisLayout (held compat_place c)) disk
  pub each : (kind : PlanType) → BanksStand kind false (banks_of parts kind) disk
  pub mark : MarkStands (plan_by (ledger_of parts) Mission disk.seen) false parts.mark_cell (plain_marks parts.mark) disk

pub calm_of : (parts : Parts) (disk : DiskState) → parts.doubt ≡ None → IsStore parts disk → Calm parts disk
calm_of parts disk calm store = record {
  layout = store.layout;
  each = λ kind. subst (λ (d : Option Doubt). BanksStand kind (doubts_plan d kind) (banks_of parts kind) disk) calm (store.each kind);
  mark = subst (λ (d : Option Doubt). MarkStands (plan_by (ledger_of parts) Mission disk.seen) (doubts_mark d) parts.mark_cell (plain_marks parts.mark) disk) calm store.mark;
}

-- what an image shows of the banks of a type: the cell names the bank and its plan, and the items stand there
pub record Shown (kind : PlanType) (bank : ℕ) (plan : StoredPlan) (c : List ℕ) : Type 0 where
  pub named : Names kind bank (head_of plan) (held (state_place kind) c)
  pub items : HasItems kind bank plan c

-- an image of a cell that is known
pub known_holds : (cell : GatedCell) (place : CellPlace) (disk : DiskState) (c : List ℕ) → cell.place ≡ place → Known cell disk → disk.images c → held place c ≡ in_force cell disk
known_holds cell place disk c at known left =
    subst (λ (p : CellPlace). held p c ≡ in_force cell disk) at ((every_held cell (stored cell disk.seen) disk known).images c left)

-- and of one in doubt
pub doubtful_holds : (cell : GatedCell) (place : CellPlace) (disk : DiskState) (c : List ℕ) → cell.place ≡ place → Doubtful cell disk → disk.images c → (held place c ≡ in_force cell disk) ⊎ (held place c ≡ next_of cell disk)
doubtful_holds cell place disk c at doubtful left =
    subst (λ (p : CellPlace). (held p c ≡ in_force cell disk) ⊎ (held p c ≡ next_of cell disk)) at (either_held cell (stored cell disk.seen) (staged cell disk.seen) c (doubtful.images c left))

-- a plan is shown where the cell names its head
pub shown : (kind : PlanType) (bank : ℕ) (head : PlanHead) (image c : List ℕ) (h : Held) → Names kind bank head h → held (state_place kind) c ≡ h → HasItems kind bank (plan_in kind bank head image) c → Shown kind bank (plan_in kind bank head image) c
shown kind bank head image c h named holds items = record {
  named = subst (λ (x : PlanHead). Names kind bank x (held (state_place kind) c)) (sym (head_of-plan_in kind bank head image)) (subst (λ (x : Held). Names kind bank head x) (sym holds) named);
  items = items;
}

pub shown_now : (kind : PlanType) (banks : PlanBanks) (disk : DiskState) (c : List ℕ) → IsSound disk → BanksStand kind false banks disk → disk.images c → Shown kind banks.bank (plan_in kind banks.bank banks.head disk.seen) c
shown_now kind banks disk c sound stand left =
    shown kind banks.bank banks.head disk.seen c (in_force banks.cell disk) (stand.named (sound.told c left)) (known_holds banks.cell (state_place kind) disk c stand.place stand.known left) (stand.items.images c left)

-- it is shown still where the bytes of another part were written
pub shown_beside : (kind : PlanType) (bank : ℕ) (plan : StoredPlan) (at n : ℕ) (d c : List ℕ) → length plan.items ≤ limit_of kind → IsOff at n (State kind) → IsOff at n (Bank kind bank) → Torn at n d c
    → Shown kind bank plan d → Shown kind bank plan c
shown_beside kind bank plan at n d c within off_state off_bank torn has = record {
  named = subst (λ (h : Held). Names kind bank (head_of plan) h) (sym (held_beside (state_place kind) at n d c (omega arith) (cell_beside (state_place kind) (State kind) at n (state_fills kind) off_state) torn)) has.named;
  items = items_stay kind bank at n plan d c within off_bank torn has.items;
}

-- the plan of a type among those held
pub each_held : (ledger : Ledger) (image : List ℕ) (P : PlanType → StoredPlan → Type 0) → ((kind : PlanType) → P kind (plan_by ledger kind image)) → (kind : PlanType) → P kind (plan_among (holding_in ledger image).plans kind)
each_held ledger image P each Mission = each Mission
each_held ledger image P each Fence = each Fence
each_held ledger image P each Safe = each Safe

-- an image that shows each plan and a mark stands for them
pub stands : (plans : Plans) (mark : Option PlainMark) (c : List ℕ) → IsThisLayout (held compat_place c) → ((kind : PlanType) → (bank : ℕ) × Shown kind bank (plan_among plans kind) c)
    → ((kind : PlanType) → PlanValid kind (plan_among plans kind).items) → HasMark plans.mission mark (held mark_place c) → StandsFor c plans (unwrap_or mark (first_mark plans.mission.id))
stands plans mark c layout each valid has = (
  Two,
  record {
    layout = layout;
    each = λ kind. record { bank = (each kind).0; named = (each kind).1.named; items = (each kind).1.items; valid = valid kind };
    stored = mark;
    has = has;
    is = refl;
  },
)

-- what an image shows of the whole store, by what the banks keep
pub record Shows (parts : Parts) (seen c : List ℕ) : Type 0 where
  pub layout : IsThisLayout (held compat_place c)
  pub each : (kind : PlanType) → Shown kind (banks_of parts kind).bank (plan_by (ledger_of parts) kind seen) c
  pub mark : HasMark (plan_by (ledger_of parts) Mission seen) (plain_marks parts.mark) (held mark_place c)

pub shows_now : (parts : Parts) (disk : DiskState) (c : List ℕ) → IsSound disk → Calm parts disk → disk.images c → Shows parts disk.seen c
shows_now parts disk c sound store left = record {
  layout = store.layout.images c left;
  each = λ kind. shown_now kind (banks_of parts kind) disk c sound (store.each kind) left;
  mark = subst (λ (h : Held). HasMark (plan_by (ledger_of parts) Mission disk.seen) (plain_marks parts.mark) h) (sym (known_holds parts.mark_cell mark_place disk c store.mark.place store.mark.known left))
      (store.mark.has (sound.told c left));
}

-- and then it stands for what is held
pub shows_stand : (parts : Parts) (seen c : List ℕ) → ((kind : PlanType) → PlanValid kind (plan_by (ledger_of parts) kind seen).items) → Shows parts seen c → IsOf (holding_in (ledger_of parts) seen) c
shows_stand parts seen c valid shows = stands (holding_in (ledger_of parts) seen).plans (plain_marks parts.mark) c shows.layout
    (each_held (ledger_of parts) seen (λ kind plan. (bank : ℕ) × Shown kind bank plan c) (λ kind. ((banks_of parts kind).bank, shows.each kind)))
    (each_held (ledger_of parts) seen (λ kind plan. PlanValid kind plan.items) valid) shows.mark

pub stands_now : (parts : Parts) (disk : DiskState) (c : List ℕ) → IsSound disk → Calm parts disk → disk.images c → IsOf (holding_in (ledger_of parts) disk.seen) c
stands_now parts disk c sound store left = shows_stand parts disk.seen c (λ kind. (store.each kind).valid (sound.told c left)) (shows_now parts disk c sound store left)

-- what is known under one name is known under another that is the same where the disk tells
pub every_renamed : {A : Type 0} (F : A → List ℕ → Type 0) (x y : A) (disk : DiskState) → IsSound disk → (IsTrue disk.tells → y ≡ x) → Every (F x) disk → Every (F y) disk
every_renamed F x y disk sound same every = record {
  reads = λ told. subst (λ a. F a disk.seen) (sym (same told)) (every.reads told);
  images = λ c left. subst (λ a. F a c) (sym (same (sound.told c left))) (every.images c left);
}

-- Calls in one part of the store.
module _ (at n : ℕ) (Q : List ℕ → Type 0) (old new : DiskState) (sound : IsSound new) (run : Run at n Q old new) where
  pub before : IsTrue new.tells → IsTrue old.tells
  before told = subst (λ (b : Bool). IsTrue b) run.tells told

  -- a plan elsewhere is read as before
  pub plan_again : (kind : PlanType) (bank : ℕ) (head : PlanHead) → head.count ≤ limit_of kind → IsOff at n (Bank kind bank) → IsTrue new.tells → plan_in kind bank head new.seen ≡ plan_in kind bank head old.seen
  plan_again kind bank head within off told = plan_same kind bank head at n old.seen new.seen within off (run.reads told)

  -- its items stand in each image
  pub items_again : (kind : PlanType) (bank : ℕ) (head : PlanHead) → head.count ≤ limit_of kind → IsOff at n (Bank kind bank) → Every (HasItems kind bank (plan_in kind bank head old.seen)) old
      → Every (HasItems kind bank (plan_in kind bank head new.seen)) new
  items_again kind bank head within off every =
      every_renamed (λ (plan : StoredPlan). HasItems kind bank plan) (plan_in kind bank head old.seen) (plan_in kind bank head new.seen) new sound (plan_again kind bank head within off)
      (every_run at n Q (HasItems kind bank (plan_in kind bank head old.seen)) old new run (λ d c torn has. items_stay kind bank at n (plan_in kind bank head old.seen) d c (omega (arith, length-items_in kind bank head.count old.seen, within)) off torn has) every)

  pub valid_again : (kind : PlanType) (bank : ℕ) (head : PlanHead) → head.count ≤ limit_of kind → IsOff at n (Bank kind bank) → (IsTrue old.tells → PlanValid kind (items_in kind bank head.count old.seen))
      → IsTrue new.tells → PlanValid kind (items_in kind bank head.count new.seen)
  valid_again kind bank head within off valid told = subst (λ (plan : StoredPlan). PlanValid kind plan.items) (sym (plan_again kind bank head within off told)) (valid (before told))

  -- a cell elsewhere stays
  pub cell_again : (cell : GatedCell) → 9 ≤ cell.place.slot_bytes → IsBeside at n cell.place → Known cell old → Stays cell old new
  cell_again cell nine beside known = stays_run cell at n Q old new nine beside sound run known

  -- so do the banks of a type
  pub banks_again : (kind : PlanType) (banks : PlanBanks) → IsOff at n (State kind) → IsOff at n (Bank kind banks.bank) → BanksStand kind false banks old → BanksStand kind false banks new
  banks_again kind banks off_state off_bank stand =
      let beside : IsBeside at n banks.cell.place = subst (λ (p : CellPlace). IsBeside at n p) (sym stand.place) (cell_beside (state_place kind) (State kind) at n (state_fills kind) off_state) in
      let stays = cell_again banks.cell (omega (arith, ap (λ (p : CellPlace). p.slot_bytes) stand.place)) beside stand.known in
      record {
        place = stand.place;
        bank = stand.bank;
        count = stand.count;
        flag = stand.flag;
        known = stays.known;
        named = λ told. subst (λ (h : Held). Names kind banks.bank banks.head h) (sym (stays.same told)) (stand.named (before told));
        items = items_again kind banks.bank banks.head stand.count off_bank stand.items;
        valid = valid_again kind banks.bank banks.head stand.count off_bank stand.valid;
      }

  pub layout_again : IsOff at n Compat → Every (λ c. IsThisLayout (held compat_place c)) old → Every (λ c. IsThisLayout (held compat_place c)) new
  layout_again off every = every_run at n Q (λ c. IsThisLayout (held compat_place c)) old new run (λ d c torn is. subst (λ (h : Held). IsThisLayout h)
      (sym (held_beside compat_place at n d c (omega arith) (cell_beside compat_place Compat at n compat_fills off) torn)) is) every

  -- and the mark, of a mission that is read as before
  pub mark_again : (mission now : StoredPlan) (cell : GatedCell) (mark : Option PlainMark) → IsOff at n TheMark → (IsTrue new.tells → now ≡ mission) → MarkStands mission false cell mark old → MarkStands now false cell mark new
  mark_again mission now cell mark off same stand =
      let beside : IsBeside at n cell.place = subst (λ (p : CellPlace). IsBeside at n p) (sym stand.place) (cell_beside mark_place TheMark at n mark_fills off) in
      let stays = cell_again cell (omega (arith, ap (λ (p : CellPlace). p.slot_bytes) stand.place)) beside stand.known in
      record {
        place = stand.place;
        flag = stand.flag;
        known = stays.known;
        has = λ told. subst (λ (m : StoredPlan). HasMark m mark (in_force cell new)) (sym (same told)) (subst (λ (h : Held). HasMark mission mark h) (sym (stays.same told)) (stand.has (before told)));
      }

pub store_of : (parts : Parts) (disk : DiskState) → parts.doubt ≡ None → STORE_BYTES ≤ disk.meter.size → Calm parts disk → IsStore parts disk
store_of parts disk calm room store = record {
  room = room;
  layout = store.layout;
  each = λ kind. subst (λ (d : Option Doubt). BanksStand kind (doubts_plan d kind) (banks_of parts kind) disk) (sym calm) (store.each kind);
  mark = subst (λ (d : Option Doubt). MarkStands (plan_by (ledger_of parts) Mission disk.seen) (doubts_mark d) parts.mark_cell (plain_marks parts.mark) disk) (sym calm) store.mark;
  in_doubt = subst (λ (d : Option Doubt). InDoubt parts d disk) (sym calm) tt;
}

-- an image shows the mark still where the bytes of another part were written
pub mark_beside : (mission : StoredPlan) (mark : Option PlainMark) (at n : ℕ) (d c : List ℕ) → IsOff at n TheMark → Torn at n d c → HasMark mission mark (held mark_place d) → HasMark mission mark (held mark_place c)
mark_beside mission mark at n d c off torn has =
    subst (λ (h : Held). HasMark mission mark h) (sym (held_beside mark_place at n d c (omega arith) (cell_beside mark_place TheMark at n mark_fills off) torn)) has

-- and the layout's version
pub layout_beside : (at n : ℕ) (d c : List ℕ) → IsOff at n Compat → Torn at n d c → IsThisLayout (held compat_place d) → IsThisLayout (held compat_place c)
layout_beside at n d c off torn is = subst (λ (h : Held). IsThisLayout h) (sym (held_beside compat_place at n d c (omega arith) (cell_beside compat_place Compat at n compat_fills off) torn)) is
