-- Calls of the state cell of a plan type: what they leave of the store.
use Rattle.std.proofs.Common.{◌≡◌, ◌*◌, ◌-◌, ◌≤◌, ℕ, Bool, true, false, IsTrue, List, Option, Some, None, ⊎_elim, refl, sym, subst, arith}
use Rattle.mission_model.specs.declared.limits.TheConstants.{STORE_BYTES}
use Rattle.mission_model.specs.declared.plan.PlanType.{PlanType}
use Rattle.mission_model.specs.declared.plan.PlanType.TheVariants.{Mission, Fence, Safe}
use Rattle.mission_model.specs.declared.plan.PlanHead.{PlanHead}
use Rattle.mission_model.specs.Command.{is_kind}
use Rattle.mission_model.specs.PlanCode.{limit_of}
use Rattle.disk_model.specs.Disk.{DiskState, IsSound}
use Rattle.disk_model.specs.Every.{Every, Image, Run}
use Rattle.gated_cell.specs.declared.cell.GatedCell.{GatedCell}
use Rattle.gated_cell.specs.Cell.{Held, held, in_force, next_of}
use Rattle.dataman_layout.specs.Mark.{plain_marks}
use Rattle.plan_store.specs.StoreState.{StoredPlan}
use Rattle.bank_state.specs.declared.parts.PlanBanks.{PlanBanks}
use Rattle.bank_state.specs.declared.parts.Parts.{Parts}
use Rattle.bank_state.specs.declared.parts.Doubt.{Doubt}
use Rattle.bank_state.specs.declared.parts.Doubt.TheVariants as doubt
use Rattle.bank_state.specs.StandsFor.{compat_place, state_place, IsThisLayout, Names, HasItems}
use Rattle.bank_state.specs.Ledger.{banks_of, with_banks, ledger_of, plan_in, plan_by}
use Rattle.bank_state.specs.Store.{doubts_plan, doubts_mark, KnownBy, BanksStand, MarkStands, PlanInDoubt, InDoubt, IsStore, SameRecords}
use Rattle.bank_state.specs.Frames.{Differ, same_or_differ, is_kind_same, items_stay, length-items_in, record_off, record_stays}
use Rattle.bank_state.specs.Standing.{store_of, banks_again, mark_again, layout_again, plan_again, items_again, valid_again}
use Rattle.bank_state.specs.Moments.{CalmBut, ShowsBut, off_compat, off_mark, off_state, off_bank, shows_but_now, shows_but_beside, counts_within, is_kind_not}

-- the banks of a type once they were replaced, and those of the others
pub own_with : (parts : Parts) (kind : PlanType) (banks : PlanBanks) → banks_of (with_banks parts kind banks) kind ≡ banks
own_with parts Mission banks = refl
own_with parts Fence banks = refl
own_with parts Safe banks = refl

pub other_with : (parts : Parts) (kind : PlanType) (banks : PlanBanks) (k : PlanType) → Differ k kind → banks_of (with_banks parts kind banks) k ≡ banks_of parts k
other_with parts Mission banks Mission differ = absurd (differ refl)
other_with parts Mission banks Fence differ = refl
other_with parts Mission banks Safe differ = refl
other_with parts Fence banks Mission differ = refl
other_with parts Fence banks Fence differ = absurd (differ refl)
other_with parts Fence banks Safe differ = refl
other_with parts Safe banks Mission differ = refl
other_with parts Safe banks Fence differ = refl
other_with parts Safe banks Safe differ = absurd (differ refl)

-- the mission is read as before where its bank and head are as before
pub mission_with : (parts : Parts) (kind : PlanType) (banks : PlanBanks) (image : List ℕ) → banks.bank ≡ (banks_of parts kind).bank → banks.head ≡ (banks_of parts kind).head
    → plan_by (ledger_of (with_banks parts kind banks)) Mission image ≡ plan_by (ledger_of parts) Mission image
mission_with parts Mission banks image bank head = λ i. plan_in Mission (bank i) (head i) image
mission_with parts Fence banks image bank head = refl
mission_with parts Safe banks image bank head = refl

module _ (parts : Parts) (kind : PlanType) (doubted : Bool) (Q : List ℕ → Type 0) (old new : DiskState) (sound_old : IsSound old) (sound : IsSound new) (calm : CalmBut parts kind doubted old)
    (run : Run (state_place kind).at (2 * (state_place kind).slot_bytes) Q old new) where
  abbrev at : ℕ
  at = (state_place kind).at

  abbrev n : ℕ
  n = 2 * (state_place kind).slot_bytes

  abbrev banks : PlanBanks
  banks = banks_of parts kind

  -- every record is read as before
  pub records : IsTrue new.tells → SameRecords old new
  records told k bank seq below = record_stays k bank seq at n old.seen new.seen (record_off k bank seq at n below (off_bank kind k bank)) (run.reads told)

  pub layout : Every (λ c. IsThisLayout (held compat_place c)) new
  layout = layout_again at n Q old new sound run (off_compat kind) calm.layout

  pub others : (k : PlanType) → Differ k kind → BanksStand k false (banks_of parts k) new
  others k differ = banks_again at n Q old new sound run k (banks_of parts k) (off_state kind k differ) (off_bank kind k (banks_of parts k).bank) (calm.each k differ)

  pub plans_same : (k : PlanType) → IsTrue new.tells → plan_by (ledger_of parts) k new.seen ≡ plan_by (ledger_of parts) k old.seen
  plans_same k told = plan_again at n Q old new sound run k (banks_of parts k).bank (banks_of parts k).head (counts_within parts kind doubted old calm k) (off_bank kind k (banks_of parts k).bank) told

  pub mark : MarkStands (plan_by (ledger_of parts) Mission new.seen) false parts.mark_cell (plain_marks parts.mark) new
  mark = mark_again at n Q old new sound run (plan_by (ledger_of parts) Mission old.seen) (plan_by (ledger_of parts) Mission new.seen) parts.mark_cell (plain_marks parts.mark) (off_mark kind) (plans_same Mission) calm.mark

  before : IsTrue new.tells → IsTrue old.tells
  before told = subst (λ (b : Bool). IsTrue b) run.tells told

  -- the banks with the cell as the calls left it, where what is in force is as before
  pub own_kept : (now : Bool) (cell : GatedCell) → cell.place ≡ state_place kind → cell.doubt ≡ now → KnownBy now cell new → (IsTrue new.tells → in_force cell new ≡ in_force banks.cell old)
      → BanksStand kind now (record banks { cell = cell }) new
  own_kept now cell place flag known same = record {
    place = place;
    bank = calm.own.bank;
    count = calm.own.count;
    flag = flag;
    known = known;
    named = λ told. subst (λ (h : Held). Names kind banks.bank banks.head h) (sym (same told)) (calm.own.named (before told));
    items = items_again at n Q old new sound run kind banks.bank banks.head calm.own.count (off_bank kind kind banks.bank) calm.own.items;
    valid = valid_again at n Q old new sound run kind banks.bank banks.head calm.own.count (off_bank kind kind banks.bank) calm.own.valid;
  }

  room_after : STORE_BYTES ≤ old.meter.size → STORE_BYTES ≤ new.meter.size
  room_after room = omega (arith, run.meter.size, room)

  -- the store without a doubt
  pub store_calm : (cell : GatedCell) (change : Option Doubt) → change ≡ None → STORE_BYTES ≤ old.meter.size → cell.place ≡ state_place kind → cell.doubt ≡ false → KnownBy false cell new
      → (IsTrue new.tells → in_force cell new ≡ in_force banks.cell old) → IsStore (record (with_banks parts kind (record banks { cell = cell })) { doubt = change }) new
  store_calm cell change none room place flag known same = store_of (record (with_banks parts kind next) { doubt = change }) new none (room_after room) (record {
    layout = layout;
    each = λ k. ⊎_elim
        (λ is. subst (λ (x : PlanType). BanksStand x false (banks_of (with_banks parts kind next) x) new) is
        (subst (λ (b : PlanBanks). BanksStand kind false b new) (sym (own_with parts kind next)) (own_kept false cell place flag known same)))
        (λ differ. subst (λ (b : PlanBanks). BanksStand k false b new) (sym (other_with parts kind next k (λ same. differ (sym same)))) (others k (λ same. differ (sym same))))
        (same_or_differ kind k);
    mark = subst (λ (m : StoredPlan). MarkStands m false parts.mark_cell (plain_marks parts.mark) new) (sym (mission_with parts kind next new.seen refl refl)) mark;
  })
    where
      next : PlanBanks
      next = record banks { cell = cell }

  -- what is in doubt stays behind the gate
  pub doubt_kept : (cell : GatedCell) (head : PlanHead) → PlanInDoubt kind banks head old → (IsTrue new.tells → next_of cell new ≡ next_of banks.cell old) → PlanInDoubt kind (record banks { cell = cell }) head new
  doubt_kept cell head in_doubt same = record {
    newer = in_doubt.newer;
    within = in_doubt.within;
    named = λ told. subst (λ (h : Held). Names kind (1 - banks.bank) head h) (sym (same told)) (in_doubt.named (before told));
    items = items_again at n Q old new sound run kind (1 - banks.bank) head in_doubt.within (off_bank kind kind (1 - banks.bank)) in_doubt.items;
    valid = valid_again at n Q old new sound run kind (1 - banks.bank) head in_doubt.within (off_bank kind kind (1 - banks.bank)) in_doubt.valid;
  }

  -- the store with the plan in doubt
  pub store_doubted : (cell : GatedCell) (head : PlanHead) (change : Option Doubt) → change ≡ Some (doubt.Plan kind head) → STORE_BYTES ≤ old.meter.size → cell.place ≡ state_place kind → cell.doubt ≡ true → KnownBy true cell new
      → (IsTrue new.tells → in_force cell new ≡ in_force banks.cell old) → PlanInDoubt kind (record banks { cell = cell }) head new → IsStore (record (with_banks parts kind (record banks { cell = cell })) { doubt = change }) new
  store_doubted cell head change is room place flag known same in_doubt = record {
    room = room_after room;
    layout = layout;
    each = λ k. subst (λ (d : Option Doubt). BanksStand k (doubts_plan d k) (banks_of (with_banks parts kind next) k) new) (sym is) (⊎_elim
        (λ (here : kind ≡ k). subst (λ (x : PlanType). BanksStand x (is_kind kind x) (banks_of (with_banks parts kind next) x) new) here
        (subst (λ (b : PlanBanks). BanksStand kind (is_kind kind kind) b new) (sym (own_with parts kind next))
        (subst (λ (b : Bool). BanksStand kind b next new) (sym (is_kind_same kind)) (own_kept true cell place flag known same))))
        (λ (differ : Differ kind k). subst (λ (b : PlanBanks). BanksStand k (is_kind kind k) b new) (sym (other_with parts kind next k (λ e. differ (sym e))))
        (subst (λ (b : Bool). BanksStand k b (banks_of parts k) new) (sym (is_kind_not kind k (λ e. differ (sym e)))) (others k (λ e. differ (sym e)))))
        (same_or_differ kind k));
    mark = subst (λ (d : Option Doubt). MarkStands (plan_by (ledger_of (with_banks parts kind next)) Mission new.seen) (doubts_mark d) parts.mark_cell (plain_marks parts.mark) new) (sym is)
        (subst (λ (m : StoredPlan). MarkStands m false parts.mark_cell (plain_marks parts.mark) new) (sym (mission_with parts kind next new.seen refl refl)) mark);
    in_doubt = subst (λ (d : Option Doubt). InDoubt (record (with_banks parts kind next) { doubt = change }) d new) (sym is)
        (subst (λ (b : PlanBanks). PlanInDoubt kind b head new) (sym (own_with parts kind next)) in_doubt);
  }
    where
      next : PlanBanks
      next = record banks { cell = cell }

  -- an image of the calls shows all but which bank is named
  pub image_shows : (c : List ℕ) (P : List ℕ → Type 0) → Image at n old P c → ShowsBut parts kind old.seen c
  image_shows c P image =
      shows_but_beside parts kind old.seen image.from.0 c (counts_within parts kind doubted old calm) image.from.2 (shows_but_now parts kind doubted old image.from.0 sound_old calm image.from.1)

  pub image_told : (c : List ℕ) (P : List ℕ → Type 0) → Image at n old P c → IsTrue old.tells
  image_told c P image = sound_old.told image.from.0 image.from.1

  -- and has the items of a plan of either bank that stood there
  pub items_stay_in : (c : List ℕ) (P : List ℕ → Type 0) → Image at n old P c → (head : PlanHead) → head.count ≤ limit_of kind → Every (HasItems kind (1 - banks.bank) (plan_in kind (1 - banks.bank) head old.seen)) old
      → HasItems kind (1 - banks.bank) (plan_in kind (1 - banks.bank) head old.seen) c
  items_stay_in c P image head within every =
      items_stay kind (1 - banks.bank) at n (plan_in kind (1 - banks.bank) head old.seen) image.from.0 c (omega (arith, length-items_in kind (1 - banks.bank) head.count old.seen, within)) (off_bank kind kind (1 - banks.bank)) image.from.2
      (every.images image.from.0 image.from.1)
