-- The commit of a plan: one change of the state cell of its type.
use Rattle.std.proofs.Common.{◌≡◌, ◌⊎◌, ◌*◌, ◌-◌, ◌^◌, ◌<◌, ◌≤◌, ℕ, Bool, true, false, cond, IsTrue, List, Option, Some, None, inl, inr, ⊎_elim, refl, sym, ap, subst, ◌∙◌, arith}
use Rattle.std.specs.Prelude.{Result, Ok, Err, IfErr}
use Rattle.mission_model.specs.declared.plan.PlanType.{PlanType}
use Rattle.mission_model.specs.declared.plan.PlanType.TheVariants.{Mission, Fence, Safe}
use Rattle.mission_model.specs.declared.plan.PlanHead.{PlanHead}
use Rattle.mission_model.specs.PlanCode.{PlanValid, limit_of}
use Rattle.disk_model.specs.Bytes.{Torn}
use Rattle.disk_model.specs.Disk.{DiskState, IsSound}
use Rattle.disk_model.specs.Every.{Every, Image, Run}
use Rattle.disk_model.specs.Moments.{LeavesOnly, leaves_weaker}
use Rattle.gated_cell.specs.declared.place.CellPlace.{CellPlace}
use Rattle.gated_cell.specs.declared.cell.GatedCell.{GatedCell}
use Rattle.gated_cell.specs.declared.fault.CellFault.{CellFault}
use Rattle.gated_cell.specs.declared.fault.CellFault.TheVariants as cell_fault
use Rattle.gated_cell.specs.Cell.{Held, held, Known, in_force, opened}
use Rattle.dataman_layout.specs.Mark.{plain_marks}
use Rattle.dataman_layout.specs.State.{StateRecord}
use Rattle.plan_store.specs.StoreState.{StoredPlan}
use Rattle.bank_state.specs.declared.parts.PlanBanks.{PlanBanks}
use Rattle.bank_state.specs.declared.parts.Parts.{Parts}
use Rattle.bank_state.specs.declared.parts.Doubt.{Doubt}
use Rattle.bank_state.specs.declared.parts.Doubt.TheVariants as doubt
use Rattle.bank_state.specs.Plans.{changed}
use Rattle.bank_state.specs.StandsFor.{state_place, Names, HasItems, IsOf}
use Rattle.bank_state.specs.Ledger.{banks_of, with_banks, after_plan, after_refusal, kept_mark, entry_in, ledger_of, items_in, plan_in, plan_by, holding_in, change_in}
use Rattle.bank_state.specs.Store.{BanksStand, MarkStands, IsStore, SameRecords}
use Rattle.bank_state.specs.Swap.{next_with, IsBut, Swaps, Unopened, HalfOpen, Leaves, NotDone}
use Rattle.bank_state.specs.Outcomes.{LedgerAfter, StoreAfter}
use Rattle.bank_state.specs.Frames.{same_or_differ, items_stay, length-items_in, plan_same}
use Rattle.bank_state.specs.Standing.{calm_of, store_of, known_holds, every_renamed}
use Rattle.bank_state.specs.Moments.{CalmBut, ShowsBut, calm_but, off_bank, all_valid, counts_within, shows_but_now, shows_but_beside, stands_old, stands_new, has_older}
use Rattle.bank_state.proofs.PlanChange.{own_with, other_with, others, store_calm, store_doubted, image_shows, image_told}
use Rattle.bank_state.proofs.PlanChange as plan
use Rattle.bank_state.proofs.Refusing.{calm_choice, doubt_choice, unopened_flag, unopened_place, unopened_generation}

-- the mark once a plan was replaced
mark_planned : (parts : Parts) (kind : PlanType) (next : PlanBanks) (new : DiskState) → (banks_of parts kind).head.id < next.head.id → MarkStands (plan_by (ledger_of parts) Mission new.seen) false parts.mark_cell (plain_marks parts.mark) new
    → MarkStands (plan_by (ledger_of (with_banks parts kind next)) Mission new.seen) false parts.mark_cell (plain_marks (kept_mark kind parts.mark)) new
mark_planned parts Mission next new newer mark = record {
  place = mark.place;
  flag = mark.flag;
  known = mark.known;
  has = λ told. has_older (plan_by (ledger_of parts) Mission new.seen) (plan_in Mission next.bank next.head new.seen) (plain_marks parts.mark) (in_force parts.mark_cell new) newer (mark.has told);
}
mark_planned parts Fence next new newer mark = mark
mark_planned parts Safe next new newer mark = mark

-- a refusal leaves the banks as they were, but for how their cell is known
same_entry : (parts : Parts) (kind : PlanType) (cell : GatedCell) → cell.generation ≡ (banks_of parts kind).cell.generation → (k : PlanType) → entry_in (banks_of (with_banks parts kind (record (banks_of parts kind) { cell = cell })) k) ≡ entry_in (banks_of parts k)
same_entry parts kind cell same k = ⊎_elim
    (λ here. subst (λ (x : PlanType). entry_in (banks_of (with_banks parts kind (record (banks_of parts kind) { cell = cell })) x) ≡ entry_in (banks_of parts x)) here
    (ap entry_in (own_with parts kind (record (banks_of parts kind) { cell = cell })) ∙ (λ i. record { bank = (banks_of parts kind).bank; head = (banks_of parts kind).head; generation = same i })))
    (λ differ. ap entry_in (other_with parts kind (record (banks_of parts kind) { cell = cell }) k (λ e. differ (sym e))))
    (same_or_differ kind k)

pub refused_ledger : (parts : Parts) (kind : PlanType) (head : PlanHead) (cell : GatedCell) (d : Option Doubt) → cell.generation ≡ (banks_of parts kind).cell.generation → cond cell.doubt (Some (doubt.Plan kind head)) parts.doubt ≡ d
    → ledger_of (after_refusal parts (doubt.Plan kind head) cell) ≡ record (ledger_of parts) { doubt = d }
refused_ledger parts kind head cell d same is = λ i. record { entries = λ k. same_entry parts kind cell same k i; mark = parts.mark; mark_generation = parts.mark_cell.generation; doubt = is i }

unchanged : (parts : Parts) (kind : PlanType) → record (with_banks parts kind (record (banks_of parts kind) { cell = (banks_of parts kind).cell })) { doubt = parts.doubt } ≡ parts
unchanged parts Mission = refl
unchanged parts Fence = refl
unchanged parts Safe = refl

module _ (parts : Parts) (kind : PlanType) (head : PlanHead) (payload : List ℕ) (old new : DiskState) (sound_old : IsSound old) (sound : IsSound new) (store : IsStore parts old) (calm : parts.doubt ≡ None)
    (newer : (banks_of parts kind).head.id < head.id) (within : head.count ≤ limit_of kind) (named : StateRecord (limit_of kind) payload (1 - (banks_of parts kind).bank) head)
    (written : IsTrue old.tells → HasItems kind (1 - (banks_of parts kind).bank) (plan_in kind (1 - (banks_of parts kind).bank) head old.seen) old.seen)
    (valid : IsTrue old.tells → PlanValid kind (items_in kind (1 - (banks_of parts kind).bank) head.count old.seen))
    (run : Run (banks_of parts kind).cell.place.at (2 * (banks_of parts kind).cell.place.slot_bytes) (Swaps (banks_of parts kind).cell payload old) old new) where
  abbrev banks : PlanBanks
  banks = banks_of parts kind

  abbrev cell : GatedCell
  cell = banks.cell

  abbrev spare : ℕ
  spare = 1 - banks.bank

  abbrev draft : StoredPlan
  draft = plan_in kind spare head old.seen

  abbrev at : ℕ
  at = (state_place kind).at

  abbrev n : ℕ
  n = 2 * (state_place kind).slot_bytes

  abbrev before : CalmBut parts kind false old
  before = calm_but parts kind old (calm_of parts old calm store)

  abbrev Q : List ℕ → Type 0
  Q c = (held (state_place kind) c ≡ in_force cell old) ⊎ ((held (state_place kind) c ≡ next_with cell payload) × Torn at n old.seen c)

  here : Run at n Q old new
  here = subst (λ (p : CellPlace). Run p.at (2 * p.slot_bytes) (λ c. (held p c ≡ in_force cell old) ⊎ ((held p c ≡ next_with cell payload) × Torn p.at (2 * p.slot_bytes) old.seen c)) old new) before.own.place run

  told_before : IsTrue new.tells → IsTrue old.tells
  told_before told = subst (λ (b : Bool). IsTrue b) here.tells told

  pub records : IsTrue new.tells → SameRecords old new
  records = plan.records parts kind false Q old new sound_old sound before here

  -- the new plan stands in the spare bank of what was read and written in the cell alone
  draft_in : (c : List ℕ) → IsTrue old.tells → Torn at n old.seen c → HasItems kind spare draft c
  draft_in c told torn = items_stay kind spare at n draft old.seen c (omega (arith, length-items_in kind spare head.count old.seen, within)) (off_bank kind kind spare) torn (written told)

  abbrev Old : List ℕ → Type 0
  Old = IsOf (holding_in (ledger_of parts) old.seen)

  abbrev New : List ℕ → Type 0
  New = IsOf (changed (holding_in (ledger_of parts) old.seen) (change_in (ledger_of parts) (doubt.Plan kind head) old.seen))

  new_in : (c : List ℕ) → IsTrue old.tells → held (state_place kind) c ≡ next_with cell payload → Torn at n old.seen c → ShowsBut parts kind old.seen c → New c
  new_in c told next torn shows = stands_new parts kind head old.seen c (next_with cell payload) (all_valid parts kind false old before told) newer named next (draft_in c told torn) (valid told) shows

  pub moments : LeavesOnly old new (λ c. Old c ⊎ New c)
  moments = leaves_weaker old new (Image at n old Q) (λ c. Old c ⊎ New c) each here.moments
    where
      each : (c : List ℕ) → Image at n old Q c → Old c ⊎ New c
      each c image =
          let told = image_told parts kind false Q old new sound_old sound before here c Q image in
          let shows = image_shows parts kind false Q old new sound_old sound before here c Q image in
          ⊎_elim
          (λ was. inl (stands_old parts kind old.seen c (in_force cell old) (all_valid parts kind false old before told) (before.own.named told) was shows))
          (λ next. inr (new_in c told next.0 next.1 shows))
          image.holds

  but_here : (c : List ℕ) → IsBut cell old c → Torn at n old.seen c
  but_here c torn = subst (λ (p : CellPlace). Torn p.at (2 * p.slot_bytes) old.seen c) before.own.place torn

  draft_same : IsTrue new.tells → plan_in kind spare head new.seen ≡ draft
  draft_same told = plan_same kind spare head at n old.seen new.seen within (off_bank kind kind spare) (here.reads told)

  -- it stands there in each image
  draft_stands : Every (IsBut cell old) new → Every (HasItems kind spare (plan_in kind spare head new.seen)) new
  draft_stands synced = every_renamed (λ (p : StoredPlan). HasItems kind spare p) draft (plan_in kind spare head new.seen) new sound draft_same (record {
    reads = λ told. draft_in new.seen (told_before told) (but_here new.seen (synced.reads told));
    images = λ c left. draft_in c (told_before (sound.told c left)) (but_here c (synced.images c left));
  })

  draft_valid : IsTrue new.tells → PlanValid kind (items_in kind spare head.count new.seen)
  draft_valid told = subst (λ (p : StoredPlan). PlanValid kind p.items) (sym (draft_same told)) (valid (told_before told))

  -- the new plan is in force
  pub done : (now : GatedCell) → now ≡ opened cell → Known now new → (IsTrue new.tells → in_force now new ≡ next_with cell payload) → Every (IsBut cell old) new → IsStore (after_plan parts kind now head) new
  done now becomes known next synced = store_of (after_plan parts kind now head) new calm (omega (arith, here.meter.size, store.room)) (record {
    layout = plan.layout parts kind false Q old new sound_old sound before here;
    each = λ k. ⊎_elim
        (λ is. subst (λ (x : PlanType). BanksStand x false (banks_of (with_banks parts kind after) x) new) is (subst (λ (b : PlanBanks). BanksStand kind false b new) (sym (own_with parts kind after)) own))
        (λ differ. subst (λ (b : PlanBanks). BanksStand k false b new) (sym (other_with parts kind after k (λ e. differ (sym e)))) (others parts kind false Q old new sound_old sound before here k (λ e. differ (sym e))))
        (same_or_differ kind k);
    mark = mark_planned parts kind after new newer (plan.mark parts kind false Q old new sound_old sound before here);
  })
    where
      after : PlanBanks
      after = record { cell = now; bank = spare; head = head }

      own : BanksStand kind false after new
      own = record {
        place = ap (λ (x : GatedCell). x.place) becomes ∙ before.own.place;
        bank = omega arith;
        count = within;
        flag = ap (λ (x : GatedCell). x.doubt) becomes;
        known = known;
        named = λ told. subst (λ (h : Held). Names kind spare head h) (sym (next told)) named;
        items = draft_stands synced;
        valid = draft_valid;
      }

  -- and each image stands for it
  pub stands_done : (now : GatedCell) → now ≡ opened cell → Known now new → (IsTrue new.tells → in_force now new ≡ next_with cell payload) → Every (IsBut cell old) new → (c : List ℕ) → new.images c → New c
  stands_done now becomes known next synced c left =
      let told = sound.told c left in
      let holds = known_holds now (state_place kind) new c (ap (λ (x : GatedCell). x.place) becomes ∙ before.own.place) known left ∙ next told in
      let from = here.within c left in
      let shows = shows_but_beside parts kind old.seen from.0 c (counts_within parts kind false old before) from.2 (shows_but_now parts kind false old from.0 sound_old before from.1) in
      new_in c (told_before told) holds (but_here c (synced.images c left)) shows

  -- what was in force is, where the change was refused before the gate was opened
  unopened : (now : GatedCell) → Unopened cell old now new → IsStore (after_refusal parts (doubt.Plan kind head) now) new
  unopened now left =
      let flag = unopened_flag cell now before.own.flag left.is in
      store_calm parts kind false Q old new sound_old sound before here now (cond now.doubt (Some (doubt.Plan kind head)) parts.doubt) (calm_choice parts (doubt.Plan kind head) now.doubt flag ∙ calm) store.room
      (unopened_place cell now left.is ∙ before.own.place) flag left.known left.same

  half : (now : GatedCell) → HalfOpen cell payload old true now new → IsStore (after_refusal parts (doubt.Plan kind head) now) new
  half now left =
      let flag = ap (λ (x : GatedCell). x.doubt) left.is in
      store_doubted parts kind false Q old new sound_old sound before here now head (cond now.doubt (Some (doubt.Plan kind head)) parts.doubt) (doubt_choice parts (doubt.Plan kind head) now.doubt flag) store.room
      (ap (λ (x : GatedCell). x.place) left.is ∙ before.own.place) flag left.doubtful left.same (record {
        newer = newer;
        within = within;
        named = λ told. subst (λ (h : Held). Names kind spare head h) (sym (left.next told)) named;
        items = draft_stands left.synced;
        valid = draft_valid;
      })

  same_parts : (now : GatedCell) → now ≡ cell → after_refusal parts (doubt.Plan kind head) now ≡ parts
  same_parts now is =
      ap (λ (x : GatedCell). after_refusal parts (doubt.Plan kind head) x) is
      ∙ ap (λ (d : Option Doubt). record (with_banks parts kind (record banks { cell = cell })) { doubt = d }) (calm_choice parts (doubt.Plan kind head) cell.doubt before.own.flag)
      ∙ unchanged parts kind

  pub kept : (r : Result (Unit {0}) CellFault) (now : GatedCell) → (cell.generation ≡ 2 ^ 64 - 1 → new ≡ old) → IfErr r (NotDone cell.generation old.meter new.meter) → IfErr r (Leaves cell payload old now new)
      → IfErr r (StoreAfter (after_refusal parts (doubt.Plan kind head) now) new)
  kept (Ok u) now spent refused left = tt
  kept (Err cell_fault.Failed) now spent refused left = ⊎_elim (unopened now) (half now) left
  kept (Err cell_fault.Cut) now spent refused left = tt
  kept (Err (cell_fault.Spent g)) now spent refused left =
      subst (λ (p : Parts). IsStore p new) (sym (same_parts now left)) (subst (λ (d : DiskState). IsStore parts d) (sym (spent refused.1)) store)
  kept (Err (cell_fault.Twins g)) now spent refused left = absurd left

  ledger_unopened : (now : GatedCell) → Unopened cell old now new → ledger_of (after_refusal parts (doubt.Plan kind head) now) ≡ ledger_of parts
  ledger_unopened now left = refused_ledger parts kind head now parts.doubt (unopened_generation cell now left.is) (calm_choice parts (doubt.Plan kind head) now.doubt (unopened_flag cell now before.own.flag left.is))

  pub ledger : (r : Result (Unit {0}) CellFault) (now : GatedCell) → IfErr r (Leaves cell payload old now new) → IfErr r (LedgerAfter (doubt.Plan kind head) (ledger_of parts) (ledger_of (after_refusal parts (doubt.Plan kind head) now)))
  ledger (Ok u) now left = tt
  ledger (Err cell_fault.Failed) now left = ⊎_elim
      (λ one. inl (ledger_unopened now one))
      (λ one. inr (refused_ledger parts kind head now (Some (doubt.Plan kind head)) (ap (λ (x : GatedCell). x.generation) one.is) (doubt_choice parts (doubt.Plan kind head) now.doubt (ap (λ (x : GatedCell). x.doubt) one.is))))
      left
  ledger (Err cell_fault.Cut) now left = ⊎_elim
      (λ one. ledger_unopened now one)
      (λ one. refused_ledger parts kind head now parts.doubt (ap (λ (x : GatedCell). x.generation) one.is) (calm_choice parts (doubt.Plan kind head) now.doubt (ap (λ (x : GatedCell). x.doubt) one.is)))
      left
  ledger (Err (cell_fault.Spent g)) now left = ap ledger_of (same_parts now left)
  ledger (Err (cell_fault.Twins g)) now left = absurd left
