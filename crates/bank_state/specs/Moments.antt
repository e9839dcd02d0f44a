-- That an image stands for what is held, or for that with a change, whichever change is in doubt.
use Rattle.std.proofs.Common.{◌≡◌, ◌*◌, ◌-◌, ◌<◌, ◌≤◌, ℕ, Bool, true, false, IsTrue, List, length, Option, Some, None, inl, inr, ⊎_elim, refl, sym, ap, subst, ◌∙◌, arith}
use Rattle.mission_model.specs.declared.plan.PlanType.{PlanType}
use Rattle.mission_model.specs.declared.plan.PlanType.TheVariants.{Mission, Fence, Safe}
use Rattle.mission_model.specs.declared.plan.PlanHead.{PlanHead}
use Rattle.mission_model.specs.Command.{is_kind}
use Rattle.mission_model.specs.PlanCode.{PlanValid, limit_of}
use Rattle.disk_model.specs.Bytes.{Torn}
use Rattle.disk_model.specs.Disk.{DiskState, IsSound}
use Rattle.disk_model.specs.Every.{Every}
use Rattle.gated_cell.specs.Cell.{Held, Empty, Twins, InForce, held, in_force, next_of}
use Rattle.dataman_layout.specs.Places.{Compat, State, TheMark, Bank}
use Rattle.dataman_layout.specs.Mark.{PlainMark, plain_mark, plain_marks}
use Rattle.plan_store.specs.StoreState.{StoredPlan, Commit}
use Rattle.plan_store.specs.CanServe.{MarkFits}
use Rattle.bank_state.specs.declared.parts.Parts.{Parts}
use Rattle.bank_state.specs.declared.parts.Doubt.{Doubt}
use Rattle.bank_state.specs.declared.parts.Doubt.TheVariants as doubt
use Rattle.bank_state.specs.Plans.{plan_among, with_plan, changed}
use Rattle.bank_state.specs.StandsFor.{compat_place, state_place, mark_place, IsThisLayout, Names, HasItems, IsMarkOf, HasMark, IsOf}
use Rattle.bank_state.specs.Ledger.{banks_of, Ledger, ledger_of, plan_by, draft_by, holding_in, change_in}
use Rattle.bank_state.specs.Store.{doubts_plan, doubts_mark, BanksStand, MarkStands, HoldsMark, InDoubt, IsStore, MayBe, doubt_in, StandsNow}
use Rattle.bank_state.specs.Frames.{Differ, IsOff, same_or_differ, is_kind_same, items_stay, length-items_in, part_off, state_fills, mark_fills, compat_not_state, mark_not_state, state_not_state, state_not_mark, bank_not_state, bank_not_mark}
use Rattle.bank_state.specs.Standing.{Calm, Shown, calm_of, shown, shown_now, shown_beside, known_holds, doubtful_holds, stands, shows_stand, stands_now, mark_beside, layout_beside, each_held}

-- an image shows all but which bank of a type is named
pub record ShowsBut (parts : Parts) (kind : PlanType) (seen c : List ℕ) : Type 0 where
  pub layout : IsThisLayout (held compat_place c)
  pub each : (k : PlanType) → Differ k kind → Shown k (banks_of parts k).bank (plan_by (ledger_of parts) k seen) c
  pub items : HasItems kind (banks_of parts kind).bank (plan_by (ledger_of parts) kind seen) c
  pub mark : HasMark (plan_by (ledger_of parts) Mission seen) (plain_marks parts.mark) (held mark_place c)

-- a store that may be in doubt of the plan of a type
pub record CalmBut (parts : Parts) (kind : PlanType) (doubted : Bool) (disk : DiskState) : Type 0 where
  pub layout : Every (λ c. IsThisLayout (held compat_place c)) disk
  pub each : (k : PlanType) → Differ k kind → BanksStand k false (banks_of parts k) disk
  pub own : BanksStand kind doubted (banks_of parts kind) disk
  pub mark : MarkStands (plan_by (ledger_of parts) Mission disk.seen) false parts.mark_cell (plain_marks parts.mark) disk

pub calm_but : (parts : Parts) (kind : PlanType) (disk : DiskState) → Calm parts disk → CalmBut parts kind false disk
calm_but parts kind disk calm = record { layout = calm.layout; each = λ k differ. calm.each k; own = calm.each kind; mark = calm.mark }

pub is_kind_not : (a b : PlanType) → Differ b a → is_kind a b ≡ false
is_kind_not Mission Mission differ = absurd (differ refl)
is_kind_not Mission Fence differ = refl
is_kind_not Mission Safe differ = refl
is_kind_not Fence Mission differ = refl
is_kind_not Fence Fence differ = absurd (differ refl)
is_kind_not Fence Safe differ = refl
is_kind_not Safe Mission differ = refl
is_kind_not Safe Fence differ = refl
is_kind_not Safe Safe differ = absurd (differ refl)

-- in doubt of a plan, all else is calm
pub calm_but_plan : (parts : Parts) (kind : PlanType) (head : PlanHead) (disk : DiskState) → parts.doubt ≡ Some (doubt.Plan kind head) → IsStore parts disk → CalmBut parts kind true disk
calm_but_plan parts kind head disk is store = record {
  layout = store.layout;
  each = λ k differ. subst (λ (b : Bool). BanksStand k b (banks_of parts k) disk) (ap (λ (d : Option Doubt). doubts_plan d k) is ∙ is_kind_not kind k differ) (store.each k);
  own = subst (λ (b : Bool). BanksStand kind b (banks_of parts kind) disk) (ap (λ (d : Option Doubt). doubts_plan d kind) is ∙ is_kind_same kind) (store.each kind);
  mark = subst (λ (d : Option Doubt). MarkStands (plan_by (ledger_of parts) Mission disk.seen) (doubts_mark d) parts.mark_cell (plain_marks parts.mark) disk) is store.mark;
}

pub shows_but_now : (parts : Parts) (kind : PlanType) (doubted : Bool) (disk : DiskState) (c : List ℕ) → IsSound disk → CalmBut parts kind doubted disk → disk.images c → ShowsBut parts kind disk.seen c
shows_but_now parts kind doubted disk c sound store left = record {
  layout = store.layout.images c left;
  each = λ k differ. shown_now k (banks_of parts k) disk c sound (store.each k differ) left;
  items = store.own.items.images c left;
  mark = subst (λ (h : Held). HasMark (plan_by (ledger_of parts) Mission disk.seen) (plain_marks parts.mark) h) (sym (known_holds parts.mark_cell mark_place disk c store.mark.place store.mark.known left))
      (store.mark.has (sound.told c left));
}

-- the bytes of the state cell of a type are none of the other parts
pub off_compat : (kind : PlanType) → IsOff (state_place kind).at (2 * (state_place kind).slot_bytes) Compat
off_compat kind = part_off (state_place kind) (State kind) Compat (state_fills kind) (compat_not_state kind)

pub off_mark : (kind : PlanType) → IsOff (state_place kind).at (2 * (state_place kind).slot_bytes) TheMark
off_mark kind = part_off (state_place kind) (State kind) TheMark (state_fills kind) (mark_not_state kind)

pub off_state : (kind k : PlanType) → Differ k kind → IsOff (state_place kind).at (2 * (state_place kind).slot_bytes) (State k)
off_state kind k differ = part_off (state_place kind) (State kind) (State k) (state_fills kind) (state_not_state k kind differ)

pub off_bank : (kind k : PlanType) (bank : ℕ) → IsOff (state_place kind).at (2 * (state_place kind).slot_bytes) (Bank k bank)
off_bank kind k bank = part_off (state_place kind) (State kind) (Bank k bank) (state_fills kind) (bank_not_state k bank kind)

-- those of the mark's cell neither
pub mark_off_compat : IsOff mark_place.at (2 * mark_place.slot_bytes) Compat
mark_off_compat = part_off mark_place TheMark Compat mark_fills (λ same. absurd (omega (arith, same)))

pub mark_off_state : (k : PlanType) → IsOff mark_place.at (2 * mark_place.slot_bytes) (State k)
mark_off_state k = part_off mark_place TheMark (State k) mark_fills (state_not_mark k)

pub mark_off_bank : (k : PlanType) (bank : ℕ) → IsOff mark_place.at (2 * mark_place.slot_bytes) (Bank k bank)
mark_off_bank k bank = part_off mark_place TheMark (Bank k bank) mark_fills (bank_not_mark k bank)

pub held_count : (parts : Parts) (kind : PlanType) (image : List ℕ) → (banks_of parts kind).head.count ≤ limit_of kind → length (plan_by (ledger_of parts) kind image).items ≤ limit_of kind
held_count parts kind image within = omega (arith, length-items_in kind (banks_of parts kind).bank (banks_of parts kind).head.count image, within)

-- a write in that cell leaves it
pub shows_but_beside : (parts : Parts) (kind : PlanType) (seen d c : List ℕ) → ((k : PlanType) → (banks_of parts k).head.count ≤ limit_of k) → Torn (state_place kind).at (2 * (state_place kind).slot_bytes) d c → ShowsBut parts kind seen d
    → ShowsBut parts kind seen c
shows_but_beside parts kind seen d c within torn was = record {
  layout = layout_beside (state_place kind).at (2 * (state_place kind).slot_bytes) d c (off_compat kind) torn was.layout;
  each = λ k differ. shown_beside k (banks_of parts k).bank (plan_by (ledger_of parts) k seen) (state_place kind).at (2 * (state_place kind).slot_bytes) d c (held_count parts k seen (within k)) (off_state kind k differ)
      (off_bank kind k (banks_of parts k).bank) torn (was.each k differ);
  items = items_stay kind (banks_of parts kind).bank (state_place kind).at (2 * (state_place kind).slot_bytes) (plan_by (ledger_of parts) kind seen) d c (held_count parts kind seen (within kind)) (off_bank kind kind (banks_of parts kind).bank) torn was.items;
  mark = mark_beside (plan_by (ledger_of parts) Mission seen) (plain_marks parts.mark) (state_place kind).at (2 * (state_place kind).slot_bytes) d c (off_mark kind) torn was.mark;
}

pub counts_within : (parts : Parts) (kind : PlanType) (doubted : Bool) (disk : DiskState) → CalmBut parts kind doubted disk → (k : PlanType) → (banks_of parts k).head.count ≤ limit_of k
counts_within parts kind doubted disk store k = ⊎_elim (λ same. subst (λ (x : PlanType). (banks_of parts x).head.count ≤ limit_of x) same store.own.count) (λ differ. (store.each k (λ same. differ (sym same))).count) (same_or_differ kind k)

pub all_valid : (parts : Parts) (kind : PlanType) (doubted : Bool) (disk : DiskState) → CalmBut parts kind doubted disk → IsTrue disk.tells → (k : PlanType) → PlanValid k (plan_by (ledger_of parts) k disk.seen).items
all_valid parts kind doubted disk store told k = ⊎_elim (λ same. subst (λ (x : PlanType). PlanValid x (plan_by (ledger_of parts) x disk.seen).items) same (store.own.valid told)) (λ differ. (store.each k (λ same. differ (sym same))).valid told) (same_or_differ kind k)

-- where the cell names the bank in force, the image stands for what is held
pub stands_old : (parts : Parts) (kind : PlanType) (seen c : List ℕ) (h : Held) → ((k : PlanType) → PlanValid k (plan_by (ledger_of parts) k seen).items) → Names kind (banks_of parts kind).bank (banks_of parts kind).head h → held (state_place kind) c ≡ h
    → ShowsBut parts kind seen c → IsOf (holding_in (ledger_of parts) seen) c
stands_old parts kind seen c h valid named holds shows = shows_stand parts seen c valid (record {
  layout = shows.layout;
  each = λ k. ⊎_elim (λ same. subst (λ (x : PlanType). Shown x (banks_of parts x).bank (plan_by (ledger_of parts) x seen) c) same own) (λ differ. shows.each k (λ same. differ (sym same))) (same_or_differ kind k);
  mark = shows.mark;
})
  where
    own : Shown kind (banks_of parts kind).bank (plan_by (ledger_of parts) kind seen) c
    own = shown kind (banks_of parts kind).bank (banks_of parts kind).head seen c h named holds shows.items

-- a mark of the mission before is none of a new one
older_mark : (mission now : StoredPlan) (mark : Option PlainMark) (stored : PlainMark) → mission.id < now.id → IsMarkOf mission mark stored → IsMarkOf now None stored
older_mark mission now None stored newer before = omega (arith, newer, before)
older_mark mission now (Some mark) stored newer is = omega (arith, newer, ap (λ (m : PlainMark). m.id) is.0, is.1.id)

pub has_older : (mission now : StoredPlan) (mark : Option PlainMark) (h : Held) → mission.id < now.id → HasMark mission mark h → HasMark now None h
has_older mission now mark Empty newer has = refl
has_older mission now mark (Twins g) newer has = has
has_older mission now mark (InForce second g payload) newer has = (has.0, has.1, older_mark mission now mark has.0 newer has.2)

-- the plans with one replaced
pub each_planned : (ledger : Ledger) (image : List ℕ) (kind : PlanType) (plan : StoredPlan) (P : PlanType → StoredPlan → Type 0) → P kind plan → ((k : PlanType) → Differ k kind → P k (plan_by ledger k image)) → (k : PlanType)
    → P k (plan_among (with_plan (holding_in ledger image).plans kind plan) k)
each_planned ledger image Mission plan P own each Mission = own
each_planned ledger image Mission plan P own each Fence = each Fence (λ same. absurd (omega (arith, same)))
each_planned ledger image Mission plan P own each Safe = each Safe (λ same. absurd (omega (arith, same)))
each_planned ledger image Fence plan P own each Mission = each Mission (λ same. absurd (omega (arith, same)))
each_planned ledger image Fence plan P own each Fence = own
each_planned ledger image Fence plan P own each Safe = each Safe (λ same. absurd (omega (arith, same)))
each_planned ledger image Safe plan P own each Mission = each Mission (λ same. absurd (omega (arith, same)))
each_planned ledger image Safe plan P own each Fence = each Fence (λ same. absurd (omega (arith, same)))
each_planned ledger image Safe plan P own each Safe = own

-- plans with one replaced, and the mark that is kept, stand for the change
planned : (ledger : Ledger) (seen c : List ℕ) (kind : PlanType) (plan : StoredPlan) (mark : Option PlainMark) → mark ≡ plain_marks ledger.mark → IsThisLayout (held compat_place c)
    → ((k : PlanType) → (bank : ℕ) × Shown k bank (plan_among (with_plan (holding_in ledger seen).plans kind plan) k) c) → ((k : PlanType) → PlanValid k (plan_among (with_plan (holding_in ledger seen).plans kind plan) k).items)
    → (ledger.entries kind).head.id < plan.id → HasMark (plan_by ledger Mission seen) mark (held mark_place c) → IsOf (changed (holding_in ledger seen) (Commit kind plan)) c
planned ledger seen c Mission plan mark is layout each valid newer has = stands (with_plan (holding_in ledger seen).plans Mission plan) None c layout each valid (has_older (plan_by ledger Mission seen) plan mark (held mark_place c) newer has)
planned ledger seen c Fence plan mark is layout each valid newer has =
    stands (with_plan (holding_in ledger seen).plans Fence plan) (plain_marks ledger.mark) c layout each valid (subst (λ (m : Option PlainMark). HasMark (plan_by ledger Mission seen) m (held mark_place c)) is has)
planned ledger seen c Safe plan mark is layout each valid newer has =
    stands (with_plan (holding_in ledger seen).plans Safe plan) (plain_marks ledger.mark) c layout each valid (subst (λ (m : Option PlainMark). HasMark (plan_by ledger Mission seen) m (held mark_place c)) is has)

-- where the cell names the spare bank, the image stands for the change
pub stands_new : (parts : Parts) (kind : PlanType) (head : PlanHead) (seen c : List ℕ) (h : Held) → ((k : PlanType) → PlanValid k (plan_by (ledger_of parts) k seen).items) → (banks_of parts kind).head.id < head.id
    → Names kind (1 - (banks_of parts kind).bank) head h → held (state_place kind) c ≡ h → HasItems kind (1 - (banks_of parts kind).bank) (draft_by (ledger_of parts) kind head seen) c
    → PlanValid kind (draft_by (ledger_of parts) kind head seen).items → ShowsBut parts kind seen c → IsOf (changed (holding_in (ledger_of parts) seen) (change_in (ledger_of parts) (doubt.Plan kind head) seen)) c
stands_new parts kind head seen c h valid newer named holds items good shows =
    let ledger = ledger_of parts in
    let draft = draft_by ledger kind head seen in
    planned ledger seen c kind draft (plain_marks parts.mark) refl shows.layout
    (each_planned ledger seen kind draft (λ k plan. (bank : ℕ) × Shown k bank plan c) (1 - (banks_of parts kind).bank, shown kind (1 - (banks_of parts kind).bank) head seen c h named holds items)
    (λ k differ. ((banks_of parts k).bank, shows.each k differ)))
    (each_planned ledger seen kind draft (λ k plan. PlanValid k plan.items) good (λ k differ. valid k)) newer shows.mark

-- an image shows all but the mark
pub record ShowsPlans (parts : Parts) (seen c : List ℕ) : Type 0 where
  pub layout : IsThisLayout (held compat_place c)
  pub each : (k : PlanType) → Shown k (banks_of parts k).bank (plan_by (ledger_of parts) k seen) c

-- a store that may be in doubt of the mark
pub record CalmPlans (parts : Parts) (doubted : Bool) (disk : DiskState) : Type 0 where
  pub layout : Every (λ c. IsThisLayout (held compat_place c)) disk
  pub each : (k : PlanType) → BanksStand k false (banks_of parts k) disk
  pub mark : MarkStands (plan_by (ledger_of parts) Mission disk.seen) doubted parts.mark_cell (plain_marks parts.mark) disk

pub calm_plans : (parts : Parts) (disk : DiskState) → Calm parts disk → CalmPlans parts false disk
calm_plans parts disk calm = record { layout = calm.layout; each = calm.each; mark = calm.mark }

pub calm_but_mark : (parts : Parts) (mark : _) (disk : DiskState) → parts.doubt ≡ Some (doubt.Mark mark) → IsStore parts disk → CalmPlans parts true disk
calm_but_mark parts mark disk is store = record {
  layout = store.layout;
  each = λ k. subst (λ (d : Option Doubt). BanksStand k (doubts_plan d k) (banks_of parts k) disk) is (store.each k);
  mark = subst (λ (d : Option Doubt). MarkStands (plan_by (ledger_of parts) Mission disk.seen) (doubts_mark d) parts.mark_cell (plain_marks parts.mark) disk) is store.mark;
}

pub shows_plans_now : (parts : Parts) (doubted : Bool) (disk : DiskState) (c : List ℕ) → IsSound disk → CalmPlans parts doubted disk → disk.images c → ShowsPlans parts disk.seen c
shows_plans_now parts doubted disk c sound store left = record { layout = store.layout.images c left; each = λ k. shown_now k (banks_of parts k) disk c sound (store.each k) left }

pub shows_plans_beside : (parts : Parts) (seen d c : List ℕ) → ((k : PlanType) → (banks_of parts k).head.count ≤ limit_of k) → Torn mark_place.at (2 * mark_place.slot_bytes) d c → ShowsPlans parts seen d → ShowsPlans parts seen c
shows_plans_beside parts seen d c within torn was = record {
  layout = layout_beside mark_place.at (2 * mark_place.slot_bytes) d c mark_off_compat torn was.layout;
  each = λ k. shown_beside k (banks_of parts k).bank (plan_by (ledger_of parts) k seen) mark_place.at (2 * mark_place.slot_bytes) d c (held_count parts k seen (within k)) (mark_off_state k) (mark_off_bank k (banks_of parts k).bank) torn (was.each k);
}

pub stands_marked : (parts : Parts) (seen c : List ℕ) (h : Held) → ((k : PlanType) → PlanValid k (plan_by (ledger_of parts) k seen).items) → HasMark (plan_by (ledger_of parts) Mission seen) (plain_marks parts.mark) h → held mark_place c ≡ h
    → ShowsPlans parts seen c → IsOf (holding_in (ledger_of parts) seen) c
stands_marked parts seen c h valid has holds shows = shows_stand parts seen c valid (record {
  layout = shows.layout;
  each = shows.each;
  mark = subst (λ (x : Held). HasMark (plan_by (ledger_of parts) Mission seen) (plain_marks parts.mark) x) (sym holds) has;
})

-- the cell has a mark that fits
pub has_fitting : (mission : StoredPlan) (mark : PlainMark) (h : Held) → MarkFits mark mission → HoldsMark mark h → HasMark mission (Some mark) h
has_fitting mission mark Empty fits holds = absurd holds
has_fitting mission mark (Twins g) fits holds = holds
has_fitting mission mark (InForce second g payload) fits holds = (mark, holds, (refl, fits))

pub stands_remarked : (parts : Parts) (seen c : List ℕ) (mark : _) (h : Held) → ((k : PlanType) → PlanValid k (plan_by (ledger_of parts) k seen).items) → MarkFits (plain_mark mark) (plan_by (ledger_of parts) Mission seen) → HoldsMark (plain_mark mark) h
    → held mark_place c ≡ h → ShowsPlans parts seen c → IsOf (changed (holding_in (ledger_of parts) seen) (change_in (ledger_of parts) (doubt.Mark mark) seen)) c
stands_remarked parts seen c mark h valid fits holds is shows = stands (holding_in (ledger_of parts) seen).plans (Some (plain_mark mark)) c shows.layout
    (each_held (ledger_of parts) seen (λ kind plan. (bank : ℕ) × Shown kind bank plan c) (λ kind. ((banks_of parts kind).bank, shows.each kind)))
    (each_held (ledger_of parts) seen (λ kind plan. PlanValid kind plan.items) valid)
    (has_fitting (plan_by (ledger_of parts) Mission seen) (plain_mark mark) (held mark_place c) fits (subst (λ (x : Held). HoldsMark (plain_mark mark) x) (sym is) holds))

by_doubt : (parts : Parts) (disk : DiskState) (c : List ℕ) (change : Option Doubt) → IsSound disk → parts.doubt ≡ change → IsStore parts disk → InDoubt parts change disk → disk.images c
    → MayBe (holding_in (ledger_of parts) disk.seen) (doubt_in (ledger_of parts) change disk.seen) c
by_doubt parts disk c None sound is store in_doubt left = stands_now parts disk c sound (calm_of parts disk is store) left
by_doubt parts disk c (Some (doubt.Plan kind head)) sound is store in_doubt left =
    let calm = calm_but_plan parts kind head disk is store in
    let told = sound.told c left in
    let valid = all_valid parts kind true disk calm told in
    let shows = shows_but_now parts kind true disk c sound calm left in
    ⊎_elim
    (λ was. inl (stands_old parts kind disk.seen c (in_force (banks_of parts kind).cell disk) valid (calm.own.named told) was shows))
    (λ next. inr (stands_new parts kind head disk.seen c (next_of (banks_of parts kind).cell disk) valid in_doubt.newer (in_doubt.named told) next (in_doubt.items.images c left) (in_doubt.valid told) shows))
    (doubtful_holds (banks_of parts kind).cell (state_place kind) disk c calm.own.place calm.own.known left)
by_doubt parts disk c (Some (doubt.Mark mark)) sound is store in_doubt left =
    let calm = calm_but_mark parts mark disk is store in
    let told = sound.told c left in
    let valid : (k : PlanType) → PlanValid k (plan_by (ledger_of parts) k disk.seen).items = λ k. (calm.each k).valid told in
    let shows = shows_plans_now parts true disk c sound calm left in
    ⊎_elim
    (λ was. inl (stands_marked parts disk.seen c (in_force parts.mark_cell disk) valid (calm.mark.has told) was shows))
    (λ next. inr (stands_remarked parts disk.seen c mark (next_of parts.mark_cell disk) valid (in_doubt.fits told) (in_doubt.held told) next shows))
    (doubtful_holds parts.mark_cell mark_place disk c calm.mark.place calm.mark.known left)

-- each image of a store stands for what is held, or for that with the change in doubt
pub store_stands : (parts : Parts) (disk : DiskState) → IsSound disk → IsStore parts disk → (c : List ℕ) → disk.images c → StandsNow (ledger_of parts) disk c
store_stands parts disk sound store c left = by_doubt parts disk c parts.doubt sound refl store store.in_doubt left
