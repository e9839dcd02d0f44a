-- A doubt that is settled, or not.
use Rattle.std.proofs.Common.{◌≡◌, ◌⊎◌, ◌*◌, ℕ, true, false, IsTrue, List, Option, Some, None, inl, inr, ⊎_elim, refl, sym, ap, subst, ◌∙◌}
use Rattle.mission_model.specs.declared.plan.PlanType.{PlanType}
use Rattle.mission_model.specs.declared.plan.PlanType.TheVariants.{Mission, Fence, Safe}
use Rattle.mission_model.specs.declared.plan.PlanHead.{PlanHead}
use Rattle.mission_model.specs.PlanCode.{PlanValid}
use Rattle.disk_model.specs.Disk.{DiskState, IsSound}
use Rattle.disk_model.specs.Every.{Image}
use Rattle.disk_model.specs.Moments.{LeavesOnly, leaves_weaker}
use Rattle.gated_cell.specs.declared.place.CellPlace.{CellPlace}
use Rattle.gated_cell.specs.declared.cell.GatedCell.{GatedCell}
use Rattle.gated_cell.specs.Cell.{Held, held, Known, Doubtful, SameChoice, in_force, next_of, AtEachMoment}
use Rattle.bank_state.specs.declared.parts.Parts.{Parts}
use Rattle.bank_state.specs.declared.parts.Doubt.{Doubt}
use Rattle.bank_state.specs.declared.parts.Doubt.TheVariants as doubt
use Rattle.bank_state.specs.StandsFor.{state_place, mark_place}
use Rattle.bank_state.specs.Ledger.{banks_of, with_banks, cell_of, after_settling, ledger_of, plan_by, holding_in}
use Rattle.bank_state.specs.Store.{InDoubt, PlanInDoubt, IsStore, SameRecords, MayBe, doubt_in, StandsNow}
use Rattle.bank_state.specs.Moments.{CalmBut, CalmPlans, calm_but_plan, calm_but_mark, all_valid, stands_old, stands_new, stands_marked, stands_remarked}
use Rattle.bank_state.proofs.PlanChange as plan
use Rattle.bank_state.proofs.MarkChange as mark

-- what is in force in a cell, or stands behind its gate
abbrev pub Either : GatedCell → DiskState → Held → Type 0
Either cell old h = (h ≡ in_force cell old) ⊎ (h ≡ next_of cell old)

-- the run in the bytes of a place of the store
there : (a b : CellPlace) (P : Held → Type 0) (old new : DiskState) → a ≡ b → AtEachMoment a old new P → AtEachMoment b old new P
there a b P old new same run = subst (λ (p : CellPlace). AtEachMoment p old new P) same run

unchanged : (parts : Parts) (kind : PlanType) → record (with_banks parts kind (record (banks_of parts kind) { cell = (banks_of parts kind).cell })) { doubt = parts.doubt } ≡ parts
unchanged parts Mission = refl
unchanged parts Fence = refl
unchanged parts Safe = refl

module _ (parts : Parts) (old new : DiskState) (sound_old : IsSound old) (sound : IsSound new) (store : IsStore parts old) where
  in_doubt : (change : Doubt) → parts.doubt ≡ Some change → InDoubt parts (Some change) old
  in_doubt change is = subst (λ (d : Option Doubt). InDoubt parts d old) is store.in_doubt

  module _ (kind : PlanType) (head : PlanHead) (is : parts.doubt ≡ Some (doubt.Plan kind head)) (run : AtEachMoment (banks_of parts kind).cell.place old new (Either (banks_of parts kind).cell old)) where
    abbrev calm : CalmBut parts kind true old
    calm = calm_but_plan parts kind head old is store

    abbrev here : AtEachMoment (state_place kind) old new (Either (banks_of parts kind).cell old)
    here = there (banks_of parts kind).cell.place (state_place kind) (Either (banks_of parts kind).cell old) old new calm.own.place run

    abbrev Q : List ℕ → Type 0
    Q c = Either (banks_of parts kind).cell old (held (state_place kind) c)

    plan_records : IsTrue new.tells → SameRecords old new
    plan_records = plan.records parts kind true Q old new sound_old sound calm here

    plan_settled : (cell : GatedCell) → cell ≡ record (banks_of parts kind).cell { spare_closed = true; doubt = false } → Known cell new → (IsTrue new.tells → in_force cell new ≡ in_force (banks_of parts kind).cell old)
        → IsStore (after_settling parts (doubt.Plan kind head) cell) new
    plan_settled cell becomes known same = plan.store_calm parts kind true Q old new sound_old sound calm here cell None refl store.room (ap (λ (x : GatedCell). x.place) becomes ∙ calm.own.place)
        (ap (λ (x : GatedCell). x.doubt) becomes) known same

    plan_doubted : Doubtful (banks_of parts kind).cell new → (IsTrue new.tells → SameChoice (banks_of parts kind).cell old (banks_of parts kind).cell new) → IsStore parts new
    plan_doubted doubtful both = subst (λ (p : Parts). IsStore p new) (unchanged parts kind)
        (plan.store_doubted parts kind true Q old new sound_old sound calm here (banks_of parts kind).cell head parts.doubt is store.room calm.own.place calm.own.flag doubtful (λ told. (both told).in_force)
        (plan.doubt_kept parts kind true Q old new sound_old sound calm here (banks_of parts kind).cell head (in_doubt (doubt.Plan kind head) is) (λ told. (both told).next)))

    plan_moments : LeavesOnly old new (MayBe (holding_in (ledger_of parts) old.seen) (doubt_in (ledger_of parts) (Some (doubt.Plan kind head)) old.seen))
    plan_moments = leaves_weaker old new (Image (state_place kind).at (2 * (state_place kind).slot_bytes) old Q) (MayBe (holding_in (ledger_of parts) old.seen) (doubt_in (ledger_of parts) (Some (doubt.Plan kind head)) old.seen)) each here.moments
      where
        each : (c : List ℕ) → Image (state_place kind).at (2 * (state_place kind).slot_bytes) old Q c → MayBe (holding_in (ledger_of parts) old.seen) (doubt_in (ledger_of parts) (Some (doubt.Plan kind head)) old.seen) c
        each c image =
            let told = plan.image_told parts kind true Q old new sound_old sound calm here c Q image in
            let shows = plan.image_shows parts kind true Q old new sound_old sound calm here c Q image in
            let valid = all_valid parts kind true old calm told in
            let change : PlanInDoubt kind (banks_of parts kind) head old = in_doubt (doubt.Plan kind head) is in
            ⊎_elim
            (λ was. inl (stands_old parts kind old.seen c (in_force (banks_of parts kind).cell old) valid (calm.own.named told) was shows))
            (λ next. inr (stands_new parts kind head old.seen c (next_of (banks_of parts kind).cell old) valid change.newer (change.named told) next
            (plan.items_stay_in parts kind true Q old new sound_old sound calm here c Q image head change.within change.items) (change.valid told) shows))
            image.holds

  module _ (m : _) (is : parts.doubt ≡ Some (doubt.Mark m)) (run : AtEachMoment parts.mark_cell.place old new (Either parts.mark_cell old)) where
    abbrev calm_m : CalmPlans parts true old
    calm_m = calm_but_mark parts m old is store

    abbrev here_m : AtEachMoment mark_place old new (Either parts.mark_cell old)
    here_m = there parts.mark_cell.place mark_place (Either parts.mark_cell old) old new calm_m.mark.place run

    abbrev Q_m : List ℕ → Type 0
    Q_m c = Either parts.mark_cell old (held mark_place c)

    mark_records : IsTrue new.tells → SameRecords old new
    mark_records = mark.records parts true Q_m old new sound_old sound calm_m here_m

    mark_settled : (cell : GatedCell) → cell ≡ record parts.mark_cell { spare_closed = true; doubt = false } → Known cell new → (IsTrue new.tells → in_force cell new ≡ in_force parts.mark_cell old)
        → IsStore (after_settling parts (doubt.Mark m) cell) new
    mark_settled cell becomes known same = mark.store_calm parts true Q_m old new sound_old sound calm_m here_m cell None refl store.room (ap (λ (x : GatedCell). x.place) becomes ∙ calm_m.mark.place)
        (ap (λ (x : GatedCell). x.doubt) becomes) known same

    mark_doubted : Doubtful parts.mark_cell new → (IsTrue new.tells → SameChoice parts.mark_cell old parts.mark_cell new) → IsStore parts new
    mark_doubted doubtful both = mark.store_doubted parts true Q_m old new sound_old sound calm_m here_m parts.mark_cell m parts.doubt is store.room calm_m.mark.place calm_m.mark.flag doubtful (λ told. (both told).in_force)
        (mark.doubt_kept parts true Q_m old new sound_old sound calm_m here_m parts.mark_cell _ (in_doubt (doubt.Mark m) is) (λ told. (both told).next))

    mark_moments : LeavesOnly old new (MayBe (holding_in (ledger_of parts) old.seen) (doubt_in (ledger_of parts) (Some (doubt.Mark m)) old.seen))
    mark_moments = leaves_weaker old new (Image mark_place.at (2 * mark_place.slot_bytes) old Q_m) (MayBe (holding_in (ledger_of parts) old.seen) (doubt_in (ledger_of parts) (Some (doubt.Mark m)) old.seen)) each here_m.moments
      where
        each : (c : List ℕ) → Image mark_place.at (2 * mark_place.slot_bytes) old Q_m c → MayBe (holding_in (ledger_of parts) old.seen) (doubt_in (ledger_of parts) (Some (doubt.Mark m)) old.seen) c
        each c image =
            let told = mark.image_told parts true Q_m old new sound_old sound calm_m here_m c Q_m image in
            let shows = mark.image_shows parts true Q_m old new sound_old sound calm_m here_m c Q_m image in
            let valid : (k : PlanType) → PlanValid k (plan_by (ledger_of parts) k old.seen).items = λ k. (calm_m.each k).valid told in
            let change = in_doubt (doubt.Mark m) is in
            ⊎_elim
            (λ was. inl (stands_marked parts old.seen c (in_force parts.mark_cell old) valid (calm_m.mark.has told) was shows))
            (λ next. inr (stands_remarked parts old.seen c m (next_of parts.mark_cell old) valid (change.fits told) (change.held told) next shows))
            image.holds

  -- the same of whatever is in doubt
  pub records : (change : Doubt) → parts.doubt ≡ Some change → AtEachMoment (cell_of parts change).place old new (Either (cell_of parts change) old) → IsTrue new.tells → SameRecords old new
  records (doubt.Plan kind head) is run = plan_records kind head is run
  records (doubt.Mark m) is run = mark_records m is run

  pub settled : (change : Doubt) (cell : GatedCell) → parts.doubt ≡ Some change → AtEachMoment (cell_of parts change).place old new (Either (cell_of parts change) old) → cell ≡ record (cell_of parts change) { spare_closed = true; doubt = false }
      → Known cell new → (IsTrue new.tells → in_force cell new ≡ in_force (cell_of parts change) old) → IsStore (after_settling parts change cell) new
  settled (doubt.Plan kind head) cell is run becomes known same = plan_settled kind head is run cell becomes known same
  settled (doubt.Mark m) cell is run becomes known same = mark_settled m is run cell becomes known same

  pub doubted : (change : Doubt) → parts.doubt ≡ Some change → AtEachMoment (cell_of parts change).place old new (Either (cell_of parts change) old) → Doubtful (cell_of parts change) new
      → (IsTrue new.tells → SameChoice (cell_of parts change) old (cell_of parts change) new) → IsStore parts new
  doubted (doubt.Plan kind head) is run doubtful both = plan_doubted kind head is run doubtful both
  doubted (doubt.Mark m) is run doubtful both = mark_doubted m is run doubtful both

  moments_by : (change : Doubt) → parts.doubt ≡ Some change → AtEachMoment (cell_of parts change).place old new (Either (cell_of parts change) old)
      → LeavesOnly old new (MayBe (holding_in (ledger_of parts) old.seen) (doubt_in (ledger_of parts) (Some change) old.seen))
  moments_by (doubt.Plan kind head) is run = plan_moments kind head is run
  moments_by (doubt.Mark m) is run = mark_moments m is run

  pub moments : (change : Doubt) → parts.doubt ≡ Some change → AtEachMoment (cell_of parts change).place old new (Either (cell_of parts change) old) → LeavesOnly old new (StandsNow (ledger_of parts) old)
  moments change is run = subst (λ (d : Option Doubt). LeavesOnly old new (MayBe (holding_in (ledger_of parts) old.seen) (doubt_in (ledger_of parts) d old.seen))) (sym is) (moments_by change is run)
