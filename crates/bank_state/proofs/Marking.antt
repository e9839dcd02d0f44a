-- A mark that is stored: one change of the mark's cell.
use Rattle.dataman_layout.specs.Layouts.{most_pairs}
use Rattle.dataman_layout.specs.declared.layout.Layout.TheVariants.{Two}
use Rattle.std.proofs.Common.{◌≡◌, ◌⊎◌, ◌*◌, ◌-◌, ◌^◌, ℕ, Bool, true, false, cond, IsTrue, List, Option, Some, None, inl, inr, ⊎_elim, sym, ap, subst, ◌∙◌}
use Rattle.std.specs.Prelude.{Result, Ok, Err, IfErr}
use Rattle.mission_model.specs.declared.counts.Mark.{Mark}
use Rattle.mission_model.specs.declared.plan.PlanType.{PlanType}
use Rattle.mission_model.specs.declared.plan.PlanType.TheVariants.{Mission}
use Rattle.mission_model.specs.PlanCode.{PlanValid}
use Rattle.disk_model.specs.Bytes.{Torn}
use Rattle.disk_model.specs.Disk.{DiskState, IsSound}
use Rattle.disk_model.specs.Every.{Image, Run}
use Rattle.disk_model.specs.Moments.{LeavesOnly, leaves_weaker}
use Rattle.gated_cell.specs.declared.place.CellPlace.{CellPlace}
use Rattle.gated_cell.specs.declared.cell.GatedCell.{GatedCell}
use Rattle.gated_cell.specs.declared.fault.CellFault.{CellFault}
use Rattle.gated_cell.specs.declared.fault.CellFault.TheVariants as cell_fault
use Rattle.gated_cell.specs.Cell.{Held, held, Known, in_force, opened}
use Rattle.dataman_layout.specs.Mark.{MarkRecord, plain_mark}
use Rattle.plan_store.specs.StoreState.{StoredPlan}
use Rattle.plan_store.specs.CanServe.{MarkFits}
use Rattle.bank_state.specs.declared.parts.Parts.{Parts}
use Rattle.bank_state.specs.declared.parts.Doubt.{Doubt}
use Rattle.bank_state.specs.declared.parts.Doubt.TheVariants as doubt
use Rattle.bank_state.specs.Plans.{changed}
use Rattle.bank_state.specs.StandsFor.{mark_place, IsOf}
use Rattle.bank_state.specs.Ledger.{after_mark, after_refusal, ledger_of, plan_by, holding_in, change_in}
use Rattle.bank_state.specs.Store.{HoldsMark, IsStore, SameRecords}
use Rattle.bank_state.specs.Swap.{next_with, Swaps, Unopened, HalfOpen, Leaves, NotDone}
use Rattle.bank_state.specs.Outcomes.{LedgerAfter, StoreAfter}
use Rattle.bank_state.specs.Standing.{calm_of, known_holds}
use Rattle.bank_state.specs.Moments.{CalmPlans, ShowsPlans, calm_plans, has_fitting, shows_plans_now, shows_plans_beside, stands_marked, stands_remarked}
use Rattle.bank_state.proofs.MarkChange.{store_with, store_calm, store_doubted, image_shows, image_told, mission_same}
use Rattle.bank_state.proofs.MarkChange as change
use Rattle.bank_state.proofs.Refusing.{calm_choice, doubt_choice, unopened_flag, unopened_place, unopened_generation}

module _ (parts : Parts) (mark : Mark) (payload : List ℕ) (old new : DiskState) (sound_old : IsSound old) (sound : IsSound new) (store : IsStore parts old) (calm : parts.doubt ≡ None)
    (holds : MarkRecord (most_pairs Two) payload (plain_mark mark)) (fits : IsTrue old.tells → MarkFits (plain_mark mark) (plan_by (ledger_of parts) Mission old.seen))
    (run : Run parts.mark_cell.place.at (2 * parts.mark_cell.place.slot_bytes) (Swaps parts.mark_cell payload old) old new) where
  abbrev cell : GatedCell
  cell = parts.mark_cell

  abbrev at : ℕ
  at = mark_place.at

  abbrev n : ℕ
  n = 2 * mark_place.slot_bytes

  abbrev before : CalmPlans parts false old
  before = calm_plans parts old (calm_of parts old calm store)

  abbrev Q : List ℕ → Type 0
  Q c = (held mark_place c ≡ in_force cell old) ⊎ ((held mark_place c ≡ next_with cell payload) × Torn at n old.seen c)

  here : Run at n Q old new
  here = subst (λ (p : CellPlace). Run p.at (2 * p.slot_bytes) (λ c. (held p c ≡ in_force cell old) ⊎ ((held p c ≡ next_with cell payload) × Torn p.at (2 * p.slot_bytes) old.seen c)) old new) before.mark.place run

  told_before : IsTrue new.tells → IsTrue old.tells
  told_before told = subst (λ (b : Bool). IsTrue b) here.tells told

  pub records : IsTrue new.tells → SameRecords old new
  records = change.records parts false Q old new sound_old sound before here

  abbrev Old : List ℕ → Type 0
  Old = IsOf (holding_in (ledger_of parts) old.seen)

  abbrev New : List ℕ → Type 0
  New = IsOf (changed (holding_in (ledger_of parts) old.seen) (change_in (ledger_of parts) (doubt.Mark mark) old.seen))

  all_valid : IsTrue old.tells → (k : PlanType) → PlanValid k (plan_by (ledger_of parts) k old.seen).items
  all_valid told k = (before.each k).valid told

  new_in : (c : List ℕ) → IsTrue old.tells → held mark_place c ≡ next_with cell payload → ShowsPlans parts old.seen c → New c
  new_in c told next shows = stands_remarked parts old.seen c mark (next_with cell payload) (all_valid told) (fits told) holds next shows

  pub moments : LeavesOnly old new (λ c. Old c ⊎ New c)
  moments = leaves_weaker old new (Image at n old Q) (λ c. Old c ⊎ New c) each here.moments
    where
      each : (c : List ℕ) → Image at n old Q c → Old c ⊎ New c
      each c image =
          let told = image_told parts false Q old new sound_old sound before here c Q image in
          let shows = image_shows parts false Q old new sound_old sound before here c Q image in
          ⊎_elim
          (λ was. inl (stands_marked parts old.seen c (in_force cell old) (all_valid told) (before.mark.has told) was shows))
          (λ next. inr (new_in c told next.0 shows))
          image.holds

  fits_still : IsTrue new.tells → MarkFits (plain_mark mark) (plan_by (ledger_of parts) Mission new.seen)
  fits_still told = subst (λ (m : StoredPlan). MarkFits (plain_mark mark) m) (sym (mission_same parts false Q old new sound_old sound before here told)) (fits (told_before told))

  -- the mark is in force
  pub done : (now : GatedCell) → now ≡ opened cell → Known now new → (IsTrue new.tells → in_force now new ≡ next_with cell payload) → IsStore (after_mark parts now mark) new
  done now becomes known next = store_with parts false Q old new sound_old sound before here now (Some mark) parts.doubt calm store.room (record {
    place = ap (λ (x : GatedCell). x.place) becomes ∙ before.mark.place;
    flag = ap (λ (x : GatedCell). x.doubt) becomes;
    known = known;
    has = λ told. has_fitting (plan_by (ledger_of parts) Mission new.seen) (plain_mark mark) (in_force now new) (fits_still told) (subst (λ (h : Held). HoldsMark (plain_mark mark) h) (sym (next told)) holds);
  })

  -- and each image stands for it
  pub stands_done : (now : GatedCell) → now ≡ opened cell → Known now new → (IsTrue new.tells → in_force now new ≡ next_with cell payload) → (c : List ℕ) → new.images c → New c
  stands_done now becomes known next c left =
      let told = sound.told c left in
      let is = known_holds now mark_place new c (ap (λ (x : GatedCell). x.place) becomes ∙ before.mark.place) known left ∙ next told in
      let from = here.within c left in
      let shows = shows_plans_beside parts old.seen from.0 c (λ k. (before.each k).count) from.2 (shows_plans_now parts false old from.0 sound_old before from.1) in
      new_in c (told_before told) is shows

  -- what was in force is, where the change was refused before the gate was opened
  unopened : (now : GatedCell) → Unopened cell old now new → IsStore (after_refusal parts (doubt.Mark mark) now) new
  unopened now left =
      let flag = unopened_flag cell now before.mark.flag left.is in
      store_calm parts false Q old new sound_old sound before here now (cond now.doubt (Some (doubt.Mark mark)) parts.doubt) (calm_choice parts (doubt.Mark mark) now.doubt flag ∙ calm) store.room
      (unopened_place cell now left.is ∙ before.mark.place) flag left.known left.same

  half : (now : GatedCell) → HalfOpen cell payload old true now new → IsStore (after_refusal parts (doubt.Mark mark) now) new
  half now left =
      let flag = ap (λ (x : GatedCell). x.doubt) left.is in
      store_doubted parts false Q old new sound_old sound before here now mark (cond now.doubt (Some (doubt.Mark mark)) parts.doubt) (doubt_choice parts (doubt.Mark mark) now.doubt flag) store.room
      (ap (λ (x : GatedCell). x.place) left.is ∙ before.mark.place) flag left.doubtful left.same (record { held = λ told. subst (λ (h : Held). HoldsMark (plain_mark mark) h) (sym (left.next told)) holds; fits = fits_still })

  same_parts : (now : GatedCell) → now ≡ cell → after_refusal parts (doubt.Mark mark) now ≡ parts
  same_parts now is =
      ap (λ (x : GatedCell). after_refusal parts (doubt.Mark mark) x) is
      ∙ ap (λ (d : Option Doubt). record parts { doubt = d }) (calm_choice parts (doubt.Mark mark) cell.doubt before.mark.flag)

  pub kept : (r : Result (Unit {0}) CellFault) (now : GatedCell) → (cell.generation ≡ 2 ^ 64 - 1 → new ≡ old) → IfErr r (NotDone cell.generation old.meter new.meter) → IfErr r (Leaves cell payload old now new)
      → IfErr r (StoreAfter (after_refusal parts (doubt.Mark mark) now) new)
  kept (Ok u) now spent refused left = tt
  kept (Err cell_fault.Failed) now spent refused left = ⊎_elim (unopened now) (half now) left
  kept (Err cell_fault.Cut) now spent refused left = tt
  kept (Err (cell_fault.Spent g)) now spent refused left =
      subst (λ (p : Parts). IsStore p new) (sym (same_parts now left)) (subst (λ (d : DiskState). IsStore parts d) (sym (spent refused.1)) store)
  kept (Err (cell_fault.Twins g)) now spent refused left = absurd left

  refused_ledger : (now : GatedCell) (d : Option Doubt) → now.generation ≡ cell.generation → cond now.doubt (Some (doubt.Mark mark)) parts.doubt ≡ d → ledger_of (after_refusal parts (doubt.Mark mark) now) ≡ record (ledger_of parts) { doubt = d }
  refused_ledger now d same is = λ i. record (ledger_of parts) { mark_generation = same i; doubt = is i }

  ledger_unopened : (now : GatedCell) → Unopened cell old now new → ledger_of (after_refusal parts (doubt.Mark mark) now) ≡ ledger_of parts
  ledger_unopened now left = refused_ledger now parts.doubt (unopened_generation cell now left.is) (calm_choice parts (doubt.Mark mark) now.doubt (unopened_flag cell now before.mark.flag left.is))

  pub ledger : (r : Result (Unit {0}) CellFault) (now : GatedCell) → IfErr r (Leaves cell payload old now new) → IfErr r (LedgerAfter (doubt.Mark mark) (ledger_of parts) (ledger_of (after_refusal parts (doubt.Mark mark) now)))
  ledger (Ok u) now left = tt
  ledger (Err cell_fault.Failed) now left = ⊎_elim
      (λ one. inl (ledger_unopened now one))
      (λ one. inr (refused_ledger now (Some (doubt.Mark mark)) (ap (λ (x : GatedCell). x.generation) one.is) (doubt_choice parts (doubt.Mark mark) now.doubt (ap (λ (x : GatedCell). x.doubt) one.is))))
      left
  ledger (Err cell_fault.Cut) now left = ⊎_elim
      (λ one. ledger_unopened now one)
      (λ one. refused_ledger now parts.doubt (ap (λ (x : GatedCell). x.generation) one.is) (calm_choice parts (doubt.Mark mark) now.doubt (ap (λ (x : GatedCell). x.doubt) one.is)))
      left
  ledger (Err (cell_fault.Spent g)) now left = ap ledger_of (same_parts now left)
  ledger (Err (cell_fault.Twins g)) now left = absurd left
