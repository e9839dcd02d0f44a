-- A mark within its mission, over any disk.
use Rattle.std.specs.Prelude.{◌≡◌, ◌≤◌, ℕ, List, length, Option, Some, None, IfSome, unwrap_or}
use Rattle.std.proofs.Common.{refl, sym, ap, subst, arith, ◌∙◌}
use Rattle.std.proofs.lemmas.Option.{slice_get_within}
use Rattle.mission_model.specs.declared.counts.Counts.{Counts}
use Rattle.mission_model.specs.declared.counts.Mark.{Mark}
use Rattle.mission_model.specs.declared.plan.PlanHead.{PlanHead}
use Rattle.mission_model.specs.declared.plan.PlanType.{PlanType}
use Rattle.mission_model.specs.declared.plan.PlanType.TheVariants.{Mission, Fence, Safe}
use Rattle.mission_model.specs.declared.vehicle.BootState.{BootState}
use Rattle.mission_model.specs.BootStates.{StateInLimits}
use Rattle.mission_model.specs.PlainMark.{PlainMark, plain_mark}
use Rattle.mission_model.specs.PlanTypes.{limit_of, head_of}
use Rattle.dataman_layout.specs.Mark.{plain_marks}
use Rattle.dataman_layout.specs.declared.layout.Layout.TheVariants.{Two}
use Rattle.plan_store.specs.StoreState.{StoredPlan, first_mark}
use Rattle.plan_store.specs.CanServe.{MarkFits}
use Rattle.bank_state.specs.Plans as plans
use Rattle.bank_state.specs.StandsFor.{IsMarkOf}
use Rattle.bank_state.specs.Ledger.{ledger_of}
use Rattle.recovery.specs.declared.finding.Found.{Found}
use Rattle.recovery.specs.Booting.{parts_of}
use Rattle.recovery.specs.Faults.{unfit}
use Rattle.recovery.specs.Found.{HasJumps, HasJumpsOf, IsWithin, AreStates}
use Rattle.recovery.specs.Standing.{kept_of, TellsBanks}
use Rattle.recovery.proofs.Faultless.{mark_is}

-- a mark that fits a plan stands within it
fits_within : (plan : StoredPlan) (head : PlanHead) (mark : PlainMark) → plans.head_of plan ≡ head → MarkFits mark plan → IsWithin head mark
fits_within plan head mark is fits =
    let id : plan.id ≡ head.id = ap (λ (h : PlanHead). h.id) is in
    let count : length plan.items ≡ head.count = ap (λ (h : PlanHead). h.count) is in
    record {
      id = fits.id ∙ id;
      index = omega (arith, fits.index, count);
      pairs = λ k d below. let used = fits.jumps k d below in omega (arith, slice_get_within plan.items _ used.0 used.2, count);
    }

-- what the mission's jumps allow
abbrev pub Allowed : PlanHead → Counts → Option PlainMark → Option PlainMark → Type 0
Allowed mission jumps found mark = (plan : StoredPlan) → plans.head_of plan ≡ mission → HasJumps plan.items jumps → (unfit plan found ≡ None) × (mark ≡ kept_of mission.id found)

within_by : (mission : PlanHead) (plan : StoredPlan) (found : Option PlainMark) (mark : Mark) → plans.head_of plan ≡ mission → unfit plan found ≡ None → Some (plain_mark mark) ≡ kept_of mission.id found → IsWithin mission (plain_mark mark)
within_by mission plan None mark is none kept = absurd cc
within_by mission plan (Some stored) mark is none kept =
    let id : plan.id ≡ mission.id = ap (λ (h : PlanHead). h.id) is in
    let of_mission : IsMarkOf plan (Some (plain_mark mark)) stored = subst (λ (o : Option PlainMark). IsMarkOf plan o stored) (ap (λ (n : ℕ). kept_of n (Some stored)) id ∙ sym kept) (mark_is plan stored none) in
    fits_within plan mission (plain_mark mark) is of_mission.1

pub within_of : (mission : PlanHead) (jumps : Counts) (found : Option PlainMark) (mark : Option Mark) → HasJumpsOf mission.count jumps → Allowed mission jumps found (plain_marks mark) → IfSome mark (λ m. IsWithin mission (plain_mark m))
within_of mission jumps found None has allowed = tt
within_of mission jumps found (Some mark) has allowed =
    let plan : StoredPlan = record { id = mission.id; items = has.0 } in
    let is : plans.head_of plan ≡ mission = λ i. record { id = mission.id; count = has.1 i } in
    let both = allowed plan is has.2 in
    within_by mission plan found mark is both.0 both.1

-- What a boot tells is within the limits.
module _ (state : BootState) (found : Found) (tells : TellsBanks state (ledger_of (parts_of found))) (are : AreStates Two found.states) where
  abbrev m : PlanHead
  m = found.states.mission.head

  heads_are : (kind : PlanType) → (head_of state.heads kind) ≡ ((ledger_of (parts_of found)).entries kind).head
  heads_are Mission = ap (λ (l : List PlanHead). head_of l Mission) tells.heads
  heads_are Fence = ap (λ (l : List PlanHead). head_of l Fence) tells.heads
  heads_are Safe = ap (λ (l : List PlanHead). head_of l Safe) tells.heads

  counts : (kind : PlanType) → (head_of state.heads kind).count ≤ limit_of kind
  counts Mission = omega (arith, ap (λ (h : PlanHead). h.count) (heads_are Mission), are.mission.count)
  counts Fence = omega (arith, ap (λ (h : PlanHead). h.count) (heads_are Fence), are.fence.count)
  counts Safe = omega (arith, ap (λ (h : PlanHead). h.count) (heads_are Safe), are.safe.count)

  mark_within : (o : Option Mark) → plain_mark state.mark ≡ unwrap_or (plain_marks o) (first_mark m.id) → IfSome o (λ mark. IsWithin m (plain_mark mark)) → IsWithin m (plain_mark state.mark)
  mark_within None is within = subst (λ (p : PlainMark). IsWithin m p) (sym is) (record { id = refl; index = omega arith; pairs = λ k d below. absurd (omega (arith, below)) })
  mark_within (Some mark) is within = subst (λ (p : PlainMark). IsWithin m p) (sym is) within

  pub in_limits : IfSome found.mark (λ mark. IsWithin m (plain_mark mark)) → StateInLimits state
  in_limits within =
      let is = mark_within found.mark tells.marked within in
      record {
        counts = counts;
        id = is.id ∙ sym (ap (λ (h : PlanHead). h.id) (heads_are Mission));
        index = omega (arith, is.index, ap (λ (h : PlanHead). h.count) (heads_are Mission));
        pairs = λ k d below. omega (arith, is.pairs k d below, ap (λ (h : PlanHead). h.count) (heads_are Mission));
      }
