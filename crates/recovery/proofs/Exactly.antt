-- An image has no fault exactly where it stands for something.
use Rattle.dataman_layout.specs.declared.layout.Layout.{Layout}
use Rattle.dataman_layout.specs.Layouts.{limit_in, most_pairs}
use Rattle.std.specs.Prelude.{◌≡◌, ◌↔◌, ◌≤◌, ◌+◌, ◌*◌, ℕ, List, length, Option, Some, None, get_or}
use Rattle.std.proofs.Common.{refl, sym, ap, subst, arith, ◌∙◌}
use Rattle.mission_model.specs.declared.plan.PlanHead.{PlanHead}
use Rattle.mission_model.specs.declared.plan.PlanType.{PlanType}
use Rattle.mission_model.specs.declared.plan.PlanType.TheVariants.{Mission, Fence, Safe}
use Rattle.mission_model.specs.PlainMark.{PlainMark}
use Rattle.gated_cell.specs.Cell.{Held, Empty, Twins, InForce, held}
use Rattle.plan_store.specs.StoreState.{StoredPlan}
use Rattle.bank_state.specs.Plans.{Plans, plan_among, head_of}
use Rattle.bank_state.specs.StandsFor.{compat_place, state_cell, mark_cell, NamesIn, HasItemsIn, HasPlanIn, IsLayout, StandsIn, StandsFor}
use Rattle.bank_state.specs.Ledger.{plan_read}
use Rattle.bank_state.specs.OnePair.{one_plan}
use Rattle.bank_state.specs.Frames.{head_of-plan_read}
use Rattle.recovery.specs.Faults.{fault_behind, compat_fault, layout_in, named_by, unnamed, state_number, state_fault, named_fault, plan_fault, states_fault, plans_fault, named_plan, plan_at, mark_fault, fault_in}
use Rattle.recovery.specs.Standing.{mark_at, holding_by}
use Rattle.recovery.proofs.Faultless.{neither, none_of_two, held_size, layout_of, layout_is, layout_free, names_of, named_of, items_stand, items_valid, plan_free, mark_of, mark_free}

-- what a state cell without a fault names
named : (layout : Layout) (kind : PlanType) (image : List ℕ) (o : Option (ℕ × PlanHead)) → named_by layout kind (held (state_cell layout kind) image) ≡ o → unnamed (state_number kind) o ≡ None → named_fault layout kind image o ≡ None
    → HasPlanIn layout kind (named_plan layout kind image o) image
named layout kind image None is cell none = absurd cc
named layout kind image (Some (bank, head)) is cell none =
    let names = names_of layout kind (held (state_cell layout kind) image) bank head (held_size (state_cell layout kind) 7 image refl) is in
    record {
      bank = bank;
      named = subst (λ (h : PlanHead). NamesIn layout kind bank h (held (state_cell layout kind) image)) (sym (head_of-plan_read layout kind bank head image)) names;
      items = items_stand layout kind bank head image none;
      valid = items_valid layout kind bank head image none (within (held (state_cell layout kind) image) names);
    }
  where
    within : (h : Held) → NamesIn layout kind bank head h → head.count ≤ limit_in layout kind
    within Empty names = absurd names
    within (Twins g) names = absurd names
    within (InForce s g payload) names = names.within

plan_of : (layout : Layout) (kind : PlanType) (image : List ℕ) → state_fault layout kind (held (state_cell layout kind) image) ≡ None → plan_fault layout kind image ≡ None → HasPlanIn layout kind (plan_at layout kind image) image
plan_of layout kind image cell none = named layout kind image (named_by layout kind (held (state_cell layout kind) image)) refl cell none

-- an image without a fault behind its compat cell stands in this layout for its plans and its mark
stands_behind : (layout : Layout) (image : List ℕ) → IsLayout layout (held compat_place image) → fault_behind layout image ≡ None → StandsIn layout image (holding_by layout image).plans (holding_by layout image).mark
stands_behind layout image is none =
    let b = neither (states_fault layout image) _ none in
    let c = neither (plans_fault layout image) _ b.1 in
    let d = neither (mark_fault layout (plan_at layout Mission image) (held (mark_cell layout) image)) None c.1 in
    let s = neither (state_fault layout Mission (held (state_cell layout Mission) image)) _ b.0 in
    let t = neither (state_fault layout Fence (held (state_cell layout Fence) image)) _ s.1 in
    let u = neither (state_fault layout Safe (held (state_cell layout Safe) image)) None t.1 in
    let p = neither (plan_fault layout Mission image) _ c.0 in
    let q = neither (plan_fault layout Fence image) _ p.1 in
    let r = neither (plan_fault layout Safe image) None q.1 in
    record {
      layout = is;
      each = each s.0 t.0 u.0 p.0 q.0 r.0;
      stored = mark_at layout (plan_at layout Mission image).id (held (mark_cell layout) image);
      has = mark_of layout (plan_at layout Mission image) (held (mark_cell layout) image) (held_size (mark_cell layout) (7 + 4 * most_pairs layout) image (omega arith)) d.0;
      is = refl;
    }
  where
    each : state_fault layout Mission (held (state_cell layout Mission) image) ≡ None → state_fault layout Fence (held (state_cell layout Fence) image) ≡ None → state_fault layout Safe (held (state_cell layout Safe) image) ≡ None
        → plan_fault layout Mission image ≡ None → plan_fault layout Fence image ≡ None → plan_fault layout Safe image ≡ None → (kind : PlanType) → HasPlanIn layout kind (plan_among (holding_by layout image).plans kind) image
    each s t u p q r Mission = plan_of layout Mission image s p
    each s t u p q r Fence = plan_of layout Fence image t q
    each s t u p q r Safe = plan_of layout Safe image u r

-- an image without a fault stands in the layout that it tells for its plans and its mark
pub stands_by : (image : List ℕ) → fault_in image ≡ None
    → StandsIn (layout_in (held compat_place image)) image (holding_by (layout_in (held compat_place image)) image).plans (holding_by (layout_in (held compat_place image)) image).mark
stands_by image none =
    let layout = layout_in (held compat_place image) in
    let a = neither (compat_fault (get_or image 0 0) (held compat_place image)) (fault_behind layout image) none in
    stands_behind layout image (layout_of (get_or image 0 0) (held compat_place image) (held_size compat_place 7 image refl) a.0) a.1

-- a state cell of a plan that stands
state_free : (layout : Layout) (kind : PlanType) (plan : StoredPlan) (image : List ℕ) → HasPlanIn layout kind plan image → state_fault layout kind (held (state_cell layout kind) image) ≡ None
state_free layout kind plan image has = ap (unnamed (state_number kind)) (named_of layout kind (held (state_cell layout kind) image) has.bank (head_of plan) has.named)

plan_none : (layout : Layout) (kind : PlanType) (plan : StoredPlan) (image : List ℕ) → HasPlanIn layout kind plan image → plan_fault layout kind image ≡ None
plan_none layout kind plan image has =
    ap (named_fault layout kind image) (named_of layout kind (held (state_cell layout kind) image) has.bank (head_of plan) has.named)
    ∙ plan_free layout kind has.bank plan image has.items has.valid (length plan.items) (omega arith)

-- An image that stands for something in a layout has no fault
module _ (layout : Layout) (image : List ℕ) (plans : Plans) (mark : PlainMark) (stands : StandsIn layout image plans mark) where
  has : HasPlanIn layout Mission plans.mission image
  has = stands.each Mission

  stand : HasItemsIn layout Mission has.bank (plan_read layout Mission has.bank (head_of plans.mission) image) image
  stand = items_stand layout Mission has.bank (head_of plans.mission) image (plan_free layout Mission has.bank plans.mission image has.items has.valid (length plans.mission.items) (omega arith))

  same_mission : plan_at layout Mission image ≡ plans.mission
  same_mission =
      ap (named_plan layout Mission image) (named_of layout Mission (held (state_cell layout Mission) image) has.bank (head_of plans.mission) has.named)
      ∙ one_plan layout Mission has.bank (plan_read layout Mission has.bank (head_of plans.mission) image) plans.mission image (head_of-plan_read layout Mission has.bank (head_of plans.mission) image) stand has.items

  pub none_behind : fault_behind layout image ≡ None
  none_behind =
      none_of_two _ _
      (none_of_two _ _ (state_free layout Mission plans.mission image (stands.each Mission))
      (none_of_two _ _ (state_free layout Fence plans.fence image (stands.each Fence)) (none_of_two _ _ (state_free layout Safe plans.safe image (stands.each Safe)) refl)))
      (none_of_two _ _
      (none_of_two _ _ (plan_none layout Mission plans.mission image (stands.each Mission))
      (none_of_two _ _ (plan_none layout Fence plans.fence image (stands.each Fence)) (none_of_two _ _ (plan_none layout Safe plans.safe image (stands.each Safe)) refl)))
      (none_of_two _ _ (ap (λ (m : StoredPlan). mark_fault layout m (held (mark_cell layout) image)) same_mission ∙ mark_free layout plans.mission stands.stored (held (mark_cell layout) image) stands.has) refl))

pub no_fault : (layout : Layout) (image : List ℕ) (plans : Plans) (mark : PlainMark) → StandsIn layout image plans mark → fault_in image ≡ None
no_fault layout image plans mark stands =
    none_of_two _ _ (layout_free layout (get_or image 0 0) (held compat_place image) stands.layout)
    (ap (λ (l : Layout). fault_behind l image) (layout_is layout (held compat_place image) stands.layout) ∙ none_behind layout image plans mark stands)

pub exactly : (image : List ℕ) → (fault_in image ≡ None) ↔ ((plans : Plans) × (mark : PlainMark) × StandsFor image plans mark)
exactly image = (
  λ none. let layout = layout_in (held compat_place image) in ((holding_by layout image).plans, (holding_by layout image).mark, (layout, stands_by image none)),
  λ stands. no_fault stands.2.0 image stands.0 stands.1 stands.2.1,
)
