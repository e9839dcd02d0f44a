-- What was put behind layout 1 stands in layout 2.
use Rattle.std.specs.Prelude.{◌≡◌, ◌+◌, ◌*◌, ◌<◌, ℕ, false, List, [], ◌∷◌, replicate, Option, Some, None, unwrap_or}
use Rattle.std.proofs.Common.{refl, sym, ap, subst, arith, ◌∙◌}
use Rattle.std.proofs.lemmas.Option.{slice_get_within}
use Rattle.mission_model.specs.declared.counts.Mark.{Mark}
use Rattle.mission_model.specs.declared.plan.PlanHead.{PlanHead}
use Rattle.mission_model.specs.declared.plan.PlanType.{PlanType}
use Rattle.mission_model.specs.declared.plan.PlanType.TheVariants.{Mission, Fence, Safe}
use Rattle.mission_model.specs.PlainMark.{PlainMark}
use Rattle.disk_model.specs.Bytes.{field}
use Rattle.gated_cell.specs.declared.cell.GatedCell.{GatedCell}
use Rattle.gated_cell.specs.Cell.{Held, Empty, Twins, InForce, held}
use Rattle.dataman_layout.specs.declared.layout.Layout.{Layout}
use Rattle.dataman_layout.specs.declared.layout.Layout.TheVariants.{One, Two}
use Rattle.dataman_layout.specs.Item.{item_in}
use Rattle.dataman_layout.specs.Layouts.{limit_in, most_pairs}
use Rattle.dataman_layout.specs.Mark.{plain_marks}
use Rattle.dataman_layout.specs.State.{StateRecord}
use Rattle.plan_store.specs.StoreState.{StoredPlan, first_mark}
use Rattle.plan_store.specs.CanServe.{MarkFits}
use Rattle.bank_state.specs.declared.parts.PlanBanks.{PlanBanks}
use Rattle.bank_state.specs.Plans.{Plans, plan_among, head_of}
use Rattle.bank_state.specs.StandsFor.{compat_place, state_cell, mark_cell, IsLayout, NamesIn, HasPlanIn, HasMarkIn, StandsIn}
use Rattle.bank_state.specs.Ledger.{plan_read}
use Rattle.bank_state.specs.Frames.{head_of-plan_read, length-items_read}
use Rattle.bank_state.specs.OnePair.{one_layout, one_pair}
use Rattle.recovery.specs.declared.cells.States.{States}
use Rattle.recovery.specs.Booting.{StandsAgain}
use Rattle.recovery.specs.Faults.{first_of, plan_fault, items_fault}
use Rattle.recovery.specs.Found.{AllRead, AreBanks, BanksIn, AreStates}
use Rattle.recovery.specs.Migration.{HasNewState, AreMarkSlots, AreCopied, IsPutBehind, Moved}
use Rattle.recovery.proofs.Behind.{Behind}
use Rattle.recovery.proofs.Emptied.{held_in}
use Rattle.recovery.proofs.Faultless.{neither, held_size, names_of, items_stand, items_valid, mark_of}
use Rattle.recovery.proofs.Gathered.{plan_named}
use Rattle.recovery.proofs.NewSlots.{has_new}

-- the plans and the mark that were found
abbrev pub plans_found : Layout → States → List ℕ → Plans
plans_found layout states image = record {
  mission = plan_read layout Mission states.mission.bank states.mission.head image;
  fence = plan_read layout Fence states.fence.bank states.fence.head image;
  safe = plan_read layout Safe states.safe.bank states.safe.head image;
}

abbrev pub mark_found : States → Option Mark → PlainMark
mark_found states mark = unwrap_or (plain_marks mark) (first_mark states.mission.head.id)

-- a plan that was read stands
read_stands : (layout : Layout) (kind : PlanType) (banks : PlanBanks) (image : List ℕ) → AreBanks layout kind banks → BanksIn layout kind banks image → plan_fault layout kind image ≡ None → HasPlanIn layout kind (plan_read layout kind banks.bank banks.head image) image
read_stands layout kind banks image are read none =
    let free : items_fault layout kind banks.bank banks.head banks.head.count image ≡ None = sym (plan_named layout kind banks image read) ∙ none in
    record {
      bank = banks.bank;
      named = subst (λ (h : PlanHead). NamesIn layout kind banks.bank h (held (state_cell layout kind) image)) (sym (head_of-plan_read layout kind banks.bank banks.head image))
          (names_of layout kind (held (state_cell layout kind) image) banks.bank banks.head (held_size (state_cell layout kind) 7 image refl) read.named);
      items = items_stand layout kind banks.bank banks.head image free;
      valid = items_valid layout kind banks.bank banks.head image free are.count;
    }

-- so does all that was read
module _ (layout : Layout) (image : List ℕ) (states : States) (cell : GatedCell) (mark : Option Mark) (are : AreStates layout states) (read : AllRead layout image states cell mark) where
  none_of : (plan_fault layout Mission image ≡ None) × (plan_fault layout Fence image ≡ None) × (plan_fault layout Safe image ≡ None)
  none_of =
      let first = neither (plan_fault layout Mission image) (first_of (plan_fault layout Fence image ∷ plan_fault layout Safe image ∷ [])) read.plans in
      let second = neither (plan_fault layout Fence image) (first_of (plan_fault layout Safe image ∷ [])) first.1 in
      (first.0, second.0, (neither (plan_fault layout Safe image) None second.1).0)

  each_read : (kind : PlanType) → HasPlanIn layout kind (plan_among (plans_found layout states image) kind) image
  each_read Mission = read_stands layout Mission states.mission image are.mission read.states_are.mission none_of.0
  each_read Fence = read_stands layout Fence states.fence image are.fence read.states_are.fence none_of.1
  each_read Safe = read_stands layout Safe states.safe image are.safe read.states_are.safe none_of.2

  mark_read : HasMarkIn layout (plans_found layout states image).mission (plain_marks mark) (held (mark_cell layout) image)
  mark_read =
      let mission = plan_read layout Mission states.mission.bank states.mission.head image in
      subst (λ (o : Option PlainMark). HasMarkIn layout mission o (held (mark_cell layout) image)) (sym read.stored)
      (mark_of layout mission (held (mark_cell layout) image) (held_size (mark_cell layout) (7 + 4 * most_pairs layout) image (omega arith)) read.marked)

  pub behind_read : Behind layout image (plans_found layout states image) (mark_found states mark)
  behind_read = record { each = each_read; stored = plain_marks mark; has = mark_read; is = refl }

-- a mark cell of layout 2 with new slots
zero_held : held (record { at = 0; slot_bytes = 144 }) (replicate 288 0) ≡ Empty
zero_held = refl

fits_of : (mission : StoredPlan) (mark : PlainMark) (h : Held) → HasMarkIn One mission (Some mark) h → MarkFits mark mission
fits_of mission mark Empty has = absurd cc
fits_of mission mark (Twins g) has = absurd has
fits_of mission mark (InForce s g payload) has = has.2.1

mark_put : (mission : StoredPlan) (o : Option PlainMark) (h : Held) (slots image : List ℕ) → HasMarkIn One mission o h → AreMarkSlots o slots → field (mark_cell Two).at 288 image ≡ slots → HasMarkIn Two mission o (held (mark_cell Two) image)
mark_put mission None h slots image has are here =
    let empty : held (mark_cell Two) image ≡ Empty = held_in image (replicate 288 0) (mark_cell Two).at 288 0 144 (here ∙ are) (omega arith) (omega arith) ∙ zero_held in
    subst (λ (x : Held). HasMarkIn Two mission None x) (sym empty) refl
mark_put mission (Some mark) h slots image has are here =
    let there : held (mark_cell Two) image ≡ InForce false 1 are.0 = has_new (mark_cell Two) are.0 image (record { slot = omega (arith, are.2); bytes = here ∙ are.1 }) in
    subst (λ (x : Held). HasMarkIn Two mission (Some mark) x) (sym there) (mark, are.3, (refl, fits_of mission mark h has))

module _ (states : States) (mark : Option Mark) (cell : GatedCell) (old new : List ℕ) (are : AreStates One states) (read : AllRead One old states cell mark) (put : IsPutBehind states (plain_marks mark) old new) where
  -- a plan whose records were copied
  plan_put : (kind : PlanType) (banks : PlanBanks) → HasPlanIn One kind (plan_read One kind banks.bank banks.head old) old → BanksIn One kind banks old → plan_fault One kind old ≡ None → AreCopied kind banks.bank banks.head.count old new → HasNewState kind banks.head new
      → HasPlanIn Two kind (plan_read One kind banks.bank banks.head old) new
  plan_put kind banks has reads none copied state =
      let plan = plan_read One kind banks.bank banks.head old in
      let there : held (state_cell Two kind) new ≡ InForce false 1 state.payload = has_new (state_cell Two kind) state.payload new state.is in
      let stand = items_stand One kind banks.bank banks.head old (sym (plan_named One kind banks old reads) ∙ none) in
      record {
        bank = 0;
        named = subst (λ (h : Held). NamesIn Two kind 0 (head_of plan) h) (sym there)
            (subst (λ (h : PlanHead). StateRecord (limit_in Two kind) state.payload 0 h) (sym (head_of-plan_read One kind banks.bank banks.head old)) state.named);
        items = λ seq item at.
            let below : seq < banks.head.count = omega (arith, slice_get_within plan.items seq item at, length-items_read One kind banks.bank banks.head.count old) in
            ap item_in (copied seq below).bytes ∙ stand seq item at;
        valid = has.valid;
      }

  each_put : (kind : PlanType) → HasPlanIn Two kind (plan_among (plans_found One states old) kind) new
  each_put Mission = plan_put Mission states.mission (each_read One old states cell mark are read Mission) read.states_are.mission (none_of One old states cell mark are read).0 (put.items Mission) (put.states Mission)
  each_put Fence = plan_put Fence states.fence (each_read One old states cell mark are read Fence) read.states_are.fence (none_of One old states cell mark are read).1 (put.items Fence) (put.states Fence)
  each_put Safe = plan_put Safe states.safe (each_read One old states cell mark are read Safe) read.states_are.safe (none_of One old states cell mark are read).2 (put.items Safe) (put.states Safe)

  pub behind_put : Behind Two new (plans_found One states old) (mark_found states mark)
  behind_put = record {
    each = each_put;
    stored = plain_marks mark;
    has = mark_put (plans_found One states old).mission (plain_marks mark) (held (mark_cell One) old) put.mark.slots new (mark_read One old states cell mark are read) put.mark.are put.mark.here;
    is = refl;
  }

-- what a moved store stands for, it stood for
pub stands_again : (old new : List ℕ) → Moved old new → StandsAgain old new
stands_again old new moved plans mark stands =
    let same = one_pair old moved.plans plans moved.mark mark (One, moved.was) stands in
    subst (λ (m : PlainMark). StandsIn Two new plans m) same.1 (subst (λ (p : Plans). StandsIn Two new p moved.mark) same.0 moved.is)

-- and what stands in layout 2 stands for the same while the bytes are the same
pub stands_still : (old new : List ℕ) → new ≡ old → IsLayout Two (held compat_place old) → StandsAgain old new
stands_still old new same two plans mark stands =
    let layout = one_layout stands.0 Two (held compat_place old) stands.1.layout two in
    subst (λ (l : List ℕ). StandsIn Two l plans mark) (sym same) (subst (λ (x : Layout). StandsIn x old plans mark) layout stands.1)
