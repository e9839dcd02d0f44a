-- What of a store a failed device call leaves as it was.
use Rattle.std.proofs.Common.{◌≡◌, ◌≢◌, ℕ, ◌==◌, Bool, true, false, Option, Some, None, refl, sym, ap}
use Rattle.std.specs.Prelude.{◌↔◌, if◌then◌else◌}
use Rattle.std.proofs.lemmas.Bool.{eq-eqb, ne_eqb, eqb-true, eqb-false}
use Rattle.first_model.specs.declared.limits.TheConstants.{LAST_GENERATION}
use Rattle.first_model.specs.declared.plan.Item.{Item}
use Rattle.first_model.specs.declared.plan.PlanType.{PlanType}
use Rattle.first_model.specs.declared.plan.PlanType.TheVariants.{Mission, Fence, Safe}
use Rattle.first_model.specs.declared.request.Request.{Request}
use Rattle.first_model.specs.declared.request.Request.TheVariants as request
use Rattle.first_model.specs.PlainMark.{plain_mark}
use Rattle.first_store.specs.StoreState.{Drafts, StoreState, Change, Commit, SetMark, of_kind, with_kind, put, item_for, drafted, settled}
use Rattle.first_store.specs.Serve.{Fault, Fate, Well, InSettling, InRequest, InOpening, written, changed, changed_at, after_answer, after}
use Rattle.first_store.specs.WholePlans.{SameInForce}
use Rattle.first_store.specs.FailedCalls.{IsToMake, IsDoubtAfter, IsUnwritten}
use Rattle.first_store.proofs.Wholes.{same_doubted, same_written}

-- what is in force

same_itself : (st : StoreState) → SameInForce st st
same_itself st = record { plans = λ kind. refl; generations = λ kind. refl; mark = refl; mark_generation = refl }

same_if : (own : Bool) (st x y : StoreState) → SameInForce st x → SameInForce st y → SameInForce st (if own then x else y)
same_if true st x y one other = one
same_if false st x y one other = other

same_changed : (fate : Fate) (st : StoreState) (change : Change) → fate ≢ Well → SameInForce st (changed fate (settled st) change)
same_changed Well st change failed = absurd (failed refl)
same_changed (InSettling fault) st change failed = same_doubted st None
same_changed (InRequest fault) st change failed = same_doubted st None
same_changed (InOpening fault) st change failed = same_doubted st (Some change)

same_at : (generation : ℕ) (fate : Fate) (st : StoreState) (change : Change) → fate ≢ Well → SameInForce st (changed_at generation fate (settled st) change)
same_at generation fate st change failed = same_if (generation == LAST_GENERATION) st (settled st) (changed fate (settled st) change) (same_doubted st None) (same_changed fate st change failed)

same_answer : (fate : Fate) (st : StoreState) (asked : Request) → fate ≢ Well → SameInForce st (after_answer fate (settled st) asked)
same_answer fate st (request.Read kind id seq) failed = same_doubted st None
same_answer fate st (request.Write kind id seq item) failed = same_written st kind seq (written fate id item)
same_answer fate st (request.Commit kind id count) failed = same_at (of_kind (settled st) kind).generation fate st (Commit kind (record { id = id; items = drafted (of_kind (settled st) kind).drafts id count })) failed
same_answer fate st (request.SetMark mark) failed =
    let own = SetMark (plain_mark mark) in
    same_if (st.mission.plan.id == mark.id) st (changed_at st.mark_generation fate (settled st) own) (settled st) (same_at st.mark_generation fate st own failed) (same_doubted st None)

pub same_after : (fate : Fate) (st : StoreState) (asked : Request) → fate ≢ Well → SameInForce st (after fate st asked)
same_after Well st asked failed = absurd (failed refl)
same_after (InSettling fault) st asked failed = same_itself st
same_after (InRequest fault) st asked failed = same_answer (InRequest fault) st asked failed
same_after (InOpening fault) st asked failed = same_answer (InOpening fault) st asked failed

-- no doubt, where each call that was to open a gate went well or was not made

none_if : (own : Bool) (x y : StoreState) → x.doubt ≡ None → y.doubt ≡ None → (if own then x else y).doubt ≡ None
none_if true x y one other = one
none_if false x y one other = other

applied_none : (st : StoreState) (change : Change) → (changed Well (settled st) change).doubt ≡ None
applied_none st (Commit Mission plan) = refl
applied_none st (Commit Fence plan) = refl
applied_none st (Commit Safe plan) = refl
applied_none st (SetMark mark) = refl

written_none : (st : StoreState) (kind : PlanType) (drafts : Drafts) → (with_kind (settled st) kind (record (of_kind (settled st) kind) { drafts = drafts })).doubt ≡ None
written_none st Mission drafts = refl
written_none st Fence drafts = refl
written_none st Safe drafts = refl

none_after : (fate : Fate) (st : StoreState) (asked : Request) → ((change : Change) → (changed fate (settled st) change).doubt ≡ None) → (after_answer fate (settled st) asked).doubt ≡ None
none_after fate st (request.Read kind id seq) none = refl
none_after fate st (request.Write kind id seq item) none = written_none st kind (put (of_kind (settled st) kind).drafts seq (written fate id item))
none_after fate st (request.Commit kind id count) none =
    let own = Commit kind (record { id = id; items = drafted (of_kind (settled st) kind).drafts id count }) in
    none_if ((of_kind (settled st) kind).generation == LAST_GENERATION) (settled st) (changed fate (settled st) own) refl (none own)
none_after fate st (request.SetMark mark) none =
    let own = SetMark (plain_mark mark) in
    none_if (st.mission.plan.id == mark.id) (changed_at st.mark_generation fate (settled st) own) (settled st) (none_if (st.mark_generation == LAST_GENERATION) (settled st) (changed fate (settled st) own) refl (none own)) refl

never : (doubt : Option Change) (change : Change) → doubt ≡ None → (doubt ≡ Some change) ↔ ⊥
never doubt change none = (λ is. absurd cc, λ e. absurd e)

-- a change is in doubt, where its gate did not open as asked

opened : (st : StoreState) (own change : Change) (last : Bool) → ((if last then settled st else record (settled st) { doubt = Some own }).doubt ≡ Some change) ↔ ((last ≡ false) × (change ≡ own))
opened st own change true = (λ is. absurd cc, λ e. let apart : true ≡ false = e.0 in absurd cc)
opened st own change false = (λ is. (refl, let same : own ≡ change = cc in sym same), λ e. ap (λ c. Some c) (sym e.1))

opened_at : (generation : ℕ) (fault : Fault) (st : StoreState) (own change : Change) → ((changed_at generation (InOpening fault) (settled st) own).doubt ≡ Some change) ↔ ((generation ≢ LAST_GENERATION) × (change ≡ own))
opened_at generation fault st own change =
    let by = opened st own change (generation == LAST_GENERATION) in
    (λ is. (eqb-false generation LAST_GENERATION (by.0 is).0, (by.0 is).1), λ e. by.1 (ne_eqb generation LAST_GENERATION e.0, e.1))

of_mission : (st : StoreState) (asked : Change → Type 0) (changed : StoreState) (change : Change) (own : Bool) → ((changed.doubt ≡ Some change) ↔ asked change) → ((if own then changed else settled st).doubt ≡ Some change) ↔ ((own ≡ true) × asked change)
of_mission st asked changed change true by = (λ is. (refl, by.0 is), λ e. by.1 e.1)
of_mission st asked changed change false by = (λ is. absurd cc, λ e. let apart : false ≡ true = e.0 in absurd cc)

opening : (fault : Fault) (st : StoreState) (asked : Request) (change : Change) → ((after (InOpening fault) st asked).doubt ≡ Some change) ↔ IsToMake st asked change
opening fault st (request.Read kind id seq) change = never None change refl
opening fault st (request.Write kind id seq item) change = never ((after (InOpening fault) st (request.Write kind id seq item)).doubt) change (written_none st kind (put (of_kind (settled st) kind).drafts seq None))
opening fault st (request.Commit Mission id count) change = opened_at st.mission.generation fault st (Commit Mission (record { id = id; items = drafted st.mission.drafts id count })) change
opening fault st (request.Commit Fence id count) change = opened_at st.fence.generation fault st (Commit Fence (record { id = id; items = drafted st.fence.drafts id count })) change
opening fault st (request.Commit Safe id count) change = opened_at st.safe.generation fault st (Commit Safe (record { id = id; items = drafted st.safe.drafts id count })) change
opening fault st (request.SetMark mark) change =
    let own = SetMark (plain_mark mark) in
    let at = opened_at st.mark_generation fault st own change in
    let by = of_mission st (λ c. (st.mark_generation ≢ LAST_GENERATION) × (c ≡ own)) (changed_at st.mark_generation (InOpening fault) (settled st) own) change (st.mission.plan.id == mark.id) at in
    (λ is. let both = by.0 is in (sym (eqb-true st.mission.plan.id mark.id both.0), both.1.0, both.1.1), λ e. by.1 (eq-eqb st.mission.plan.id mark.id (sym e.0), (e.1, e.2)))

pub doubt_after : (fate : Fate) (st : StoreState) (asked : Request) (change : Change) → ((after fate st asked).doubt ≡ Some change) ↔ IsDoubtAfter fate st asked change
doubt_after Well st asked change = never (after Well st asked).doubt change (none_after Well st asked (applied_none st))
doubt_after (InSettling fault) st asked change = (λ is. is, λ is. is)
doubt_after (InRequest fault) st asked change = never (after (InRequest fault) st asked).doubt change (none_after (InRequest fault) st asked (λ own. refl))
doubt_after (InOpening fault) st asked change = opening fault st asked change

-- a write that failed

unwritten : (drafts : Drafts) (seq : ℕ) → IsUnwritten drafts (put drafts seq None) seq
unwritten drafts seq = record {
  here = λ id. ap (λ own. item_for id (if own then None else drafts seq)) (eq-eqb seq seq refl);
  others = λ id other apart. ap (λ own. item_for id (if own then None else drafts other)) (ne_eqb other seq apart);
}

pub unwritten_after : (fault : Fault) (st : StoreState) (kind : PlanType) (id seq : ℕ) (item : Item) → IsUnwritten (of_kind st kind).drafts (of_kind (after (InRequest fault) st (request.Write kind id seq item)) kind).drafts seq
unwritten_after fault st Mission id seq item = unwritten st.mission.drafts seq
unwritten_after fault st Fence id seq item = unwritten st.fence.drafts seq
unwritten_after fault st Safe id seq item = unwritten st.safe.drafts seq
