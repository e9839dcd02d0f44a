-- Items that are written from the first one on, and their commit.
use Rattle.std.proofs.Common.{◌≡◌, ◌≢◌, ℕ, zero, suc, ◌+◌, ◌<◌, ◌==◌, Bool, true, false, List, [], ◌∷◌, length, Option, Some, None, refl, sym, ap, ◌∙◌, subst, arith}
use Rattle.std.specs.Prelude.{slice_get, if◌then◌else◌}
use Rattle.std.proofs.lemmas.Bool.{ne_eqb}
use Rattle.first_model.specs.declared.limits.TheConstants.{LAST_GENERATION}
use Rattle.first_model.specs.declared.plan.Item.{Item}
use Rattle.first_model.specs.declared.plan.PlanType.{PlanType}
use Rattle.first_model.specs.declared.plan.PlanType.TheVariants.{Mission, Fence, Safe}
use Rattle.first_model.specs.declared.request.Request.TheVariants as request
use Rattle.first_model.specs.PlanCode.{PlanValid}
use Rattle.first_store.specs.declared.places.Written.{Written}
use Rattle.first_store.specs.StoreState.{StoredPlan, Drafts, KindState, StoreState, Change, Commit, of_kind, with_kind, plan_of, put, IsWhole, draft_at, drafted, settled, applied}
use Rattle.first_store.specs.Serve.{Well, Fate, InSettling, InRequest, InOpening, after, changed}
use Rattle.first_store.specs.CanServe.{CanCommit}
use Rattle.first_store.specs.WholePlans.{write_all, SameInForce}
use Rattle.first_store.specs.DraftLaws.{drafted-is, draft_at-put, draft_at-put_other}

-- other drafts leave what is in force
kind_kept : (st : StoreState) (kind other : PlanType) (drafts : Drafts) → let new = of_kind (with_kind st kind (record (of_kind st kind) { drafts = drafts })) other in (new.plan ≡ plan_of st other) × (new.generation ≡ (of_kind st other).generation)
kind_kept st Mission Mission drafts = (refl, refl)
kind_kept st Mission Fence drafts = (refl, refl)
kind_kept st Mission Safe drafts = (refl, refl)
kind_kept st Fence Mission drafts = (refl, refl)
kind_kept st Fence Fence drafts = (refl, refl)
kind_kept st Fence Safe drafts = (refl, refl)
kind_kept st Safe Mission drafts = (refl, refl)
kind_kept st Safe Fence drafts = (refl, refl)
kind_kept st Safe Safe drafts = (refl, refl)

marks_kept : (st : StoreState) (kind : PlanType) (drafts : Drafts) → let st' = with_kind st kind (record (of_kind st kind) { drafts = drafts }) in (st'.mark ≡ st.mark) × (st'.mark_generation ≡ st.mark_generation)
marks_kept st Mission drafts = (refl, refl)
marks_kept st Fence drafts = (refl, refl)
marks_kept st Safe drafts = (refl, refl)

pub same_drafted : (st : StoreState) (kind : PlanType) (drafts : Drafts) → SameInForce st (with_kind st kind (record (of_kind st kind) { drafts = drafts }))
same_drafted st kind drafts = record {
  plans = λ other. (kind_kept st kind other drafts).0;
  generations = λ other. (kind_kept st kind other drafts).1;
  mark = (marks_kept st kind drafts).0;
  mark_generation = (marks_kept st kind drafts).1;
}

-- so does another doubt
pub doubted_kind : (st : StoreState) (doubt : Option Change) (kind : PlanType) → of_kind (record st { doubt = doubt }) kind ≡ of_kind st kind
doubted_kind st doubt Mission = refl
doubted_kind st doubt Fence = refl
doubted_kind st doubt Safe = refl

pub same_doubted : (st : StoreState) (doubt : Option Change) → SameInForce st (record st { doubt = doubt })
same_doubted st doubt = record {
  plans = λ kind. ap (λ (k : KindState). k.plan) (doubted_kind st doubt kind);
  generations = λ kind. ap (λ (k : KindState). k.generation) (doubted_kind st doubt kind);
  mark = refl;
  mark_generation = refl;
}

pub same_later : (x y z : StoreState) → SameInForce x y → SameInForce y z → SameInForce x z
same_later x y z early late = record {
  plans = λ kind. late.plans kind ∙ early.plans kind;
  generations = λ kind. late.generations kind ∙ early.generations kind;
  mark = late.mark ∙ early.mark;
  mark_generation = late.mark_generation ∙ early.mark_generation;
}

-- a write leaves it, whatever it puts at its seq
pub same_written : (st : StoreState) (kind : PlanType) (seq : ℕ) (new : Option Written) → SameInForce st (with_kind (settled st) kind (record (of_kind (settled st) kind) { drafts = put (of_kind (settled st) kind).drafts seq new }))
same_written st kind seq new = same_later st (settled st) (with_kind (settled st) kind (record (of_kind (settled st) kind) { drafts = put (of_kind (settled st) kind).drafts seq new })) (same_doubted st None) (same_drafted (settled st) kind (put (of_kind (settled st) kind).drafts seq new))

-- a write puts its item in the drafts
drafts_after : (st : StoreState) (kind : PlanType) (id seq : ℕ) (item : Item) → (of_kind (after Well st (request.Write kind id seq item)) kind).drafts ≡ put (of_kind st kind).drafts seq (Some (record { id = id; item = item }))
drafts_after st Mission id seq item = refl
drafts_after st Fence id seq item = refl
drafts_after st Safe id seq item = refl

-- so do all writes
pub same_in_force : (items : List Item) (st : StoreState) (kind : PlanType) (id seq : ℕ) → SameInForce st (write_all st kind id seq items)
same_in_force [] st kind id seq = record { plans = λ other. refl; generations = λ other. refl; mark = refl; mark_generation = refl }
same_in_force (item ∷ items) st kind id seq =
    let st' = after Well st (request.Write kind id seq item) in
    same_later st st' (write_all st' kind id (seq + 1) items) (same_written st kind seq (Some (record { id = id; item = item }))) (same_in_force items st' kind id (seq + 1))

-- the items below a seq stay
earlier_kept : (items : List Item) (st : StoreState) (kind : PlanType) (id seq k : ℕ) → k < seq → draft_at (of_kind (write_all st kind id seq items) kind).drafts id k ≡ draft_at (of_kind st kind).drafts id k
earlier_kept [] st kind id seq k below = refl
earlier_kept (item ∷ items) st kind id seq k below =
    earlier_kept items (after Well st (request.Write kind id seq item)) kind id (seq + 1) k (omega (arith, below))
    ∙ (ap (λ drafts. draft_at drafts id k) (drafts_after st kind id seq item) ∙ draft_at-put_other (of_kind st kind).drafts id seq k item (λ e. absurd (omega (arith, e, below))))

-- and each item stands at its seq
pub items_stand : (items : List Item) (st : StoreState) (kind : PlanType) (id seq j at : ℕ) → j < length items → at ≡ seq + j → draft_at (of_kind (write_all st kind id seq items) kind).drafts id at ≡ slice_get items j
items_stand [] st kind id seq j at below is = absurd (omega (arith, below))
items_stand (item ∷ items) st kind id seq zero at below is =
    let here : at ≡ seq = omega (arith, is) in
    let st' = after Well st (request.Write kind id seq item) in
    earlier_kept items st' kind id (seq + 1) at (omega (arith, here))
    ∙ (ap (λ drafts. draft_at drafts id at) (drafts_after st kind id seq item) ∙ subst (λ k. draft_at (put (of_kind st kind).drafts seq (Some (record { id = id; item = item }))) id k ≡ Some item) (sym here) (draft_at-put (of_kind st kind).drafts id seq item))
items_stand (item ∷ items) st kind id seq (suc j) at below is =
    items_stand items (after Well st (request.Write kind id seq item)) kind id (seq + 1) j at (omega (arith, below)) (omega (arith, is))

-- they are the draft of the plan
whole_draft : (items : List Item) (st : StoreState) (kind : PlanType) (id : ℕ) → let drafts = (of_kind (write_all st kind id 0 items) kind).drafts in (drafted drafts id (length items) ≡ items) × IsWhole drafts id (length items)
whole_draft items st kind id = drafted-is (of_kind (write_all st kind id 0 items) kind).drafts id (length items) items refl (λ seq below. items_stand items st kind id 0 seq seq below (omega arith))

-- a commit puts the draft in force
plan_after : (st : StoreState) (kind : PlanType) (id count : ℕ) → (of_kind st kind).generation ≢ LAST_GENERATION → plan_of (after Well st (request.Commit kind id count)) kind ≡ record { id = id; items = drafted (of_kind st kind).drafts id count }
plan_after st Mission id count free = ap (λ last. (if last then settled st else applied (settled st) (Commit Mission (record { id = id; items = drafted st.mission.drafts id count }))).mission.plan) (ne_eqb st.mission.generation LAST_GENERATION free)
plan_after st Fence id count free = ap (λ last. (if last then settled st else applied (settled st) (Commit Fence (record { id = id; items = drafted st.fence.drafts id count }))).fence.plan) (ne_eqb st.fence.generation LAST_GENERATION free)
plan_after st Safe id count free = ap (λ last. (if last then settled st else applied (settled st) (Commit Safe (record { id = id; items = drafted st.safe.drafts id count }))).safe.plan) (ne_eqb st.safe.generation LAST_GENERATION free)

pub plan_whole : (items : List Item) (st : StoreState) (kind : PlanType) (id : ℕ) → (of_kind st kind).generation ≢ LAST_GENERATION → plan_of (after Well (write_all st kind id 0 items) (request.Commit kind id (length items))) kind ≡ record { id = id; items = items }
plan_whole items st kind id free =
    let same = (same_in_force items st kind id 0).generations kind in
    plan_after (write_all st kind id 0 items) kind id (length items) (λ last. free (sym same ∙ last)) ∙ ap (λ (xs : List Item). record { id = id; items = xs }) (whole_draft items st kind id).0

-- such a plan can be committed, where it is valid and newer than the one in force
pub can_commit : (items : List Item) (st : StoreState) (kind : PlanType) (id : ℕ) → (plan_of st kind).id < id → PlanValid kind items → CanCommit (of_kind (write_all st kind id 0 items) kind) kind id (length items)
can_commit items st kind id newer valid =
    let draft = whole_draft items st kind id in
    record {
      newer = subst (λ plan. plan.id < id) (sym ((same_in_force items st kind id 0).plans kind)) newer;
      within = valid.within;
      written = draft.1;
      valid = subst (PlanValid kind) (sym draft.0) valid;
    }

other_by : (last : Bool) (fate : Fate) (st : StoreState) (kind other : PlanType) (plan : StoredPlan) → other ≢ kind → plan_of (if last then st else changed fate st (Commit kind plan)) other ≡ plan_of st other
other_by true fate st kind other plan apart = refl
other_by false (InSettling fault) st kind other plan apart = refl
other_by false (InRequest fault) st kind other plan apart = refl
other_by false (InOpening fault) st kind Mission plan apart = refl
other_by false (InOpening fault) st kind Fence plan apart = refl
other_by false (InOpening fault) st kind Safe plan apart = refl
other_by false Well st Mission Mission plan apart = absurd (apart refl)
other_by false Well st Mission Fence plan apart = refl
other_by false Well st Mission Safe plan apart = refl
other_by false Well st Fence Mission plan apart = refl
other_by false Well st Fence Fence plan apart = absurd (apart refl)
other_by false Well st Fence Safe plan apart = refl
other_by false Well st Safe Mission plan apart = refl
other_by false Well st Safe Fence plan apart = refl
other_by false Well st Safe Safe plan apart = absurd (apart refl)

settled_plan : (st : StoreState) (kind : PlanType) → plan_of (settled st) kind ≡ plan_of st kind
settled_plan st Mission = refl
settled_plan st Fence = refl
settled_plan st Safe = refl

-- a commit leaves the plans of the other kinds, whatever the device does
pub others_stay : (fate : Fate) (st : StoreState) (kind other : PlanType) (id count : ℕ) → other ≢ kind → plan_of (after fate st (request.Commit kind id count)) other ≡ plan_of st other
others_stay (InSettling fault) st kind other id count apart = refl
others_stay Well st kind other id count apart = other_by ((of_kind (settled st) kind).generation == LAST_GENERATION) Well (settled st) kind other (record { id = id; items = drafted (of_kind (settled st) kind).drafts id count }) apart ∙ settled_plan st other
others_stay (InRequest fault) st kind other id count apart = other_by ((of_kind (settled st) kind).generation == LAST_GENERATION) (InRequest fault) (settled st) kind other (record { id = id; items = drafted (of_kind (settled st) kind).drafts id count }) apart ∙ settled_plan st other
others_stay (InOpening fault) st kind other id count apart = other_by ((of_kind (settled st) kind).generation == LAST_GENERATION) (InOpening fault) (settled st) kind other (record { id = id; items = drafted (of_kind (settled st) kind).drafts id count }) apart ∙ settled_plan st other
