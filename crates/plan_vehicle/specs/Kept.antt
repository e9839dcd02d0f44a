-- What a written item and a served request leave: the own draft and the own link change, all others stay.
use Rattle.std.specs.Prelude.{◌≡◌, ◌≢◌, ℕ, Bool, true, false, List, [], ◌∷◌, ◌++◌, Some, find, refl}
use Rattle.std.specs.List.{list_any}
use Rattle.std.proofs.Common.{sym, ap, ◌∙◌, ⊎_elim}
use Rattle.std.proofs.lemmas.Bool.{eqb-true, eq-eqb, ne_eqb, and_parts, and_from, cases_Bool, cond-true, cond-false}
use Rattle.mission_model.specs.declared.plan.PlanType.{PlanType}
use Rattle.mission_model.specs.declared.plan.PlanType.TheVariants.{Mission, Fence, Safe}
use Rattle.mission_model.specs.declared.plan.Item.{Item}
use Rattle.mission_model.specs.declared.request.Client.TheVariants as client
use Rattle.mission_model.specs.declared.request.Asked.{Asked}
use Rattle.mission_model.specs.declared.request.Reply.{Reply}
use Rattle.mission_model.specs.PlanTypes.{is_kind}
use Rattle.plan_vehicle.specs.Drafts.{DraftState, put_by, put_first, is_draft, items_of, draft_of, with_written}
use Rattle.plan_vehicle.specs.VehicleState.{ServedState}
use Rattle.plan_vehicle.specs.Requests.{is_of_link, with_served, last_served}

put_by-here : {A : Type 0} (test : A → Bool) (new x : A) (xs : List A) → test x ≡ true → put_by test new (x ∷ xs) ≡ new ∷ xs
put_by-here test new x xs h = rw h refl

put_by-behind : {A : Type 0} (test : A → Bool) (new x : A) (xs : List A) → test x ≡ false → put_by test new (x ∷ xs) ≡ x ∷ put_by test new xs
put_by-behind test new x xs h = rw h refl

find-here : {A : Type 0} (test : A → Bool) (x : A) (xs : List A) → test x ≡ true → find test (x ∷ xs) ≡ Some x
find-here test x xs h = rw h refl

find-behind : {A : Type 0} (test : A → Bool) (x : A) (xs : List A) → test x ≡ false → find test (x ∷ xs) ≡ find test xs
find-behind test x xs h = rw h refl

-- what is put by a test that it passes is the first that passes it
find-put_by : {A : Type 0} (test : A → Bool) (new : A) (xs : List A) → test new ≡ true → find test (put_by test new xs) ≡ Some new
find-put_by test new [] passes = find-here test new [] passes
find-put_by test new (x ∷ xs) passes =
    ⊎_elim (λ h. ap (find test) (put_by-here test new x xs h) ∙ find-here test new xs passes) (λ h. ap (find test) (put_by-behind test new x xs h) ∙ find-behind test x (put_by test new xs) h ∙ find-put_by test new xs passes) (cases_Bool (test x))

-- an element before both lists leaves what is found behind it
find-before : {A : Type 0} (test : A → Bool) (x : A) (xs ys : List A) → find test xs ≡ find test ys → find test (x ∷ xs) ≡ find test (x ∷ ys)
find-before test x xs ys same =
    ⊎_elim (λ h. find-here test x xs h ∙ sym (find-here test x ys h)) (λ h. find-behind test x xs h ∙ same ∙ sym (find-behind test x ys h)) (cases_Bool (test x))

-- the first that passes another test stays, where nothing passes both
find-put_by_other : {A : Type 0} (other test : A → Bool) (new : A) (xs : List A) → other new ≡ false → ((x : A) → test x ≡ true → other x ≡ false) → find other (put_by test new xs) ≡ find other xs
find-put_by_other other test new [] fails apart = find-behind other new [] fails
find-put_by_other other test new (x ∷ xs) fails apart =
    ⊎_elim (λ h. ap (find other) (put_by-here test new x xs h) ∙ find-behind other new xs fails ∙ sym (find-behind other x xs (apart x h))) (λ h. ap (find other) (put_by-behind test new x xs h) ∙ find-before other x (put_by test new xs) xs (find-put_by_other other test new xs fails apart)) (cases_Bool (test x))

-- the same of what is put first
find-put_first : {A : Type 0} (test : A → Bool) (new : A) (xs : List A) → test new ≡ true → find test (put_first test new xs) ≡ Some new
find-put_first test new xs passes =
    ⊎_elim (λ h. ap (find test) (cond-true (list_any test xs) (put_by test new xs) (new ∷ xs) h) ∙ find-put_by test new xs passes) (λ h. ap (find test) (cond-false (list_any test xs) (put_by test new xs) (new ∷ xs) h) ∙ find-here test new xs passes) (cases_Bool (list_any test xs))

find-put_first_other : {A : Type 0} (other test : A → Bool) (new : A) (xs : List A) → other new ≡ false → ((x : A) → test x ≡ true → other x ≡ false) → find other (put_first test new xs) ≡ find other xs
find-put_first_other other test new xs fails apart =
    ⊎_elim (λ h. ap (find other) (cond-true (list_any test xs) (put_by test new xs) (new ∷ xs) h) ∙ find-put_by_other other test new xs fails apart) (λ h. ap (find other) (cond-false (list_any test xs) (put_by test new xs) (new ∷ xs) h) ∙ find-behind other new xs fails) (cases_Bool (list_any test xs))

is_kind-same : (kind : PlanType) → is_kind kind kind ≡ true
is_kind-same Mission = refl
is_kind-same Fence = refl
is_kind-same Safe = refl

-- types that pass the test of sameness are the same
pub is_kind-true : (a b : PlanType) → is_kind a b ≡ true → a ≡ b
is_kind-true Mission Mission h = refl
is_kind-true Fence Fence h = refl
is_kind-true Safe Safe h = refl
is_kind-true Mission Fence h = absurd cc
is_kind-true Mission Safe h = absurd cc
is_kind-true Fence Mission h = absurd cc
is_kind-true Fence Safe h = absurd cc
is_kind-true Safe Mission h = absurd cc
is_kind-true Safe Fence h = absurd cc

-- a draft that passes the test has the kind and the id
pub is_draft-true : (kind : PlanType) (id : ℕ) (draft : DraftState) → is_draft kind id draft ≡ true → (draft.kind ≡ kind) × (draft.id ≡ id)
is_draft-true kind id draft passes =
    let parts = and_parts _ _ passes in
    (is_kind-true draft.kind kind parts.0, eqb-true draft.id id parts.1)

-- the draft that is written has the item behind its others
pub draft_of-with_written : (drafts : List DraftState) (kind : PlanType) (id : ℕ) (item : Item) → draft_of (with_written drafts kind id item) kind id ≡ draft_of drafts kind id ++ item ∷ []
draft_of-with_written drafts kind id item =
    let new : DraftState = record { kind = kind; id = id; items = draft_of drafts kind id ++ item ∷ [] } in
    let passes : is_draft kind id new ≡ true = and_from _ _ (is_kind-same kind) (eq-eqb id id refl) in
    ap items_of (find-put_first (is_draft kind id) new drafts passes)

-- a draft of another kind or id stays
pub draft_of-with_other : (drafts : List DraftState) (kind : PlanType) (id : ℕ) (item : Item) (other_kind : PlanType) (other_id : ℕ) → is_draft other_kind other_id (record { kind = kind; id = id; items = [] }) ≡ false → draft_of (with_written drafts kind id item) other_kind other_id ≡ draft_of drafts other_kind other_id
draft_of-with_other drafts kind id item other_kind other_id differs =
    let new : DraftState = record { kind = kind; id = id; items = draft_of drafts kind id ++ item ∷ [] } in
    ap items_of (find-put_first_other (is_draft other_kind other_id) (is_draft kind id) new drafts differs (λ draft passes. let is = is_draft-true kind id draft passes in rw (is.0, is.1) differs))

-- a link's request that is served is its last served one
pub last_served-with_served : (served : List ServedState) (link : ℕ) (asked : Asked) (reply : Reply) → last_served (with_served served (client.Link link) asked reply) link ≡ Some (record { link = link; asked = asked; reply = reply })
last_served-with_served served link asked reply =
    find-put_by (is_of_link link) (record { link = link; asked = asked; reply = reply }) served (eq-eqb link link refl)

-- the last served request of another link stays
pub last_served-with_other : (served : List ServedState) (link other : ℕ) (asked : Asked) (reply : Reply) → link ≢ other → last_served (with_served served (client.Link link) asked reply) other ≡ last_served served other
last_served-with_other served link other asked reply differs =
    find-put_by_other (is_of_link other) (is_of_link link) (record { link = link; asked = asked; reply = reply }) served (ne_eqb link other differs) (λ last passes. let is : last.link ≡ link = eqb-true last.link link passes in rw is (ne_eqb link other differs))
