-- A request that the store can serve can be asked of banks that hold it.
use Rattle.std.proofs.Common.{◌≡◌, ℕ, zero, suc, ◌-◌, ◌<◌, ◌≤◌, ◌==◌, Bool, true, false, List, [], ◌∷◌, ◌++◌, length, Option, Some, None, refl, sym, ap, ◌∙◌, subst, arith}
use Rattle.std.specs.Prelude.{slice_get, IsSome, if◌then◌else◌, unwrap_or}
use Rattle.std.proofs.lemmas.Bool.{eqb-true}
use Rattle.std.proofs.lemmas.Option.{slice_get_within}
use Rattle.mission_model.specs.declared.plan.PlanType.{PlanType}
use Rattle.mission_model.specs.declared.plan.Item.{Item}
use Rattle.mission_model.specs.declared.request.Request.{Request}
use Rattle.mission_model.specs.declared.request.Request.TheVariants as request
use Rattle.mission_model.specs.PlanCode.{PlanValid, limit_of}
use Rattle.mission_model.specs.PlainMark.{plain_mark}
use Rattle.mission_model.specs.declared.plan.PlanType.TheVariants.{Mission}
use Rattle.disk_model.specs.Disk.{DiskState}
use Rattle.plan_store.specs.declared.places.Written.{Written}
use Rattle.plan_store.specs.StoreState.{StoredPlan, Drafts, StoreState, of_kind, item_for, draft_at, drafted, if_any, IsWhole}
use Rattle.plan_store.specs.CanServe.{CanServe, MarkFits}
use Rattle.plan_store.specs.DraftLaws.{length-drafted, slice_get-drafted}
use Rattle.bank_state.specs.StandsFor.{HasItems, record_in}
use Rattle.bank_state.specs.Frames.{length-items_in}
use Rattle.bank_state.specs.Ledger.{Ledger, items_in, item_of}
use Rattle.dataman_worker.specs.Holds.{Holds, HasDrafts}
use Rattle.dataman_worker.specs.CanAsk.{CanAsk}

own_item : (own : Bool) (id : ℕ) (w : Written) → (w.id == id) ≡ own → IsSome (if own then Some w.item else None) → w.id ≡ id
own_item true id w is some = eqb-true w.id id is
own_item false id w is some = absurd cc

-- what stands in a draft was written under its id
pub written_there : (id : ℕ) (o : Option Written) → IsSome (item_for id o) → (w : Written) × (o ≡ Some w) × (w.id ≡ id)
written_there id None some = absurd cc
written_there id (Some w) some = (w, refl, own_item (w.id == id) id w refl some)

-- and its item is the draft's
pub item_there : (id : ℕ) (w : Written) → IsSome (item_for id (Some w)) → item_for id (Some w) ≡ Some w.item
item_there id w some = go (w.id == id) some
  where
    go : (own : Bool) → IsSome (if own then Some w.item else None) → (if own then Some w.item else None) ≡ Some w.item
    go true some = refl
    go false some = absurd cc

-- of each item of a whole draft, what was written
pub draft_there : (drafts : Drafts) (id seq : ℕ) → IsSome (draft_at drafts id seq) → (w : Written) × (drafts seq ≡ Some w) × (w.id ≡ id) × (draft_at drafts id seq ≡ Some w.item)
draft_there drafts id seq some =
    let there = written_there id (drafts seq) some in
    (there.0, there.1, there.2, ap (item_for id) there.1 ∙ item_there id there.0 (subst (λ (o : Option Written). IsSome (item_for id o)) there.1 some))

-- a whole draft is read in the spare bank
pub items_in-drafted : (drafts : Drafts) (own id : ℕ) (kind : PlanType) (bank count : ℕ) (image : List ℕ) → own < id → count ≤ limit_of kind → IsWhole drafts id count → HasDrafts drafts own kind bank image → items_in kind bank count image ≡ drafted drafts id count
items_in-drafted drafts own id kind bank zero image newer within whole has = refl
items_in-drafted drafts own id kind bank (suc n) image newer within whole has =
    let front : items_in kind bank n image ≡ drafted drafts id n = items_in-drafted drafts own id kind bank n image newer (omega (arith, within)) (λ seq below. whole seq (omega (arith, below))) has in
    let there = draft_there drafts id n (whole n (omega arith)) in
    let w : Written = there.0 in
    let at = has n w (omega (arith, within)) there.1 (omega (arith, newer, there.2)) in
    let last : item_of (record_in kind bank n image) ≡ w.item = ap item_of at in
    let more : if_any (draft_at drafts id n) ≡ w.item ∷ [] = ap if_any there.3 in
    (λ i. front i ++ last i ∷ []) ∙ sym (ap (λ (xs : List Item). drafted drafts id n ++ xs) more)

-- so each of its items is its record there
pub has_items : (drafts : Drafts) (own id : ℕ) (kind : PlanType) (bank count : ℕ) (image : List ℕ) → own < id → count ≤ limit_of kind → IsWhole drafts id count → HasDrafts drafts own kind bank image
    → HasItems kind bank (record { id = id; items = items_in kind bank count image }) image
has_items drafts own id kind bank count image newer within whole has seq item at =
    let same = items_in-drafted drafts own id kind bank count image newer within whole has in
    let is : slice_get (drafted drafts id count) seq ≡ Some item = sym (ap (λ (xs : List Item). slice_get xs seq) same) ∙ at in
    let below : seq < count = omega (arith, slice_get_within (drafted drafts id count) seq item is, length-drafted drafts id count whole) in
    let there = draft_there drafts id seq (whole seq below) in
    let w : Written = there.0 in
    let found : record_in kind bank seq image ≡ Some (record { kind = kind; id = w.id; seq = seq; item = w.item }) = has seq w (omega (arith, below, within)) there.1 (omega (arith, newer, there.2)) in
    let one : Some w.item ≡ Some item = sym there.3 ∙ sym (slice_get-drafted drafts id count seq whole below) ∙ is in
    let item_is : w.item ≡ item = ap (λ (o : Option Item). unwrap_or o item) one in
    found ∙ (λ i. Some (record { kind = kind; id = there.2 i; seq = seq; item = item_is i }))

-- A request that the store can serve can be asked of banks that hold it.
pub can_ask : (st : StoreState) (ledger : Ledger) (disk : DiskState) (asked : Request) → Holds st ledger disk.seen → CanServe st asked → CanAsk ledger disk asked
can_ask st ledger disk (request.Read kind id seq) holds can = λ same.
    let plan = holds.plans kind in
    let below = can (same ∙ sym (ap (λ (p : StoredPlan). p.id) plan)) in
    omega (arith, below, ap (λ (p : StoredPlan). length p.items) plan, length-items_in kind (ledger.entries kind).bank (ledger.entries kind).head.count disk.seen)
can_ask st ledger disk (request.Write kind id seq item) holds can = (omega (arith, can.newer, ap (λ (p : StoredPlan). p.id) (holds.plans kind)), can.within)
can_ask st ledger disk (request.Commit kind id count) holds can =
    let drafts = (of_kind st kind).drafts in
    let entry = ledger.entries kind in
    let newer : entry.head.id < id = omega (arith, can.newer, ap (λ (p : StoredPlan). p.id) (holds.plans kind)) in
    record {
      newer = newer;
      within = can.within;
      written = λ told. has_items drafts entry.head.id id kind (1 - entry.bank) count disk.seen newer can.within can.written (holds.drafts kind);
      valid = λ told. subst (λ (xs : List Item). PlanValid kind xs) (sym (items_in-drafted drafts entry.head.id id kind (1 - entry.bank) count disk.seen newer can.within can.written (holds.drafts kind))) can.valid;
    }
can_ask st ledger disk (request.SetMark mark) holds can = λ same told.
    let plan = holds.plans Mission in
    subst (λ (p : StoredPlan). MarkFits (plain_mark mark) p) plan (can (same ∙ sym (ap (λ (p : StoredPlan). p.id) plan)))
