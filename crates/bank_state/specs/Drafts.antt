-- The items of a bank, from the records that are read there.
use Rattle.std.proofs.Common.{◌≡◌, ◌<◌, ℕ, zero, suc, List, [], ◌∷◌, ◌++◌, length, Option, Some, slice_get, unwrap_or, ⊎_elim, refl, sym, ap, ◌∙◌, arith}
use Rattle.std.proofs.lemmas.Bool.{cases_eq}
use Rattle.std.proofs.lemmas.Option.{slice_get_within}
use Rattle.mission_model.specs.declared.plan.PlanType.{PlanType}
use Rattle.mission_model.specs.declared.plan.PlanHead.{PlanHead}
use Rattle.mission_model.specs.declared.plan.Item.{Item}
use Rattle.dataman_layout.specs.declared.item.Record.{Record}
use Rattle.bank_state.specs.StandsFor.{record_in, HasItems}
use Rattle.bank_state.specs.Ledger.{item_of, items_in, plan_in}
use Rattle.bank_state.specs.Frames.{length-items_in}
use Rattle.bank_state.specs.OnePair.{same_items}

slice_get-push : (items : List Item) (item : Item) (k : ℕ) → k < length items → slice_get (items ++ item ∷ []) k ≡ slice_get items k
slice_get-push [] item k below = absurd (omega (arith, below))
slice_get-push (x ∷ items) item zero below = refl
slice_get-push (x ∷ items) item (suc k) below = slice_get-push items item k (omega (arith, below))

slice_get-last : (items : List Item) (item : Item) (k : ℕ) → k ≡ length items → slice_get (items ++ item ∷ []) k ≡ Some item
slice_get-last [] item zero is = refl
slice_get-last [] item (suc k) is = absurd (omega (arith, is))
slice_get-last (x ∷ items) item zero is = absurd (omega (arith, is))
slice_get-last (x ∷ items) item (suc k) is = slice_get-last items item k (omega (arith, is))

-- the item at a seq is that of the record there
pub slice_get-items_in : (kind : PlanType) (bank n : ℕ) (image : List ℕ) (seq : ℕ) → seq < n → slice_get (items_in kind bank n image) seq ≡ Some (item_of (record_in kind bank seq image))
slice_get-items_in kind bank zero image seq below = absurd (omega (arith, below))
slice_get-items_in kind bank (suc n) image seq below = ⊎_elim
    (λ is. slice_get-last (items_in kind bank n image) (item_of (record_in kind bank n image)) seq (omega (arith, is, length-items_in kind bank n image)) ∙ ap (λ (k : ℕ). Some (item_of (record_in kind bank k image))) (sym is))
    (λ other. slice_get-push (items_in kind bank n image) (item_of (record_in kind bank n image)) seq (omega (arith, below, other, length-items_in kind bank n image))
    ∙ slice_get-items_in kind bank n image seq (omega (arith, below, other)))
    (cases_eq seq n)

some_item : (x y : Item) → Some x ≡ Some y → x ≡ y
some_item x y same = ap (λ (o : Option Item). unwrap_or o x) same

-- where each record below the count is an item's of this id, the bank has the plan
pub has_items : (kind : PlanType) (bank : ℕ) (head : PlanHead) (image : List ℕ)
    → ((seq : ℕ) → seq < head.count → (item : Item) × (record_in kind bank seq image ≡ Some (record { kind = kind; id = head.id; seq = seq; item = item }))) → HasItems kind bank (plan_in kind bank head image) image
has_items kind bank head image each = λ seq item at.
    let within = slice_get_within (items_in kind bank head.count image) seq item at in
    let below : seq < head.count = omega (arith, within, length-items_in kind bank head.count image) in
    let there = each seq below in
    let is : there.0 ≡ item = some_item there.0 item (sym (ap (λ (r : Option Record). Some (item_of r)) there.1) ∙ sym (slice_get-items_in kind bank head.count image seq below) ∙ at) in
    there.1 ∙ (λ i. Some (record { kind = kind; id = head.id; seq = seq; item = is i }))

-- and these are its items
pub items_are : (kind : PlanType) (bank id : ℕ) (items : List Item) (image : List ℕ)
    → ((seq : ℕ) (item : Item) → slice_get items seq ≡ Some item → record_in kind bank seq image ≡ Some (record { kind = kind; id = id; seq = seq; item = item })) → items_in kind bank (length items) image ≡ items
items_are kind bank id items image each = same_items (items_in kind bank (length items) image) items (length-items_in kind bank (length items) image) (λ seq x y at there.
    let below = slice_get_within items seq y there in
    some_item x y (sym at ∙ slice_get-items_in kind bank (length items) image seq below ∙ ap (λ (r : Option Record). Some (item_of r)) (each seq y there)))
