-- What a look for the item to take next finds.
use Rattle.std.proofs.Common.{◌≡◌, ℕ, ◌&&◌, Bool, true, false, List, [], ◌∷◌, ◌++◌, Option, Some, None, Ok, Err, length, is_some, is_none, refl, sym, ap, subst, ◌∙◌}
use Rattle.std.specs.Prelude.{if◌then◌else◌}
use Rattle.mission_model.specs.declared.plan.Item.{Item}
use Rattle.mission_model.specs.declared.plan.PlanType.{PlanType}
use Rattle.mission_model.specs.declared.message.AckCode.{AckCode}
use Rattle.mission_model.specs.declared.plan_check.PlanCheck.{PlanCheck}
use Rattle.mission_model.specs.ItemCode.{answer_of}
use Rattle.mission_model.specs.PlanCode.{PlanCode}
use Rattle.mission_model.specs.PlanCheck.{Checked}
use Rattle.client_cache.specs.CacheState.{CacheState, count_of, known_at, forgotten}
use Rattle.navigator.specs.Uses.{JumpUses, goes_with}
use Rattle.navigator.specs.Taking.{can_follow, following, TakesNext}

-- what is known behind these items
pub known_there : (c : CacheState) (seq : ℕ) (items : List Item) (item : Item) → seq ≡ length items → Some item ≡ known_at c seq → known_at c (length items) ≡ Some item
known_there c seq items item at here = ap (known_at c) (sym at) ∙ sym here

no_code : (code : Option AckCode) → Ok tt ≡ answer_of code → code ≡ None
no_code None h = refl
no_code (Some code) h = absurd cc

some_code : (code : Option AckCode) (e : AckCode) → Err e ≡ answer_of code → is_none code ≡ false
some_code None e h = absurd cc
some_code (Some code) e h = refl

both : (a b : Bool) → a ≡ true → b ≡ true → (a && b) ≡ true
both a b p q = ap (λ x. x && b) p ∙ q

second_false : (a b : Bool) → b ≡ false → (a && b) ≡ false
second_false true b q = q
second_false false b q = refl

first_false : (a b : Bool) → a ≡ false → (a && b) ≡ false
first_false a b p = ap (λ x. x && b) p

return_chosen : (b : Bool) (item : Item) → b ≡ true → Some item ≡ (if b then Some item else None)
return_chosen b item h = sym (ap (λ x. if x then Some item else None) h)

left_out : (b : Bool) (item : Item) → b ≡ false → None ≡ (if b then Some item else None)
left_out b item h = sym (ap (λ x. if x then Some item else None) h)

-- an item that goes_with and that the check accepted
pub next_taken : (kind : PlanType) (uses : JumpUses) (c : CacheState) (items : List Item) (item : Item) (seq : ℕ) (check : PlanCheck) → seq ≡ length items → Some item ≡ known_at c seq → goes_with kind uses seq item ≡ true → Ok tt ≡ answer_of (PlanCode kind (count_of c.head) items item) → Checked check kind (count_of c.head) (items ++ item ∷ []) → TakesNext kind uses c items (Some item) c check
next_taken kind uses c items item seq check at here fit code checked =
    let known = known_there c seq items item at here in
    let fit' : goes_with kind uses (length items) item ≡ true = ap (λ n. goes_with kind uses n item) (sym at) ∙ fit in
    let follows : can_follow kind uses (count_of c.head) items item ≡ true = both _ _ fit' (ap is_none (no_code _ code)) in
    record {
      answer_is = return_chosen (can_follow kind uses (count_of c.head) items item) item follows ∙ sym (ap (following kind uses (count_of c.head) items) known);
      cache = refl;
      checked = checked;
    }

-- an item that may not follow
next_refused : (kind : PlanType) (uses : JumpUses) (c : CacheState) (items : List Item) (item : Item) (seq : ℕ) (check check' : PlanCheck) (c' : CacheState) → Checked check kind (count_of c.head) items → seq ≡ length items → Some item ≡ known_at c seq → can_follow kind uses (count_of c.head) items item ≡ false → c' ≡ forgotten c seq → check' ≡ check → TakesNext kind uses c items None c' check'
next_refused kind uses c items item seq check check' c' h at here refused forgets same =
    let known = known_there c seq items item at here in
    record {
      answer_is = left_out (can_follow kind uses (count_of c.head) items item) item refused ∙ sym (ap (following kind uses (count_of c.head) items) known);
      cache = forgets ∙ ap (forgotten c) at ∙ sym (ap (λ o. if is_some o then forgotten c (length items) else c) known);
      checked = subst (λ k. Checked k kind (count_of c.head) items) (sym same) h;
    }

-- an item that does not fit
pub next_unfit : (kind : PlanType) (uses : JumpUses) (c : CacheState) (items : List Item) (item : Item) (seq : ℕ) (check check' : PlanCheck) (c' : CacheState) → Checked check kind (count_of c.head) items → seq ≡ length items → Some item ≡ known_at c seq → goes_with kind uses seq item ≡ false → c' ≡ forgotten c seq → check' ≡ check → TakesNext kind uses c items None c' check'
next_unfit kind uses c items item seq check check' c' h at here unfit forgets same =
    next_refused kind uses c items item seq check check' c' h at here (first_false _ _ (ap (λ n. goes_with kind uses n item) (sym at) ∙ unfit)) forgets same

-- an item that the check refused
pub next_with_code : (kind : PlanType) (uses : JumpUses) (c : CacheState) (items : List Item) (item : Item) (seq : ℕ) (check check' : PlanCheck) (c' : CacheState) (e : AckCode) → Checked check kind (count_of c.head) items → seq ≡ length items → Some item ≡ known_at c seq → Err e ≡ answer_of (PlanCode kind (count_of c.head) items item) → c' ≡ forgotten c seq → check' ≡ check → TakesNext kind uses c items None c' check'
next_with_code kind uses c items item seq check check' c' e h at here code forgets same =
    next_refused kind uses c items item seq check check' c' h at here (second_false _ _ (some_code _ e code)) forgets same
