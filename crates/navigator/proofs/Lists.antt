-- A list that is taken stays what its struct asks of it, whatever is done to its cache; and when it is valid.
use Rattle.std.proofs.Common.{◌≡◌, ℕ, ◌≤◌, ◌<◌, List, Some, None, length, take, refl, sym, ap, subst, ◌∙◌, arith}
use Rattle.std.specs.Prelude.{slice_get}
use Rattle.mission_model.specs.declared.limits.TheConstants.{MAX_FENCE_VERTICES, MAX_SAFE_POINTS}
use Rattle.mission_model.specs.declared.plan.Item.{Item}
use Rattle.mission_model.specs.declared.plan.PlanType.{PlanType}
use Rattle.mission_model.specs.declared.plan.PlanType.TheVariants.{Safe}
use Rattle.mission_model.specs.declared.plan_check.PlanCheck.{PlanCheck}
use Rattle.mission_model.specs.declared.request.Client.TheVariants.{Nav}
use Rattle.mission_model.specs.PlanCode.{PlanCode, PlanValid}
use Rattle.mission_model.specs.PlanCheck.{Checked}
use Rattle.mission_model.specs.PlanTypes.{limit_of}
use Rattle.client_cache.specs.CacheState.{CacheState, count_of}
use Rattle.navigator.specs.Caches.{SamePlan, SamePlan-behind, count-same}
use Rattle.navigator.specs.Uses.{JumpUses}
use Rattle.navigator.specs.Taking.{TakesNext, PlanTaken, taking}
use Rattle.navigator.proofs.Takings.{Going, Going-stopped, Going-whole, taking_is}

-- what the struct asks
abbrev pub Fits : PlanType → PlanCheck → CacheState → List Item → Type 0
Fits kind check c items = Checked check kind (count_of c.head) items × (length items ≤ count_of c.head) × (count_of c.head ≤ limit_of kind) × (count_of c.head ≤ MAX_FENCE_VERTICES) × (c.client ≡ Nav)

pub Fits-same : (kind : PlanType) (check : PlanCheck) (c c' : CacheState) (items : List Item) → SamePlan c c' → Fits kind check c items → Fits kind check c' items
Fits-same kind check c c' items same h =
    let count : count_of c.head ≡ count_of c'.head = count-same c' c (record { client = back same.client; kind = back same.kind; head = back same.head }) in (
      subst (λ (n : ℕ). Checked check kind n items) count h.0,
      subst (λ (n : ℕ). length items ≤ n) count h.1,
      subst (λ (n : ℕ). n ≤ limit_of kind) count h.2,
      subst (λ (n : ℕ). n ≤ MAX_FENCE_VERTICES) count h.3,
      same.client ∙ h.4,
    )
  where
    back : {A : Type 0} {a b : A} → a ≡ b → b ≡ a
    back h = sym h

-- so it is while items are taken
pub Fits-going : (kind : PlanType) (uses : JumpUses) (c c' : CacheState) (first items : List Item) (seq : ℕ) (before check : PlanCheck) → Fits kind before c first → Going kind uses c first seq c' check items → seq ≤ count_of c.head → Fits kind check c' items
Fits-going kind uses c c' first items seq before check h g within =
    subst (λ (k : CacheState). Fits kind check k items) (sym g.cache) (g.checked, omega (arith, g.at, within), h.2, h.3, h.4)

-- and where no more can be
pub Fits-stopped : (kind : PlanType) (uses : JumpUses) (c c' c2 : CacheState) (first items : List Item) (seq : ℕ) (before check check2 : PlanCheck) → Fits kind before c first → Going kind uses c first seq c' check items → ((xs : List Item) → Checked check kind (count_of c'.head) xs → TakesNext kind uses c' xs None c2 check2) → seq < count_of c.head → Fits kind check2 c2 items
Fits-stopped kind uses c c' c2 first items seq before check check2 h g next below =
    let st = Going-stopped kind uses c first seq c' check items c2 check2 g next below in
    Fits-same kind check2 c c2 items (subst (SamePlan c) (sym st.1) (SamePlan-behind c (length items))) (st.2, omega (arith, g.at, below), h.2, h.3, h.4)

as_taking : (uses : JumpUses) (p : PlanTaken) (kind : PlanType) (items : List Item) (c2 : CacheState) → kind ≡ p.kind → record p { cache = c2; taken = items } ≡ taking uses p → record { kind = kind; cache = c2; taken = items } ≡ taking uses p
as_taking uses p kind items c2 same is = ap (λ (k : PlanType). record { kind = k; cache = c2; taken = items }) same ∙ is

-- the list is then the one that was taken as far as it can be
pub taking-stopped : (uses : JumpUses) (p : PlanTaken) (kind : PlanType) (c' c2 : CacheState) (items : List Item) (seq : ℕ) (check check2 : PlanCheck) → kind ≡ p.kind → Going p.kind uses p.cache p.taken seq c' check items → ((xs : List Item) → Checked check p.kind (count_of c'.head) xs → TakesNext p.kind uses c' xs None c2 check2) → seq < count_of p.cache.head → record { kind = kind; cache = c2; taken = items } ≡ taking uses p
taking-stopped uses p kind c' c2 items seq check check2 same g next below =
    let st = Going-stopped p.kind uses p.cache p.taken seq c' check items c2 check2 g next below in
    as_taking uses p kind items c2 same (taking_is uses p items c2 st.0 st.1)

pub taking-ended : (uses : JumpUses) (p : PlanTaken) (kind : PlanType) (c' : CacheState) (items : List Item) (seq : ℕ) (check : PlanCheck) → kind ≡ p.kind → Going p.kind uses p.cache p.taken seq c' check items → seq ≡ count_of p.cache.head → record { kind = kind; cache = c'; taken = items } ≡ taking uses p
taking-ended uses p kind c' items seq check same g end =
    let st = Going-whole p.kind uses p.cache p.taken seq c' check items g end in
    as_taking uses p kind items c' same (taking_is uses p items c' st.0 st.1)

-- the code of a safe point is its own
PlanCode-safe : (n m : ℕ) (items : List Item) (item : Item) → PlanCode Safe n items item ≡ PlanCode Safe m items item
unfolding PlanCode
PlanCode-safe n m items item = refl

-- safe points that were taken are valid by themselves
pub PlanValid-safe : (check : PlanCheck) (count : ℕ) (items : List Item) → Checked check Safe count items → length items ≤ count → count ≤ MAX_SAFE_POINTS → PlanValid Safe items
PlanValid-safe check count items h within limit = record {
  within = omega (arith, within, limit);
  accepted = λ (place : ℕ) (item : Item) (at : slice_get items place ≡ Some item). PlanCode-safe (length items) count (take place items) item ∙ h.accepted place item at;
}
