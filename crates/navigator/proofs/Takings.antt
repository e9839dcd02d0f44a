-- A plan is taken one item at a time, and as far as it can be.
use Rattle.std.proofs.Common.{◌≡◌, ℕ, zero, suc, ◌+◌, ◌-◌, ◌<◌, ◌≤◌, Bool, true, false, ◌&&◌, List, [], ◌∷◌, ◌++◌, Option, Some, None, length, is_some, is_none, nat_lt, refl, sym, ap, subst, ◌∙◌, arith, length-append}
use Rattle.std.specs.Prelude.{if◌then◌else◌}
use Rattle.std.proofs.lemmas.Bool.Decides.{nat_tests}
use Rattle.mission_model.specs.declared.plan.Item.{Item}
use Rattle.mission_model.specs.declared.plan.PlanType.{PlanType}
use Rattle.mission_model.specs.declared.plan.Home.{Home}
use Rattle.mission_model.specs.declared.plan.Params.{Params}
use Rattle.mission_model.specs.declared.plan.PlanType.TheVariants.{Mission}
use Rattle.mission_model.specs.declared.plan_check.PlanCheck.{PlanCheck}
use Rattle.mission_model.specs.PlanCheck.{Checked}
use Rattle.mission_model.specs.declared.message.AckCode.{AckCode}
use Rattle.mission_model.specs.declared.limits.TheConstants.{MAX_MISSION_ITEMS}
use Rattle.mission_model.specs.PlanCode.{PlanCode}
use Rattle.feasibility.specs.declared.judge.Judge.{Judge}
use Rattle.feasibility.specs.Judged.{Judged, CanFeed, JoinsItem}
use Rattle.feasibility.specs.Accepting.{CanFeed-accepted}
use Rattle.navigator.specs.Caches.{SamePlan-behind, count-same}
use Rattle.navigator.specs.Uses.{JumpUses, goes_with}
use Rattle.client_cache.specs.CacheState.{CacheState, count_of, known_at, forgotten}
use Rattle.navigator.specs.Taking.{TakesNext, can_follow, following, next_of, added, with_next_of, with_up_to, whole_taking, cache_behind, cache_past, PlanTaken, taking}

-- one more item
pub with_up_to-next : (kind : PlanType) (uses : JumpUses) (c : CacheState) (first items : List Item) (n m : ℕ) (item : Item) → items ≡ with_up_to n kind uses c first → m ≡ suc n → Some item ≡ next_of kind uses c items → items ++ item ∷ [] ≡ with_up_to m kind uses c first
with_up_to-next kind uses c first items n m item is next here =
    sym (ap (λ k. with_up_to k kind uses c first) next ∙ ap (with_next_of kind uses c) (sym is) ∙ ap (added items) (sym here))

-- where none can be taken, no more can
with_up_to-still : (kind : PlanType) (uses : JumpUses) (c : CacheState) (first items : List Item) (n d m : ℕ) → items ≡ with_up_to n kind uses c first → None ≡ next_of kind uses c items → m ≡ n + d → with_up_to m kind uses c first ≡ items
with_up_to-still kind uses c first items n zero m is none e =
    let e' : m ≡ n = omega (arith, e) in
    ap (λ k. with_up_to k kind uses c first) e' ∙ sym is
with_up_to-still kind uses c first items n (suc d) m is none e =
    let e' : m ≡ suc (n + d) = omega (arith, e) in
    ap (λ k. with_up_to k kind uses c first) e' ∙ ap (with_next_of kind uses c) (with_up_to-still kind uses c first items n d (n + d) is none refl) ∙ ap (added items) (sym none)

-- all was taken where none can be
pub whole_taking-stopped : (kind : PlanType) (uses : JumpUses) (c : CacheState) (first items : List Item) (seq : ℕ) → items ≡ with_up_to (seq - length first) kind uses c first → None ≡ next_of kind uses c items → length first ≤ seq → seq ≤ (count_of c.head) → whole_taking kind uses c first ≡ items
unfolding whole_taking
whole_taking-stopped kind uses c first items seq is none from to =
    let e : (count_of c.head) - length first ≡ (seq - length first) + ((count_of c.head) - seq) = omega (arith, from, to) in
    with_up_to-still kind uses c first items (seq - length first) ((count_of c.head) - seq) ((count_of c.head) - length first) is none e

-- all was taken where the plan ends
pub whole_taking-whole : (kind : PlanType) (uses : JumpUses) (c : CacheState) (first items : List Item) (n : ℕ) → items ≡ with_up_to n kind uses c first → n ≡ (count_of c.head) - length first → whole_taking kind uses c first ≡ items
unfolding whole_taking
whole_taking-whole kind uses c first items n is e = ap (λ k. with_up_to k kind uses c first) (sym e) ∙ sym is

cond_and : (a b : Bool) (x y : CacheState) → a ≡ true → (if b then x else y) ≡ (if a && b then x else y)
cond_and true b x y h = refl
cond_and false b x y h = absurd cc

cond_not : (a b : Bool) (x y : CacheState) → a ≡ false → y ≡ (if a && b then x else y)
cond_not true b x y h = absurd cc
cond_not false b x y h = refl

lt_true : (a b : ℕ) → a < b → nat_lt a b ≡ true
lt_true a b h = grind (arith, nat_tests, h)

lt_false : (a b : ℕ) → b ≤ a → nat_lt a b ≡ false
lt_false a b h = grind (arith, nat_tests, h)

pub cache_past-stopped : (c : CacheState) (seq : ℕ) → seq < (count_of c.head) → cache_past c seq None ≡ cache_behind c seq
cache_past-stopped c seq below = cond_and (nat_lt seq (count_of c.head)) (is_some (known_at c seq)) (forgotten c seq) c (lt_true seq (count_of c.head) below)

pub cache_behind-end : (c : CacheState) (seq : ℕ) → (count_of c.head) ≤ seq → cache_behind c seq ≡ c
cache_behind-end c seq over = sym (cond_not (nat_lt seq (count_of c.head)) (is_some (known_at c seq)) (forgotten c seq) c (lt_false seq (count_of c.head) over))

-- Taking goes on: of the items up to this seq those behind the first ones were taken in their turn, and the cache is as it was.
pub record Going (kind : PlanType) (uses : JumpUses) (c : CacheState) (first : List Item) (seq : ℕ) (c' : CacheState) (check : PlanCheck) (items : List Item) : Type 0 where
  pub cache : c' ≡ c
  pub checked : Checked check kind (count_of c.head) items
  pub at : length items ≡ seq
  pub from : length first ≤ seq
  pub taken : items ≡ with_up_to (seq - length first) kind uses c first

-- Feeding goes on: so it is with the items that the judge was shown.
pub record Feeding (uses : JumpUses) (c : CacheState) (first : List Item) (seq : ℕ) (check : PlanCheck) (judge : Judge) (params : Params) (home : Option Home) (fence : List Item) : Type 0 where
  pub from : length first ≤ seq
  pub at : length (with_up_to (seq - length first) Mission uses c first) ≡ seq
  pub checked : Checked check Mission (count_of c.head) (with_up_to (seq - length first) Mission uses c first)
  pub judged : Judged judge params home fence (count_of c.head) (with_up_to (seq - length first) Mission uses c first)

-- an item that can be taken next has no code there
some_if : (b : Bool) (item other : Item) → Some item ≡ (if b then Some other else None) → (b ≡ true) × (other ≡ item)
some_if true item other h = (refl, cc)
some_if false item other h = absurd cc

second_true : (a b : Bool) → (a && b) ≡ true → b ≡ true
second_true true b h = h
second_true false b h = absurd cc

none_true : (code : Option AckCode) → is_none code ≡ true → code ≡ None
none_true None h = refl
none_true (Some code) h = absurd cc

follows : (kind : PlanType) (uses : JumpUses) (count : ℕ) (items : List Item) (o : Option Item) (item : Item) → Some item ≡ following kind uses count items o → PlanCode kind count items item ≡ None
follows kind uses count items None item h = absurd cc
follows kind uses count items (Some other) item h =
    let both = some_if (can_follow kind uses count items other) item other h in
    ap (PlanCode kind count items) (sym both.1) ∙ none_true (PlanCode kind count items other) (second_true (goes_with kind uses (length items) other) (is_none (PlanCode kind count items other)) both.0)

-- one more vertex or point was taken
pub Going-more : (kind : PlanType) (uses : JumpUses) (c : CacheState) (first : List Item) (seq : ℕ) (c' : CacheState) (check : PlanCheck) (items : List Item) (item : Item) (c2 : CacheState) (check2 : PlanCheck) → Going kind uses c first seq c' check items → ((xs : List Item) → Checked check kind (count_of c'.head) xs → TakesNext kind uses c' xs (Some item) c2 check2) → Going kind uses c first (seq + 1) c2 check2 (items ++ item ∷ [])
Going-more kind uses c first seq c' check items item c2 check2 g next =
    let n : TakesNext kind uses c items (Some item) c2 check2 = subst (λ (k : CacheState). TakesNext kind uses k items (Some item) c2 check2) g.cache (next items (subst (λ (k : CacheState). Checked check kind (count_of k.head) items) (sym g.cache) g.checked)) in
    let e : seq + 1 - length first ≡ suc (seq - length first) = omega (arith, g.from) in
    record {
      cache = n.cache;
      checked = n.checked;
      at = length-append items (item ∷ []) ∙ ap (λ k. k + 1) g.at;
      from = omega (arith, g.from);
      taken = with_up_to-next kind uses c first items (seq - length first) (seq + 1 - length first) item g.taken e n.answer_is;
    }

-- the taking stops before the plan's end
pub Going-stopped : (kind : PlanType) (uses : JumpUses) (c : CacheState) (first : List Item) (seq : ℕ) (c' : CacheState) (check : PlanCheck) (items : List Item) (c2 : CacheState) (check2 : PlanCheck) → Going kind uses c first seq c' check items → ((xs : List Item) → Checked check kind (count_of c'.head) xs → TakesNext kind uses c' xs None c2 check2) → seq < (count_of c.head) → (whole_taking kind uses c first ≡ items) × (c2 ≡ cache_behind c (length items)) × Checked check2 kind (count_of c.head) items
Going-stopped kind uses c first seq c' check items c2 check2 g next below =
    let n : TakesNext kind uses c items None c2 check2 = subst (λ (k : CacheState). TakesNext kind uses k items None c2 check2) g.cache (next items (subst (λ (k : CacheState). Checked check kind (count_of k.head) items) (sym g.cache) g.checked)) in
    (whole_taking-stopped kind uses c first items seq g.taken n.answer_is g.from (omega (arith, below)), n.cache ∙ cache_past-stopped c (length items) (omega (arith, g.at, below)), n.checked)

-- the taking comes to the plan's end
pub Going-whole : (kind : PlanType) (uses : JumpUses) (c : CacheState) (first : List Item) (seq : ℕ) (c' : CacheState) (check : PlanCheck) (items : List Item) → Going kind uses c first seq c' check items → seq ≡ (count_of c.head) → (whole_taking kind uses c first ≡ items) × (c' ≡ cache_behind c (length items))
Going-whole kind uses c first seq c' check items g end =
    (whole_taking-whole kind uses c first items (seq - length first) g.taken (ap (λ k. k - length first) end), g.cache ∙ sym (cache_behind-end c (length items) (omega (arith, g.at, end))))

pub count-stopped : (c : CacheState) (seq : ℕ) → count_of (cache_behind c seq).head ≡ count_of c.head
count-stopped c seq = count-same c (cache_behind c seq) (SamePlan-behind c seq)

-- one more item was taken
pub Feeding-more : (uses : JumpUses) (c : CacheState) (first : List Item) (seq : ℕ) (c' : CacheState) (check : PlanCheck) (judge : Judge) (params : Params) (home : Option Home) (fence : List Item) (item : Item) (c2 : CacheState) (check2 : PlanCheck) (judge2 : Judge) → c' ≡ c → Feeding uses c first seq check judge params home fence → ((xs : List Item) → Checked check Mission (count_of c'.head) xs → TakesNext Mission uses c' xs (Some item) c2 check2) → JoinsItem judge item judge2 → Feeding uses c first (seq + 1) check2 judge2 params home fence
Feeding-more uses c first seq c' check judge params home fence item c2 check2 judge2 same f next joins =
    let items : List Item = with_up_to (seq - length first) Mission uses c first in
    let g : Going Mission uses c first seq c' check items = record { cache = same; checked = f.checked; at = f.at; from = f.from; taken = refl } in
    let m : Going Mission uses c first (seq + 1) c2 check2 (items ++ item ∷ []) = Going-more Mission uses c first seq c' check items item c2 check2 g next in
    record {
      from = m.from;
      at = ap length (sym m.taken) ∙ m.at;
      checked = subst (Checked check2 Mission (count_of c.head)) m.taken m.checked;
      judged = subst (Judged judge2 params home fence (count_of c.head)) m.taken (joins params home fence (count_of c.head) items f.judged);
    }

-- the judge may be shown the next item
pub Feeding-CanFeed : (uses : JumpUses) (c : CacheState) (first : List Item) (seq : ℕ) (c' : CacheState) (check : PlanCheck) (judge : Judge) (params : Params) (home : Option Home) (fence : List Item) (item : Item) (c2 : CacheState) (check2 : PlanCheck) → c' ≡ c → Feeding uses c first seq check judge params home fence → ((xs : List Item) → Checked check Mission (count_of c'.head) xs → TakesNext Mission uses c' xs (Some item) c2 check2) → seq < (count_of c.head) → (count_of c.head) ≤ MAX_MISSION_ITEMS → CanFeed judge item
Feeding-CanFeed uses c first seq c' check judge params home fence item c2 check2 same f next below within =
    let items : List Item = with_up_to (seq - length first) Mission uses c first in
    let n : TakesNext Mission uses c items (Some item) c2 check2 = subst (λ (k : CacheState). TakesNext Mission uses k items (Some item) c2 check2) same (next items (subst (λ (k : CacheState). Checked check Mission (count_of k.head) items) (sym same) f.checked)) in
    CanFeed-accepted judge params home fence (count_of c.head) items item f.judged f.checked.accepted (follows Mission uses (count_of c.head) items (known_at c (length items)) item n.answer_is) (omega (arith, f.at, below)) within

-- a plan after all was taken that can be
pub taking_is : (uses : JumpUses) (p : PlanTaken) (items : List Item) (c2 : CacheState) → whole_taking p.kind uses p.cache p.taken ≡ items → c2 ≡ cache_behind p.cache (length items) → record p { cache = c2; taken = items } ≡ taking uses p
taking_is uses p items c2 all stops = rw (all, stops) refl
