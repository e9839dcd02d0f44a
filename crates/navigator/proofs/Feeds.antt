-- The mission's items are shown to the judge as they are taken.
use Rattle.std.proofs.Common.{◌≡◌, ℕ, ◌-◌, ◌<◌, ◌≤◌, List, Option, Some, None, length, refl, sym, ap, subst, ◌∙◌, arith}
use Rattle.mission_model.specs.declared.limits.TheConstants.{MAX_MISSION_ITEMS}
use Rattle.mission_model.specs.declared.plan.Home.{Home}
use Rattle.mission_model.specs.declared.plan.Item.{Item}
use Rattle.mission_model.specs.declared.plan.Params.{Params}
use Rattle.mission_model.specs.declared.plan.PlanType.TheVariants.{Mission}
use Rattle.mission_model.specs.declared.plan_check.PlanCheck.{PlanCheck}
use Rattle.mission_model.specs.PlanCheck.{Checked, HasRoom, CountsTaken}
use Rattle.feasibility.specs.declared.judge.Judge.{Judge}
use Rattle.feasibility.specs.Judged.{Judged}
use Rattle.client_cache.specs.CacheState.{CacheState, count_of}
use Rattle.navigator.specs.Caches.{SamePlan, count-same}
use Rattle.navigator.specs.Uses.{JumpUses}
use Rattle.navigator.specs.Taking.{TakesNext, with_up_to, whole_taking, cache_behind}
use Rattle.navigator.specs.Judging.{MissionTaken, ShownTo, WasShown}
use Rattle.navigator.proofs.Takings.{Going, Feeding, Going-more, Going-stopped, Going-whole, count-stopped}

abbrev IsFed : JumpUses → MissionTaken → ℕ → PlanCheck → Judge → Type 0
IsFed uses m seq check judge = (params : Params) (home : Option Home) (fence items : List Item) → ShownTo m params home fence items → Feeding uses m.cache items seq check judge params home fence

no_more : (uses : JumpUses) (c : CacheState) (items : List Item) (n : ℕ) → n ≡ 0 → items ≡ with_up_to n Mission uses c items
no_more uses c items n none = sym (ap (λ k. with_up_to k Mission uses c items) none)

pub Feeding-begun : (uses : JumpUses) (m : MissionTaken) (check : PlanCheck) (judge : Judge) (params : Params) (home : Option Home) (fence items : List Item) (seq : ℕ) → check ≡ m.check → judge ≡ m.judge → CountsTaken check seq → ShownTo m params home fence items → Feeding uses m.cache items seq check judge params home fence
Feeding-begun uses m check judge params home fence items seq same same' counts h =
    let checked : Checked check Mission (count_of m.cache.head) items = subst (λ (k : PlanCheck). Checked k Mission (count_of m.cache.head) items) (sym same) h.checked in
    let at : seq ≡ length items = counts Mission (count_of m.cache.head) items checked in
    let none : seq - length items ≡ 0 = omega (arith, at) in
    let is = no_more uses m.cache items (seq - length items) none in
    record {
      from = omega (arith, at);
      at = ap length (sym is) ∙ sym at;
      checked = subst (Checked check Mission (count_of m.cache.head)) is checked;
      judged = subst (Judged judge params home fence (count_of m.cache.head)) is (subst (λ (j : Judge). Judged j params home fence (count_of m.cache.head) items) (sym same') h.judged);
    }

pub WasShown-now : (uses : JumpUses) (m : MissionTaken) (seq : ℕ) (c' : CacheState) (check : PlanCheck) (judge : Judge) → c' ≡ m.cache → WasShown m → IsFed uses m seq check judge → WasShown (record { cache = c'; check = check; judge = judge })
WasShown-now uses m seq c' check judge same w fed =
    let f = fed w.params w.home w.fence w.items w.taken in
    record {
      params = w.params;
      home = w.home;
      fence = w.fence;
      items = with_up_to (seq - length w.items) Mission uses m.cache w.items;
      taken = record {
        checked = subst (λ (k : CacheState). Checked check Mission (count_of k.head) (with_up_to (seq - length w.items) Mission uses m.cache w.items)) (sym same) f.checked;
        judged = subst (λ (k : CacheState). Judged judge w.params w.home w.fence (count_of k.head) (with_up_to (seq - length w.items) Mission uses m.cache w.items)) (sym same) f.judged;
      };
      within = subst (λ (k : CacheState). (count_of k.head) ≤ MAX_MISSION_ITEMS) (sym same) w.within;
    }

pub has_room : (uses : JumpUses) (m : MissionTaken) (seq : ℕ) (check : PlanCheck) (judge : Judge) → WasShown m → IsFed uses m seq check judge → seq < (count_of m.cache.head) → HasRoom check
has_room uses m seq check judge w fed below =
    let f = fed w.params w.home w.fence w.items w.taken in
    omega (arith, f.at, f.checked.taken, f.checked.same_count, below)

as_going : (uses : JumpUses) (c : CacheState) (seq : ℕ) (c' : CacheState) (check : PlanCheck) (judge : Judge) (params : Params) (home : Option Home) (fence items : List Item) → c' ≡ c → Feeding uses c items seq check judge params home fence → Going Mission uses c items seq c' check (with_up_to (seq - length items) Mission uses c items)
as_going uses c seq c' check judge params home fence items same f = record { cache = same; checked = f.checked; at = f.at; from = f.from; taken = refl }

pub next_cache : (uses : JumpUses) (c : CacheState) (items : List Item) (seq : ℕ) (c' : CacheState) (check : PlanCheck) (judge : Judge) (params : Params) (home : Option Home) (fence : List Item) (item : Item) (c2 : CacheState) (check2 : PlanCheck) → c' ≡ c → Feeding uses c items seq check judge params home fence → ((xs : List Item) → Checked check Mission (count_of c'.head) xs → TakesNext Mission uses c' xs (Some item) c2 check2) → c2 ≡ c
next_cache uses c items seq c' check judge params home fence item c2 check2 same f next =
    (Going-more Mission uses c items seq c' check _ item c2 check2 (as_going uses c seq c' check judge params home fence items same f) next).cache

pub FedBy-stopped : (uses : JumpUses) (c : CacheState) (seq : ℕ) (c' : CacheState) (check : PlanCheck) (judge : Judge) (c2 : CacheState) (check2 : PlanCheck) (params : Params) (home : Option Home) (fence items : List Item) → c' ≡ c → Feeding uses c items seq check judge params home fence → ((xs : List Item) → Checked check Mission (count_of c'.head) xs → TakesNext Mission uses c' xs None c2 check2) → seq < (count_of c.head) → (c2 ≡ cache_behind c (length (whole_taking Mission uses c items))) × ShownTo (record { cache = c2; check = check2; judge = judge }) params home fence (whole_taking Mission uses c items)
FedBy-stopped uses c seq c' check judge c2 check2 params home fence items same f next below =
    let now : List Item = with_up_to (seq - length items) Mission uses c items in
    let st = Going-stopped Mission uses c items seq c' check now c2 check2 (as_going uses c seq c' check judge params home fence items same f) next below in
    let count : (count_of c.head) ≡ (count_of c2.head) = sym (ap (λ (k : CacheState). (count_of k.head)) st.1 ∙ count-stopped c (length now)) in (
      st.1 ∙ ap (λ (xs : List Item). cache_behind c (length xs)) (sym st.0),
      record {
        checked = subst (λ (xs : List Item). Checked check2 Mission (count_of c2.head) xs) (sym st.0) (subst (λ (n : ℕ). Checked check2 Mission n now) count st.2);
        judged = subst (λ (xs : List Item). Judged judge params home fence (count_of c2.head) xs) (sym st.0) (subst (λ (n : ℕ). Judged judge params home fence n now) count f.judged);
      },
    )

pub WasShown-stopped : (uses : JumpUses) (m : MissionTaken) (seq : ℕ) (c' : CacheState) (check : PlanCheck) (judge : Judge) (c2 : CacheState) (check2 : PlanCheck) → c' ≡ m.cache → WasShown m → IsFed uses m seq check judge → ((xs : List Item) → Checked check Mission (count_of c'.head) xs → TakesNext Mission uses c' xs None c2 check2) → seq < (count_of m.cache.head) → WasShown (record { cache = c2; check = check2; judge = judge })
WasShown-stopped uses m seq c' check judge c2 check2 same w fed next below =
    let st = FedBy-stopped uses m.cache seq c' check judge c2 check2 w.params w.home w.fence w.items same (fed w.params w.home w.fence w.items w.taken) next below in
    record {
      params = w.params;
      home = w.home;
      fence = w.fence;
      items = whole_taking Mission uses m.cache w.items;
      taken = st.1;
      within = subst (λ (n : ℕ). n ≤ MAX_MISSION_ITEMS) (sym (ap (λ (k : CacheState). (count_of k.head)) st.0 ∙ count-stopped m.cache (length (whole_taking Mission uses m.cache w.items)))) w.within;
    }

pub FedBy-whole : (uses : JumpUses) (c : CacheState) (seq : ℕ) (c' : CacheState) (check : PlanCheck) (judge : Judge) (params : Params) (home : Option Home) (fence items : List Item) → c' ≡ c → Feeding uses c items seq check judge params home fence → seq ≡ (count_of c.head) → (c' ≡ cache_behind c (length (whole_taking Mission uses c items))) × ShownTo (record { cache = c'; check = check; judge = judge }) params home fence (whole_taking Mission uses c items)
FedBy-whole uses c seq c' check judge params home fence items same f end =
    let now : List Item = with_up_to (seq - length items) Mission uses c items in
    let st = Going-whole Mission uses c items seq c' check now (as_going uses c seq c' check judge params home fence items same f) end in
    let count : (count_of c.head) ≡ (count_of c'.head) = sym (ap (λ (k : CacheState). (count_of k.head)) same) in (
      st.1 ∙ ap (λ (xs : List Item). cache_behind c (length xs)) (sym st.0),
      record {
        checked = subst (λ (xs : List Item). Checked check Mission (count_of c'.head) xs) (sym st.0) (subst (λ (n : ℕ). Checked check Mission n now) count f.checked);
        judged = subst (λ (xs : List Item). Judged judge params home fence (count_of c'.head) xs) (sym st.0) (subst (λ (n : ℕ). Judged judge params home fence n now) count f.judged);
      },
    )

-- what was taken stays taken, whatever is done to the cache of the plan
pub ShownTo-same : (m : MissionTaken) (c : CacheState) (params : Params) (home : Option Home) (fence items : List Item) → count_of c.head ≡ count_of m.cache.head → ShownTo m params home fence items → ShownTo (record m { cache = c }) params home fence items
ShownTo-same m c params home fence items same h = record {
  checked = subst (λ (n : ℕ). Checked m.check Mission n items) (sym same) h.checked;
  judged = subst (λ (n : ℕ). Judged m.judge params home fence n items) (sym same) h.judged;
}

pub WasShown-same : (m : MissionTaken) (c : CacheState) → SamePlan m.cache c → WasShown m → WasShown (record m { cache = c })
WasShown-same m c same w = record {
  params = w.params;
  home = w.home;
  fence = w.fence;
  items = w.items;
  taken = ShownTo-same m c w.params w.home w.fence w.items (count-same m.cache c same) w.taken;
  within = subst (λ (n : ℕ). n ≤ MAX_MISSION_ITEMS) (sym (count-same m.cache c same)) w.within;
}
