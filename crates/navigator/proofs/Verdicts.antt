-- A verdict takes the fence, and then the mission with it.
use Rattle.std.proofs.Common.{◌≡◌, ◌≢◌, ℕ, ◌-◌, ◌<◌, ◌==◌, Bool, true, false, List, [], Option, Some, None, length, refl, sym, ap, subst, ◌∙◌, arith}
use Rattle.std.specs.Prelude.{if◌then◌else◌}
use Rattle.std.proofs.lemmas.Bool.Decides.{nat_tests}
use Rattle.mission_model.specs.declared.plan.Home.{Home}
use Rattle.mission_model.specs.declared.plan.Item.{Item}
use Rattle.mission_model.specs.declared.plan.Params.{Params}
use Rattle.mission_model.specs.declared.plan.PlanType.{PlanType}
use Rattle.mission_model.specs.declared.plan.PlanType.TheVariants.{Mission, Fence}
use Rattle.client_cache.specs.CacheState.{CacheState, count_of}
use Rattle.navigator.specs.Uses.{JumpUses}
use Rattle.navigator.specs.Taking.{PlanTaken, whole_taking, cache_behind, taking}
use Rattle.navigator.specs.Judging.{MissionTaken, ShownTo, FedBy, TakesOn, is_whole, mission_behind, mission_plan, or_else, lacking}
use Rattle.navigator.proofs.Takings.{whole_taking-whole, cache_behind-end, taking_is}

-- a whole plan stays as it is
pub taking-whole : (uses : JumpUses) (p : PlanTaken) → length p.taken ≡ (count_of p.cache.head) → p ≡ taking uses p
taking-whole uses p whole =
    let none : 0 ≡ (count_of p.cache.head) - length p.taken = omega (arith, whole) in
    taking_is uses p p.taken p.cache (whole_taking-whole p.kind uses p.cache p.taken p.taken 0 refl none) (sym (cache_behind-end p.cache (length p.taken) (omega (arith, whole))))

-- the fence is the same
pub FedBy-same : (params : Params) (home : Option Home) (fence fence' : PlanTaken) (m : MissionTaken) (items : List Item) → fence' ≡ fence → FedBy params home fence m items → FedBy params home fence' m items
FedBy-same params home fence fence' m items same h = subst (λ (f : PlanTaken). FedBy params home f m items) (sym same) h

-- the fence is whole now
pub FedBy-begun : (params : Params) (home : Option Home) (fence fence' : PlanTaken) (m m' : MissionTaken) (items : List Item) → FedBy params home fence m items → length fence.taken < (count_of fence.cache.head) → length fence'.taken ≡ (count_of fence'.cache.head) → ShownTo m' params home fence'.taken [] → FedBy params home fence' m' items
FedBy-begun params home fence fence' m m' items h part whole begun = record {
  whole = λ w. subst (λ (xs : List Item). ShownTo m' params home fence'.taken xs) (sym (h.part part)) begun;
  part = λ lt. absurd (omega (arith, lt, whole));
}

-- the fence is not whole yet
pub FedBy-part : (params : Params) (home : Option Home) (fence fence' : PlanTaken) (m : MissionTaken) (items : List Item) → FedBy params home fence m items → length fence.taken < (count_of fence.cache.head) → length fence'.taken ≢ (count_of fence'.cache.head) → FedBy params home fence' m items
FedBy-part params home fence fence' m items h part not_whole = record {
  whole = λ w. absurd (not_whole w);
  part = λ lt. h.part part;
}

eq_true : (a b : ℕ) → a ≡ b → (a == b) ≡ true
eq_true a b h = grind (arith, nat_tests, h)

eq_false : (a b : ℕ) → a ≢ b → (a == b) ≡ false
eq_false a b h = grind (arith, nat_tests, h)

lacks_part : (kind : PlanType) (p : PlanTaken) (b : Bool) → is_whole p ≡ b → lacking kind p ≡ (if b then None else Some (kind, length p.taken))
lacks_part kind p b is = ap (λ x. if x then None else Some (kind, length p.taken)) is

-- the fence is missing
pub takes_no_mission : (params : Params) (home : Option Home) (uses : JumpUses) (fence : PlanTaken) (m0 m1 : MissionTaken) (items : List Item) (seq : ℕ) → length fence.taken ≢ (count_of fence.cache.head) → m1.cache ≡ m0.cache → FedBy params home fence m1 items → seq ≡ length fence.taken → TakesOn params home uses fence m0 items (Some (Fence, seq)) m1
takes_no_mission params home uses fence m0 m1 items seq not_whole same fed at =
    let is : is_whole fence ≡ false = eq_false (length fence.taken) (count_of fence.cache.head) not_whole in
    let p : mission_plan m0 items ≡ mission_behind (is_whole fence) uses (mission_plan m0 items) = sym (ap (λ b. mission_behind b uses (mission_plan m0 items)) is) in
    record {
      cache = same ∙ ap (λ (q : PlanTaken). q.cache) p;
      fed = subst (λ (q : PlanTaken). FedBy params home fence m1 q.taken) p fed;
      answer_is = ap (λ n. Some (Fence, n)) at ∙ ap (λ o. or_else o (lacking Mission (mission_behind (is_whole fence) uses (mission_plan m0 items)))) (sym (lacks_part Fence fence false is));
    }

taken_now : (params : Params) (home : Option Home) (fence : PlanTaken) (m : MissionTaken) (items : List Item) → length fence.taken ≡ (count_of fence.cache.head) → ShownTo m params home fence.taken items → FedBy params home fence m items
taken_now params home fence m items whole h = record { whole = λ w. h; part = λ lt. absurd (omega (arith, lt, whole)) }

-- the mission is taken
pub takes_mission : (params : Params) (home : Option Home) (uses : JumpUses) (fence : PlanTaken) (m0 m1 m2 : MissionTaken) (items : List Item) (missing : Option (PlanType × ℕ)) → length fence.taken ≡ (count_of fence.cache.head) → m1.cache ≡ m0.cache → (m2.cache ≡ cache_behind m1.cache (length (whole_taking Mission uses m1.cache items))) × ShownTo m2 params home fence.taken (whole_taking Mission uses m1.cache items) → missing ≡ lacking Mission (record { kind = Mission; cache = m2.cache; taken = whole_taking Mission uses m1.cache items }) → TakesOn params home uses fence m0 items missing m2
takes_mission params home uses fence m0 m1 m2 items missing whole same took left =
    let is : is_whole fence ≡ true = eq_true (length fence.taken) (count_of fence.cache.head) whole in
    let now : PlanTaken = record { kind = Mission; cache = m2.cache; taken = whole_taking Mission uses m1.cache items } in
    let p : now ≡ mission_behind (is_whole fence) uses (mission_plan m0 items) =
    taking_is uses (mission_plan m1 items) (whole_taking Mission uses m1.cache items) m2.cache refl took.0
    ∙ ap (λ (c : CacheState). taking uses (record { kind = Mission; cache = c; taken = items })) same
    ∙ sym (ap (λ b. mission_behind b uses (mission_plan m0 items)) is) in
    record {
      cache = ap (λ (q : PlanTaken). q.cache) p;
      fed = subst (λ (q : PlanTaken). FedBy params home fence m2 q.taken) p (taken_now params home fence m2 (whole_taking Mission uses m1.cache items) whole took.1);
      answer_is = left ∙ ap (λ (q : PlanTaken). lacking Mission q) p ∙ ap (λ o. or_else o (lacking Mission (mission_behind (is_whole fence) uses (mission_plan m0 items)))) (sym (lacks_part Fence fence true is));
    }

-- nothing is missing of a whole plan, and else the item behind those taken
pub lacks_none : (kind : PlanType) (p : PlanTaken) → length p.taken ≡ (count_of p.cache.head) → None ≡ lacking kind p
lacks_none kind p whole = sym (lacks_part kind p true (eq_true (length p.taken) (count_of p.cache.head) whole))

pub lacks_next : (kind : PlanType) (p : PlanTaken) (seq : ℕ) → length p.taken ≢ (count_of p.cache.head) → seq ≡ length p.taken → Some (kind, seq) ≡ lacking kind p
lacks_next kind p seq not_whole at = ap (λ n. Some (kind, n)) at ∙ sym (lacks_part kind p false (eq_false (length p.taken) (count_of p.cache.head) not_whole))
