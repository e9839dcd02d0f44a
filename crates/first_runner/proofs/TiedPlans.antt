-- What stays tied while items of the mission are told, and when a newer mission takes its place.
use Rattle.std.proofs.Common.{◌≡◌, ◌≢◌, inl, inr, ℕ, ◌<◌, ◌≤◌, Bool, false, List, [], ◌∷◌, length, map, Option, Some, None, refl, sym, ap, ◌∙◌, subst, arith, zero, suc, get_or, length-set}
use Rattle.std.specs.Prelude.{slice_get}
use Rattle.std.specs.List.{All}
use Rattle.std.proofs.lemmas.Bool.{cases_eq}
use Rattle.std.proofs.lemmas.Grind.{get_or-set_at}
use Rattle.std.proofs.lemmas.List.{get_or-set_other, length-map}
use Rattle.std.proofs.lemmas.Option.{same_Some, slice_get_within, get_or_from_slice_get}
use Rattle.first_model.specs.declared.command.TheConstants.{NAV_WAYPOINT}
use Rattle.first_model.specs.declared.plan.Item.{Item}
use Rattle.first_model.specs.declared.plan.PlanHead.{PlanHead}
use Rattle.first_model.specs.declared.plan.PlanType.TheVariants.{Mission}
use Rattle.first_model.specs.declared.request.Asked.{Asked}
use Rattle.first_model.specs.declared.request.Asked.TheVariants as about
use Rattle.first_model.specs.declared.request.Reply.{Reply}
use Rattle.first_model.specs.declared.request.Reply.TheVariants as reply
use Rattle.first_model.specs.declared.vehicle.Mode.{Mode}
use Rattle.first_model.specs.PlainMission.{IsGlobalWaypoint}
use Rattle.first_vehicle.specs.PlanState.{PlanState, told, told_at, with_told, CanBe}
use Rattle.first_core.specs.NavState.{NavState}
use Rattle.first_store.specs.StoreState as store
use Rattle.first_runner.specs.Tied.{PlanTied, KnownAt, ReplyFits, NavTied}

-- q is p with more told, or a newer mission
pub record Later (p q : PlanState) : Type 0 where
  pub ids : p.id ≤ q.id
  pub told : p.id ≡ q.id → (seq : ℕ) (item : Item) → told_at p seq ≡ Some item → told_at q seq ≡ Some item

-- both ids are between the two
ids_meet : (a b c : ℕ) → a ≤ b → b ≤ c → a ≡ c → (a ≡ b) × (b ≡ c)
ids_meet a b c ab bc e = (omega (arith, ab, bc, e), omega (arith, ab, bc, e))

pub known_later : (p q : PlanState) (id seq : ℕ) (item : Item) → Later p q → KnownAt p id seq item → KnownAt q id seq item
known_later p q id seq item later known = record {
  earlier = omega (arith, known.earlier, later.ids);
  is = λ e. let meet = ids_meet id p.id q.id known.earlier later.ids e in later.told meet.1 seq item (known.is meet.0);
}

pub reply_later : (p q : PlanState) → Later p q → (said : Asked × Reply) → ReplyFits p said → ReplyFits q said
reply_later p q later (about.Read Mission id seq, reply.Item item) fits = known_later p q id seq item later fits
reply_later p q later said fits = tt

-- what is told is the item, where each item that is told is
can_be_is : (t : Option Item) (other item : Item) → CanBe t item → t ≡ Some other → other ≡ item
can_be_is None other item can e = cc
can_be_is (Some was) other item can e = sym (same_Some was other e) ∙ can

pub can_be : (t : Option Item) (item : Item) → ((other : Item) → t ≡ Some other → other ≡ item) → CanBe t item
can_be None item h = tt
can_be (Some other) item h = h other refl

-- the item at a place of the plan can be told there
pub item_can_be : (p : PlanState) (plan : store.StoredPlan) (head : PlanHead) (seq : ℕ) (item : Item) → PlanTied p plan head → slice_get plan.items seq ≡ Some item → CanBe (told_at p seq) item
item_can_be p plan head seq item tied at = can_be (told_at p seq) item (λ other e. same_Some other item (sym (tied.told seq other e) ∙ at))

-- and is told once it was
pub told_here : (p : PlanState) (seq : ℕ) (item : Item) → seq < length p.items → told_at (with_told p seq item) seq ≡ Some item
told_here p seq item below = get_or-set_at p.items seq seq (Some item) None refl below

told_there : (p : PlanState) (seq k : ℕ) (item : Item) → k ≢ seq → told_at (with_told p seq item) k ≡ told_at p k
told_there p seq k item apart = get_or-set_other p.items seq k (Some item) None apart

-- a plan with one more item told is a later one
pub later_told : (p : PlanState) (seq : ℕ) (item : Item) → seq < length p.items → CanBe (told_at p seq) item → Later p (with_told p seq item)
later_told p seq item below can = record {
  ids = omega arith;
  told = λ _ k other e. elim (cases_eq k seq) [
    | inl same ↦
        let was : told_at p seq ≡ Some other = subst (λ i. told_at p i ≡ Some other) same e in
        subst (λ i. told_at (with_told p seq item) i ≡ Some other) (sym same) (told_here p seq item below ∙ ap (λ x. Some x) (sym (can_be_is (told_at p seq) other item can was)))
    | inr apart ↦ told_there p seq k item apart ∙ e
  ];
}

-- and is tied to the plan still
pub plan_told : (p : PlanState) (plan : store.StoredPlan) (head : PlanHead) (seq : ℕ) (item : Item) → PlanTied p plan head → slice_get plan.items seq ≡ Some item → seq < length p.items → PlanTied (with_told p seq item) plan head
plan_told p plan head seq item tied at below = record {
  id = tied.id;
  count = length-set p.items seq (Some item) ∙ tied.count;
  told = λ k other e. elim (cases_eq k seq) [
    | inl same ↦
        let here : told_at (with_told p seq item) seq ≡ Some other = subst (λ i. told_at (with_told p seq item) i ≡ Some other) same e in
        let is : item ≡ other = same_Some item other (sym (told_here p seq item below) ∙ here) in
        subst (λ i. slice_get plan.items i ≡ Some other) (sym same) (at ∙ ap (λ x. Some x) is)
    | inr apart ↦ tied.told k other (sym (told_there p seq k item apart) ∙ e)
  ];
  waypoints = tied.waypoints;
  head_id = tied.head_id;
  head_count = tied.head_count ∙ sym (length-set p.items seq (Some item));
}

-- a newer plan is a later one
pub later_swapped : (p : PlanState) (id : ℕ) (items : List Item) → p.id < id → Later p (told id items)
later_swapped p id items newer = record { ids = omega (arith, newer); told = λ e. absurd (omega (arith, newer, e)) }

told_all : (items : List Item) (seq : ℕ) (item : Item) → get_or (map (λ (x : Item). Some x) items) seq None ≡ Some item → slice_get items seq ≡ Some item
told_all [] seq item e = cc
told_all (x ∷ items) zero item e = e
told_all (x ∷ items) (suc seq) item e = told_all items seq item e

pub each_waypoint : (items : List Item) → All IsGlobalWaypoint items → (seq : ℕ) (item : Item) → slice_get items seq ≡ Some item → item.command ≡ NAV_WAYPOINT
each_waypoint items all seq item at =
    let below = slice_get_within items seq item at in
    let is : get_or items seq item ≡ item = get_or_from_slice_get items seq item item at in
    subst (λ (x : Item). x.command ≡ NAV_WAYPOINT) is (all seq item below).command

-- the plan of these items is tied to a store that has them
pub plan_swapped : (id : ℕ) (items : List Item) (plan : store.StoredPlan) (head : PlanHead) → plan.id ≡ id → plan.items ≡ items → head.id ≡ id → head.count ≡ length items → All IsGlobalWaypoint items → PlanTied (told id items) plan head
plan_swapped id items plan head id_is items_are head_id head_count waypoints =
    let long : length (map (λ (x : Item). Some x) items) ≡ length items = length-map items (λ (x : Item). Some x) in
    record {
      id = id_is;
      count = long ∙ sym (ap length items_are);
      told = λ seq item e. subst (λ xs. slice_get xs seq ≡ Some item) (sym items_are) (told_all items seq item e);
      waypoints = λ seq item at. each_waypoint items waypoints seq item (subst (λ xs. slice_get xs seq ≡ Some item) items_are at);
      head_id = head_id;
      head_count = head_count ∙ sym long;
    }

-- the Navigator's cache stays right while items are told
pub nav_told : (p q : PlanState) (mode : Mode) (index : ℕ) (at_leg : Bool) (n : NavState) → Later p q → p.id ≡ q.id → NavTied p mode index at_leg n → NavTied q mode index at_leg n
nav_told p q mode index at_leg n later same nav = record {
  mode_is = nav.mode_is;
  earlier = omega (arith, nav.earlier, same);
  cache = λ seq item e. known_later p q n.cache.id seq item later (nav.cache seq item e);
  index_is = λ e. nav.index_is (e ∙ sym same);
  leg_is = λ e. nav.leg_is (e ∙ sym same);
  fresh = λ lt. nav.fresh (omega (arith, lt, same));
}

-- and when a newer mission takes its place
pub nav_swapped : (p q : PlanState) (mode : Mode) (index : ℕ) (at_leg : Bool) (n : NavState) → Later p q → p.id < q.id → NavTied p mode index at_leg n → NavTied q mode 0 false n
nav_swapped p q mode index at_leg n later newer nav = record {
  mode_is = nav.mode_is;
  earlier = omega (arith, nav.earlier, newer);
  cache = λ seq item e. known_later p q n.cache.id seq item later (nav.cache seq item e);
  index_is = λ e. absurd (omega (arith, nav.earlier, newer, e));
  leg_is = λ e. absurd (omega (arith, nav.earlier, newer, e));
  fresh = λ _. (refl, refl);
}
