-- What is taken stays a beginning of the plan of the adopted id, and what is known stays of it: step by step, and over any
-- list of what happens.
use Rattle.std.proofs.Common.{◌≡◌, ℕ, ◌==◌, ◌||◌, Bool, true, false, not, List, [], ◌∷◌, length, Option, Some, None, refl, sym, ap, subst, ◌∙◌, arith}
use Rattle.std.specs.Prelude.{slice_get, if◌then◌else◌}
use Rattle.std.proofs.lemmas.Bool.Decides.{nat_tests}
use Rattle.mission_model.specs.declared.plan.Home.{Home}
use Rattle.mission_model.specs.declared.plan.Item.{Item}
use Rattle.mission_model.specs.declared.plan.Params.{Params}
use Rattle.mission_model.specs.declared.plan.PlanHead.{PlanHead}
use Rattle.mission_model.specs.declared.plan.PlanType.{PlanType}
use Rattle.mission_model.specs.declared.plan.PlanType.TheVariants.{Mission, Fence, Safe}
use Rattle.mission_model.specs.declared.request.Asked.{Asked}
use Rattle.mission_model.specs.declared.request.Asked.TheVariants as about
use Rattle.mission_model.specs.declared.request.Client.TheVariants.{Nav}
use Rattle.mission_model.specs.declared.request.Reply.{Reply}
use Rattle.mission_model.specs.declared.request.Reply.TheVariants as reply
use Rattle.mission_model.specs.declared.vehicle.BootState.{BootState}
use Rattle.mission_model.specs.declared.vehicle.NavEntry.{NavEntry}
use Rattle.mission_model.specs.declared.vehicle.VehicleLine.{VehicleLine}
use Rattle.mission_model.specs.PlanTypes.{head_of}
use Rattle.request_board.specs.BoardState.{BoardState}
use Rattle.client_cache.specs.CacheState.{CacheState, has_id, id_of, count_of, adopted, opened, got}
use Rattle.client_cache.specs.History as history
use Rattle.client_cache.specs.Knowing.{Knows, view_of, knows_after, knows_anew}
use Rattle.navigator.specs.declared.windows.TheConstants.{MISSION_PLACES, OTHER_PLACES}
use Rattle.navigator.specs.Caches.{SamePlan-got}
use Rattle.navigator.specs.Taking.{PlanTaken, plan_met}
use Rattle.navigator.specs.Begins.{Begins}
use Rattle.navigator.specs.NavState.{NavTaken}
use Rattle.navigator.specs.OnMission.{plans_taken}
use Rattle.navigator.specs.OnReturn.{return_taken}
use Rattle.navigator.specs.Meeting.{is_done, PlansMet}
use Rattle.navigator.specs.Standing.{mark_answered}
use Rattle.navigator.specs.EventLaw.{EventLaw, index_met, nav_at_boot, new_plan}
use Rattle.navigator.specs.NavCalls.{reply_taken, drop_taken, NavCall, Happens, Hears, Drops, Others, Does}
use Rattle.navigator.specs.Asking.{OwnWindows, HasAsked}
use Rattle.navigator.specs.Looks.{KeepsPlan, KeepsPlans, keeps_taking, keeps_return}
use Rattle.navigator.specs.NextEvent.{adopted_head, keeps_index, keeps_acts}
use Rattle.navigator.specs.Outstanding.{keeps_drop, asked_by_call}
use Rattle.navigator.specs.OnePlan.{Plans, Publishes, BringsItem, BringsOf, plan_in, FromPlan, FromPlans, OfPlans, DoesAll, TakenOf}

-- What keeps the plans.

from_same : (plans : ℕ → List Item) (p p' : PlanTaken) → KeepsPlan p p' → FromPlan plans p → FromPlan plans p'
from_same plans p p' k h =
    let plan : plan_in plans p ≡ plan_in plans p' = ap (λ (x : Option PlanHead). plans (id_of x)) (sym k.same.head) in
    record {
      count = ap (λ (x : Option PlanHead). count_of x) k.same.head ∙ h.count ∙ ap (λ (l : List Item). length l) plan;
      knows = subst (Knows p'.cache) plan (k.knows (plan_in plans p) h.knows);
      begins = subst (Begins p'.taken) plan (k.begins (plan_in plans p) h.knows h.begins);
    }

pub from_kept : (plans : Plans) (v v' : NavTaken) → KeepsPlans v v' → FromPlans plans v → FromPlans plans v'
from_kept plans v v' k h = record {
  mission = from_same (plans Mission) v.mission v'.mission k.mission h.mission;
  fence = from_same (plans Fence) v.fence v'.fence k.fence h.fence;
  safe = from_same (plans Safe) v.safe v'.safe k.safe h.safe;
}

-- Heads that are met.

none_taken : (b : Bool) (items plan : List Item) → Begins items plan → Begins (if b then [] else items) plan
none_taken true items plan h = record { rest = plan; whole = refl }
none_taken false items plan h = h

all_anew : (b : Bool) (items plan : List Item) → b ≡ true → Begins (if b then [] else items) plan
all_anew true items plan is = record { rest = plan; whole = refl }
all_anew false items plan is = absurd cc

if_true : (b : Bool) (c d : CacheState) → b ≡ true → (if b then c else d) ≡ c
if_true true c d is = refl
if_true false c d is = absurd cc

from_met : (b : Bool) (plans : ℕ → List Item) (p : PlanTaken) (head : PlanHead) (anew : Bool) → has_id p.cache.head head.id ≡ b → (b ≡ false → anew ≡ true) → head.count ≡ length (plans head.id) → FromPlan plans p → FromPlan plans (plan_met p head anew)
from_met true plans p head anew is news count h =
    let same : adopted p.cache head ≡ p.cache = if_true (has_id p.cache.head head.id) p.cache _ is in
    subst (λ (c : CacheState). FromPlan plans (record p { cache = c; taken = if anew then [] else p.taken })) (sym same) (record { count = h.count; knows = h.knows; begins = none_taken anew p.taken (plan_in plans p) h.begins })
from_met false plans p head anew is news count h =
    let other : (adopted p.cache head).head ≡ Some head = adopted_head p.cache head ∙ ap (λ x. if x then p.cache.head else Some head) is in
    let plan : plans (id_of (adopted p.cache head).head) ≡ plans head.id = ap (λ (x : Option PlanHead). plans (id_of x)) other in
    record {
      count = ap (λ (x : Option PlanHead). count_of x) other ∙ count ∙ ap (λ (l : List Item). length l) (sym plan);
      knows = knows_anew p.cache head (plans (id_of (adopted p.cache head).head)) is;
      begins = all_anew anew p.taken (plans (id_of (adopted p.cache head).head)) (news refl);
    }

new_first : (a b : Bool) → a ≡ false → (not a || b) ≡ true
new_first true b is = absurd cc
new_first false b is = refl

new_second : (a b : Bool) → b ≡ false → (a || not b) ≡ true
new_second true b is = refl
new_second false true is = absurd cc
new_second false false is = refl

new_only : (a : Bool) → a ≡ false → not a ≡ true
new_only true is = absurd cc
new_only false is = refl

pub from_heads : (plans : Plans) (v : NavTaken) (heads : List PlanHead) (met : NavTaken) → Publishes plans heads → PlansMet v heads met → FromPlans plans v → FromPlans plans met
from_heads plans v heads met published m h =
    let hm : Bool = has_id v.mission.cache.head (head_of heads Mission).id in
    let hf : Bool = has_id v.fence.cache.head (head_of heads Fence).id in
    let hs : Bool = has_id v.safe.cache.head (head_of heads Safe).id in
    subst (FromPlans plans) (sym m.rest) (record {
      mission = from_met hm (plans Mission) v.mission (head_of heads Mission) (not hm || not hf) refl (new_first hm (not hf)) (published Mission) h.mission;
      fence = from_met hf (plans Fence) v.fence (head_of heads Fence) (not hm || not hf) refl (new_second (not hm) hf) (published Fence) h.fence;
      safe = from_met hs (plans Safe) v.safe (head_of heads Safe) (not hs) refl (new_only hs) (published Safe) h.safe;
    })

-- An event.

pub from_acts : (plans : Plans) (v : NavTaken) (b : BoardState) (line : VehicleLine) (entry : NavEntry) (v' : NavTaken) (b' : BoardState) → OwnWindows v → Publishes plans b.published → FromPlans plans v → (e : EventLaw v b line entry v' b') → TakenOf plans v b line entry v' b' e
from_acts plans v b line entry v' b' own published h e =
    let u : NavTaken = index_met e.met b.index in
    let met : FromPlans plans e.met = from_heads plans v b.published e.met published e.heads h in
    let entered : FromPlans plans u = from_kept plans e.met u (keeps_index e.met b.index) met in
    let mid : FromPlans plans e.mid = from_kept plans u e.mid (keeps_acts v b line entry v' b' own e) entered in
    record {
      met = met;
      entered = entered;
      taken = from_kept plans u (plans_taken u) (keeps_taking u) entered;
      for_return = from_kept plans u (return_taken u) (keeps_return u) entered;
      mid = mid;
      last = subst (FromPlans plans) (sym e.rest) (record { mission = mid.mission; fence = mid.fence; safe = mid.safe });
    }

-- A reply.

same_number : (a b : ℕ) → (a == b) ≡ true → a ≡ b
same_number a b h = grind (arith, nat_tests, h)

id_is : (h : Option PlanHead) (id : ℕ) → has_id h id ≡ true → id ≡ id_of h
id_is None id is = absurd cc
id_is (Some head) id is = sym (same_number head.id id is)

some_same : (x : Option Item) (given item : Item) → x ≡ Some given → given ≡ item → x ≡ Some item
some_same x given item is same = is ∙ ap (λ i. Some i) same

brought : (plans : Plans) (c : CacheState) (kind : PlanType) (id place : ℕ) (given : Reply) (seq : ℕ) (item : Item) → BringsItem plans kind id place given → history.Brings c.kind (view_of c) seq item (history.Hears (about.Read kind id place) given) → slice_get (plans c.kind (id_of c.head)) seq ≡ Some item
brought plans c kind id place (reply.Item other) seq item brings b =
    some_same (slice_get (plans c.kind (id_of c.head)) seq) other item
    (ap (λ (k : PlanType). slice_get (plans k (id_of c.head)) seq) (sym b.0)
    ∙ ap (λ (n : ℕ). slice_get (plans kind n) seq) (sym (id_is c.head id b.1))
    ∙ ap (λ (n : ℕ). slice_get (plans kind id) n) (sym b.2)
    ∙ brings) b.3
brought plans c kind id place (reply.Stale n) seq item brings b = absurd b
brought plans c kind id place reply.Done seq item brings b = absurd b
brought plans c kind id place reply.DiskFailed seq item brings b = absurd b
brought plans c kind id place reply.PowerOff seq item brings b = absurd b
brought plans c kind id place (reply.Spent n) seq item brings b = absurd b

from_read : (plans : Plans) (own : PlanType) (p : PlanTaken) (kind : PlanType) (id place : ℕ) (given : Reply) → p.cache.kind ≡ own → BringsItem plans kind id place given → FromPlan (plans own) p → FromPlan (plans own) (record p { cache = got p.cache (about.Read kind id place) given })
from_read plans own p kind id place given is brings h =
    let c : CacheState = p.cache in
    let c' : CacheState = got c (about.Read kind id place) given in
    let head : c'.head ≡ c.head = (SamePlan-got c (about.Read kind id place) given).head in
    let plan : plan_in (plans own) p ≡ plans own (id_of c'.head) = ap (λ (x : Option PlanHead). plans own (id_of x)) (sym head) in
    record {
      count = ap (λ (x : Option PlanHead). count_of x) head ∙ h.count ∙ ap (λ (l : List Item). length l) plan;
      knows = subst (Knows c') plan (knows_after (history.Hears (about.Read kind id place) given) c c' (plan_in (plans own) p) refl
          (λ seq item b. ap (λ (k : PlanType). slice_get (plans k (id_of c.head)) seq) (sym is) ∙ brought plans c kind id place given seq item brings b) h.knows);
      begins = subst (Begins p.taken) plan h.begins;
    }

from_mark : (b : Bool) (plans : Plans) (v : NavTaken) (done : Bool) → FromPlans plans v → FromPlans plans (if b then record v { flight = record v.flight { marks = mark_answered v.flight.marks done } } else v)
from_mark true plans v done h = record { mission = h.mission; fence = h.fence; safe = h.safe }
from_mark false plans v done h = h

pub from_reply : (plans : Plans) (v : NavTaken) (asked : Asked) (given : Reply) → OwnWindows v → BringsOf plans asked given → FromPlans plans v → FromPlans plans (reply_taken v asked given)
from_reply plans v (about.Read kind id seq) given own brings h = record {
  mission = from_read plans Mission v.mission kind id seq given (own.kind Mission) brings h.mission;
  fence = from_read plans Fence v.fence kind id seq given (own.kind Fence) brings h.fence;
  safe = from_read plans Safe v.safe kind id seq given (own.kind Safe) brings h.safe;
}
from_reply plans v (about.Write kind id seq) given own brings h = h
from_reply plans v (about.Commit kind id count) given own brings h = h
from_reply plans v (about.SetMark mark) given own brings h = from_mark (has_id v.mission.cache.head mark.id) plans v (is_done given) h

-- Any of these, and any list of them.

pub from_call : (plans : Plans) (call : NavCall) (v : NavTaken) (b : BoardState) (v' : NavTaken) (b' : BoardState) → OwnWindows v → OfPlans plans b call → Does v b call v' b' → FromPlans plans v → FromPlans plans v'
from_call plans (Happens line entry) v b v' b' own of_plans does h = (from_acts plans v b line entry v' b' own of_plans h does).last
from_call plans (Hears asked given) v b v' b' own of_plans does h = subst (FromPlans plans) (sym does.nav) (from_reply plans v asked given own of_plans h)
from_call plans (Drops kind seq) v b v' b' own of_plans does h = subst (FromPlans plans) (sym does.nav) (from_kept plans v (drop_taken v kind seq) (keeps_drop v kind seq) h)
from_call plans Others v b v' b' own of_plans does h = subst (FromPlans plans) (sym does.0) h

from_new : (plans : ℕ → List Item) (kind : PlanType) (places : ℕ) (head : PlanHead) → head.count ≡ length (plans head.id) → FromPlan plans (new_plan kind places head)
from_new plans kind places head count = record {
  count = count;
  knows = knows_anew (opened Nav kind places) head (plans head.id) refl;
  begins = record { rest = plans head.id; whole = refl };
}

pub from_boot : (plans : Plans) (params : Params) (home : Option Home) (boot : BootState) → Publishes plans boot.heads → FromPlans plans (nav_at_boot params home boot)
from_boot plans params home boot published = record {
  mission = from_new (plans Mission) Mission MISSION_PLACES (head_of boot.heads Mission) (published Mission);
  fence = from_new (plans Fence) Fence OTHER_PLACES (head_of boot.heads Fence) (published Fence);
  safe = from_new (plans Safe) Safe OTHER_PLACES (head_of boot.heads Safe) (published Safe);
}

pub all_taken : (plans : Plans) (calls : List NavCall) (v : NavTaken) (b : BoardState) (v' : NavTaken) (b' : BoardState) → HasAsked v b → FromPlans plans v → DoesAll plans v b calls v' b' → HasAsked v' b' × FromPlans plans v'
all_taken plans [] v b v' b' asked h does = (subst (λ (w : NavTaken). HasAsked w b') (sym does.0) (subst (HasAsked v) (sym does.1) asked), subst (FromPlans plans) (sym does.0) h)
all_taken plans (call ∷ calls) v b v' b' asked h (mid, board, of_plans, does, rest) =
    all_taken plans calls mid board v' b' (asked_by_call call v b mid board does asked) (from_call plans call v b mid board asked.windows of_plans does h) rest
