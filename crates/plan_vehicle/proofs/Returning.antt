-- What the code finds of a look in mode Return is the row of the definition.
use Rattle.std.proofs.Common.{◌≡◌, ◌==◌, ℕ, ℤ, Bool, true, false, not, List, Option, Some, None, is_some, is_none, IsTrue, refl, sym, ap, ap₂, ◌∙◌, subst}
use Rattle.std.proofs.lemmas.Bool.{false≢true}
use Rattle.mission_model.specs.declared.plan.Item.{Item}
use Rattle.mission_model.specs.declared.plan.Home.{Home}
use Rattle.mission_model.specs.declared.plan.Params.{Params}
use Rattle.mission_model.specs.declared.plan.PlanType.TheVariants.{Fence, Safe}
use Rattle.mission_model.specs.declared.vehicle.Look.{Look}
use Rattle.mission_model.specs.Returns.{ReturnList, targets_by, landing_where, is_feasible}
use Rattle.return_mode.specs.declared.plan.ReturnOut.{ReturnOut}
use Rattle.return_mode.specs.ReturnState.{ReturnState, begun, out_of, after_out}
use Rattle.plan_vehicle.specs.declared.found.Found.{Found}
use Rattle.plan_vehicle.specs.PlanState.{told_items, IsKnown}
use Rattle.plan_vehicle.specs.PlansState.{PlansState, IsFound, IsReturn}
use Rattle.plan_vehicle.specs.VehicleState.{VehicleState}
use Rattle.plan_vehicle.specs.ReturnEvents.{IsWay, Shows, CanChoose, chosen}
use Rattle.plan_vehicle.specs.OneVehicle.{IsWay-one}
use Rattle.plan_vehicle.specs.Looked.{SetsOut, NextIs}

-- a return that was chosen before is gone through
pub set_out_before : (v : VehicleState) (way : ReturnState) → v.way ≡ Some way → SetsOut v v
set_out_before v way h = record {
  way = way;
  is_way = subst (λ o. IsWay v o way) (sym h) refl;
  after = ap (λ o. record v { way = o }) h;
}

-- and else the one that is chosen now
pub set_out_now : (v new : VehicleState) → v.way ≡ None → CanChoose v → new ≡ record v { way = Some (chosen v) } → SetsOut v new
set_out_now v new h can after = record {
  way = chosen v;
  is_way = subst (λ o. IsWay v o (chosen v)) (sym h) (can, refl);
  after = after;
}

pub none_to_choose : (v : VehicleState) (way : ReturnState) → v.way ≡ None → (CanChoose v → ⊥) → IsWay v v.way way → ⊥
none_to_choose v way h none is = none (subst (λ o. IsWay v o way) h is).0

abbrev with_way : VehicleState → ReturnState → VehicleState
with_way v way = record v { way = Some way }

way_of : (v m : VehicleState) (s : SetsOut v m) → m.way ≡ Some s.way
way_of v m s = ap (λ x. x.way) s.after

-- what is shown next is shown by the return that is gone through
pub shown : (v m new : VehicleState) (look : Look) (out : ReturnOut) (answer : Bool) → SetsOut v m → NextIs m look out answer new → IsTrue answer → Shows v look out new
shown v m new look out answer s next is_so =
    let n = next s.way (way_of v m s) in
    let is : out_of s.way look ≡ out = n.0.0 is_so in
    record {
      way = s.way;
      is_way = s.is_way;
      shows = is;
      after = n.1 ∙ ap (λ (x : VehicleState). with_way x (after_out s.way (out_of s.way look))) s.after ∙ ap (λ o. with_way v (after_out s.way o)) is;
    }

pub not_shown : (v m new w : VehicleState) (look : Look) (out : ReturnOut) (answer : Bool) → SetsOut v m → NextIs m look out answer new → answer ≡ false → Shows v look out w → ⊥
not_shown v m new w look out answer s next fails h =
    let n = next s.way (way_of v m s) in
    let same : h.way ≡ s.way = IsWay-one v v.way h.way s.way h.is_way s.is_way in
    false≢true (sym fails ∙ n.0.1 (subst (λ x. out_of x look ≡ out) same h.shows))

-- a return of type 0 asks nothing of the mission
nearest_asks : (rtl_type : ℕ) (position : Option (ℤ × ℤ)) (home : Option Home) (fence points : List Item) (landing other : Option (ℕ × ℕ)) (feasible feasible' : Bool) (index : ℕ) → rtl_type ≡ 0 → targets_by rtl_type position home fence points landing feasible index ≡ targets_by rtl_type position home fence points other feasible' index
nearest_asks rtl_type position home fence points landing other feasible feasible' index h = rw h refl

ReturnList-nearest : (params : Params) (home : Option Home) (position : Option (ℤ × ℤ)) (points mission fence : List Item) (index : ℕ) → params.rtl_type ≡ 0 → targets_by params.rtl_type position home fence points None false index ≡ ReturnList params home position points mission fence index
unfolding ReturnList
ReturnList-nearest params home position points mission fence index h = nearest_asks params.rtl_type position home fence points None (landing_where (is_feasible params home mission fence) mission) false (is_feasible params home mission fence) index h

is_zero : (n : ℕ) → n ≡ 0 → (n == 0) ≡ true
is_zero n h = rw h refl

-- the return to the nearest
pub return_nearest : (plans : PlansState) (position : Option (ℤ × ℤ)) (index : ℕ) (fence points : List Item) (way : ReturnState) → IsKnown Fence plans.fence → IsKnown Safe plans.safe → fence ≡ told_items plans.fence → points ≡ told_items plans.safe → plans.params.rtl_type ≡ 0 → way ≡ begun (targets_by plans.params.rtl_type position plans.home fence points None false index) → IsReturn plans position index way
return_nearest plans position index fence points way known safe_known is is' zero h = (
  record { fence = known; safe = λ _. safe_known; mission = λ k. absurd (false≢true (sym k ∙ is_zero plans.params.rtl_type zero)) },
  h ∙ ap begun (ap₂ (λ f p. targets_by plans.params.rtl_type position plans.home f p None false index) is is' ∙ ReturnList-nearest plans.params plans.home position (told_items plans.safe) (told_items plans.mission) (told_items plans.fence) index zero),
)

-- a return of another type asks nothing of the fence and the safe points but what the verdict says
along_asks : (rtl_type : ℕ) (position : Option (ℤ × ℤ)) (home : Option Home) (fence points fence' points' : List Item) (landing : Option (ℕ × ℕ)) (feasible : Bool) (index : ℕ) → (rtl_type == 0) ≡ false → targets_by rtl_type position home fence points landing feasible index ≡ targets_by rtl_type position home fence' points' landing feasible index
along_asks rtl_type position home fence points fence' points' landing feasible index h = rw h refl

found_feasible : (broken : Option (ℕ × ℕ)) (feasible : Bool) → is_some broken ≡ not feasible → feasible ≡ is_none broken
found_feasible None true h = refl
found_feasible None false h = absurd cc
found_feasible (Some b) true h = absurd cc
found_feasible (Some b) false h = refl

ReturnList-along : (plans : PlansState) (found : Found) (position : Option (ℤ × ℤ)) (fence points : List Item) (feasible : Bool) (index : ℕ) → IsFound plans found → (plans.params.rtl_type == 0) ≡ false → is_some found.broken ≡ not feasible → targets_by plans.params.rtl_type position plans.home fence points found.landing feasible index ≡ ReturnList plans.params plans.home position (told_items plans.safe) (told_items plans.mission) (told_items plans.fence) index
unfolding ReturnList
ReturnList-along plans found position fence points feasible index f h is =
    let able : feasible ≡ is_feasible plans.params plans.home (told_items plans.mission) (told_items plans.fence) = found_feasible found.broken feasible is ∙ ap is_none f.is_broken in
    let lands : found.landing ≡ landing_where (is_feasible plans.params plans.home (told_items plans.mission) (told_items plans.fence)) (told_items plans.mission) = f.is_landing ∙ ap (λ b. landing_where (is_none b) (told_items plans.mission)) f.is_broken in
    along_asks plans.params.rtl_type position plans.home fence points (told_items plans.fence) (told_items plans.safe) found.landing feasible index h
    ∙ ap (λ l. targets_by plans.params.rtl_type position plans.home (told_items plans.fence) (told_items plans.safe) l feasible index) lands
    ∙ ap (λ b. targets_by plans.params.rtl_type position plans.home (told_items plans.fence) (told_items plans.safe) (landing_where (is_feasible plans.params plans.home (told_items plans.mission) (told_items plans.fence)) (told_items plans.mission)) b index) able

-- the return along the mission
pub return_along : (plans : PlansState) (found : Found) (position : Option (ℤ × ℤ)) (index : ℕ) (fence points : List Item) (feasible : Bool) (way : ReturnState) → IsFound plans found → (plans.params.rtl_type == 0) ≡ false → is_some found.broken ≡ not feasible → way ≡ begun (targets_by plans.params.rtl_type position plans.home fence points found.landing feasible index) → IsReturn plans position index way
return_along plans found position index fence points feasible way f h is chosen_so = (
  record { fence = f.fence_known; safe = λ k. absurd (false≢true (sym h ∙ k)); mission = λ _. f.mission_known },
  chosen_so ∙ ap begun (ReturnList-along plans found position fence points feasible index f h is),
)
