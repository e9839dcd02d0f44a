-- A run from told plans: the first boot that is up has the plans and the mark that are given, as a disk holds them, and
-- whatever the lines tell of these plans later is theirs.
use Rattle.std.specs.Prelude.{◌≡◌, ℕ, true, false, List, [], ◌∷◌, ◌++◌, length, Option, Some, slice_get, refl}
use Rattle.std.proofs.Common.{subst}
use Rattle.mission_model.specs.declared.plan.Params.{Params}
use Rattle.mission_model.specs.declared.plan.Home.{Home}
use Rattle.mission_model.specs.declared.plan.Item.{Item}
use Rattle.mission_model.specs.declared.flight_line.Line.{Line}
use Rattle.mission_model.specs.PlainMark.{PlainMark}
use Rattle.plan_vehicle.specs.PlanState.{PlanState, told, plan_head, told_at}
use Rattle.plan_vehicle.specs.VehicleState.{VehicleState, new_vehicle}
use Rattle.plan_vehicle.specs.VehicleStep.{VehicleStep}
use Rattle.plan_vehicle.specs.VehicleRun.{Lines, VehicleRun}

-- a plan with all its items
pub record GivenPlan : Type 0 where
  pub id : ℕ
  pub items : List Item

-- the plans and the mark that are given
pub record Given : Type 0 where
  pub mission : GivenPlan
  pub fence : GivenPlan
  pub safe : GivenPlan
  pub mark : PlainMark

-- as long as the given plan is in force, it has its items, as far as they are told
abbrev pub TellsOf : GivenPlan → PlanState → Type 0
TellsOf given plan = plan.id ≡ given.id → (length plan.items ≡ length given.items) × ((seq : ℕ) (item : Item) → told_at plan seq ≡ Some item → slice_get given.items seq ≡ Some item)

-- the vehicle has the given plans and mark
pub record Has (given : Given) (v : VehicleState) : Type 0 where
  pub mission : plan_head v.mission ≡ plan_head (told given.mission.id given.mission.items)
  pub fence : plan_head v.fence ≡ plan_head (told given.fence.id given.fence.items)
  pub safe : plan_head v.safe ≡ plan_head (told given.safe.id given.safe.items)
  pub mark : v.mark ≡ given.mark

-- one line of such a run
pub record ToldStep (given : Given) (old : VehicleState) (line : Line) (new : VehicleState) : Type 0 where
  pub step : VehicleStep old line new
  pub first : old.is_up ≡ false → new.is_up ≡ true → Has given new
  pub mission : new.is_up ≡ true → TellsOf given.mission new.mission
  pub fence : new.is_up ≡ true → TellsOf given.fence new.fence
  pub safe : new.is_up ≡ true → TellsOf given.safe new.safe

-- the lines lead from one vehicle to the other, and tell of the given plans
abbrev pub ToldLines : Given → VehicleState → List Line → VehicleState → Type 0
ToldLines given old [] new = new ≡ old
ToldLines given old (line ∷ lines) new = (mid : VehicleState) × ToldStep given old line mid × ToldLines given mid lines new

-- the record is a run of a vehicle whose first plans and mark are the given ones
abbrev pub ToldRun : Params → Option Home → Given → List Line → Type 0
ToldRun params home given lines = (last : VehicleState) × ToldLines given (new_vehicle params home) lines last

-- such lines lead from the one vehicle to the other, whatever the given plans are
pub Lines-told : (given : Given) (lines : List Line) (old new : VehicleState) → ToldLines given old lines new → Lines old lines new
Lines-told given [] old new run = run
Lines-told given (line ∷ lines) old new run = (run.0, run.1.step, Lines-told given lines run.0 new run.2)

-- a run from told plans is a run
pub VehicleRun-told : (params : Params) (home : Option Home) (given : Given) (lines : List Line) → ToldRun params home given lines → VehicleRun params home lines
VehicleRun-told params home given lines run = (run.0, Lines-told given lines (new_vehicle params home) run.0 run.1)

-- it goes on by one step
pub ToldLines-more : (given : Given) (lines : List Line) (old mid new : VehicleState) (line : Line) → ToldLines given old lines mid → ToldStep given mid line new → ToldLines given old (lines ++ line ∷ []) new
ToldLines-more given [] old mid new line before step = (new, subst (λ v. ToldStep given v line new) before step, refl)
ToldLines-more given (first ∷ lines) old mid new line before step = (before.0, before.1, ToldLines-more given lines before.0 mid new line before.2 step)

-- two of them, one behind the other, are one
pub ToldLines-join : (given : Given) (front back : List Line) (old mid new : VehicleState) → ToldLines given old front mid → ToldLines given mid back new → ToldLines given old (front ++ back) new
ToldLines-join given [] back old mid new before behind = subst (λ v. ToldLines given v back new) before behind
ToldLines-join given (first ∷ front) back old mid new before behind = (before.0, before.1, ToldLines-join given front back before.0 mid new before.2 behind)

-- it is cut anywhere
pub ToldLines-cut : (given : Given) (front back : List Line) (old new : VehicleState) → ToldLines given old (front ++ back) new → (mid : VehicleState) × ToldLines given old front mid × ToldLines given mid back new
ToldLines-cut given [] back old new run = (old, refl, run)
ToldLines-cut given (first ∷ front) back old new run =
    let rest = ToldLines-cut given front back run.0 new run.2 in
    (rest.0, (run.0, run.1, rest.1), rest.2)

-- each prefix of a run from told plans is one
pub ToldRun-front : (params : Params) (home : Option Home) (given : Given) (front back : List Line) → ToldRun params home given (front ++ back) → ToldRun params home given front
ToldRun-front params home given front back run =
    let parts = ToldLines-cut given front back (new_vehicle params home) run.0 run.1 in
    (parts.0, parts.1)
