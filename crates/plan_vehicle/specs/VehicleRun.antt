-- A record is a run of one vehicle: each line is a step of it after the line before.
use Rattle.std.specs.Prelude.{◌≡◌, List, [], ◌∷◌, ◌++◌, Option, refl}
use Rattle.std.proofs.Common.{subst}
use Rattle.mission_model.specs.declared.plan.Params.{Params}
use Rattle.mission_model.specs.declared.plan.Home.{Home}
use Rattle.mission_model.specs.declared.flight_line.Line.{Line}
use Rattle.plan_vehicle.specs.VehicleState.{VehicleState, new_vehicle}
use Rattle.plan_vehicle.specs.VehicleStep.{VehicleStep}

-- the lines lead from one vehicle to the other
abbrev pub Lines : VehicleState → List Line → VehicleState → Type 0
Lines old [] new = new ≡ old
Lines old (line ∷ lines) new = (mid : VehicleState) × VehicleStep old line mid × Lines mid lines new

-- the record, from its first line on, leads to this vehicle
abbrev pub RunTo : Params → Option Home → List Line → VehicleState → Type 0
RunTo params home lines last = Lines (new_vehicle params home) lines last

-- the record is a run of one vehicle with these parameters and this home
abbrev pub VehicleRun : Params → Option Home → List Line → Type 0
VehicleRun params home lines = (last : VehicleState) × RunTo params home lines last

-- a run goes on by one step
pub Lines-more : (lines : List Line) (old mid new : VehicleState) (line : Line) → Lines old lines mid → VehicleStep mid line new → Lines old (lines ++ line ∷ []) new
Lines-more [] old mid new line before step = (new, subst (λ v. VehicleStep v line new) before step, refl)
Lines-more (first ∷ lines) old mid new line before step = (before.0, before.1, Lines-more lines before.0 mid new line before.2 step)

-- a run is cut anywhere
pub Lines-cut : (front back : List Line) (old new : VehicleState) → Lines old (front ++ back) new → (mid : VehicleState) × Lines old front mid × Lines mid back new
Lines-cut [] back old new run = (old, refl, run)
Lines-cut (first ∷ front) back old new run =
    let rest = Lines-cut front back run.0 new run.2 in
    (rest.0, (run.0, run.1, rest.1), rest.2)

-- two runs, one behind the other, are one
pub Lines-join : (front back : List Line) (old mid new : VehicleState) → Lines old front mid → Lines mid back new → Lines old (front ++ back) new
Lines-join [] back old mid new before behind = subst (λ v. Lines v back new) before behind
Lines-join (first ∷ front) back old mid new before behind = (before.0, before.1, Lines-join front back before.0 mid new before.2 behind)

-- each prefix of a run is a run
pub VehicleRun-front : (params : Params) (home : Option Home) (front back : List Line) → VehicleRun params home (front ++ back) → VehicleRun params home front
VehicleRun-front params home front back run =
    let parts = Lines-cut front back (new_vehicle params home) run.0 run.1 in
    (parts.0, parts.1)
