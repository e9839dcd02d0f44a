-- A record is a run of one vehicle: each line is a step of it after the line before.
use Rattle.std.specs.Prelude.{◌≡◌, List, [], ◌∷◌, ◌++◌, Option, None, refl}
use Rattle.std.proofs.Common.{subst}
use Rattle.first_model.specs.declared.flight_line.Line.{Line}
use Rattle.first_vehicle.specs.VehicleState.{VehicleState}
use Rattle.first_vehicle.specs.VehicleStep.{VehicleStep}

-- the lines lead from one vehicle to the other
abbrev pub Lines : Option VehicleState → List Line → Option VehicleState → Type 0
Lines old [] new = new ≡ old
Lines old (line ∷ lines) new = (mid : Option VehicleState) × VehicleStep old line mid × Lines mid lines new

-- the record, from its beginning, leads to this vehicle
abbrev pub RunTo : List Line → Option VehicleState → Type 0
RunTo lines last = Lines None lines last

-- the record is a run of one vehicle
abbrev pub VehicleRun : List Line → Type 0
VehicleRun lines = (last : Option VehicleState) × RunTo lines last

-- a run goes on by one step
pub Lines-more : (lines : List Line) (old mid new : Option VehicleState) (line : Line) → Lines old lines mid → VehicleStep mid line new → Lines old (lines ++ line ∷ []) new
Lines-more [] old mid new line before step = (new, subst (λ v. VehicleStep v line new) before step, refl)
Lines-more (first ∷ lines) old mid new line before step = (before.0, before.1, Lines-more lines before.0 mid new line before.2 step)

-- a run is cut anywhere
pub Lines-cut : (front back : List Line) (old new : Option VehicleState) → Lines old (front ++ back) new → (mid : Option VehicleState) × Lines old front mid × Lines mid back new
Lines-cut [] back old new run = (old, refl, run)
Lines-cut (first ∷ front) back old new run =
    let rest = Lines-cut front back run.0 new run.2 in
    (rest.0, (run.0, run.1, rest.1), rest.2)

-- two runs, one behind the other, are one
pub Lines-join : (front back : List Line) (old mid new : Option VehicleState) → Lines old front mid → Lines mid back new → Lines old (front ++ back) new
Lines-join [] back old mid new before behind = subst (λ v. Lines v back new) before behind
Lines-join (first ∷ front) back old mid new before behind = (before.0, before.1, Lines-join front back before.0 mid new before.2 behind)

-- each prefix of a run is a run
pub VehicleRun-front : (front back : List Line) → VehicleRun (front ++ back) → VehicleRun front
VehicleRun-front front back run =
    let parts = Lines-cut front back None run.0 run.1 in
    (parts.0, parts.1)
