-- What a contract sees of a check of a record.
use Rattle.std.specs.Prelude.{Bool, List, Option, MatchBool}
use Rattle.first_model.specs.declared.flight_line.Line.{Line}
use Rattle.first_vehicle.specs.VehicleState.{VehicleState}
use Rattle.first_vehicle.specs.VehicleStep.{VehicleStep}
use Rattle.first_vehicle.specs.VehicleRun.{RunTo, VehicleRun}

-- whether all was right so far, and then the vehicle that the lines lead to
pub record CheckState : Type 0 where
  pub right : Bool
  pub vehicle : Option VehicleState

-- the line is a step of the vehicle
abbrev pub IsStep : Option VehicleState → Line → Type 0
IsStep old line = (new : Option VehicleState) × VehicleStep old line new

-- the check was fed these lines and refused none: all is right exactly where they are a run, which leads to its vehicle
abbrev pub HasRead : CheckState → List Line → Type 0
HasRead check lines = MatchBool check.right (RunTo lines check.vehicle) (VehicleRun lines → ⊥)
