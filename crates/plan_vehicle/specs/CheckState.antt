-- What a contract sees of a check of a record.
use Rattle.std.specs.Prelude.{◌≡◌, Bool, true, List, [], ◌∷◌, ◌++◌, ◌↔◌, Option, IsTrue, MatchBool}
use Rattle.std.proofs.lemmas.Bool.{MatchBool-at_true}
use Rattle.mission_model.specs.declared.plan.Params.{Params}
use Rattle.mission_model.specs.declared.plan.Home.{Home}
use Rattle.mission_model.specs.declared.flight_line.Line.{Line}
use Rattle.plan_vehicle.specs.VehicleState.{VehicleState}
use Rattle.plan_vehicle.specs.VehicleRun.{RunTo, VehicleRun}

-- whether all was right so far, and then the vehicle that the lines lead to
pub record CheckState : Type 0 where
  pub right : Bool
  pub vehicle : VehicleState

-- the check was fed these lines and refused none: all is right exactly where they are a run, which leads to its vehicle
abbrev pub HasRead : Params → Option Home → CheckState → List Line → Type 0
HasRead params home check lines = MatchBool check.right (RunTo params home lines check.vehicle) (VehicleRun params home lines → ⊥)

-- the answer to the next line, after whatever lines the check was fed, says whether they are a run with it
abbrev pub Reads : CheckState → Line → Bool → CheckState → Type 0
Reads old line answer new = (params : Params) (home : Option Home) (lines : List Line) → HasRead params home old lines → (IsTrue answer ↔ VehicleRun params home (lines ++ line ∷ [])) × HasRead params home new (lines ++ line ∷ [])

-- where all is right, the lines that the check was fed are a run
pub VehicleRun-read : (params : Params) (home : Option Home) (check : CheckState) (lines : List Line) → check.right ≡ true → HasRead params home check lines → VehicleRun params home lines
VehicleRun-read params home check lines right read = (check.vehicle, MatchBool-at_true _ _ right read)
