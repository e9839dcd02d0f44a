-- A check that reads one line more.
use Rattle.std.proofs.Common.{◌≡◌, Bool, true, false, List, [], ◌∷◌, ◌++◌, Option, IsTrue, ◌↔◌, MatchBool, sym, refl, subst}
use Rattle.std.proofs.lemmas.Bool.{false≢true, MatchBool-at_true, MatchBool-at_false}
use Rattle.mission_model.specs.declared.plan.Params.{Params}
use Rattle.mission_model.specs.declared.plan.Home.{Home}
use Rattle.mission_model.specs.declared.flight_line.Line.{Line}
use Rattle.plan_vehicle.specs.VehicleState.{VehicleState, new_vehicle}
use Rattle.plan_vehicle.specs.VehicleStep.{VehicleStep}
use Rattle.plan_vehicle.specs.VehicleRun.{RunTo, VehicleRun, Lines-more, Lines-cut, VehicleRun-front}
use Rattle.plan_vehicle.specs.OneVehicle.{Lines-one}
use Rattle.plan_vehicle.specs.CheckState.{CheckState, HasRead, Reads}

to_true : (P Q : Type 0) (b : Bool) → b ≡ true → P → MatchBool b P Q
to_true P Q true h p = p
to_true P Q false h p = absurd (false≢true h)

to_false : (P Q : Type 0) (b : Bool) → b ≡ false → Q → MatchBool b P Q
to_false P Q false h q = q
to_false P Q true h q = absurd (false≢true (sym h))

-- a line that is no step ends the run
no_run : (params : Params) (home : Option Home) (lines : List Line) (line : Line) (v : VehicleState) → RunTo params home lines v → ((w : VehicleState) → VehicleStep v line w → ⊥) → VehicleRun params home (lines ++ line ∷ []) → ⊥
no_run params home lines line v before none run =
    let parts = Lines-cut lines (line ∷ []) (new_vehicle params home) run.0 run.1 in
    let same : parts.0 ≡ v = Lines-one lines (new_vehicle params home) parts.0 v parts.1 before in
    none parts.2.0 (subst (λ old. VehicleStep old line parts.2.0) same parts.2.1)

-- all is right exactly where the lines are a run
answered : (params : Params) (home : Option Home) (check : CheckState) (lines : List Line) (answer : Bool) → check.right ≡ answer → HasRead params home check lines → (IsTrue answer ↔ VehicleRun params home lines) × HasRead params home check lines
answered params home check lines true is read = ((λ _. (check.vehicle, MatchBool-at_true _ _ is read), λ _. refl), read)
answered params home check lines false is read = ((λ h. absurd (false≢true h), λ run. absurd (MatchBool-at_false _ _ is read run)), read)

more : (params : Params) (home : Option Home) (old new : CheckState) (lines : List Line) (line : Line) (answer : Bool) → old.right ≡ true → new.right ≡ answer → (IsTrue answer → VehicleStep old.vehicle line new.vehicle) → (answer ≡ false → (w : VehicleState) → VehicleStep old.vehicle line w → ⊥) → HasRead params home old lines → HasRead params home new (lines ++ line ∷ [])
more params home old new lines line true was is step none read =
    to_true _ _ new.right is (Lines-more lines (new_vehicle params home) old.vehicle new.vehicle line (MatchBool-at_true _ _ was read) (step refl))
more params home old new lines line false was is step none read =
    to_false _ _ new.right is (no_run params home lines line old.vehicle (MatchBool-at_true _ _ was read) (none refl))

-- one line more is read: the answer says whether it is a step
pub Reads-more : (old new : CheckState) (line : Line) (answer : Bool) → old.right ≡ true → new.right ≡ answer → (IsTrue answer → VehicleStep old.vehicle line new.vehicle) → (answer ≡ false → (w : VehicleState) → VehicleStep old.vehicle line w → ⊥) → Reads old line answer new
Reads-more old new line answer was is step none params home lines read =
    answered params home new (lines ++ line ∷ []) answer is (more params home old new lines line answer was is step none read)

-- the lines before were no run
pub Reads-over : (old : CheckState) (line : Line) → old.right ≡ false → Reads old line false old
Reads-over old line was params home lines read =
    answered params home old (lines ++ line ∷ []) false was (to_false _ _ old.right was (λ run. MatchBool-at_false _ _ was read (VehicleRun-front params home lines (line ∷ []) run)))
