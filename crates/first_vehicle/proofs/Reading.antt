-- A check that reads one line more.
use Rattle.std.proofs.Common.{◌≡◌, Bool, true, false, List, [], ◌∷◌, ◌++◌, Option, None, IsTrue, ◌↔◌, MatchBool, sym, refl, subst}
use Rattle.std.proofs.lemmas.Bool.{false≢true, MatchBool-at_true, MatchBool-at_false}
use Rattle.first_model.specs.declared.flight_line.Line.{Line}
use Rattle.first_vehicle.specs.VehicleState.{VehicleState}
use Rattle.first_vehicle.specs.VehicleStep.{VehicleStep}
use Rattle.first_vehicle.specs.VehicleRun.{RunTo, VehicleRun, Lines-more, Lines-cut, VehicleRun-front}
use Rattle.first_vehicle.specs.OneVehicle.{Lines-one}
use Rattle.first_vehicle.specs.CheckState.{CheckState, HasRead}

to_true : (P Q : Type 0) (b : Bool) → b ≡ true → P → MatchBool b P Q
to_true P Q true h p = p
to_true P Q false h p = absurd (false≢true h)

to_false : (P Q : Type 0) (b : Bool) → b ≡ false → Q → MatchBool b P Q
to_false P Q false h q = q
to_false P Q true h q = absurd (false≢true (sym h))

-- a line that is no step ends the run
no_run : (lines : List Line) (line : Line) (v : Option VehicleState) → RunTo lines v → ((w : Option VehicleState) → VehicleStep v line w → ⊥) → VehicleRun (lines ++ line ∷ []) → ⊥
no_run lines line v before none run =
    let parts = Lines-cut lines (line ∷ []) None run.0 run.1 in
    let same : parts.0 ≡ v = Lines-one lines None parts.0 v parts.1 before in
    none parts.2.0 (subst (λ old. VehicleStep old line parts.2.0) same parts.2.1)

-- one line more is read: the answer says whether it is a step
pub HasRead-more : (old new : CheckState) (lines : List Line) (line : Line) (answer : Bool) → old.right ≡ true → new.right ≡ answer → (IsTrue answer → VehicleStep old.vehicle line new.vehicle) → (answer ≡ false → (w : Option VehicleState) → VehicleStep old.vehicle line w → ⊥) → HasRead old lines → HasRead new (lines ++ line ∷ [])
HasRead-more old new lines line true was is step none read =
    to_true _ _ new.right is (Lines-more lines None old.vehicle new.vehicle line (MatchBool-at_true _ _ was read) (step refl))
HasRead-more old new lines line false was is step none read =
    to_false _ _ new.right is (no_run lines line old.vehicle (MatchBool-at_true _ _ was read) (none refl))

-- the lines before were no run
pub HasRead-over : (old new : CheckState) (lines : List Line) (line : Line) → old.right ≡ false → new.right ≡ false → HasRead old lines → HasRead new (lines ++ line ∷ [])
HasRead-over old new lines line was is read = to_false _ _ new.right is (λ run. MatchBool-at_false _ _ was read (VehicleRun-front lines (line ∷ []) run))

-- all is right exactly where the lines are a run
pub HasRead-answer : (check : CheckState) (lines : List Line) (answer : Bool) → answer ≡ check.right → HasRead check lines → IsTrue answer ↔ VehicleRun lines
HasRead-answer check lines true is read = (λ _. (check.vehicle, MatchBool-at_true _ _ (sym is) read), λ _. refl)
HasRead-answer check lines false is read = (λ h. absurd (false≢true h), λ run. absurd (MatchBool-at_false _ _ (sym is) read run))
