use Rattle.std.proofs.Common.{List, [], ◌∷◌, ◌++◌, IsTrue, sym, ap, ◌∙◌, refl, subst}
use Rattle.first_model.specs.declared.flight_line.Line.{Line}
use Rattle.first_vehicle.specs.VehicleStep.{VehicleStep}
use Rattle.first_vehicle.specs.CheckState.{CheckState, HasRead}
use Rattle.first_vehicle.proofs.Reading.{HasRead-more, HasRead-over, HasRead-answer}
use Rattle.first_vehicle.proofs.check.VehicleCheck.feed.Goals as goal

pub returns-then-not-self-clause-reads : goal.returns-then-not-self-clause-reads
returns-then-not-self-clause-reads c = λ lines read.
    let wrong = sym (ap (λ (s : CheckState). s.right) c.self.view_is) ∙ c.if-not-self.true in
    HasRead-over c.args.self.now c.args.self.now lines c.args.line.now wrong wrong read

pub returns-then-not-self-clause-answer : goal.returns-then-not-self-clause-answer
returns-then-not-self-clause-answer c = λ lines read.
    let wrong = sym (ap (λ (s : CheckState). s.right) c.self.view_is) ∙ c.if-not-self.true in
    let more = HasRead-over c.args.self.now c.args.self.now lines c.args.line.now wrong wrong read in
    HasRead-answer c.args.self.now (lines ++ c.args.line.now ∷ []) _ (sym wrong) more

read_on : (c : goal.After-self-2-1) (lines : List Line) → HasRead c.args.self.now lines → HasRead (record { right = c.in_ok-self-inside.field-0; vehicle = c.self-2.inside.vehicle }) (lines ++ c.args.line.now ∷ [])
read_on c lines read =
    let old : CheckState = record { right = c.self.inside.right; vehicle = c.self.inside.vehicle } in
    let new : CheckState = record { right = c.in_ok-self-inside.field-0; vehicle = c.self-2.inside.vehicle } in
    let steps : IsTrue c.in_ok-self-inside.field-0 → VehicleStep old.vehicle c.args.line.now new.vehicle = λ h. subst (λ v. VehicleStep old.vehicle c.args.line.now v) (sym (ap (λ (s : CheckState). s.vehicle) c.self-2.view_is)) (c.in_ok-self-inside.ensures.yes h) in
    HasRead-more old new lines c.args.line.now c.in_ok-self-inside.field-0 c.if-not-self.false refl steps c.in_ok-self-inside.ensures.no (subst (λ s. HasRead s lines) (sym c.self.view_is) read)

pub returns-clause-reads : goal.returns-clause-reads
returns-clause-reads c = read_on c

pub returns-clause-answer : goal.returns-clause-answer
returns-clause-answer c = λ lines read.
    HasRead-answer (record { right = c.in_ok-self-inside.field-0; vehicle = c.self-2.inside.vehicle }) (lines ++ c.args.line.now ∷ []) _ refl (read_on c lines read)
