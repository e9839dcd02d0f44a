use Rattle.std.proofs.Common.{◌≤◌, sym, ◌∙◌, subst}
use Rattle.mission_model.specs.declared.vehicle.NavWhat.TheVariants as what
use Rattle.mission_model.specs.Pairs.{used_of}
use Rattle.plan_vehicle.specs.VehicleState.{VehicleState}
use Rattle.plan_vehicle.specs.MissionEvents.{LooksOn}
use Rattle.plan_vehicle.specs.Looked.{IsAt}
use Rattle.plan_vehicle.proofs.Rows.{jump_passed}
use Rattle.plan_vehicle.proofs.vehicle.Vehicle.passes_jump.Goals as goal

pub returns-clause-yes : goal.returns-clause-yes
returns-clause-yes c = λ _.
    let same = c.in_ok-is_at.ensures.keeps in
    let at : IsAt c.is_at.new.self c.args.seq c.args.mission c.args.fence = subst (λ v. IsAt v c.args.seq c.args.mission c.args.fence) (sym same) (c.in_ok-is_at.ensures.at.0 c.if-not-branch.false) in
    subst (λ v. LooksOn v (what.JumpSpent c.args.seq c.args.mission c.args.fence) c.go_to.new.self) same
    (jump_passed c.is_at.new.self c.go_to.new.self c.args.seq c.args.mission c.args.fence c.in-Some.jump at (sym c.jump_at.ensures ∙ c.in-Some.is) (subst (λ (v : VehicleState). c.in-Some.jump.repeats ≤ used_of v.counts c.args.seq) c.self.view_is (subst (λ n. c.in-Some.jump.repeats ≤ n) c.used.ensures c.if-used-jump.false)) c.go_to.ensures)
