use Rattle.std.proofs.Common.{sym, ap, ◌∙◌, subst}
use Rattle.mission_model.specs.declared.vehicle.NavWhat.TheVariants as what
use Rattle.mission_model.specs.Pairs.{Takes}
use Rattle.plan_vehicle.specs.VehicleState.{VehicleState}
use Rattle.plan_vehicle.specs.MissionEvents.{LooksOn, moved}
use Rattle.plan_vehicle.specs.Looked.{IsAt}
use Rattle.plan_vehicle.proofs.Rows.{jump_taken}
use Rattle.plan_vehicle.proofs.vehicle.Vehicle.jumps.Goals as goal

pub returns-clause-yes : goal.returns-clause-yes
returns-clause-yes c = λ _.
    let same = c.in_ok-is_at.ensures.keeps in
    let at : IsAt c.is_at.new.self c.args.seq c.args.mission c.args.fence = subst (λ v. IsAt v c.args.seq c.args.mission c.args.fence) (sym same) (c.in_ok-is_at.ensures.at.0 c.if-not-branch.false) in
    let taken = c.takes_jump.ensures.yes c.if-not-takes_jump.false in
    subst (λ v. LooksOn v (what.Jump c.args.seq c.args.to c.args.used c.args.mission c.args.fence) c.go_to.new.self) same
    (jump_taken c.is_at.new.self c.go_to.new.self c.args.seq c.args.to c.args.used c.args.mission c.args.fence c.in-Some.jump at (sym c.jump_at.ensures ∙ c.in-Some.is) c.if-jump-to.false (subst (λ (v : VehicleState). Takes v.counts c.args.seq) c.self.view_is (c.takes.ensures.0 c.if-not-takes.false)) taken.0 taken.1 (c.go_to.ensures ∙ ap (λ (v : VehicleState). moved v c.args.to v.counts) taken.2))
