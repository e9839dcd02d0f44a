use Rattle.std.proofs.Common.{sym, ap, ◌∙◌, subst}
use Rattle.mission_model.specs.declared.vehicle.NavWhat.TheVariants as what
use Rattle.plan_vehicle.specs.VehicleState.{VehicleState}
use Rattle.plan_vehicle.specs.MissionEvents.{LooksOn, mode_after}
use Rattle.plan_vehicle.specs.Looked.{IsAt}
use Rattle.plan_vehicle.proofs.Rows.{action_done}
use Rattle.plan_vehicle.proofs.vehicle.Vehicle.does_action.Goals as goal

pub returns-clause-yes : goal.returns-clause-yes
returns-clause-yes c = λ _.
    let same = c.in_ok-is_at.ensures.keeps in
    let at : IsAt c.is_at.new.self c.args.seq c.args.mission c.args.fence = subst (λ v. IsAt v c.args.seq c.args.mission c.args.fence) (sym same) (c.in_ok-is_at.ensures.at.0 c.if-not-branch.false) in
    subst (λ v. LooksOn v (what.Action c.args.seq c.args.mission c.args.fence c.args.item) c.take_mode.new.self) same
    (action_done c.is_at.new.self c.take_mode.new.self c.args.seq c.args.mission c.args.fence c.args.item at (c.has_item.ensures.0 c.if-not-has_item.false) (sym c.is_action.ensures ∙ c.if-not-is_action.false) (c.take_mode.ensures ∙ ap (λ (v : VehicleState). record v { mode = mode_after v.mode c.args.item }) c.go_to.ensures))
