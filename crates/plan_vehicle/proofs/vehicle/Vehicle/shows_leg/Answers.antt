use Rattle.std.proofs.Common.{sym, ◌∙◌, subst}
use Rattle.mission_model.specs.declared.vehicle.NavWhat.TheVariants as what
use Rattle.plan_vehicle.specs.MissionEvents.{LooksOn}
use Rattle.plan_vehicle.specs.Looked.{IsAt}
use Rattle.plan_vehicle.proofs.Rows.{leg_shown}
use Rattle.plan_vehicle.proofs.vehicle.Vehicle.shows_leg.Goals as goal

pub returns-clause-yes : goal.returns-clause-yes
returns-clause-yes c = λ _.
    let same = c.in_ok-is_at.ensures.keeps in
    let at : IsAt c.is_at.new.self c.args.seq c.args.mission c.args.fence = subst (λ v. IsAt v c.args.seq c.args.mission c.args.fence) (sym same) (c.in_ok-is_at.ensures.at.0 c.if-not-branch.false) in
    subst (λ v. LooksOn v (what.Leg c.args.seq c.args.mission c.args.fence c.args.item) c.show_leg.new.self) same
    (leg_shown c.is_at.new.self c.show_leg.new.self c.args.seq c.args.mission c.args.fence c.args.item at (c.has_item.ensures.0 c.if-not-has_item.false) (sym c.is_leg.ensures ∙ c.if-not-is_leg.false) c.show_leg.ensures)
