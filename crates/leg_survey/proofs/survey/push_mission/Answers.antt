use Rattle.leg_survey.proofs.Along.{on_ok, mission_told}
use Rattle.leg_survey.proofs.survey.push_mission.Goals as goal

pub returns-in_ok-count-in-None : goal.returns-in_ok-count-in-None
returns-in_ok-count-in-None c =
    on_ok c.push_count.result
    (mission_told c.args.vertices.now c.args.plan.now c.as_slice-name.result.now c.as_slice-items.result.now c.judgement.result c.in_ok-count-in-None.count c.in_ok-count-in-None.clear c.args.out.now.items c.push_legs.new.out.items c.push_count.new.out.items c.as_slice-name.ensures c.as_slice-items.ensures c.judgement.ensures c.in-None.is c.in_ok-count-in-None.ensures)
    c.push_count.ensures
