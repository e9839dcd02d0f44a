use Rattle.std.proofs.Common.{subst, sym, ◌∙◌, List}
use Rattle.mission_model.specs.declared.schedule.NamedPlan.{NamedPlan}
use Rattle.leg_survey.proofs.Along.{PlansLoop, plans-next, plans-end, empty}
use Rattle.leg_survey.proofs.survey.push_missions.Goals as goal

pub loop-plan-preserved-in_ok-push_mission : goal.loop-plan-preserved-in_ok-push_mission
loop-plan-preserved-in_ok-push_mission c =
    plans-next c.args.vertices.now c.args.plans.now c.in-Some.plan.now c.in-Some.more.now c.args.out.now.items c.loop-plan.out.items c.push_mission.new.out.items
    (sym c.is_of.ensures ∙ c.if-is_of.true) c.in_ok-push_mission.ensures (subst (λ (rest : List NamedPlan). PlansLoop c.args.vertices.now c.args.plans.now rest c.args.out.now.items c.loop-plan.out.items) c.in-Some.ensures.cases.0 c.loop-plan.invariant)

pub returns : goal.returns
returns c =
    plans-end c.args.vertices.now c.args.plans.now c.args.out.now.items c.loop-plan.out.items
    (subst (λ (rest : List NamedPlan). PlansLoop c.args.vertices.now c.args.plans.now rest c.args.out.now.items c.loop-plan.out.items) (empty c.loop-plan.rest.now c.in_default.ensures.cases) c.loop-plan.invariant)
