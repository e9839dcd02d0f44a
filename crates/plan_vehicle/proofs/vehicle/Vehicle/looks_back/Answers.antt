use Rattle.std.proofs.Common.{subst}
use Rattle.std.proofs.lemmas.Result.{IfOk-weaker}
use Rattle.plan_vehicle.specs.ReturnEvents.{LooksBack}
use Rattle.plan_vehicle.proofs.vehicle.Vehicle.looks_back.Goals as goal

pub returns-in-ReturnLeg-clause-no : goal.returns-in-ReturnLeg-clause-no
returns-in-ReturnLeg-clause-no c =
    IfOk-weaker c.leads_to_leg.result _ _ (λ yes' fails is v h. fails is v (subst (λ w. LooksBack c.args.self.now w v) c.in-ReturnLeg.is h)) c.leads_to_leg.ensures.no

pub returns-in-ReturnSkip-clause-no : goal.returns-in-ReturnSkip-clause-no
returns-in-ReturnSkip-clause-no c =
    IfOk-weaker c.skips.result _ _ (λ yes' fails is v h. fails is v (subst (λ w. LooksBack c.args.self.now w v) c.in-ReturnSkip.is h)) c.skips.ensures.no

pub returns-in-ReturnHome-clause-no : goal.returns-in-ReturnHome-clause-no
returns-in-ReturnHome-clause-no c =
    IfOk-weaker c.leads_home.result _ _ (λ yes' fails is v h. fails is v (subst (λ w. LooksBack c.args.self.now w v) c.in-ReturnHome.is h)) c.leads_home.ensures.no

pub returns-in-ReturnSafe-clause-no : goal.returns-in-ReturnSafe-clause-no
returns-in-ReturnSafe-clause-no c =
    IfOk-weaker c.leads_to_safe_point.result _ _ (λ yes' fails is v h. fails is v (subst (λ w. LooksBack c.args.self.now w v) c.in-ReturnSafe.is h)) c.leads_to_safe_point.ensures.no
