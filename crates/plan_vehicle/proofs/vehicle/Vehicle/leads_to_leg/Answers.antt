use Rattle.std.proofs.lemmas.Result.{IfOk-weaker}
use Rattle.plan_vehicle.proofs.vehicle.Vehicle.leads_to_leg.Goals as goal

pub returns-clause-no : goal.returns-clause-no
returns-clause-no c = IfOk-weaker c.shows.result _ _ (λ yes' fails is v h. fails is v h.2) c.shows.ensures.no
