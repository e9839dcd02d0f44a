use Rattle.std.proofs.Common.{sym, ◌∙◌, subst}
use Rattle.std.proofs.lemmas.Option.{same_Some}
use Rattle.std.proofs.lemmas.Result.{IfOk-weaker}
use Rattle.mission_model.specs.declared.vehicle.Look.TheVariants.{Here}
use Rattle.return_mode.specs.declared.plan.ReturnOut.TheVariants.{Skip}
use Rattle.plan_vehicle.specs.ReturnEvents.{Shows}
use Rattle.plan_vehicle.proofs.vehicle.Vehicle.skips.Goals as goal

pub returns-in-Some-clause-no : goal.returns-in-Some-clause-no
returns-in-Some-clause-no c =
    IfOk-weaker c.shows.result _ _ (λ yes' fails is v h. fails is v (subst (λ i. Shows c.args.self.now (Here i) (Skip c.args.seq) v) (same_Some h.1 c.in-Some.item (sym h.2 ∙ sym c.item.ensures ∙ c.in-Some.is)) h.3)) c.shows.ensures.no
