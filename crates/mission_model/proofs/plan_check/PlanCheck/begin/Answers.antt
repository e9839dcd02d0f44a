use Rattle.mission_model.proofs.Checks.{begun}
use Rattle.mission_model.proofs.plan_check.PlanCheck.begin.Goals as goal

pub returns : goal.returns
returns c = begun c.args.kind c.args.count
