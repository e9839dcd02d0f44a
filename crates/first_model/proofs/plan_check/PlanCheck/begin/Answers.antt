use Rattle.std.proofs.Common.{◌≡◌}
use Rattle.first_model.proofs.Checks.{begun}
use Rattle.first_model.proofs.plan_check.PlanCheck.begin.Goals as goal

pub returns : goal.returns
returns c = begun c.args.kind c.args.count
