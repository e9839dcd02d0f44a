use Rattle.std.proofs.Common.{length}
use Rattle.run_script.proofs.forms.+plan_named.Given as goal

abbrev pub decreases-plan_named : goal.decreases-plan_named
decreases-plan_named l = length l.plans.now
