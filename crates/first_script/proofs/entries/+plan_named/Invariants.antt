use Rattle.std.proofs.Common.{length}
use Rattle.first_script.proofs.entries.+plan_named.Given as goal

abbrev pub decreases-plan_named : goal.decreases-plan_named
decreases-plan_named l = length l.plans.now
