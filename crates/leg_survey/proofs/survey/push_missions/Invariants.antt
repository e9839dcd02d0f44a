-- What was told so far, and that it goes on.
use Rattle.std.proofs.Common.{length}
use Rattle.leg_survey.proofs.Along.{PlansLoop}
use Rattle.leg_survey.proofs.survey.push_missions.Given as goal

abbrev pub invariant-loop-plan : goal.invariant-loop-plan
invariant-loop-plan l = PlansLoop l.vertices l.plans l.rest l.initial.out.items l.out.items

abbrev pub decreases-loop-plan : goal.decreases-loop-plan
decreases-loop-plan l = length l.rest
