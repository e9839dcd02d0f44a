-- The first fence is among the plans that are left.
use Rattle.std.proofs.Common.{◌≡◌, length}
use Rattle.std.specs.List.{find}
use Rattle.leg_survey.specs.Survey.{is_fence}
use Rattle.leg_survey.proofs.survey.first_fence.Given as goal

abbrev pub invariant-loop-plan : goal.invariant-loop-plan
invariant-loop-plan l = find is_fence l.rest ≡ find is_fence l.plans

abbrev pub decreases-loop-plan : goal.decreases-loop-plan
decreases-loop-plan l = length l.rest
