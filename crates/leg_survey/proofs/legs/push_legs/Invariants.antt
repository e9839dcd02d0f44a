-- What was told so far, and that it goes on.
use Rattle.std.proofs.Common.{length}
use Rattle.leg_survey.proofs.Along.{AlongLoop}
use Rattle.leg_survey.proofs.legs.push_legs.Given as goal

abbrev pub invariant-loop-item : goal.invariant-loop-item
invariant-loop-item l = AlongLoop l.vertices l.items l.last l.seq l.rest l.count l.clear l.initial.out.items l.out.items

abbrev pub decreases-loop-item : goal.decreases-loop-item
decreases-loop-item l = length l.rest
