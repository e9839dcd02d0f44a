use Rattle.std.proofs.Common.{◌∙◌}
use Rattle.mission_model.specs.CountsList.{pairs_of}
use Rattle.recovery.proofs.Repeats.{same_tests}
use Rattle.recovery.proofs.jumps.allow.Goals as goal

pub returns : goal.returns
returns c = λ items has. c.are_within.ensures.within ∙ same_tests items (pairs_of c.args.repeats.now) 0 (pairs_of c.args.counts.now) has c.are_within.ensures.rise
