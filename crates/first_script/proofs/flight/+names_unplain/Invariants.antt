use Rattle.std.proofs.Common.{length}
use Rattle.first_script.proofs.flight.+names_unplain.Given as goal

abbrev pub decreases-names_unplain : goal.decreases-names_unplain
decreases-names_unplain l = length l.plans.now
