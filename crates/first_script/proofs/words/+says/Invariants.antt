use Rattle.std.proofs.Common.{length}
use Rattle.first_script.proofs.words.+says.Given as goal

abbrev pub decreases-says : goal.decreases-says
decreases-says l = length l.line.now
