use Rattle.std.proofs.Common.{length}
use Rattle.first_script.proofs.actors.+are_actors.Given as goal

abbrev pub decreases-are_actors : goal.decreases-are_actors
decreases-are_actors l = length l.words.now
