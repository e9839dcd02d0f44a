use Rattle.std.proofs.Common.{length}
use Rattle.first_script.proofs.actors.+are_built_actors.Given as goal

abbrev pub decreases-are_built_actors : goal.decreases-are_built_actors
decreases-are_built_actors l = length l.words.now
