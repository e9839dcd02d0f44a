use Rattle.std.proofs.Common.{◌-◌}
use Rattle.run_script.proofs.actors.+are_actors.Given as goal

abbrev pub decreases-are_actors : goal.decreases-are_actors
decreases-are_actors l = l.words.to - l.words.at
