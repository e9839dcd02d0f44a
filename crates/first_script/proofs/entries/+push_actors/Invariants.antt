use Rattle.std.proofs.Common.{length}
use Rattle.first_script.proofs.entries.+push_actors.Given as goal

abbrev pub decreases-push_actors : goal.decreases-push_actors
decreases-push_actors l = length l.names.now
