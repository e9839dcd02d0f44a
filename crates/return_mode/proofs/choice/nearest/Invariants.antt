-- The best of the home and of the safe points so far.
use Rattle.return_mode.proofs.Nearest.{BestSoFar}
use Rattle.return_mode.proofs.choice.nearest.Given as goal

abbrev pub invariant-loop-seq : goal.invariant-loop-seq
invariant-loop-seq l = BestSoFar l.position l.fn.home l.fence l.safe l.seq l.best
