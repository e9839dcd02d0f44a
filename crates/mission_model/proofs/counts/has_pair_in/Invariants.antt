-- The pairs before the place are of other seqs.
use Rattle.std.proofs.Common.{◌≡◌, drop}
use Rattle.mission_model.specs.Pairs.{has_pair}
use Rattle.mission_model.proofs.counts.has_pair_in.Given as goal

abbrev pub invariant-loop-pair : goal.invariant-loop-pair
invariant-loop-pair l = has_pair (drop l.pair-index l.pairs) l.seq ≡ has_pair l.pairs l.seq
