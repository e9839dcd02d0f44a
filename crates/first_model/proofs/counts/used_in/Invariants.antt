-- The pairs before the place are of other seqs.
use Rattle.std.proofs.Common.{◌≡◌, drop}
use Rattle.first_model.specs.Pairs.{used_of}
use Rattle.first_model.proofs.counts.used_in.Given as goal

abbrev pub invariant-loop-pair : goal.invariant-loop-pair
invariant-loop-pair l = used_of (drop l.pair-index l.pairs) l.seq ≡ used_of l.pairs l.seq
