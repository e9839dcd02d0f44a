-- The cells before the place are the same.
use Rattle.std.proofs.Common.{◌≡◌, take}
use Rattle.mission_model.proofs.counts.is_same_pairs.Given as goal

abbrev pub invariant-loop-k : goal.invariant-loop-k
invariant-loop-k l = take l.k l.left ≡ take l.k l.right
