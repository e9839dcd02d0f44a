-- The pairs before the place are of lesser seqs.
use Rattle.std.proofs.Common.{◌≡◌, ◌+◌, drop}
use Rattle.mission_model.specs.Pairs.{pair_place}
use Rattle.mission_model.proofs.counts.place_in.Given as goal

abbrev pub invariant-loop-pair : goal.invariant-loop-pair
invariant-loop-pair l = (l.at ≡ l.pair-index) × (pair_place l.pairs l.seq ≡ l.at + pair_place (drop l.pair-index l.pairs) l.seq)
