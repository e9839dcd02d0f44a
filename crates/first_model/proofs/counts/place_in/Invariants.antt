-- The pairs before the place are of lesser seqs.
use Rattle.std.proofs.Common.{◌≡◌, ◌+◌, drop}
use Rattle.first_model.specs.Pairs.{place_of}
use Rattle.first_model.proofs.counts.place_in.Given as goal

abbrev pub invariant-loop-pair : goal.invariant-loop-pair
invariant-loop-pair l = (l.at ≡ l.pair-index) × (place_of l.pairs l.seq ≡ l.at + place_of (drop l.pair-index l.pairs) l.seq)
