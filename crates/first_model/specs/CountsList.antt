-- What the counts of jumps are seen as.
use Rattle.std.specs.Prelude.{ℕ, List, take}
use Rattle.first_model.specs.declared.counts.Counts.{Counts}

-- the counts as a list of pairs (seq, used), the seqs rising
abbrev pub pairs_of : Counts → List (ℕ × ℕ)
pairs_of counts = take counts.len counts.pairs
