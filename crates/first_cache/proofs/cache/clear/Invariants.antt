-- So many were cleared.
use Rattle.std.proofs.Common.{◌≡◌, replicate, false, length, take}
use Rattle.first_cache.proofs.cache.clear.Given as goal

abbrev pub invariant-loop-seq : goal.invariant-loop-seq
invariant-loop-seq l = (take l.seq l.flags.items ≡ replicate l.seq false) × (length l.flags.items ≡ length l.fn.flags.items)
