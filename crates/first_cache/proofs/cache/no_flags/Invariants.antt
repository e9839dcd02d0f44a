-- So many were made.
use Rattle.std.proofs.Common.{◌≡◌, replicate, false}
use Rattle.first_cache.proofs.cache.no_flags.Given as goal

abbrev pub invariant-loop : goal.invariant-loop
invariant-loop l = l.flags.items ≡ replicate l.counter false
