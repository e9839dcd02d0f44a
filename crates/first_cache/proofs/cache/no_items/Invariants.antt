-- So many were made.
use Rattle.std.proofs.Common.{◌≡◌, replicate, None}
use Rattle.first_cache.proofs.cache.no_items.Given as goal

abbrev pub invariant-loop : goal.invariant-loop
invariant-loop l = l.known.items ≡ replicate l.counter None
