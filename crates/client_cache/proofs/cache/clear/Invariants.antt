-- So many were forgotten.
use Rattle.std.proofs.Common.{◌≡◌, replicate, None, length, take}
use Rattle.client_cache.proofs.cache.clear.Given as goal

abbrev pub invariant-loop-place : goal.invariant-loop-place
invariant-loop-place l = (take l.place l.known.items ≡ replicate l.place None) × (length l.known.items ≡ length l.fn.known.items)
