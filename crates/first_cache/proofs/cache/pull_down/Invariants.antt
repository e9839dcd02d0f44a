-- The places below one have what stood above them; the others are as they were.
use Rattle.std.proofs.Common.{◌≡◌, ℕ, ◌+◌, ◌<◌, ◌≤◌, None, length}
use Rattle.std.specs.Prelude.{slice_index_or}
use Rattle.first_cache.proofs.cache.pull_down.Given as goal

abbrev pub invariant-loop-place : goal.invariant-loop-place
invariant-loop-place l = (length l.known.items ≡ length l.fn.known.items) × (((k : ℕ) → k < l.place → slice_index_or l.known.items k None ≡ slice_index_or l.fn.known.items (k + l.by) None) × ((k : ℕ) → l.place ≤ k → slice_index_or l.known.items k None ≡ slice_index_or l.fn.known.items k None))
