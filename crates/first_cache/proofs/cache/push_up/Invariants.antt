-- So many of the last places have what stood below them; the others are as they were.
use Rattle.std.proofs.Common.{◌≡◌, ℕ, ◌+◌, ◌-◌, ◌<◌, ◌≤◌, None, length}
use Rattle.std.specs.Prelude.{slice_index_or, nat_le, if◌then◌else◌}
use Rattle.first_cache.proofs.cache.push_up.Given as goal

abbrev pub invariant-loop-done : goal.invariant-loop-done
invariant-loop-done l = (length l.known.items ≡ length l.fn.known.items) × (((k : ℕ) → k < length l.known.items → length l.known.items ≤ k + l.done → slice_index_or l.known.items k None ≡ (if nat_le l.by k then slice_index_or l.fn.known.items (k - l.by) None else None)) × ((k : ℕ) → k + l.done < length l.known.items → slice_index_or l.known.items k None ≡ slice_index_or l.fn.known.items k None))
