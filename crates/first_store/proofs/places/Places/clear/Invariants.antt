-- The places before this one are empty.
use Rattle.std.proofs.Common.{◌≡◌, ℕ, ◌<◌, length, get_or, None}
use Rattle.first_store.proofs.places.Places.clear.Given as goal

abbrev pub invariant-loop-seq : goal.invariant-loop-seq
invariant-loop-seq l = record {
  empty : (k : ℕ) → k < l.seq → get_or l.self-inside.places.items k None ≡ None;
  size : length l.self-inside.places.items ≡ length l.initial.self-inside.places.items;
}
