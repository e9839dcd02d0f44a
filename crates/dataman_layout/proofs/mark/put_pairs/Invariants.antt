use Rattle.std.proofs.Common.{◌≡◌, ◌+◌, ◌*◌, ◌≤◌, ◌<◌, ◌^◌, ◌++◌, ℕ, take, drop, get_or}
use Rattle.std.specs.List.{flat_map}
use Rattle.mission_model.specs.CountsList.{pairs_of}
use Rattle.dataman_layout.specs.Mark.{pair_bytes}
use Rattle.dataman_layout.proofs.mark.put_pairs.Given as goal

abbrev pub invariant-loop-place : goal.invariant-loop-place
invariant-loop-place l = record {
  front : take (7 + 4 * l.place) l.bytes ≡ take 7 l.fn.bytes ++ flat_map pair_bytes (take l.place (pairs_of l.counts));
  rest : (k : ℕ) → 7 + 4 * l.place ≤ k → drop k l.bytes ≡ drop k l.fn.bytes;
  fit : (k : ℕ) → k < l.place → ((get_or (pairs_of l.counts) k (0, 0)).0 < 2 ^ 16) × ((get_or (pairs_of l.counts) k (0, 0)).1 < 2 ^ 16);
}
