-- The pairs from the place on decide.
use Rattle.std.proofs.Common.{◌≡◌, drop, length, nat_le, true}
use Rattle.std.specs.List.{list_all}
use Rattle.mission_model.specs.CountsList.{pairs_of}
use Rattle.mission_model.specs.Pairs.{rises_from, used_of}
use Rattle.recovery.proofs.jumps.are_within.Given as goal

abbrev pub invariant-loop-place : goal.invariant-loop-place
invariant-loop-place l = record {
  end : l.place-end ≡ length (pairs_of l.counts);
  rise : rises_from 0 (pairs_of l.counts) ≡ true;
  rest : list_all (λ pair. nat_le pair.1 (used_of (pairs_of l.repeats) pair.0)) (drop l.place (pairs_of l.counts)) ≡ list_all (λ pair. nat_le pair.1 (used_of (pairs_of l.repeats) pair.0)) (pairs_of l.counts);
}
