-- What is found in the polygons that are left is the first edge met.
use Rattle.std.proofs.Common.{◌≡◌, ◌+◌, length}
use Rattle.leg_fence.proofs.First.{Tells}
use Rattle.leg_fence.proofs.leg.first_met.Given as goal

abbrev pub invariant-loop-first : goal.invariant-loop-first
invariant-loop-first l = record {
  count : l.begin + length l.rest ≡ length l.items;
  tells : Tells l.items l.rest l.p l.q l.begin;
}

abbrev pub decreases-loop-first : goal.decreases-loop-first
decreases-loop-first l = length l.rest
