-- The bit is put into the bands so far.
use Rattle.std.proofs.Common.{◌-◌, ◌≡◌, ◌≤◌, length}
use Rattle.fence_polygon.proofs.Marks.{put_upto}
use Rattle.fence_polygon.proofs.band.set_bit.Given as goal

abbrev pub invariant-loop-at : goal.invariant-loop-at
invariant-loop-at l = record {
  within : l.at ≤ length l.fn.bands;
  is : l.bands ≡ put_upto l.low l.high l.bit l.at l.fn.bands;
}

abbrev pub decreases-loop-at : goal.decreases-loop-at
decreases-loop-at l = length l.fn.bands - l.at
