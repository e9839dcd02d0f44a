-- The bands below `low` end below the latitude, and those from `high` on do not.
use Rattle.std.proofs.Common.{◌-◌, ℕ, ◌<◌, ◌≤◌, ◌<ℤ◌, ◌≤ℤ◌, length, get_or}
use Rattle.fence_polygon.specs.declared.band.Band.{Band}
use Rattle.fence_polygon.proofs.band.bands_below.Given as goal

abbrev pub invariant-loop-low : goal.invariant-loop-low
invariant-loop-low l = record {
  order : l.low ≤ l.high;
  within : l.high ≤ length l.bands;
  below : (k : ℕ) (d : Band) → k < l.low → (get_or l.bands k d).to <ℤ l.x;
  above : (k : ℕ) (d : Band) → l.high ≤ k → k < length l.bands → l.x ≤ℤ (get_or l.bands k d).to;
}

abbrev pub decreases-loop-low : goal.decreases-loop-low
decreases-loop-low l = l.high - l.low
