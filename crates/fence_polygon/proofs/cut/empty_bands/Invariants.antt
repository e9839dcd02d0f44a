-- The bands are those up to the latitude before.
use Rattle.fence_polygon.proofs.Ranges.{Built}
use Rattle.fence_polygon.proofs.cut.empty_bands.Given as goal

abbrev pub invariant-loop-at : goal.invariant-loop-at
invariant-loop-at l = Built l.latitudes l.at l.bands.items
