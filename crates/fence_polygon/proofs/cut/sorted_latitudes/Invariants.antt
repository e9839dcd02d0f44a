-- The latitudes of the vertices so far.
use Rattle.std.proofs.Common.{◌≡◌, take}
use Rattle.fence_polygon.specs.Bands.{latitudes}
use Rattle.fence_polygon.proofs.cut.sorted_latitudes.Given as goal

abbrev pub invariant-loop-vertex : goal.invariant-loop-vertex
invariant-loop-vertex l = l.sorted.items ≡ latitudes (take l.vertex-index l.vertices)
