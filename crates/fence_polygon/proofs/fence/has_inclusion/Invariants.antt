-- The polygons that are left have an inclusion where all have.
use Rattle.std.proofs.Common.{◌≡◌, length}
use Rattle.fence_polygon.specs.Bands.{some_inclusion}
use Rattle.fence_polygon.proofs.fence.has_inclusion.Given as goal

abbrev pub invariant-loop-first : goal.invariant-loop-first
invariant-loop-first l = some_inclusion l.rest ≡ some_inclusion l.vertices

abbrev pub decreases-loop-first : goal.decreases-loop-first
decreases-loop-first l = length l.rest
