-- The edges of the polygons that are left, put into the bands as they are, make what all make of the first bands.
use Rattle.std.proofs.Common.{◌≡◌, ◌+◌, length}
use Rattle.fence_polygon.specs.Bands.{fence_edges}
use Rattle.fence_polygon.specs.Marks.{InOrder, with_edges}
use Rattle.fence_polygon.proofs.cut.put_edges.Given as goal

abbrev pub invariant-loop-first : goal.invariant-loop-first
invariant-loop-first l = record {
  order : InOrder l.bands;
  count : l.number + length l.rest ≡ length l.vertices;
  is : with_edges l.number (fence_edges l.rest) l.bands ≡ with_edges 0 (fence_edges l.vertices) l.fn.bands;
}

abbrev pub decreases-loop-first : goal.decreases-loop-first
decreases-loop-first l = length l.rest
