-- The edges that are left, put into the bands as they are, make what all make of the first bands.
use Rattle.std.proofs.Common.{◌≡◌, ◌+◌, drop}
use Rattle.mission_model.specs.Fence.{edges_of}
use Rattle.fence_polygon.specs.Marks.{InOrder, with_edges}
use Rattle.fence_polygon.proofs.cut.put_polygon.Given as goal

abbrev pub invariant-loop-at : goal.invariant-loop-at
invariant-loop-at l = record {
  order : InOrder l.bands;
  is : with_edges (l.number + l.at) (drop l.at (edges_of l.polygon)) l.bands ≡ with_edges l.number (edges_of l.polygon) l.fn.bands;
}
