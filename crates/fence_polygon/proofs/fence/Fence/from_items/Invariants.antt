-- The vertices are the items so far.
use Rattle.std.proofs.Common.{◌≡◌, take}
use Rattle.fence_polygon.proofs.fence.Fence.from_items.Given as goal

abbrev pub invariant-loop-item : goal.invariant-loop-item
invariant-loop-item l = l.vertices.items ≡ take l.item-index l.items
