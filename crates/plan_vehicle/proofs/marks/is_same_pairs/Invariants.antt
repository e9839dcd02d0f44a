-- The pairs so far are the same.
use Rattle.std.proofs.Common.{◌≡◌, take}
use Rattle.mission_model.specs.CountsList.{pairs_of}
use Rattle.plan_vehicle.proofs.marks.is_same_pairs.Given as goal

abbrev pub invariant-loop-place : goal.invariant-loop-place
invariant-loop-place l = take l.place (pairs_of l.left) ≡ take l.place (pairs_of l.right)
