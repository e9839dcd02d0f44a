-- The items so far are told.
use Rattle.std.proofs.Common.{◌≡◌, map, Some, take}
use Rattle.plan_vehicle.proofs.plan.Plan.all_told.Given as goal

abbrev pub invariant-loop-item : goal.invariant-loop-item
invariant-loop-item l = map (λ item. Some item) l.items.items ≡ take l.item-index l.self.items
