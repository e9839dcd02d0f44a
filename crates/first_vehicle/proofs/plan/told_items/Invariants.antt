use Rattle.std.proofs.Common.{◌≡◌, map, Some, take}
use Rattle.first_vehicle.proofs.plan.told_items.Given as goal

abbrev pub invariant-loop-item : goal.invariant-loop-item
invariant-loop-item l = l.told.items ≡ map (λ item. Some item) (take l.item-index l.items)
