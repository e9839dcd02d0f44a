use Rattle.std.proofs.Common.{take, length}
use Rattle.first_model.specs.PlanCheck.{Checked}
use Rattle.first_model.proofs.plan_check.check_items.Given as goal

abbrev pub invariant-loop-item : goal.invariant-loop-item
invariant-loop-item l = Checked l.check l.fn.kind (length l.items) (take l.item-index l.items)
