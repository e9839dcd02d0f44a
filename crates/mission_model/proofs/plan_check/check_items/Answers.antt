use Rattle.std.proofs.Common.{take, length, sym, subst}
use Rattle.mission_model.specs.PlanCheck.{Checked}
use Rattle.mission_model.proofs.WholePlan.{refused_at, checked_next}
use Rattle.mission_model.proofs.plan_check.check_items.Goals as goal

pub returns-in-Err : goal.returns-in-Err
returns-in-Err c =
    let before = take c.loop-item.item-index c.args.items.now in
    let kept : Checked c.next.new.self c.args.kind (length c.args.items.now) before = subst (λ k. Checked k c.args.kind (length c.args.items.now) before) (sym c.in-Err.ensures.err) c.loop-item.invariant in
    refused_at c.args.kind c.args.items.now c.loop-item.item-index c.taken.result c.in-Err.code _ c.loop-item-test.true (c.taken.ensures _ _ _ kept) c.loop-item.invariant.accepted (c.in-Err.ensures.code _ _ _ c.loop-item.invariant)

pub loop-item-preserved : goal.loop-item-preserved
loop-item-preserved c =
    checked_next _ c.args.kind c.args.items.now c.loop-item.item-index _ c.loop-item-test.true (c.in_default.ensures.ok _ _ _ c.loop-item.invariant)
