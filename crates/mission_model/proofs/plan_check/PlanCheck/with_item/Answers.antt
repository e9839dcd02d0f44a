use Rattle.std.proofs.Common.{sym, ◌∙◌}
use Rattle.std.proofs.lemmas.Result.{err_from_is_err_and}
use Rattle.mission_model.proofs.Checks.{item_refused, item_passed, mission_taken, vertex_taken, point_taken}
use Rattle.mission_model.proofs.plan_check.PlanCheck.with_item.Goals as goal

pub returns-in_err-check_item : goal.returns-in_err-check_item
returns-in_err-check_item c kind count items h =
    let p = err_from_is_err_and c.from_residual.result c.from_residual.ensures.1 in
    rw (p.1, p.2) (item_refused c.args.self.now kind count items c.args.item.now _ h (sym (c.in_err-check_item.ensures)))

pub returns-in_err-jumps-in-Mission : goal.returns-in_err-jumps-in-Mission
returns-in_err-jumps-in-Mission c kind count items h =
    let p = err_from_is_err_and c.from_residual-in_err-jumps-in-Mission.result c.from_residual-in_err-jumps-in-Mission.ensures.1 in
    rw (p.1, p.2) (item_passed c.args.self.now kind _ count items c.args.item.now h c.in-Mission.is (sym (c.in_ok-check_item.ensures)) ∙ c.in_err-jumps-in-Mission.ensures)

pub returns-in_err-polygon-in-Fence : goal.returns-in_err-polygon-in-Fence
returns-in_err-polygon-in-Fence c kind count items h =
    let p = err_from_is_err_and c.from_residual-in_err-polygon-in-Fence.result c.from_residual-in_err-polygon-in-Fence.ensures.1 in
    rw (p.1, p.2) (item_passed c.args.self.now kind _ count items c.args.item.now h c.in-Fence.is (sym (c.in_ok-check_item.ensures)) ∙ c.in_err-polygon-in-Fence.ensures)

pub returns-in_ok-jumps-in-Mission : goal.returns-in_ok-jumps-in-Mission
returns-in_ok-jumps-in-Mission c kind count items h =
    let none = item_passed c.args.self.now kind _ count items c.args.item.now h c.in-Mission.is (sym (c.in_ok-check_item.ensures)) ∙ (c.in_ok-jumps-in-Mission.ensures).0 in
    (none, mission_taken c.args.self.now kind count items c.args.item.now _ h c.in-Mission.is none (c.in_ok-jumps-in-Mission.ensures).1)

pub returns-in_ok-polygon-in-Fence : goal.returns-in_ok-polygon-in-Fence
returns-in_ok-polygon-in-Fence c kind count items h =
    let none = item_passed c.args.self.now kind _ count items c.args.item.now h c.in-Fence.is (sym (c.in_ok-check_item.ensures)) ∙ (c.in_ok-polygon-in-Fence.ensures).0 in
    (none, vertex_taken c.args.self.now kind count items c.args.item.now _ h c.in-Fence.is none (c.in_ok-polygon-in-Fence.ensures).1)

pub returns-in-Safe : goal.returns-in-Safe
returns-in-Safe c kind count items h =
    let none = item_passed c.args.self.now kind _ count items c.args.item.now h c.in-Safe.is (sym (c.in_ok-check_item.ensures)) in
    (none, point_taken c.args.self.now kind count items c.args.item.now h c.in-Safe.is none)
