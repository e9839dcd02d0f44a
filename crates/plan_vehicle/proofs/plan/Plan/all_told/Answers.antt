use Rattle.std.proofs.Common.{◌≡◌, ◌<◌, ◌≤◌, List, Option, None, length, get_or, sym, ap, ◌∙◌, subst}
use Rattle.std.proofs.lemmas.List.{take_all}
use Rattle.mission_model.specs.declared.plan.Item.{Item}
use Rattle.plan_vehicle.specs.PlanState.{PlanState, told_items}
use Rattle.plan_vehicle.proofs.ToldItems.{whole, untold_item}
use Rattle.plan_vehicle.proofs.plan.Plan.all_told.Goals as goal

pub returns-in-None : goal.returns-in-None
returns-in-None c =
    let same : c.deref-item-items.result.now ≡ c.args.self.now.items = c.deref-item-items.ensures.value ∙ ap (λ (p : PlanState). p.items) c.self.view_is in
    untold_item c.args.self.now.items (told_items c.args.self.now) c.loop-item.item-index None
    (subst (λ (l : List (Option Item)). c.loop-item.item-index < length l) same c.loop-item-test.true)
    (subst (λ (l : List (Option Item)). get_or l c.loop-item.item-index None ≡ None) same c.in-None.is)

pub returns : goal.returns
returns c =
    let same : c.deref-item-items.result.now ≡ c.args.self.now.items = c.deref-item-items.ensures.value ∙ ap (λ (p : PlanState). p.items) c.self.view_is in
    let end : length c.args.self.now.items ≤ c.loop-item.item-index = subst (λ (l : List (Option Item)). length l ≤ c.loop-item.item-index) same c.loop-item-test.false in
    whole c.args.self.now c.loop-item.items.items (sym (c.loop-item.invariant ∙ take_all c.loop-item.item-index c.args.self.now.items end))
