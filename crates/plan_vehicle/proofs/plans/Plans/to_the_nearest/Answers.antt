use Rattle.std.proofs.Common.{ap, ◌∙◌, subst}
use Rattle.std.proofs.lemmas.Option.{MatchOption-at_some}
use Rattle.plan_vehicle.specs.PlansState.{PlansState, IsReturn}
use Rattle.plan_vehicle.proofs.Returning.{return_nearest}
use Rattle.plan_vehicle.proofs.plans.Plans.to_the_nearest.Goals as goal

pub returns : goal.returns
returns c =
    let plans : PlansState = record { params = c.self.inside.params; home = c.self.inside.home; mission = c.self.inside.mission; fence = c.self.inside.fence; safe = c.self.inside.safe } in
    let fence = MatchOption-at_some _ _ c.in-Some.fence c.in-Some.is c.in_ok-fence.ensures in
    let safe = MatchOption-at_some _ _ c.in-Some-2.safe c.in-Some-2.is c.in_ok-safe.ensures in
    subst (λ (p : PlansState). IsReturn p c.args.position c.args.index c.choose.result) c.self.view_is
    (return_nearest plans c.args.position c.args.index c.from_items-polygons.result c.as_slice-2.result.now c.choose.result fence.0 safe.0 (c.from_items-polygons.ensures ∙ c.as_slice.ensures.value ∙ fence.1) (c.as_slice-2.ensures.value ∙ safe.1) (ap (λ (p : PlansState). p.params.rtl_type) c.self.view_is ∙ c.requires) c.choose.ensures.chosen)
