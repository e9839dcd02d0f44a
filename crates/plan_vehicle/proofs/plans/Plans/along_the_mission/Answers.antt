use Rattle.std.proofs.Common.{◌≡◌, ◌==◌, false, sym, ◌∙◌, subst}
use Rattle.std.proofs.lemmas.Option.{MatchOption-at_some}
use Rattle.plan_vehicle.specs.PlansState.{PlansState, IsFound, IsReturn}
use Rattle.plan_vehicle.proofs.Returning.{return_along}
use Rattle.plan_vehicle.proofs.plans.Plans.along_the_mission.Goals as goal

pub returns-clause-chosen : goal.returns-clause-chosen
returns-clause-chosen c =
    let plans : PlansState = record { params = c.self.inside.params; home = c.self.inside.home; mission = c.self.inside.mission; fence = c.self.inside.fence; safe = c.self.inside.safe } in
    let same : plans ≡ c.args.self.now = c.self.view_is ∙ c.in_ok-found.ensures.keeps in
    let found : IsFound c.args.self.now c.in-Some.found = MatchOption-at_some _ _ c.in-Some.found c.in-Some.is c.in_ok-found.ensures.found in
    subst (λ (p : PlansState). IsReturn p c.args.position c.args.index c.choose.result) same
    (return_along plans c.in-Some.found c.args.position c.args.index _ _ c.is_none.result c.choose.result (subst (λ (p : PlansState). IsFound p c.in-Some.found) (sym same) found) (subst (λ (p : PlansState). (p.params.rtl_type == 0) ≡ false) (sym same) c.requires) c.is_none.ensures c.choose.ensures.chosen)
