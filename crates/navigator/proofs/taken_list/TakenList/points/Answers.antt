use Rattle.std.proofs.Common.{◌≡◌, ap, ◌∙◌, subst}
use Rattle.mission_model.specs.declared.plan.PlanType.{PlanType}
use Rattle.mission_model.specs.declared.plan.PlanType.TheVariants.{Safe}
use Rattle.client_cache.specs.CacheState.{count_of}
use Rattle.navigator.specs.Taking.{PlanTaken}
use Rattle.navigator.proofs.Lists.{Fits, PlanValid-safe}
use Rattle.navigator.proofs.taken_list.TakenList.points.Goals as goal

pub returns-clause-valid : goal.returns-clause-valid
returns-clause-valid c =
    let safe : c.self.inside.kind ≡ Safe = ap (λ (p : PlanTaken). p.kind) c.self.view_is ∙ c.requires in
    let h : Fits Safe c.self.inside.check c.self.inside.cache c.self.inside.items = subst (λ (k : PlanType). Fits k c.self.inside.check c.self.inside.cache c.self.inside.items) safe c.self.invariant in
    rw c.as_slice.ensures (PlanValid-safe c.self.inside.check (count_of c.self.inside.cache.head) c.self.inside.items h.0 h.1 h.2)
