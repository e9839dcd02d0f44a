use Rattle.std.proofs.Common.{List, sym, ap, subst, ◌∙◌}
use Rattle.mission_model.specs.declared.plan.Item.{Item}
use Rattle.client_cache.specs.CacheState.{count_of, got}
use Rattle.navigator.specs.Caches.{SamePlan-got, count-same}
use Rattle.navigator.specs.Taking.{PlanTaken}
use Rattle.navigator.specs.Judging.{MissionTaken}
use Rattle.navigator.specs.NavState.{NavState, HasShown}
use Rattle.navigator.specs.contracts.navigator.Navigator.{the_view}
use Rattle.navigator.proofs.Changes.{HasShown-got}
use Rattle.navigator.proofs.navigator.Navigator.got.Goals as goal

pub invariant_of-self : goal.invariant_of-self
invariant_of-self c = record {
  count = c.self.invariant.count ∙ sym (ap (λ (m : MissionTaken). count_of m.cache.head) c.got.ensures ∙ count-same c.self.inside.mission.cache (got c.self.inside.mission.cache c.args.asked.now c.args.reply.now) (SamePlan-got c.self.inside.mission.cache c.args.asked.now c.args.reply.now));
  fence_kind = ap (λ (p : PlanTaken). p.kind) c.got-in-Read.ensures ∙ c.self.invariant.fence_kind;
  safe_kind = ap (λ (p : PlanTaken). p.kind) c.got-in-Read-2.ensures ∙ c.self.invariant.safe_kind;
}

pub returns-in-Read-clause-shown : goal.returns-in-Read-clause-shown
returns-in-Read-clause-shown c = λ (items : List Item) (h : HasShown c.args.self.now items).
    let h' : HasShown (the_view c.self.inside) items = subst (λ (n : NavState). HasShown n items) (sym c.self.view_is) h in
    rw (c.got.ensures, c.got-in-Read.ensures, c.got-in-Read-2.ensures) (HasShown-got (the_view c.self.inside) items c.args.asked.now c.args.reply.now h')
