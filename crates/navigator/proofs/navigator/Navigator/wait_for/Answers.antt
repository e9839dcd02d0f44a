use Rattle.std.proofs.Common.{List, sym, ap, subst}
use Rattle.mission_model.specs.declared.plan.Item.{Item}
use Rattle.client_cache.specs.CacheState.{CacheState, count_of}
use Rattle.navigator.specs.NavState.{NavState, HasShown, own_cache}
use Rattle.navigator.specs.contracts.navigator.Navigator.{the_view}
use Rattle.navigator.proofs.Changes.{HasShown-cache}
use Rattle.navigator.proofs.navigator.Navigator.wait_for.Goals as goal

pub returns-then-not-look_for-clause-shown : goal.returns-then-not-look_for-clause-shown
returns-then-not-look_for-clause-shown c = λ (items : List Item) (h : HasShown c.args.self.now items).
    let f : HasShown c.look_for.new.self items = subst (λ (n : NavState). HasShown n items) (sym c.look_for.ensures.rest) (HasShown-cache c.args.kind (own_cache c.args.kind c.look_for.new.self) c.args.self.now items (ap (λ (k : CacheState). count_of k.head) c.look_for.ensures.asks.cache) h) in
    let g : HasShown (the_view c.self.inside) items = subst (λ (n : NavState). HasShown n items) (sym c.self.view_is) f in
    record { fed = g.fed; there = g.there }

pub returns-else-not-look_for-clause-shown : goal.returns-else-not-look_for-clause-shown
returns-else-not-look_for-clause-shown c = λ (items : List Item) (h : HasShown c.args.self.now items).
    subst (λ (n : NavState). HasShown n items) (sym c.look_for.ensures.rest) (HasShown-cache c.args.kind (own_cache c.args.kind c.look_for.new.self) c.args.self.now items (ap (λ (k : CacheState). count_of k.head) c.look_for.ensures.asks.cache) h)
