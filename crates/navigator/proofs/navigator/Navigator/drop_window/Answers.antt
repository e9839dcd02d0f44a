use Rattle.std.proofs.Common.{List, sym, subst, length, refl}
use Rattle.mission_model.specs.declared.plan.Item.{Item}
use Rattle.client_cache.specs.Moves.{moved}
use Rattle.navigator.specs.NavState.{NavState, HasShown, own_cache}
use Rattle.navigator.specs.contracts.navigator.Navigator.{the_view}
use Rattle.navigator.proofs.Changes.{HasShown-cache}
use Rattle.navigator.proofs.navigator.Navigator.drop_window.Goals as goal

pub returns-clause-shown : goal.returns-clause-shown
returns-clause-shown c = λ (items : List Item) (h : HasShown c.args.self.now items).
    let old = own_cache c.in-Some.kind c.args.self.now in
    let f : HasShown c.aim.new.self items = subst (λ (n : NavState). HasShown n items) (sym c.aim.ensures) (HasShown-cache c.in-Some.kind (moved old c.in-Some.seq (length old.known)) c.args.self.now items refl h) in
    let g : HasShown (the_view c.self.inside) items = subst (λ (n : NavState). HasShown n items) (sym c.self.view_is) f in
    record { fed = g.fed; there = g.there }
