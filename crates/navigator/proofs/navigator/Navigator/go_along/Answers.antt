use Rattle.std.proofs.Common.{List, sym, subst, refl}
use Rattle.mission_model.specs.declared.plan.Item.{Item}
use Rattle.return_mode.specs.There.{AreThere}
use Rattle.navigator.specs.NavState.{NavState, NavTaken, HasShown, with_taken, places}
use Rattle.navigator.specs.OnReturn.{ShowsPresent}
use Rattle.navigator.specs.contracts.navigator.Navigator.{the_view}
use Rattle.navigator.proofs.Ways.{without_way}
use Rattle.navigator.proofs.navigator.Navigator.go_along.Goals as goal

pub returns-clause-goes : goal.returns-clause-goes
returns-clause-goes c = λ (items : List Item) (h : AreThere (places c.args.self.now.home c.args.self.now.flight c.args.self.now.safe) c.args.way.left). record {
  mid = with_taken c.show-what.new.self items;
  r' = c.show-what.new.way;
  shows = subst (λ (v : NavTaken). ShowsPresent c.args.way v c.args.board.now c.show-what.result (with_taken c.show-what.new.self items) c.show-what.new.board c.show-what.new.way) (without_way c.args.self.now items c.requires) (c.show-what.ensures.shows items h);
  rest = rw (← c.self.view_is) refl;
}

pub returns-clause-shown : goal.returns-clause-shown
returns-clause-shown c = λ (items : List Item) (h : AreThere (places c.args.self.now.home c.args.self.now.flight c.args.self.now.safe) c.args.way.left) (s : HasShown c.args.self.now items).
    let f : HasShown (the_view c.self.inside) items = subst (λ (n : NavState). HasShown n items) (sym c.self.view_is) (c.show-what.ensures.shown items s) in
    record { fed = f.fed; there = subst (λ (n : NavState). AreThere (places n.home n.flight n.safe) c.show-what.new.way.left) (sym c.self.view_is) (c.show-what.ensures.there h) }
