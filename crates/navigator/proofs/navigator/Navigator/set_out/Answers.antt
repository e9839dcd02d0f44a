use Rattle.std.proofs.Common.{◌≡◌, List, None, sym, subst, refl}
use Rattle.mission_model.specs.declared.plan.Item.{Item}
use Rattle.return_mode.specs.ReturnState.{ReturnState}
use Rattle.return_mode.specs.There.{AreThere}
use Rattle.navigator.specs.NavState.{NavState, HasShown, with_taken, places, LeadsThere}
use Rattle.navigator.specs.OnReturn.{ShowsPresent, return_lacking}
use Rattle.navigator.specs.contracts.navigator.Navigator.{the_view}
use Rattle.navigator.proofs.Choosing.{LeadsThere-kept}
use Rattle.navigator.proofs.navigator.Navigator.set_out.Goals as goal

pub returns-clause-goes : goal.returns-clause-goes
returns-clause-goes c = λ (items : List Item) (h : HasShown c.args.self.now items) (need : return_lacking (with_taken c.args.self.now items) ≡ None).
    record {
      mid = with_taken c.show-what.new.self items;
      r' = c.show-what.new.way;
      shows = subst (λ (r : ReturnState). ShowsPresent r (with_taken c.args.self.now items) c.args.board.now c.show-what.result (with_taken c.show-what.new.self items) c.show-what.new.board c.show-what.new.way) (c.choose-way.ensures.chosen items h need) (c.show-what.ensures.shows items (c.choose-way.ensures.there items h need));
      rest = rw (← c.self.view_is, ← c.choice_kept-self-inside.ensures) refl;
    }

pub returns-clause-shown : goal.returns-clause-shown
returns-clause-shown c = λ (items : List Item) (h : HasShown c.args.self.now items) (need : return_lacking (with_taken c.args.self.now items) ≡ None).
    let f : HasShown (the_view c.self.inside) items = subst (λ (n : NavState). HasShown n items) (sym c.self.view_is) (c.show-what.ensures.shown items h) in
    let there : AreThere (places c.self.inside.home c.self.inside.flight c.self.inside.safe) c.show-what.new.way.left = subst (λ (n : NavState). AreThere (places n.home n.flight n.safe) c.show-what.new.way.left) (sym c.self.view_is) (c.show-what.ensures.there (c.choose-way.ensures.there items h need)) in
    record { fed = f.fed; there = subst (LeadsThere (places c.self.inside.home c.self.inside.flight c.self.inside.safe)) (sym c.choice_kept-self-inside.ensures) (LeadsThere-kept (places c.self.inside.home c.self.inside.flight c.self.inside.safe) c.show-what.result c.show-what.new.way there) }
