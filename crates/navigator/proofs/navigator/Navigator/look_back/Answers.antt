use Rattle.std.proofs.Common.{List, Option, sym, subst}
use Rattle.mission_model.specs.declared.plan.Item.{Item}
use Rattle.return_mode.specs.ReturnState.{ReturnState}
use Rattle.return_mode.specs.There.{AreThere}
use Rattle.navigator.specs.NavState.{HasShown, with_taken, places, LeadsThere}
use Rattle.navigator.specs.OnReturn.{ByChoice}
use Rattle.navigator.specs.contracts.navigator.Navigator.{the_view}
use Rattle.navigator.proofs.navigator.Navigator.look_back.Goals as goal

pub returns-in-Some-clause-answers : goal.returns-in-Some-clause-answers
returns-in-Some-clause-answers c = rw (← c.self.view_is) (λ (items : List Item) (h : HasShown (the_view c.self.inside) items).
    let there : AreThere (places c.self.inside.home c.self.inside.flight c.self.inside.safe) c.in-Some.way.left = subst (LeadsThere (places c.self.inside.home c.self.inside.flight c.self.inside.safe)) (sym c.in-Some.ensures.value) h.there in
    let g = c.go_along.ensures.goes items there in
    record {
      items' = items;
      fed = c.go_along.ensures.shown items there (record { fed = h.fed; there = rw c.in-Some.ensures.after tt });
      law = subst (λ (o : Option ReturnState). ByChoice o (with_taken (the_view c.self.inside) items) c.args.board.now c.go_along.result (with_taken c.go_along.new.self items) c.go_along.new.board) c.in-Some.ensures.value (record { mid = g.mid; r' = g.r'; shows = g.shows; rest = g.rest });
    })
