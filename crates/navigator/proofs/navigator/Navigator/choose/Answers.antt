use Rattle.std.proofs.Common.{◌≡◌, ℕ, ◌≤◌, List, None, sym, subst}
use Rattle.mission_model.specs.declared.plan.Item.{Item}
use Rattle.return_mode.specs.ReturnState.{ReturnState}
use Rattle.return_mode.specs.There.{AreThere}
use Rattle.navigator.specs.NavState.{NavState, with_taken, HasShown, places}
use Rattle.navigator.specs.OnReturn.{return_lacking, return_chosen}
use Rattle.navigator.specs.contracts.navigator.Navigator.{the_view}
use Rattle.navigator.proofs.Choosing.{chosen-there, chosen-is, shown-whole}
use Rattle.navigator.proofs.navigator.Navigator.choose.Goals as goal

chosen_at : (c : goal.After-choose) (items : List Item) → HasShown (the_view c.self.inside) items → return_lacking (with_taken (the_view c.self.inside) items) ≡ None → c.choose.result ≡ return_chosen (with_taken (the_view c.self.inside) items)
chosen_at c items h need =
    let n : NavState = the_view c.self.inside in
    let shown = shown-whole n items h need in
    let fence : c.fence.result.now ≡ n.fence.taken = c.fence.ensures n.params n.home n.fence.taken items shown in
    chosen-is n items c.choose.result c.for_return-feasible.result.0 c.for_return-feasible.result.1 need (c.for_return-feasible.ensures.whole n.params n.home n.fence.taken items shown)
    (rw (← fence, ← c.points.ensures.points) c.choose.ensures.nearest)
    (rw (← fence, ← c.points.ensures.points, ← c.index.ensures.index) c.choose.ensures.over_missions)

pub returns-clause-chosen : goal.returns-clause-chosen
returns-clause-chosen c = rw (← c.self.view_is) (λ (items : List Item) (h : HasShown (the_view c.self.inside) items) (need : return_lacking (with_taken (the_view c.self.inside) items) ≡ None). chosen_at c items h need)

pub returns-clause-there : goal.returns-clause-there
returns-clause-there c = rw (← c.self.view_is) (λ (items : List Item) (h : HasShown (the_view c.self.inside) items) (need : return_lacking (with_taken (the_view c.self.inside) items) ≡ None).
    let within : c.self.inside.flight.legs.index ≤ c.self.inside.flight.legs.count = subst (λ (k : ℕ). k ≤ c.self.inside.flight.legs.count) c.index.ensures.index c.index.ensures.within in
    subst (λ (r : ReturnState). AreThere (places c.self.inside.home c.self.inside.flight c.self.inside.safe) r.left) (sym (chosen_at c items h need)) (chosen-there (the_view c.self.inside) items c.self.invariant.count within need))
