use Rattle.std.proofs.Common.{◌≡◌, ℕ, List, [], Option, Some, None, ◌∙◌, sym, ap, subst, refl}
use Rattle.mission_model.specs.declared.plan.Item.{Item}
use Rattle.return_mode.specs.declared.plan.ReturnOut.{ReturnOut}
use Rattle.return_mode.specs.ReturnState.{ReturnState, after_out}
use Rattle.return_mode.specs.There.{Places, AreThere}
use Rattle.navigator.specs.NavState.{NavState, NavTaken, with_taken, HasShown, places}
use Rattle.navigator.specs.OnReturn.{IsEntry, HasEntry, ShowsAt}
use Rattle.navigator.proofs.Changes.{HasShown-found}
use Rattle.navigator.proofs.Choosing.{HasEntry-apart, HasEntry-found, ShowsPresent-found}
use Rattle.navigator.proofs.navigator.Navigator.show.Goals as goal

pub returns-in_default-clause-shows : goal.returns-in_default-clause-shows
returns-in_default-clause-shows c = λ (items : List Item) (h : AreThere (places c.args.self.now.home c.args.self.now.flight c.args.self.now.safe) c.args.way.now.left).
    let there : Places = places c.args.self.now.home c.args.self.now.flight c.args.self.now.safe in
    let r : ReturnState = c.args.way.now in
    let v : NavTaken = with_taken c.args.self.now items in
    let entry : HasEntry there c.next-out.result None = subst (λ (o : ReturnOut). HasEntry there o None) (sym c.next-out.ensures.out) (HasEntry-apart there r h c.in_default.ensures) in
    subst (λ (x : Option ℕ). ShowsAt x r v c.args.board.now c.return_entry.result v c.args.board.now c.next-out.new.self) c.in_default.ensures
    (subst (λ (o : ReturnOut). IsEntry o None v c.return_entry.result) c.next-out.ensures.out (c.return_entry.ensures items entry), c.next-out.ensures.state ∙ ap (after_out r) c.next-out.ensures.out, refl, refl)

pub returns-in-Some-found_at-clause-shows : goal.returns-in-Some-found_at-clause-shows
returns-in-Some-found_at-clause-shows c = λ (items : List Item) (h : AreThere (places c.args.self.now.home c.args.self.now.flight c.args.self.now.safe) c.args.way.now.left).
    let there : Places = places c.found_at.new.self.home c.found_at.new.self.flight c.found_at.new.self.safe in
    let r : ReturnState = c.args.way.now in
    let item : Item = c.in-Some-found_at.item in
    let step = c.next-out-in-Some-found_at in
    let entry : HasEntry there step.result (Some item) = subst (λ (o : ReturnOut). HasEntry there o (Some item)) (sym step.ensures.out) (HasEntry-found there r item c.in-Some.seq c.in-Some.ensures) in
    ShowsPresent-found c.args.self.now c.found_at.new.self items c.args.board.now (Some item) c.return_entry-what.result (with_taken c.look_for.new.self items) c.look_for.new.board c.in-Some.seq r step.new.self c.in-Some.ensures c.in-Some-found_at.ensures.found c.in-Some-found_at.ensures.rest (record {
      shows = subst (λ (o : ReturnOut). IsEntry o (Some item) (with_taken c.found_at.new.self items) c.return_entry-what.result) step.ensures.out (c.return_entry-what.ensures items entry);
      goes = step.ensures.state ∙ ap (after_out r) step.ensures.out;
      asks = c.look_for.ensures.asks;
      rest = ap (λ (n : NavState). with_taken n items) c.look_for.ensures.rest;
    })

pub returns-in-None-clause-shows : goal.returns-in-None-clause-shows
returns-in-None-clause-shows c = λ (items : List Item) (h : AreThere (places c.args.self.now.home c.args.self.now.flight c.args.self.now.safe) c.args.way.now.left).
    ShowsPresent-found c.args.self.now c.found_at.new.self items c.args.board.now None c.wait_for.result (with_taken c.wait_for.new.self items) c.wait_for.new.board c.in-Some.seq c.args.way.now c.args.way.now c.in-Some.ensures c.in-None.ensures.found c.in-None.ensures.rest (c.wait_for.ensures.waits items, refl)

pub returns-in-None-clause-there : goal.returns-in-None-clause-there
returns-in-None-clause-there c = λ (h : AreThere (places c.args.self.now.home c.args.self.now.flight c.args.self.now.safe) c.args.way.now.left).
    let found : places c.found_at.new.self.home c.found_at.new.self.flight c.found_at.new.self.safe ≡ places c.args.self.now.home c.args.self.now.flight c.args.self.now.safe = ap (λ (n : NavState). places n.home n.flight n.safe) c.in-None.ensures.rest in
    let waits : places c.wait_for.new.self.home c.wait_for.new.self.flight c.wait_for.new.self.safe ≡ places c.found_at.new.self.home c.found_at.new.self.flight c.found_at.new.self.safe = ap (λ (v : NavTaken). places v.home v.flight v.safe) (c.wait_for.ensures.waits []).rest in
    subst (λ (p : Places). AreThere p c.args.way.now.left) (sym (waits ∙ found)) h

pub returns-in-None-clause-shown : goal.returns-in-None-clause-shown
returns-in-None-clause-shown c = λ (items : List Item) (h : HasShown c.args.self.now items).
    c.wait_for.ensures.shown items (HasShown-found c.args.self.now c.found_at.new.self items None c.in-Some.seq c.in-None.ensures.rest h)
