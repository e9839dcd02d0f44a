use Rattle.std.proofs.Common.{◌≡◌, ◌≢◌, ℕ, List, Some, None, sym, ◌∙◌, ap, subst}
use Rattle.mission_model.specs.declared.plan.Item.{Item}
use Rattle.mission_model.specs.declared.plan.PlanType.TheVariants.{Mission}
use Rattle.client_cache.specs.CacheState.{count_of, known_at}
use Rattle.navigator.specs.NavState.{NavState, HasShown, with_taken}
use Rattle.navigator.specs.OnMission.{uses_of, WaitsFor}
use Rattle.navigator.proofs.Changes.{can_stand-found, FliesOn-found, HasShown-found}
use Rattle.navigator.proofs.navigator.Navigator.fly.Goals as goal

pub step-requires-clause-stands : goal.step-requires-clause-stands
step-requires-clause-stands c =
    let at : c.index-seq.result ≡ c.args.self.now.flight.legs.index = c.index-seq.ensures.index ∙ ap (λ (n : NavState). n.flight.legs.index) c.self.view_is in
    rw (c.in-Some.ensures.rest, ← at) (can_stand-found (uses_of c.args.self.now.flight) (count_of c.args.self.now.mission.cache.head) c.index-seq.result (known_at c.args.self.now.mission.cache c.index-seq.result) c.in-Some.item c.in-Some.ensures.found)

pub returns-in-Some-clause-flies : goal.returns-in-Some-clause-flies
returns-in-Some-clause-flies c = λ (items : List Item) (h : HasShown c.args.self.now items).
    let at : c.index-seq.result ≡ c.args.self.now.flight.legs.index = c.index-seq.ensures.index ∙ ap (λ (n : NavState). n.flight.legs.index) c.self.view_is in
    let inside : c.index-seq.result ≢ count_of c.args.self.now.mission.cache.head = λ e. c.if-seq-count.false (e ∙ sym (c.count.ensures.count ∙ ap (λ (n : NavState). count_of n.mission.cache.head) c.self.view_is)) in
    record {
      fed = c.step.ensures.shown items (HasShown-found c.args.self.now c.found_at.new.self items (Some c.in-Some.item) c.index-seq.result c.in-Some.ensures.rest h);
      law = FliesOn-found c.args.self.now c.found_at.new.self items c.args.board.now (Some c.in-Some.item) c.step.result c.step.new.self c.step.new.board c.index-seq.result at inside c.in-Some.ensures.found c.in-Some.ensures.rest (c.step.ensures.steps items);
    }

pub returns-in-None-clause-flies : goal.returns-in-None-clause-flies
returns-in-None-clause-flies c = λ (items : List Item) (h : HasShown c.args.self.now items).
    let at : c.index-seq.result ≡ c.args.self.now.flight.legs.index = c.index-seq.ensures.index ∙ ap (λ (n : NavState). n.flight.legs.index) c.self.view_is in
    let inside : c.index-seq.result ≢ count_of c.args.self.now.mission.cache.head = λ e. c.if-seq-count.false (e ∙ sym (c.count.ensures.count ∙ ap (λ (n : NavState). count_of n.mission.cache.head) c.self.view_is)) in
    let stays : c.index-seq.result ≡ c.found_at.new.self.flight.legs.index = at ∙ sym (ap (λ (n : NavState). n.flight.legs.index) c.in-None.ensures.rest) in
    record {
      fed = c.wait_for.ensures.shown items (HasShown-found c.args.self.now c.found_at.new.self items None c.index-seq.result c.in-None.ensures.rest h);
      law = FliesOn-found c.args.self.now c.found_at.new.self items c.args.board.now None c.wait_for.result c.wait_for.new.self c.wait_for.new.board c.index-seq.result at inside c.in-None.ensures.found c.in-None.ensures.rest (subst (λ (k : ℕ). WaitsFor Mission k (with_taken c.found_at.new.self items) c.args.board.now c.wait_for.result (with_taken c.wait_for.new.self items) c.wait_for.new.board) stays (c.wait_for.ensures.waits items));
    }
