use Rattle.std.proofs.Common.{List, ◌++◌, ◌∷◌, [], ◌∙◌, ap, sym, subst}
use Rattle.first_model.specs.declared.flight_line.Line.{Line}
use Rattle.first_model.specs.declared.flight_line.Line.TheVariants.{Boot}
use Rattle.first_core.specs.CoreState.{CoreState}
use Rattle.first_store.specs.StoreState.{StoreState}
use Rattle.first_runner.specs.Tied.{IsSound}
use Rattle.first_runner.proofs.Limits.{in_limits}
use Rattle.first_runner.proofs.TiedBoot.{new_sound}
use Rattle.first_runner.proofs.fly.begin.Goals as goal

pub new-requires-2-clause-limits : goal.new-requires-2-clause-limits
new-requires-2-clause-limits c = in_limits c.args.boot c.requires

pub returns-clause-begun : goal.returns-clause-begun
returns-clause-begun c =
    let state = c.new_vehicle-state.result in
    record {
      state = state;
      new = c.new_vehicle-state.ensures;
      core = c.in_ok-core.ensures.core;
      store = c.in_ok-store.ensures;
      first = c.in_ok-push.ensures.items ∙ ap (λ (l : List Line). l ++ Boot 1 state.heads state.mark ∷ []) c.new-lines.ensures.items;
    }

pub returns-clause-sound : goal.returns-clause-sound
returns-clause-sound c =
    let state = c.new_vehicle-state.result in
    let new = new_sound c.parts_fit.ensures.begin c.args.boot state (in_limits c.args.boot c.requires) c.new_vehicle-state.ensures in
    subst (λ (st : StoreState). IsSound c.in_ok-core.core st) (sym c.in_ok-store.ensures) (subst (λ (x : CoreState). IsSound x _) (sym c.in_ok-core.ensures.core) new)
