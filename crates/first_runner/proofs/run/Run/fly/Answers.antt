use Rattle.std.proofs.Common.{sym, subst}
use Rattle.first_store.specs.MapStore.{held}
use Rattle.first_runner.specs.RunState.{SoFar}
use Rattle.first_runner.proofs.Results.{any_err}
use Rattle.first_runner.proofs.Turns.{stopped_first, stopped_round, round_stopped}
use Rattle.first_runner.proofs.run.Run.fly.Goals as goal

pub returns-in_err-act_all-clause-err : goal.returns-in_err-act_all-clause-err
returns-in_err-act_all-clause-err c = any_err _ _ (stopped_first _ _ _ c.args.round.now _ _ _ _ c.in_err-act_all.ensures.err)

pub returns-in_err-go_round-clause-err : goal.returns-in_err-go_round-clause-err
returns-in_err-go_round-clause-err c = any_err _ _ (stopped_round _ _ _ _ _ _ _ _ _ _ _ c.in_ok-act_all.ensures.ok c.in_err-go_round.ensures.err)

pub returns-in_err-push-clause-err : goal.returns-in_err-push-clause-err
returns-in_err-push-clause-err c =
    let before = c.args.self.now in
    let after = c.go_round.new.self in
    let so_far : SoFar before.core (held before.store) c.args.turns.now c.args.round.now before.lines.items after.core (held after.store) after.lines.items = stopped_round _ _ _ _ _ _ _ _ _ _ _ c.in_ok-act_all.ensures.ok (round_stopped _ _ _ _ _ _ _ c.in_ok-go_round.ensures.ok) in
    any_err _ _ (subst (SoFar before.core (held before.store) c.args.turns.now c.args.round.now before.lines.items after.core (held after.store)) (sym c.in_err-push.ensures.items) so_far)
