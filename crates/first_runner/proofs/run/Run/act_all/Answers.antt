use Rattle.first_runner.proofs.Turns.{one_more}
use Rattle.first_runner.proofs.run.Run.act_all.Goals as goal

pub loop-actor-preserved : goal.loop-actor-preserved
loop-actor-preserved c = record {
  acted = one_more c.args.actors.now c.loop-actor.actor-index _ _ _ _ _ _ _ _ _ _ c.loop-actor-test.true c.loop-actor.invariant.acted c.in_ok-act.ensures.ok;
  sound = c.in_ok-act.ensures.sound;
}
