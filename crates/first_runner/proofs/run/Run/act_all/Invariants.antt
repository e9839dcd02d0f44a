-- The actors before this place have had their turns.
use Rattle.std.proofs.Common.{take}
use Rattle.first_store.specs.MapStore.{held}
use Rattle.first_runner.specs.Tied.{IsSound}
use Rattle.first_runner.specs.RunState.{ActedAll}
use Rattle.first_runner.proofs.run.Run.act_all.Given as goal

abbrev pub invariant-loop-actor : goal.invariant-loop-actor
invariant-loop-actor l = record {
  acted : ActedAll l.initial.self.core (held l.initial.self.store) (take l.actor-index l.actors) l.initial.self.lines.items l.self.core (held l.self.store) l.self.lines.items;
  sound : IsSound l.self.core (held l.self.store);
}
