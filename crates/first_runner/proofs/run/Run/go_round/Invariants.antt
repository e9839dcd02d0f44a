-- Each round so far made a line; the number of lines is below 2 ^ 64.
use Rattle.std.proofs.Common.{◌-◌, ◌^◌, vec_len}
use Rattle.first_store.specs.MapStore.{held}
use Rattle.first_runner.specs.Tied.{IsSound}
use Rattle.first_runner.specs.RunState.{WentOn}
use Rattle.first_runner.proofs.run.Run.go_round.Given as goal

abbrev pub invariant-loop-self : goal.invariant-loop-self
invariant-loop-self l = record {
  went : WentOn l.initial.self.core (held l.initial.self.store) l.round l.initial.self.lines.items l.self.core (held l.self.store) l.self.lines.items;
  sound : IsSound l.self.core (held l.self.store);
}

abbrev pub decreases-loop-self : goal.decreases-loop-self
decreases-loop-self l = 2 ^ 64 - vec_len l.self.lines
