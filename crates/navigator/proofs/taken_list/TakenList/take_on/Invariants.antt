-- The items up to this seq were taken, and the cache is as it was.
use Rattle.std.proofs.Common.{◌≡◌}
use Rattle.navigator.specs.Judging.{no_uses}
use Rattle.navigator.proofs.Takings.{Going}
use Rattle.navigator.proofs.taken_list.TakenList.take_on.Given as goal

abbrev pub invariant-loop : goal.invariant-loop
invariant-loop l = record {
  kind : l.self-inside.kind ≡ l.fn.self.kind;
  going : Going l.fn.self.kind no_uses l.fn.self.cache l.fn.self.taken l.counter l.self-inside.cache l.self-inside.check l.self-inside.items;
}
