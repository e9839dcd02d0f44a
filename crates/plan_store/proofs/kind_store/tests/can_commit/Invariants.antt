-- The items below this seq stand at their places, and are collected.
use Rattle.std.proofs.Common.{◌≡◌}
use Rattle.plan_store.specs.StoreState.{IsWhole, drafted}
use Rattle.plan_store.specs.MapStore.{at}
use Rattle.plan_store.proofs.kind_store.tests.can_commit.Given as goal

abbrev pub invariant-loop-seq : goal.invariant-loop-seq
invariant-loop-seq l = record {
  items : l.items.items ≡ drafted (at l.fn.kind.next) l.fn.id l.seq;
  whole : IsWhole (at l.fn.kind.next) l.fn.id l.seq;
}
