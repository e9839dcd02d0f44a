use Rattle.std.proofs.Common.{◌<◌, length, arith, subst}
use Rattle.plan_store.specs.MapStore.{KindTables, at, held_of}
use Rattle.plan_store.specs.DraftLaws.{length-drafted}
use Rattle.plan_store.proofs.Compared.{nat_lt-true}
use Rattle.plan_store.proofs.kind_store.tests.has_item.Goals as goal

pub returns : goal.returns
returns c = λ below.
    let a = c.kind.inside in
    let long = length-drafted (at a.in_force) a.id a.count c.kind.invariant.whole in
    subst (λ (t : KindTables). c.args.seq < length (held_of t).plan.items) c.kind.view_is (omega (arith, nat_lt-true c.args.seq a.count below, long))
