use Rattle.std.proofs.Common.{◌≤◌, length, arith, subst}
use Rattle.plan_store.specs.MapStore.{KindTables, at, held_of}
use Rattle.plan_store.specs.DraftLaws.{length-drafted}
use Rattle.plan_store.proofs.Compared.{nat_le-true}
use Rattle.plan_store.proofs.kind_store.tests.has_index.Goals as goal

pub returns : goal.returns
returns c = λ within.
    let a = c.kind.inside in
    let long = length-drafted (at a.in_force) a.id a.count c.kind.invariant.whole in
    subst (λ (t : KindTables). c.args.index ≤ length (held_of t).plan.items) c.kind.view_is (omega (arith, nat_le-true c.args.index a.count within, long))
