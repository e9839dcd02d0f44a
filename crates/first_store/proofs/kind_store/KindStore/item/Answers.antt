use Rattle.std.proofs.Common.{◌≡◌, ◌<◌, length, Some, sym, ◌∙◌, subst}
use Rattle.std.specs.Prelude.{slice_get}
use Rattle.first_store.specs.MapStore.{KindTables, at, held_of}
use Rattle.first_store.proofs.ItemThere.{item_there, none_there}
use Rattle.first_store.proofs.kind_store.KindStore.item.Goals as goal

pub unreachable-requires : goal.unreachable-requires
unreachable-requires c =
    let a = c.self.inside in
    let below = subst (λ (t : KindTables). c.args.seq < length (held_of t).plan.items) (sym c.self.view_is) c.requires in
    none_there (at a.in_force) a.id a.count c.args.seq c.self.invariant.whole below (sym c.at.ensures ∙ c.in-None.is)

pub returns : goal.returns
returns c =
    let a = c.self.inside in
    let below = subst (λ (t : KindTables). c.args.seq < length (held_of t).plan.items) (sym c.self.view_is) c.requires in
    subst (λ (t : KindTables). slice_get (held_of t).plan.items c.args.seq ≡ Some c.in-Some.written.item) c.self.view_is (item_there (at a.in_force) a.id a.count c.args.seq c.in-Some.written c.self.invariant.whole below (sym c.at.ensures ∙ c.in-Some.is))
