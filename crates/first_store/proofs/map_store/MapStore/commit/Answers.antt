use Rattle.std.proofs.Common.{sym, subst}
use Rattle.first_store.specs.StoreState.{IsWhole, of_kind}
use Rattle.first_store.specs.MapStore.{MapState, held}
use Rattle.first_store.proofs.map_store.MapStore.commit.Goals as goal

pub commit-requires : goal.commit-requires
commit-requires c =
    let whole = subst (λ kind. IsWhole (of_kind (held c.args.self.now) kind).drafts c.args.id c.args.count) c.in-Fence.is c.requires.written in
    subst (λ (m : MapState). IsWhole (held m).fence.drafts c.args.id c.args.count) (sym c.self.view_is) whole

pub commit-requires-in-Safe : goal.commit-requires-in-Safe
commit-requires-in-Safe c =
    let whole = subst (λ kind. IsWhole (of_kind (held c.args.self.now) kind).drafts c.args.id c.args.count) c.in-Safe.is c.requires.written in
    subst (λ (m : MapState). IsWhole (held m).safe.drafts c.args.id c.args.count) (sym c.self-in-Safe.view_is) whole
