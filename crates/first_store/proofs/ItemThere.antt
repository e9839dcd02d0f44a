-- The item at a seq of the plan in force, from what stands at its place.
use Rattle.std.proofs.Common.{◌≡◌, ℕ, ◌<◌, ◌==◌, Bool, true, false, length, Some, None, refl, ap, ◌∙◌, subst, arith}
use Rattle.std.specs.Prelude.{slice_get, IsSome, if◌then◌else◌}
use Rattle.first_model.specs.declared.plan.Item.{Item}
use Rattle.first_store.specs.declared.places.Written.{Written}
use Rattle.first_store.specs.StoreState.{Drafts, IsWhole, draft_at, drafted, item_for}
use Rattle.first_store.specs.DraftLaws.{length-drafted, slice_get-drafted}

own_item : (own : Bool) (item : Item) → IsSome (if own then Some item else None) → (if own then Some item else None) ≡ Some item
own_item true item some = refl
own_item false item some = absurd cc

-- what stands at the seq is the draft's
at_place : (drafts : Drafts) (id count seq : ℕ) → IsWhole drafts id count → seq < length (drafted drafts id count) → IsSome (draft_at drafts id seq) × (slice_get (drafted drafts id count) seq ≡ draft_at drafts id seq)
at_place drafts id count seq whole below =
    let within : seq < count = omega (arith, below, length-drafted drafts id count whole) in
    (whole seq within, slice_get-drafted drafts id count seq whole within)

pub item_there : (drafts : Drafts) (id count seq : ℕ) (written : Written) → IsWhole drafts id count → seq < length (drafted drafts id count) → drafts seq ≡ Some written → slice_get (drafted drafts id count) seq ≡ Some written.item
item_there drafts id count seq written whole below is =
    let here = at_place drafts id count seq whole below in
    here.1 ∙ (ap (item_for id) is ∙ own_item (written.id == id) written.item (subst (λ w. IsSome (item_for id w)) is here.0))

pub none_there : (drafts : Drafts) (id count seq : ℕ) → IsWhole drafts id count → seq < length (drafted drafts id count) → drafts seq ≡ None → ⊥
none_there drafts id count seq whole below is =
    let here = at_place drafts id count seq whole below in
    let none : IsSome (item_for id None) = subst (λ w. IsSome (item_for id w)) is here.0 in
    absurd cc
