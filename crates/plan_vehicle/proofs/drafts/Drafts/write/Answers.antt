use Rattle.std.proofs.Common.{◌≡◌, sym, ap, ◌∙◌, get_or}
use Rattle.plan_vehicle.specs.Drafts.{DraftState}
use Rattle.plan_vehicle.proofs.Writing.{with_written-Some, with_written-None}
use Rattle.plan_vehicle.proofs.drafts.Drafts.write.Goals as goal

pub returns-in_ok-push-in-Some : goal.returns-in_ok-push-in-Some
returns-in_ok-push-in-Some c =
    let draft : DraftState = c.index_mut.result.now in
    let at : draft ≡ get_or c.args.self.now c.in-Some.at draft = c.index_mut.ensures.value ∙ ap (λ ds. get_or ds c.in-Some.at draft) c.self.view_is in
    let written = with_written-Some c.args.kind c.args.id c.args.item c.args.self.now c.in-Some.at draft (sym c.place.ensures ∙ c.in-Some.is) at in
    rw (c.in_ok-push-in-Some.ensures, c.self.view_is) (sym written)

pub returns-in_ok-push_front-in-None : goal.returns-in_ok-push_front-in-None
returns-in_ok-push_front-in-None c =
    let written = with_written-None c.args.kind c.args.id c.args.item c.args.self.now (sym c.place.ensures ∙ c.in-None.is) in
    rw (c.in_ok-push_front-in-None.ensures.items, c.in_ok-begun-in-None.ensures, c.self.view_is) (sym written)
