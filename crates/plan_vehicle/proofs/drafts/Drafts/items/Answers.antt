use Rattle.std.proofs.Common.{◌≡◌, sym, ap, ◌∙◌, get_or}
use Rattle.plan_vehicle.specs.Drafts.{DraftState}
use Rattle.plan_vehicle.proofs.Writing.{draft_of-Some, draft_of-None}
use Rattle.plan_vehicle.proofs.drafts.Drafts.items.Goals as goal

pub returns-in-Some : goal.returns-in-Some
returns-in-Some c =
    let draft : DraftState = c.index.result.now in
    let at : draft ≡ get_or c.args.self.now c.in-Some.at draft = c.index.ensures ∙ ap (λ ds. get_or ds c.in-Some.at draft) c.self.view_is in
    c.items.ensures ∙ sym (draft_of-Some c.args.kind c.args.id c.args.self.now c.in-Some.at draft (sym c.place.ensures ∙ c.in-Some.is) at)

pub returns-in-None : goal.returns-in-None
returns-in-None c = sym (draft_of-None c.args.kind c.args.id c.args.self.now (sym c.place.ensures ∙ c.in-None.is))
