use Rattle.std.proofs.Common.{◌≡◌, sym, ap, ◌∙◌, refl, get_or}
use Rattle.std.specs.Option.{option_map}
use Rattle.plan_vehicle.specs.VehicleState.{ServedState}
use Rattle.plan_vehicle.specs.Requests.{is_of_link, reply_of}
use Rattle.plan_vehicle.proofs.FirstBy.{find-Some, find-None}
use Rattle.plan_vehicle.proofs.served.Served.last.Goals as goal

pub returns-in_err-at : goal.returns-in_err-at
returns-in_err-at c =
    let none = sym c.place.ensures ∙ c.in_err-at.was in
    c.from_residual.ensures ∙ sym (ap (option_map reply_of) (find-None (is_of_link c.args.link) c.args.self.now none))

pub returns : goal.returns
returns c =
    let last : ServedState = c.index.result.now in
    let at : last ≡ get_or c.args.self.now c.in_ok-at.at last = c.index.ensures ∙ ap (λ ls. get_or ls c.in_ok-at.at last) c.self.view_is in
    let there = find-Some (is_of_link c.args.link) last c.args.self.now c.in_ok-at.at (sym c.place.ensures ∙ c.in_ok-at.was) in
    rw (there.1, c.reply.ensures, ← at) refl
