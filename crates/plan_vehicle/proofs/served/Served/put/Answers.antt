use Rattle.std.proofs.Common.{sym, ◌∙◌}
use Rattle.plan_vehicle.specs.VehicleState.{ServedState}
use Rattle.plan_vehicle.specs.Requests.{is_of_link}
use Rattle.plan_vehicle.proofs.FirstBy.{put_by-Some, put_by-None}
use Rattle.plan_vehicle.proofs.served.Served.put.Goals as goal

pub returns-in-Some : goal.returns-in-Some
returns-in-Some c =
    let last : ServedState = record { link = c.in-Link.link; asked = c.args.asked; reply = c.args.reply } in
    rw (c.in-Link.is, c.self.view_is) (sym (put_by-Some (is_of_link c.in-Link.link) last last c.args.self.now c.in-Some.at (sym c.place.ensures ∙ c.in-Some.is)))

pub returns-in_ok-push-in-None : goal.returns-in_ok-push-in-None
returns-in_ok-push-in-None c =
    let last : ServedState = record { link = c.in-Link.link; asked = c.args.asked; reply = c.args.reply } in
    rw (c.in_ok-push-in-None.ensures.items, c.in-Link.is, c.self.view_is) (sym (put_by-None (is_of_link c.in-Link.link) last c.args.self.now (sym c.place.ensures ∙ c.in-None.is)))
