use Rattle.std.proofs.Common.{sym, ap, ◌∙◌, refl, subst}
use Rattle.plan_vehicle.specs.CheckState.{CheckState, Reads}
use Rattle.plan_vehicle.proofs.Reading.{Reads-more, Reads-over}
use Rattle.plan_vehicle.proofs.check.VehicleCheck.feed.Goals as goal

pub returns-then-not-self-clause-reads : goal.returns-then-not-self-clause-reads
returns-then-not-self-clause-reads c = Reads-over c.args.self.now c.args.line.now (sym (ap (λ (s : CheckState). s.right) c.self.view_is) ∙ c.if-not-self.true)

pub returns-clause-reads : goal.returns-clause-reads
returns-clause-reads c =
    let old : CheckState = record { right = c.self.inside.right; vehicle = c.self.inside.vehicle } in
    let new : CheckState = record { right = c.in_ok-self-inside.field-0; vehicle = c.follow.new.self } in
    subst (λ (s : CheckState). Reads s c.args.line.now c.in_ok-self-inside.field-0 new) c.self.view_is
    (Reads-more old new c.args.line.now c.in_ok-self-inside.field-0 c.if-not-self.false refl c.in_ok-self-inside.ensures.yes c.in_ok-self-inside.ensures.no)
