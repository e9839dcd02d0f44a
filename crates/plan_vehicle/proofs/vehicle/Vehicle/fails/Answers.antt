use Rattle.std.proofs.Common.{sym, ◌∙◌, inr, refl}
use Rattle.std.proofs.lemmas.Bool.{false≢true}
use Rattle.plan_vehicle.proofs.vehicle.Vehicle.fails.Goals as goal

pub returns-else-can_be_done-clause-fails : goal.returns-else-can_be_done-clause-fails
returns-else-can_be_done-clause-fails c = inr (λ h. false≢true (sym c.if-can_be_done.false ∙ c.can_be_done.ensures.1 h), refl)
