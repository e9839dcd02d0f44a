-- None of the changes so far is named.
use Rattle.std.proofs.Common.{ℕ, ◌<◌, get_or}
use Rattle.mission_model.specs.declared.request.Asked.{Asked}
use Rattle.plan_vehicle.specs.Boots.{IsNamed, CanApply, applied}
use Rattle.plan_vehicle.proofs.vehicle.Vehicle.change_for.Given as goal

abbrev pub invariant-loop-change : goal.invariant-loop-change
invariant-loop-change l = (k : ℕ) (d : Asked) → k < l.change-index → CanApply l.self (get_or l.self.maybe k d) → IsNamed (applied l.self (get_or l.self.maybe k d)) l.heads l.mark → ⊥
