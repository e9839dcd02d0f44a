-- The core fits.
use Rattle.request_board.specs.Silence.{nothing_read}
use Rattle.vehicle_core.specs.CoreState.{CoreFits}
use Rattle.vehicle_core.proofs.tests.play.Given as goal

abbrev pub invariant-loop-actor : goal.invariant-loop-actor
invariant-loop-actor l = CoreFits (λ w. nothing_read) l.core
