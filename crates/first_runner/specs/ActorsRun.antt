-- The law of the runner on its actors: the record of a boot in limits is a run of its actors in the stated order.
use Rattle.std.specs.Prelude.{List}
use Rattle.first_model.specs.declared.flight_line.Line.{Line}
use Rattle.first_model.specs.declared.schedule.BootScript.{BootScript}
use Rattle.first_core.specs.NewCore.{InLimits}
use Rattle.first_runner.specs.Flight.{IsFlight, IsFlightSoFar}
use Rattle.first_runner.specs.CoreRun.{CoreRun, CoreSoFar}
use Rattle.first_runner.specs.Order.{Order}

abbrev pub WholeIsOfActors : Type 0
WholeIsOfActors = (boot : BootScript) (lines : List Line) → InLimits boot → IsFlight boot lines → CoreRun boot lines × Order boot lines

abbrev pub SoFarIsOfActors : Type 0
SoFarIsOfActors = (boot : BootScript) (lines : List Line) → InLimits boot → IsFlightSoFar boot lines → CoreSoFar boot lines × Order boot lines
