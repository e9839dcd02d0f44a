-- The law of the runner: the record of a boot in limits, whole or stopped within it, is a run of one vehicle.
use Rattle.std.specs.Prelude.{List}
use Rattle.first_model.specs.declared.flight_line.Line.{Line}
use Rattle.first_model.specs.declared.schedule.BootScript.{BootScript}
use Rattle.first_vehicle.specs.VehicleRun.{VehicleRun}
use Rattle.first_core.specs.NewCore.{InLimits}
use Rattle.first_runner.specs.Flight.{IsFlight, IsFlightSoFar}

abbrev pub WholeIsRun : Type 0
WholeIsRun = (boot : BootScript) (lines : List Line) → InLimits boot → IsFlight boot lines → VehicleRun lines

abbrev pub SoFarIsRun : Type 0
SoFarIsRun = (boot : BootScript) (lines : List Line) → InLimits boot → IsFlightSoFar boot lines → VehicleRun lines
