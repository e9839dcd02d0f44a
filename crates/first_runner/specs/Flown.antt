-- The record of a flown boot, whole or as far as it came, and what holds of it off its lines alone.
use Rattle.std.specs.Prelude.{List}
use Rattle.first_model.specs.declared.flight_line.Line.{Line}
use Rattle.first_model.specs.declared.schedule.BootScript.{BootScript}
use Rattle.first_runner.specs.Flight.{IsFlight, IsFlightSoFar}
use Rattle.first_runner.specs.CoreRun.{CoreRun, CoreSoFar}
use Rattle.first_runner.specs.Order.{Order}

-- the record of the boot is whole: it is a run of its actors, who come in the stated order
pub record IsFlownBoot (boot : BootScript) (lines : List Line) : Type 0 where
  pub flight : IsFlight boot lines
  pub core : CoreRun boot lines
  pub order : Order boot lines

-- the record stopped within the boot: it is such a run as far as it came
pub record IsFlownPart (boot : BootScript) (lines : List Line) : Type 0 where
  pub flight : IsFlightSoFar boot lines
  pub core : CoreSoFar boot lines
  pub order : Order boot lines
