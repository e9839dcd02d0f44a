-- The parts of a core fit one another at the beginning of a boot, and after each step.
use Rattle.std.specs.Prelude.{◌≡◌, length, Option}
use Rattle.first_model.specs.declared.request.Reply.{Reply}
use Rattle.first_model.specs.declared.flight_line.Actor.{Actor}
use Rattle.first_model.specs.declared.flight_line.Line.{Line}
use Rattle.first_model.specs.declared.schedule.BootScript.{BootScript}
use Rattle.first_model.specs.declared.vehicle.BootState.{BootState}
use Rattle.first_core.specs.declared.StepOut.{StepOut}
use Rattle.first_core.specs.CoreState.{CoreState, CoreFits}
use Rattle.first_core.specs.CoreLaw.{CoreSuits, CoreStep}
use Rattle.first_core.specs.NewCore.{InLimits, StateFits, new_core}

-- a new core of a boot in limits, whose state names the three plans
abbrev pub PartsBegin : Type 0
PartsBegin = (boot : BootScript) (state : BootState) → InLimits boot → StateFits state → length state.heads ≡ 3 → CoreFits (new_core boot state)

-- a step of an actor that was given what suits it
abbrev pub PartsStay : Type 0
PartsStay = (c : CoreState) (who : Actor) (given : Option Reply) (out : StepOut Line) (c' : CoreState) → CoreFits c → CoreSuits c who given → CoreStep c who given out c' → CoreFits c'
