-- What the code does for a client's meeting or wait, told by what the lines tell.
use Rattle.std.specs.Prelude.{◌≡◌, ◌⊎◌, ℕ, ◌<◌, Bool, true, false, List, [], ◌∷◌, drop}
use Rattle.mission_model.specs.declared.limits.TheConstants.{MAX_PLACES}
use Rattle.mission_model.specs.declared.request.Client.{Client}
use Rattle.mission_model.specs.declared.schedule.InputLine.{InputLine}
use Rattle.mission_model.specs.declared.schedule.InputLine.TheVariants as input
use Rattle.mission_model.specs.declared.flight_line.Line.{Line}
use Rattle.turn_cell.specs.declared.machine.StepOut.{StepOut}
use Rattle.turn_cell.specs.declared.machine.StepOut.TheVariants.{Made, Idle}
use Rattle.vehicle_core.specs.declared.shared.Shared.{Shared}
use Rattle.vehicle_core.specs.ScheduleState.{ScheduleState}
use Rattle.vehicle_core.specs.SharedState.{shared_told, arrived_after, Counted}
use Rattle.vehicle_core.specs.Ready.{Goes, Rests, on_schedule}
use Rattle.vehicle_core.specs.ActorStep.{ClientStep}

-- a current meeting is at one of the places
abbrev pub MeetingFits : List InputLine → Type 0
MeetingFits (input.Meet place count ∷ rest) = place < MAX_PLACES
MeetingFits other = Unit {0}

-- the current input, if any, is a wait or a meeting
abbrev pub is_common : List InputLine → Bool
is_common [] = true
is_common (input.Wait ∷ rest) = true
is_common (input.Meet place count ∷ rest) = true
is_common other = false

-- the client took its step on the schedule, which was ready
pub record Went (client : Client) (s : Shared) (schedule : ScheduleState) (made : Line) (s' : Shared) (schedule' : ScheduleState) : Type 0 where
  pub turn : (arrived : List ℕ) → Counted arrived s → on_schedule (shared_told s arrived) client schedule ≡ Goes
  pub step : (arrived : List ℕ) → ClientStep client (shared_told s arrived) schedule made (shared_told s' (arrived_after made arrived)) schedule'
  pub counted : (arrived : List ℕ) → Counted arrived s → Counted (arrived_after made arrived) s'
  pub stays : s' ≡ record s { arrivals = s'.arrivals }
  pub inputs : (schedule'.inputs ≡ schedule.inputs) ⊎ (schedule'.inputs ≡ drop 1 schedule.inputs)

-- it took none: where a wait or a meeting is current, it is not ready
pub record Stood (client : Client) (s : Shared) (schedule : ScheduleState) (s' : Shared) (schedule' : ScheduleState) : Type 0 where
  pub shared : s' ≡ s
  pub rest : schedule' ≡ schedule
  pub turn : (arrived : List ℕ) → Counted arrived s → is_common schedule.inputs ≡ true → on_schedule (shared_told s arrived) client schedule ≡ Rests

abbrev pub OnSchedule : Client → Shared → ScheduleState → StepOut Line → Shared → ScheduleState → Type 0
OnSchedule client s schedule (Made made) s' schedule' = Went client s schedule made s' schedule'
OnSchedule client s schedule Idle s' schedule' = Stood client s schedule s' schedule'
