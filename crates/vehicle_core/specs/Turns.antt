-- Turns of the actors of a core, one after another, and the lines that they made.
use Rattle.std.specs.Prelude.{◌≡◌, Bool, List, [], ◌∷◌, ◌++◌, Option, if◌then◌else◌}
use Rattle.mission_model.specs.declared.flight_line.Actor.{Actor}
use Rattle.mission_model.specs.declared.flight_line.Line.{Line}
use Rattle.mission_model.specs.declared.flight_line.Line.TheVariants as line
use Rattle.mission_model.specs.declared.request.Reply.{Reply}
use Rattle.request_board.specs.Watching.{Awaited}
use Rattle.request_board.specs.WatchLaw.{WatchRules}
use Rattle.turn_cell.specs.declared.machine.StepOut.{StepOut}
use Rattle.turn_cell.specs.declared.machine.StepOut.TheVariants.{Made, Idle}
use Rattle.vehicle_core.specs.LineTells.{SaysGiven}
use Rattle.vehicle_core.specs.CoreState.{CoreState, CoreFits, CoreSteps, InputSuits, core_taken}

-- an actor whose turn it is, and the reply that it is given
pub record Turn : Type 0 where
  pub actor : Actor
  pub given : Option Reply

abbrev pub actors_of : List Turn → List Actor
actors_of [] = []
actors_of (turn ∷ turns) = turn.actor ∷ actors_of turns

-- the line that was made, if one was
abbrev pub made_by : StepOut Line → List Line
made_by (Made made) = made ∷ []
made_by Idle = []

-- how a boot ends in which nobody is ready: with no line more after the power went, and else by whether all schedules are finished
abbrev pub ending_of : Bool → Bool → List Line
ending_of power finished = if power then (if finished then line.End ∷ [] else line.Stuck ∷ []) else []

module _ {W : Type 0} where
  -- these turns, one after another: each reply suits, each turn is a step of the core, which fits behind it and says the reply that
  -- was given, and these lines were made
  abbrev pub Turns : WatchRules W → (W → Awaited) → CoreState W → List Turn → List Line → CoreState W → Type 0
  Turns rules waits c [] lines c' = (lines ≡ []) × (c' ≡ c)
  Turns rules waits c (turn ∷ turns) lines c' =
      (mid : CoreState W) × (out : StepOut Line) × (rest : List Line) × InputSuits (core_taken c) turn.actor turn.given × CoreSteps rules c turn.actor out mid × SaysGiven turn.given out × CoreFits waits mid × (lines ≡ made_by out ++ rest) × Turns rules waits mid turns rest c'
