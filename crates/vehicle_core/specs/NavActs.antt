-- What the code of the Navigator's actor does, told by what the lines tell.
use Rattle.std.specs.Prelude.{◌≡◌, ℕ, Bool, true, false, List, ◌∷◌, Option, Some, None}
use Rattle.std.specs.List.{All}
use Rattle.mission_model.specs.declared.plan.Item.{Item}
use Rattle.mission_model.specs.declared.request.Client.TheVariants.{Nav}
use Rattle.mission_model.specs.declared.schedule.InputLine.{InputLine}
use Rattle.mission_model.specs.declared.schedule.InputLine.TheVariants as input
use Rattle.mission_model.specs.declared.vehicle.VehicleLine.TheVariants as event
use Rattle.mission_model.specs.declared.vehicle.NavEntry.{NavEntry}
use Rattle.mission_model.specs.declared.vehicle.VehicleLine.{VehicleLine}
use Rattle.mission_model.specs.declared.flight_line.Line.{Line}
use Rattle.mission_model.specs.BootScripts.{NavInput}
use Rattle.request_board.specs.BoardState.{BoardState, posted}
use Rattle.navigator.specs.NavState.{with_taken, HasShown}
use Rattle.navigator.specs.EventLaw.{CanTick, Obeys}
use Rattle.turn_cell.specs.declared.machine.StepOut.{StepOut}
use Rattle.turn_cell.specs.declared.machine.StepOut.TheVariants.{Made, Idle}
use Rattle.vehicle_core.specs.declared.shared.Shared.{Shared}
use Rattle.vehicle_core.specs.declared.nav.NavActor.{NavActor}
use Rattle.vehicle_core.specs.SharedState.{shared_told, arrived_after, Counted}
use Rattle.vehicle_core.specs.Told.{NavTold}
use Rattle.vehicle_core.specs.Ready.{Rests, is_free, nav_turn}
use Rattle.vehicle_core.specs.ActorStep.{NavStep, after_event}
use Rattle.vehicle_core.specs.LinkActs.{CanHearAll}

-- what the lines tell of the Navigator, which took these items of the mission
abbrev pub nav_told : NavActor → List Item → NavTold
nav_told n items = record { nav = with_taken n.navigator items; schedule = n.schedule }

-- the Navigator fits the shared part: an event may happen beside this board, while the power is on it may take each reply
-- that is posted to it, and its inputs are a Navigator's
pub record NavFits (s : Shared) (n : NavActor) : Type 0 where
  pub tick : CanTick n.navigator s.board
  pub replies : s.power ≡ true → CanHearAll (posted s.board Nav)
  pub inputs : All NavInput n.schedule.inputs

-- the event of the current input, where it may happen
abbrev pub go_now : Bool → VehicleLine → Option VehicleLine
go_now true given = Some given
go_now false given = None

abbrev pub event_of : BoardState → List InputLine → Bool → Option VehicleLine
event_of b (input.Vehicle event.Go ∷ rest) true = go_now (is_free b Nav) event.Go
event_of b (input.Vehicle given ∷ rest) begun = Some given
event_of b other begun = None

-- an event happened, and the schedule goes on by what was shown
pub record NavActed (s : Shared) (n : NavActor) (given : VehicleLine) (entry : NavEntry) (s' : Shared) (n' : NavActor) : Type 0 where
  pub obeys : (items : List Item) → HasShown n.navigator items → Obeys n.navigator items s.board given entry n'.navigator s'.board
  pub stays : s' ≡ record s { board = s'.board }
  pub schedule : n'.schedule ≡ after_event given entry.what n.schedule

-- a line of the Navigator leads on what was told, with some items taken then
pub record NavLed (s : Shared) (n : NavActor) (arrived : List ℕ) (items : List Item) (made : Line) (s' : Shared) (n' : NavActor) : Type 0 where
  pub items' : List Item
  pub shown : HasShown n'.navigator items'
  pub step : NavStep (shared_told s arrived) (nav_told n items) made (shared_told s' (arrived_after made arrived)) (nav_told n' items')
  pub counted : Counted (arrived_after made arrived) s'

pub record NavMade (s : Shared) (n : NavActor) (made : Line) (s' : Shared) (n' : NavActor) : Type 0 where
  pub power : s.power ≡ true
  pub led : (arrived : List ℕ) (items : List Item) → Counted arrived s → HasShown n.navigator items → NavLed s n arrived items made s' n'

pub record NavIdle (s : Shared) (n : NavActor) (s' : Shared) (n' : NavActor) : Type 0 where
  pub shared : s' ≡ s
  pub nav : n' ≡ n
  pub turn : (arrived : List ℕ) (items : List Item) → Counted arrived s → s.power ≡ true → nav_turn (shared_told s arrived) (nav_told n items) ≡ Rests

abbrev pub NavActs : Shared → NavActor → StepOut Line → Shared → NavActor → Type 0
NavActs s n (Made made) s' n' = NavMade s n made s' n'
NavActs s n Idle s' n' = NavIdle s n s' n'
