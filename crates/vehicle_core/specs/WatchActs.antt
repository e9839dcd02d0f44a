-- What the code of a watcher does, told by what the lines tell.
use Rattle.std.specs.Prelude.{◌≡◌, ℕ, ◌<◌, ◌≤◌, Bool, true, false, List, [], ◌∷◌, drop}
use Rattle.std.specs.List.{All}
use Rattle.mission_model.specs.declared.plan.PlanHead.{PlanHead}
use Rattle.mission_model.specs.declared.request.Asked.{Asked}
use Rattle.mission_model.specs.declared.request.Asked.TheVariants as about
use Rattle.mission_model.specs.declared.request.Client.TheVariants.{Watch}
use Rattle.mission_model.specs.declared.request.Reply.{Reply}
use Rattle.mission_model.specs.declared.schedule.InputLine.TheVariants as input
use Rattle.mission_model.specs.declared.watch.WatchInput.{WatchInput}
use Rattle.mission_model.specs.declared.flight_line.Line.{Line}
use Rattle.mission_model.specs.BootScripts.{WatcherInput}
use Rattle.mission_model.specs.PlanTypes.{head_of}
use Rattle.request_board.specs.BoardState.{HasClient, posted, open_asks}
use Rattle.request_board.specs.BoardCalls.{heard}
use Rattle.request_board.specs.Watching.{Awaited, HeadsFit}
use Rattle.request_board.specs.WatchLaw.{WatchRules}
use Rattle.turn_cell.specs.declared.machine.StepOut.{StepOut}
use Rattle.turn_cell.specs.declared.machine.StepOut.TheVariants.{Made, Idle}
use Rattle.vehicle_core.specs.declared.shared.Shared.{Shared}
use Rattle.vehicle_core.specs.declared.watch_turn.Todo.{Todo}
use Rattle.vehicle_core.specs.declared.watch_turn.Todo.TheVariants.{Rests as Rest, Does, Hears}
use Rattle.vehicle_core.specs.declared.watch.WatchActor.{WatchActor}
use Rattle.vehicle_core.specs.ScheduleState.{ScheduleState, advanced}
use Rattle.vehicle_core.specs.Told.{WatchTold}
use Rattle.vehicle_core.specs.ActorStep.{WatcherStep, watch_turn}
use Rattle.vehicle_core.specs.SharedState.{shared_told}
use Rattle.vehicle_core.specs.Ready.{Rests, is_free, asking_turn}
use Rattle.vehicle_core.specs.LinkActs.{CanHearAll}

-- what is outstanding of a watcher: nothing, or while an input goes on the read that it waits for, which was of a plan that
-- is published, or was
abbrev pub WatchAsks : Bool → Awaited → List PlanHead → List Asked → Type 0
WatchAsks false read heads asks = asks ≡ []
WatchAsks true read heads asks =
    (asks ≡ about.Read read.kind read.head.id read.seq ∷ []) × (read.seq < read.head.count) × (read.head.id ≤ (head_of heads read.kind).id) × ((head_of heads read.kind).id ≡ read.head.id → head_of heads read.kind ≡ read.head)

-- nothing is to be done: nothing changes
pub record TurnRests (s : Shared) (number : ℕ) (schedule : ScheduleState) (s' : Shared) (schedule' : ScheduleState) : Type 0 where
  pub shared : s' ≡ s
  pub rest : schedule' ≡ schedule
  pub turn : (arrived : List ℕ) → s.power ≡ true → asking_turn (shared_told s arrived) (Watch number) schedule ≡ Rests

-- the next input is to be begun
pub record TurnDoes (s : Shared) (number : ℕ) (schedule : ScheduleState) (given : WatchInput) (s' : Shared) (schedule' : ScheduleState) : Type 0 where
  pub power : s.power ≡ true
  pub none : posted s.board (Watch number) ≡ []
  pub free : is_free s.board (Watch number) ≡ true
  pub input : schedule.inputs ≡ input.Watch given ∷ drop 1 schedule.inputs
  pub shared : s' ≡ s
  pub rest : schedule' ≡ advanced schedule

-- the first reply was taken
pub record TurnHears (s : Shared) (number : ℕ) (schedule : ScheduleState) (asked : Asked) (given : Reply) (s' : Shared) (schedule' : ScheduleState) : Type 0 where
  pub power : s.power ≡ true
  pub first : posted s.board (Watch number) ≡ (asked, given) ∷ posted s'.board (Watch number)
  pub shared : s' ≡ record s { board = heard s.board (Watch number) (posted s'.board (Watch number)) }
  pub asks : open_asks s.board (Watch number) ≡ asked ∷ open_asks s'.board (Watch number)
  pub rest : schedule' ≡ schedule

abbrev pub TurnIs : Shared → ℕ → ScheduleState → Todo → Shared → ScheduleState → Type 0
TurnIs s number schedule Rest s' schedule' = TurnRests s number schedule s' schedule'
TurnIs s number schedule (Does given) s' schedule' = TurnDoes s number schedule given s' schedule'
TurnIs s number schedule (Hears asked given) s' schedule' = TurnHears s number schedule asked given s' schedule'

module _ {W : Type 0} where
  -- what the lines tell of a watcher
  abbrev pub watch_told : WatchActor W → WatchTold W
  watch_told w = record { number = w.number; watch = record { watcher = w.watcher; busy = w.busy }; schedule = w.schedule }

  -- a watcher fits the shared part: it is one of the board's, the published counts are within their limits, while the power is on
  -- it may take each reply that is posted to it, its inputs are a watcher's, and of it the board has what it waits for
  pub record WatchFits (waits : W → Awaited) (s : Shared) (w : WatchActor W) : Type 0 where
    pub client : HasClient s.board (Watch w.number)
    pub heads : HeadsFit s.board.published
    pub replies : s.power ≡ true → CanHearAll (posted s.board (Watch w.number))
    pub inputs : All WatcherInput w.schedule.inputs
    pub asks : WatchAsks w.busy (waits w.watcher) s.board.published (open_asks s.board (Watch w.number))

  pub record WatchMade (rules : WatchRules W) (s : Shared) (w : WatchActor W) (made : Line) (s' : Shared) (w' : WatchActor W) : Type 0 where
    pub power : s.power ≡ true
    pub led : (arrived : List ℕ) → WatcherStep rules (shared_told s arrived) (watch_told w) made (shared_told s' arrived) (watch_told w')
    pub counts : s'.arrivals ≡ s.arrivals
    pub number : w'.number ≡ w.number

  pub record WatchIdle (s : Shared) (w : WatchActor W) (s' : Shared) (w' : WatchActor W) : Type 0 where
    pub shared : s' ≡ s
    pub watch : w' ≡ w
    pub turn : (arrived : List ℕ) → s.power ≡ true → watch_turn (shared_told s arrived) (watch_told w) ≡ Rests

  abbrev pub WatchActs : WatchRules W → Shared → WatchActor W → StepOut Line → Shared → WatchActor W → Type 0
  WatchActs rules s w (Made made) s' w' = WatchMade rules s w made s' w'
  WatchActs rules s w Idle s' w' = WatchIdle s w s' w'
