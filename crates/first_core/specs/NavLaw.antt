-- What the Navigator does, from the shared part and its own state alone.
use Rattle.std.specs.Prelude.{◌≡◌, ◌≢◌, ℕ, ◌+◌, ◌<◌, ◌≤◌, ◌⊎◌, Bool, true, false, List, [], ◌∷◌, length, Some, None}
use Rattle.first_model.specs.declared.plan.PlanType.TheVariants.{Mission}
use Rattle.first_model.specs.declared.request.Client.{Client}
use Rattle.first_model.specs.declared.request.Client.TheVariants.{Nav}
use Rattle.first_model.specs.declared.request.Asked.{Asked}
use Rattle.first_model.specs.declared.request.Reply.{Reply}
use Rattle.first_model.specs.declared.vehicle.Mode.TheVariants as mode
use Rattle.first_model.specs.declared.vehicle.VehicleLine.{VehicleLine}
use Rattle.first_model.specs.declared.vehicle.VehicleLine.TheVariants as event
use Rattle.first_model.specs.declared.vehicle.NavWhat.{NavWhat}
use Rattle.first_model.specs.declared.vehicle.NavWhat.TheVariants as what
use Rattle.first_model.specs.declared.vehicle.NavEntry.{NavEntry}
use Rattle.first_model.specs.declared.schedule.InputLine.{InputLine}
use Rattle.first_model.specs.declared.schedule.InputLine.TheVariants as input
use Rattle.first_model.specs.declared.flight_line.Line.{Line}
use Rattle.first_model.specs.declared.flight_line.Line.TheVariants as line
use Rattle.first_board.specs.BoardState.{posted, outstanding}
use Rattle.first_board.specs.BoardCalls.{heard}
use Rattle.first_cache.specs.CacheState.{known_at, got}
use Rattle.first_cache.specs.Wants.{wanted, asking, flying}
use Rattle.first_core.specs.declared.StepOut.{StepOut}
use Rattle.first_core.specs.declared.StepOut.TheVariants.{Made, Idle}
use Rattle.first_core.specs.ScheduleState.{ScheduleState, begun_on, advanced}
use Rattle.first_core.specs.SharedState.{SharedState, with_board, arrived_at, arrivals_at, mission_head, fence_id}
use Rattle.first_core.specs.Ready.{InputReady, InputWaits}
use Rattle.first_core.specs.NavState.{NavState, met, in_mode}

-- an event that looks at no item: what it shows, and the Navigator after it
abbrev pub Shows : NavState → VehicleLine → NavWhat → NavState → Type 0
-- a mode and a position are taken
Shows n (event.Mode mode) given n' = (given ≡ what.Taken) × (n' ≡ in_mode n mode)
Shows n (event.Position x y) given n' = (given ≡ what.Taken) × (n' ≡ n)
-- a shown leg that is reached makes the next index; else nothing was reached
Shows n event.Reached (what.Next index) n' = (n.at_leg ≡ true) × (index ≡ n.index + 1) × (n' ≡ record n { index = n.index + 1; at_leg = false })
Shows n event.Reached what.Ignored n' = (n.at_leg ≡ false) × (n' ≡ n)
Shows n event given n' = ⊥

-- a look in a mode other than Mission, at an empty mission, or at the mission's end
abbrev pub LooksAway : SharedState → NavState → NavWhat → Type 0
LooksAway s n what.Idle = n.mode ≢ mode.Mission
LooksAway s n what.HoldEmpty = (n.mode ≡ mode.Mission) × (n.cache.count ≡ 0)
LooksAway s n (what.Done mission fence) = (n.mode ≡ mode.Mission) × (0 < n.cache.count) × (n.index ≡ n.cache.count) × (mission ≡ n.cache.id) × (fence ≡ fence_id s)
LooksAway s n given = ⊥

-- what a look at the item of the index shows: its leg where it is known, and else that it is waited for
abbrev pub LooksAt : SharedState → NavState → NavWhat → Bool → Type 0
LooksAt s n (what.Leg seq mission fence item) shown = (seq ≡ n.index) × (mission ≡ n.cache.id) × (fence ≡ fence_id s) × (known_at n.cache n.index ≡ Some item) × (shown ≡ true)
LooksAt s n (what.Pending kind seq) shown = (kind ≡ Mission) × (seq ≡ n.index) × (known_at n.cache n.index ≡ None) × (shown ≡ n.at_leg)
LooksAt s n given shown = ⊥

-- a look at the item of the index, which asks what is missing from there on
pub record Looks (s : SharedState) (n : NavState) (entry : NavEntry) (s' : SharedState) (n' : NavState) : Type 0 where
  pub mode : n.mode ≡ mode.Mission
  pub within : n.index < n.cache.count
  pub asked : entry.asked ≡ length (wanted n.cache s.board n.index)
  pub shared : s' ≡ with_board s (asking n.cache s.board (wanted n.cache s.board n.index))
  pub shows : LooksAt s n entry.what n'.at_leg
  pub nav : n' ≡ record n { cache = flying n.cache (wanted n.cache s.board n.index); at_leg = n'.at_leg }

-- a tick or a go
abbrev pub Ticks : SharedState → NavState → NavEntry → SharedState → NavState → Type 0
Ticks s n entry s' n' = ((LooksAway s n entry.what × (entry.asked ≡ 0) × (s' ≡ s) × (n' ≡ n)) ⊎ Looks s n entry s' n')

-- an event of the vehicle, after the published mission was met
abbrev pub Acts : SharedState → NavState → VehicleLine → NavEntry → SharedState → NavState → Type 0
Acts s n event.Tick entry s' n' = Ticks s n entry s' n'
Acts s n event.Go entry s' n' = Ticks s n entry s' n'
Acts s n event entry s' n' = Shows n event entry.what n' × (entry.asked ≡ 0) × (s' ≡ s)

-- the schedule after an event: a go whose entry is pending stays the current input
abbrev pub schedule_after : ScheduleState → VehicleLine → NavWhat → ScheduleState
schedule_after schedule event.Go (what.Pending kind seq) = begun_on schedule
schedule_after schedule event given = advanced schedule

-- an event: the published mission is met, and then the line is acted on
pub record Happens (s : SharedState) (n : NavState) (event : VehicleLine) (entry : NavEntry) (s' : SharedState) (n' : NavState) : Type 0 where
  pub posted : posted s.board Nav ≡ []
  pub rest : List InputLine
  pub input : n.schedule.inputs ≡ input.Vehicle event ∷ rest
  pub ready : InputReady s Nav n.schedule.inputs n.schedule.begun
  pub acts : Acts s (record (met n (mission_head s)) { schedule = schedule_after n.schedule event entry.what }) event entry s' n'

-- the first reply is taken, and the cache takes it
pub record Gets (s : SharedState) (n : NavState) (asked : Asked) (reply : Reply) (s' : SharedState) (n' : NavState) : Type 0 where
  pub first : posted s.board Nav ≡ (asked, reply) ∷ posted s'.board Nav
  pub shared : s' ≡ with_board s (heard s.board Nav (posted s'.board Nav))
  pub nav : n' ≡ record n { cache = got n.cache asked reply }

-- the Navigator comes to a meeting place
pub record Arrives (s : SharedState) (n : NavState) (client : Client) (place : ℕ) (s' : SharedState) (n' : NavState) : Type 0 where
  pub posted : posted s.board Nav ≡ []
  pub client_is : client ≡ Nav
  pub count : ℕ
  pub rest : List InputLine
  pub input : n.schedule.inputs ≡ input.Meet place count ∷ rest
  pub fresh : n.schedule.begun ≡ false
  pub shared : s' ≡ arrived_at s place
  pub nav : n' ≡ record n { schedule = begun_on n.schedule }

-- enough clients came to the meeting place
pub record Meets (s : SharedState) (n : NavState) (client : Client) (place : ℕ) (s' : SharedState) (n' : NavState) : Type 0 where
  pub posted : posted s.board Nav ≡ []
  pub client_is : client ≡ Nav
  pub count : ℕ
  pub rest : List InputLine
  pub input : n.schedule.inputs ≡ input.Meet place count ∷ rest
  pub begun : n.schedule.begun ≡ true
  pub enough : count ≤ arrivals_at s place
  pub shared : s' ≡ s
  pub nav : n' ≡ record n { schedule = advanced n.schedule }

-- the Navigator waited
pub record Waits (s : SharedState) (n : NavState) (client : Client) (s' : SharedState) (n' : NavState) : Type 0 where
  pub posted : posted s.board Nav ≡ []
  pub client_is : client ≡ Nav
  pub rest : List InputLine
  pub input : n.schedule.inputs ≡ input.Wait ∷ rest
  pub free : outstanding s.board Nav ≡ 0
  pub shared : s' ≡ s
  pub nav : n' ≡ record n { schedule = advanced n.schedule }

-- nothing is posted, and the schedule gives no step
pub record Rests (s : SharedState) (n : NavState) (s' : SharedState) (n' : NavState) : Type 0 where
  pub posted : posted s.board Nav ≡ []
  pub idle : InputWaits s Nav n.schedule.inputs n.schedule.begun
  pub shared : s' ≡ s
  pub nav : n' ≡ n

abbrev pub NavStep : SharedState → NavState → StepOut Line → SharedState → NavState → Type 0
NavStep s n (Made (line.Got asked reply)) s' n' = Gets s n asked reply s' n'
NavStep s n (Made (line.Nav event entry)) s' n' = Happens s n event entry s' n'
NavStep s n (Made (line.Arrived client place)) s' n' = Arrives s n client place s' n'
NavStep s n (Made (line.Met client place)) s' n' = Meets s n client place s' n'
NavStep s n (Made (line.Waited client)) s' n' = Waits s n client s' n'
NavStep s n Idle s' n' = Rests s n s' n'
NavStep s n out s' n' = ⊥
