-- A whole run of one boot: its first line, the stated turns, the rounds, and how it ends.
use Rattle.std.specs.Prelude.{◌≡◌, ℕ, List, [], ◌∷◌, ◌++◌}
use Rattle.first_model.specs.CountsList.{pairs_of}
use Rattle.first_model.specs.declared.plan.PlanHead.{PlanHead}
use Rattle.first_model.specs.declared.vehicle.BootState.{BootState}
use Rattle.first_model.specs.declared.flight_line.Line.{Line}
use Rattle.first_model.specs.declared.flight_line.Line.TheVariants.{Boot, End, Stuck}
use Rattle.first_model.specs.declared.schedule.BootScript.{BootScript}
use Rattle.first_core.specs.CoreState.{CoreState, IsFinished}
use Rattle.first_core.specs.NewCore.{new_core}
use Rattle.first_store.specs.StoreState.{StoreState, new_store}
use Rattle.first_runner.specs.Turn.{Acts, Rounds, Stops}
use Rattle.first_runner.specs.Round.{round_of}

-- the head of the empty plan
abbrev pub empty_head : PlanHead
empty_head = record { id = 0; count = 0 }

-- a vehicle that has flown nothing: three empty plans of id 0, and the mark at the first item of that mission
pub record IsNewVehicle (state : BootState) : Type 0 where
  pub heads : state.heads ≡ empty_head ∷ empty_head ∷ empty_head ∷ []
  pub id : state.mark.id ≡ 0
  pub index : state.mark.index ≡ 0
  pub counts : pairs_of state.mark.counts ≡ []

-- a boot before its first turn: the core and the store of a new vehicle, and the first line of the record
pub record IsBegun (boot : BootScript) (s : CoreState) (st : StoreState) (lines : List Line) : Type 0 where
  pub state : BootState
  pub new : IsNewVehicle state
  pub core : s ≡ new_core boot state
  pub store : st ≡ new_store
  pub first : lines ≡ Boot 1 state.heads state.mark ∷ []

-- the line that ends a boot in which nobody is ready: end where every schedule is finished, and else stuck
abbrev pub IsEnding : CoreState → Line → Type 0
IsEnding s End = IsFinished s
IsEnding s Stuck = IsFinished s → ⊥
IsEnding s other = ⊥

-- The record of a boot of a new vehicle.
-- first: its line is the vehicle's.
-- stated: then come the lines of the turns in their stated order.
-- rounds: then those of rounds, as long as each makes a line.
-- still: the next round makes none.
-- ending: how it ends.
pub record IsFlight (boot : BootScript) (lines : List Line) : Type 0 where
  pub state : BootState
  pub new : IsNewVehicle state
  pub stated_lines : List Line
  pub turned : CoreState
  pub turned_store : StoreState
  pub stated : Acts (new_core boot state) new_store boot.turns stated_lines turned turned_store
  pub count : ℕ
  pub round_lines : List Line
  pub rounded : CoreState
  pub rounded_store : StoreState
  pub rounds : Rounds (round_of boot.links) count turned turned_store round_lines rounded rounded_store
  pub last : CoreState
  pub last_store : StoreState
  pub still : Acts rounded rounded_store (round_of boot.links) [] last last_store
  pub ending_line : Line
  pub ending : IsEnding last ending_line
  pub whole : lines ≡ Boot 1 state.heads state.mark ∷ (stated_lines ++ round_lines ++ ending_line ∷ [])

-- A record that stopped within the boot: the lines so far are those of the stated turns, or of all of them and then of
-- rounds, as far as they came.
pub record IsFlightSoFar (boot : BootScript) (lines : List Line) : Type 0 where
  pub state : BootState
  pub new : IsNewVehicle state
  pub made : List Line
  pub last : CoreState
  pub last_store : StoreState
  pub stops : Stops boot.turns (round_of boot.links) (new_core boot state) new_store made last last_store
  pub whole : lines ≡ Boot 1 state.heads state.mark ∷ made
