-- The inputs of a boot, one schedule for each actor but the worker, in the order of the actors.
use Rattle.std.specs.Prelude.{◌≡◌, ℕ, ◌+◌, ◌<◌, List, [], ◌∷◌, ◌++◌, length, slice_index_or}
use Rattle.mission_model.specs.declared.flight_line.Actor.{Actor}
use Rattle.mission_model.specs.declared.flight_line.Actor.TheVariants.{Worker, Link, Nav, Watch}
use Rattle.mission_model.specs.declared.schedule.InputLine.{InputLine}
use Rattle.vehicle_core.specs.ScheduleState.{ScheduleState, fresh, inputs_of}

-- an actor with a schedule, of a boot of so many links and watchers
abbrev pub HasSeat : ℕ → ℕ → Actor → Type 0
HasSeat links watchers Worker = ⊥
HasSeat links watchers (Link number) = number < links
HasSeat links watchers Nav = Unit {0}
HasSeat links watchers (Watch number) = number < watchers

-- its place among the schedules: the links' come first, then the Navigator's, then the watchers'
abbrev pub seat_of : ℕ → Actor → ℕ
seat_of links Worker = 0
seat_of links (Link number) = number
seat_of links Nav = links
seat_of links (Watch number) = links + 1 + number

abbrev pub schedule_at : List ScheduleState → ℕ → ScheduleState
schedule_at schedules seat = slice_index_or schedules seat (fresh [])

-- nothing of the schedule was done, and with these inputs behind its own it has all
pub record Fills (all more : List InputLine) (s : ScheduleState) : Type 0 where
  pub new : s ≡ fresh s.inputs
  pub whole : s.inputs ++ more ≡ all

-- the schedules of all actors, once all inputs but these were sorted
pub record Sorted (links watchers : ℕ) (all rest : List (Actor × InputLine)) (schedules : List ScheduleState) : Type 0 where
  pub count : length schedules ≡ links + 1 + watchers
  pub each : (actor : Actor) → HasSeat links watchers actor → Fills (inputs_of actor all) (inputs_of actor rest) (schedule_at schedules (seat_of links actor))

-- a schedule with one input more
abbrev pub pushed : ScheduleState → InputLine → ScheduleState
pushed s input = record s { inputs = s.inputs ++ input ∷ [] }
