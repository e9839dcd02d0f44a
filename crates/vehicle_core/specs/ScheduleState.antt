-- The rest of an actor's schedule.
use Rattle.std.specs.Prelude.{ℕ, ◌==◌, Bool, true, false, List, [], ◌∷◌, drop, if◌then◌else◌}
use Rattle.mission_model.specs.declared.flight_line.Actor.{Actor}
use Rattle.mission_model.specs.declared.flight_line.Actor.TheVariants.{Worker, Link, Nav, Watch}
use Rattle.mission_model.specs.declared.schedule.InputLine.{InputLine}

-- the inputs that are left, the current one first; whether the current one has had its first step; and of an upload the seq
-- that was requested last
pub record ScheduleState : Type 0 where
  pub inputs : List InputLine
  pub begun : Bool
  pub requested : ℕ

-- the two are one actor
abbrev pub same_actor : Actor → Actor → Bool
same_actor Worker Worker = true
same_actor Nav Nav = true
same_actor (Link number) (Link other) = number == other
same_actor (Watch number) (Watch other) = number == other
same_actor actor other = false

-- the inputs of one actor among those of a boot, in their order
abbrev pub inputs_of : Actor → List (Actor × InputLine) → List InputLine
inputs_of actor [] = []
inputs_of actor ((other, input) ∷ inputs) = if same_actor actor other then input ∷ inputs_of actor inputs else inputs_of actor inputs

-- nothing of the schedule was done
abbrev pub fresh : List InputLine → ScheduleState
fresh inputs = record { inputs = inputs; begun = false; requested = 0 }

-- the current input has had its first step
abbrev pub begun_on : ScheduleState → ScheduleState
begun_on schedule = record schedule { begun = true }

-- this seq was requested last
abbrev pub requesting : ScheduleState → ℕ → ScheduleState
requesting schedule seq = record schedule { requested = seq }

-- the current input is done, and the next one is current
abbrev pub advanced : ScheduleState → ScheduleState
advanced schedule = record { inputs = drop 1 schedule.inputs; begun = false; requested = 0 }
