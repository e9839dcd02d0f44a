-- The actors of a record come in the stated order: those of the turns, and then those of rounds, without the ones that
-- are not ready, as far as the record goes.
use Rattle.std.specs.Prelude.{◌≡◌, ℕ, zero, suc, List, [], ◌∷◌, ◌++◌, Some, MatchBool}
use Rattle.first_model.specs.declared.flight_line.Actor.{Actor}
use Rattle.first_model.specs.declared.flight_line.Line.{Line}
use Rattle.first_model.specs.declared.flight_line.Line.TheVariants as line
use Rattle.first_model.specs.declared.schedule.BootScript.{BootScript}
use Rattle.first_vehicle.specs.VehicleState.{VehicleState, index_taken, head_at, booted}
use Rattle.first_vehicle.specs.VehicleStep.{Moves}
use Rattle.first_runner.specs.BootTold.{BootTold, told_after, begun}
use Rattle.first_runner.specs.BootReady.{maker_of, is_ready}
use Rattle.first_runner.specs.Round.{round_of}

-- so many rounds, one after another
abbrev pub rounds : ℕ → List Actor → List Actor
rounds zero round = []
rounds (suc count) round = round ++ rounds count round

-- the lines are made by these actors in turn, as far as they go; an actor that is not ready makes none
abbrev pub ByTurns : BootTold → VehicleState → List Actor → List Line → Type 0
ByTurns t v actors [] = Unit {0}
ByTurns t v [] (line ∷ lines) = ⊥
ByTurns t v (actor ∷ actors) (line ∷ lines) =
    MatchBool (is_ready t actor)
    ((maker_of line ≡ Some actor) × (mid : VehicleState) × Moves v line mid × ByTurns (told_after t (index_taken v v.wanted) line) mid actors lines)
    (ByTurns t v actors (line ∷ lines))

-- the lines of a boot are made by the actors of its turns, and then of some number of rounds
abbrev pub InOrder : BootScript → BootTold → VehicleState → List Line → Type 0
InOrder boot t v lines = (count : ℕ) × ByTurns t v (boot.turns ++ rounds count (round_of boot.links)) lines

-- the lines before the one that ends the boot
abbrev pub before_end : List Line → List Line
before_end [] = []
before_end (line.End ∷ lines) = []
before_end (line.Stuck ∷ lines) = []
before_end (line ∷ lines) = line ∷ before_end lines

-- the record of a boot, whole or as far as it came, is in the stated order
abbrev pub Order : BootScript → List Line → Type 0
Order boot [] = Unit {0}
Order boot (line.Boot number heads mark ∷ lines) = InOrder boot (begun boot (head_at heads 0).id) (booted heads mark) (before_end lines)
Order boot lines = ⊥
