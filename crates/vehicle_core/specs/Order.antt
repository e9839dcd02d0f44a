-- The actors of a record come in the stated order: those of the boot's turns, and then those of rounds, without the ones that
-- are not ready, as far as the record goes.
use Rattle.std.specs.Prelude.{◌≡◌, ◌⊎◌, ℕ, zero, suc, List, [], ◌∷◌, ◌++◌, MatchBool}
use Rattle.mission_model.specs.declared.flight_line.Actor.{Actor}
use Rattle.mission_model.specs.declared.flight_line.Line.{Line}
use Rattle.mission_model.specs.declared.flight_line.Line.TheVariants as line
use Rattle.mission_model.specs.declared.schedule.BootScript.{BootScript}
use Rattle.mission_model.specs.declared.vehicle.BootState.{BootState}
use Rattle.request_board.specs.WatchLaw.{WatchRules}
use Rattle.vehicle_core.specs.Told.{BootTold, name_of, names_of, begun}
use Rattle.vehicle_core.specs.Ready.{has_ready}
use Rattle.vehicle_core.specs.CoreRun.{LineStep, BootCut, Ended}

-- so many rounds, one after another
abbrev pub rounds : ℕ → List Actor → List Actor
rounds zero round = []
rounds (suc count) round = round ++ rounds count round

module _ {W : Type 0} where
  -- a line of the actor of this name
  pub record LineBy (rules : WatchRules W) (t : BootTold W) (who : Actor) (made : Line) (t' : BootTold W) : Type 0 where
    pub step : LineStep rules t made t'
    pub name : name_of step.old ≡ who

  -- the lines are made by these actors in turn, as far as they go; an actor that is not ready makes none
  abbrev pub ByTurns : WatchRules W → BootTold W → List Actor → List Line → BootTold W → Type 0
  ByTurns rules t actors [] t' = t' ≡ t
  ByTurns rules t [] (made ∷ lines) t' = ⊥
  ByTurns rules t (who ∷ actors) (made ∷ lines) t' =
      MatchBool (has_ready t.shared who t.actors)
      ((mid : BootTold W) × LineBy rules t who made mid × ByTurns rules mid actors lines t')
      (ByTurns rules t actors (made ∷ lines) t')

  -- the lines of a boot are made by the actors of its turns, and then of some number of rounds
  pub record InOrder (rules : WatchRules W) (boot : BootScript) (t : BootTold W) (lines : List Line) (t' : BootTold W) : Type 0 where
    pub count : ℕ
    pub turns : ByTurns rules t (boot.turns ++ rounds count (names_of t.actors)) lines t'

  -- a boot that is up, in the stated order; what stands behind its lines is its end, or nothing
  pub record UpInOrder (rules : WatchRules W) (boot : BootScript) (watchers : List W) (lines : List Line) : Type 0 where
    pub number : ℕ
    pub state : BootState
    pub made : List Line
    pub ending : List Line
    pub told : BootTold W
    pub lines_are : lines ≡ line.Boot number state.heads state.mark ∷ (made ++ ending)
    pub order : InOrder rules boot (begun boot state watchers) made told
    pub ended : (ending ≡ []) ⊎ Ended told ending

  -- the record, whole or as far as it came, is in the stated order in each of its parts
  abbrev pub Order : WatchRules W → List BootScript → List (List W) → List Line → Type 0
  Order rules (boot ∷ boots) (watchers ∷ others) lines =
      (lines ≡ []) ⊎ ((part rest : List Line) × (lines ≡ part ++ rest) × (BootCut part ⊎ UpInOrder rules boot watchers part) × Order rules boots others rest)
  Order rules boots others lines = lines ≡ []
