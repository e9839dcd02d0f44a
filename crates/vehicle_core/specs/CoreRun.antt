-- A run of the actors: a record, cut at its boot lines into one part for each boot of the script.
use Rattle.std.specs.Prelude.{◌≡◌, ◌⊎◌, ℕ, true, false, List, [], ◌∷◌, ◌++◌, Some, slice_get, slice_set}
use Rattle.mission_model.specs.declared.flight_line.Line.{Line}
use Rattle.mission_model.specs.declared.flight_line.Line.TheVariants as line
use Rattle.mission_model.specs.declared.schedule.BootScript.{BootScript}
use Rattle.mission_model.specs.declared.vehicle.BootState.{BootState}
use Rattle.mission_model.specs.BootStates.{StateInLimits}
use Rattle.request_board.specs.WatchLaw.{WatchRules}
use Rattle.vehicle_core.specs.Told.{ActorTold, BootTold, begun}
use Rattle.vehicle_core.specs.Ready.{is_ready, is_any_ready, all_finished}
use Rattle.vehicle_core.specs.ActorStep.{ActorStep}

-- a boot that was cut before it was up
pub record BootCut (lines : List Line) : Type 0 where
  pub number : ℕ
  pub lines_are : lines ≡ line.BootCut number ∷ []

module _ {W : Type 0} where
  -- One line: an actor among them was ready, and the line leads it and the shared part on by its law; all other actors stay.
  pub record LineStep (rules : WatchRules W) (t : BootTold W) (made : Line) (t' : BootTold W) : Type 0 where
    pub place : ℕ
    pub old : ActorTold W
    pub new : ActorTold W
    pub at : slice_get t.actors place ≡ Some old
    pub ready : is_ready t.shared old ≡ true
    pub step : ActorStep rules t.shared old made t'.shared new
    pub actors : t'.actors ≡ slice_set t.actors place new

  -- these lines, one after another
  abbrev pub Leads : WatchRules W → BootTold W → List Line → BootTold W → Type 0
  Leads rules t [] t' = t' ≡ t
  Leads rules t (made ∷ lines) t' = (mid : BootTold W) × LineStep rules t made mid × Leads rules mid lines t'

  -- A boot that is up: its boot line, which names heads and a mark that fit one another, and lines that lead on from there.
  pub record BootUp (rules : WatchRules W) (boot : BootScript) (watchers : List W) (lines : List Line) : Type 0 where
    pub number : ℕ
    pub state : BootState
    pub made : List Line
    pub told : BootTold W
    pub lines_are : lines ≡ line.Boot number state.heads state.mark ∷ made
    pub state_fits : StateInLimits state
    pub leads : Leads rules (begun boot state watchers) made told

  -- How a boot that is up ends: after the reply that the power went, with no line more; with nobody ready, and all schedules
  -- finished or one not.
  abbrev pub Ended : BootTold W → List Line → Type 0
  Ended t [] = t.shared.power ≡ false
  Ended t (line.End ∷ []) = (t.shared.power ≡ true) × (is_any_ready t.shared t.actors ≡ false) × (all_finished t.actors ≡ true)
  Ended t (line.Stuck ∷ []) = (t.shared.power ≡ true) × (is_any_ready t.shared t.actors ≡ false) × (all_finished t.actors ≡ false)
  Ended t lines = ⊥

  -- a boot that was up and has ended
  pub record BootEnded (rules : WatchRules W) (boot : BootScript) (watchers : List W) (lines : List Line) : Type 0 where
    pub front : List Line
    pub ending : List Line
    pub up : BootUp rules boot watchers front
    pub ended : Ended up.told ending
    pub lines_are : lines ≡ front ++ ending

  -- the whole part of a boot
  abbrev pub Part : WatchRules W → BootScript → List W → List Line → Type 0
  Part rules boot watchers lines = BootCut lines ⊎ BootEnded rules boot watchers lines

  -- the record is the parts of these boots, one behind another, each boot with its watchers
  abbrev pub CoreRun : WatchRules W → List BootScript → List (List W) → List Line → Type 0
  CoreRun rules [] [] lines = lines ≡ []
  CoreRun rules (boot ∷ boots) (watchers ∷ others) lines = (part rest : List Line) × (lines ≡ part ++ rest) × Part rules boot watchers part × CoreRun rules boots others rest
  CoreRun rules boots others lines = ⊥

  -- the same of a record that may stop after any part, or within a part that has no end then
  abbrev pub CoreSoFar : WatchRules W → List BootScript → List (List W) → List Line → Type 0
  CoreSoFar rules (boot ∷ boots) (watchers ∷ others) lines =
      (lines ≡ []) ⊎ (BootUp rules boot watchers lines ⊎ ((part rest : List Line) × (lines ≡ part ++ rest) × Part rules boot watchers part × CoreSoFar rules boots others rest))
  CoreSoFar rules boots others lines = lines ≡ []
