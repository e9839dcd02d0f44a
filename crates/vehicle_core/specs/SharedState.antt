-- The shared part as the code keeps it: arrivals are counted up to 255, the most that a meeting can need.
use Rattle.std.specs.Prelude.{◌≡◌, ℕ, ◌+◌, ◌<◌, min, length, List, [], ◌∷◌, slice_index_or, slice_set}
use Rattle.mission_model.specs.declared.limits.TheConstants.{MAX_PLACES}
use Rattle.mission_model.specs.declared.flight_line.Line.{Line}
use Rattle.mission_model.specs.declared.flight_line.Line.TheVariants as line
use Rattle.vehicle_core.specs.declared.shared.Shared.{Shared}
use Rattle.mission_model.specs.declared.plan.PlanHead.{PlanHead}
use Rattle.vehicle_core.specs.Told.{SharedTold, arrivals, shared_begun}

-- the arrivals at a meeting place
abbrev pub arrivals_at : Shared → ℕ → ℕ
arrivals_at s place = slice_index_or s.arrivals place 0

-- one more client came to a meeting place
abbrev pub arrived_at : Shared → ℕ → Shared
arrived_at s place = record s { arrivals = slice_set s.arrivals place (min 255 (arrivals_at s place + 1)) }

-- what the lines tell of it, where clients came to these places
abbrev pub shared_told : Shared → List ℕ → SharedTold
shared_told s arrived = record { board = s.board; transfer = s.transfer; arrived = arrived; power = s.power }

-- the places that clients came to, after a line
abbrev pub arrived_after : Line → List ℕ → List ℕ
arrived_after (line.Arrived who place) arrived = place ∷ arrived
arrived_after other arrived = arrived

-- the code has counted these arrivals
abbrev pub Counted : List ℕ → Shared → Type 0
Counted arrived s = (place : ℕ) → place < MAX_PLACES → arrivals_at s place ≡ min 255 (arrivals arrived place)

-- the shared part at the beginning of a boot, which has a head of each type
pub record SharedBegun (links watchers : ℕ) (heads : List PlanHead) (s : Shared) : Type 0 where
  pub three : length heads ≡ 3
  pub told : shared_told s [] ≡ shared_begun links watchers heads
  pub counted : Counted [] s
