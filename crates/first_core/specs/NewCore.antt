-- The core at the beginning of a boot, and the boots that it takes.
use Rattle.std.specs.Prelude.{◌≡◌, ℕ, zero, suc, ◌<◌, ◌≤◌, List, [], ◌∷◌, ◌++◌, None}
use Rattle.std.specs.List.{All}
use Rattle.first_model.specs.declared.flight_line.Actor.{Actor}
use Rattle.first_model.specs.declared.flight_line.Actor.TheVariants as actor
use Rattle.first_model.specs.declared.schedule.BootScript.{BootScript}
use Rattle.first_model.specs.declared.schedule.InputLine.{InputLine}
use Rattle.first_model.specs.declared.vehicle.BootState.{BootState}
use Rattle.first_core.specs.ScheduleState.{inputs_of}
use Rattle.first_core.specs.SharedState.{head_at, new_shared}
use Rattle.first_core.specs.LinkState.{LinkState, new_link, IsForLink}
use Rattle.first_core.specs.NavState.{new_nav, IsForNav, HeadFits}
use Rattle.first_core.specs.CoreState.{CoreState}

-- the first so many links at the beginning of a boot, each with its own inputs
abbrev pub new_links : ℕ → List (Actor × InputLine) → List LinkState
new_links zero inputs = []
new_links (suc count) inputs = new_links count inputs ++ new_link count (inputs_of (actor.Link count) inputs) ∷ []

-- the core at the beginning of a boot: nothing is asked or taken, and each actor has its own inputs before it
abbrev pub new_core : BootScript → BootState → CoreState
new_core boot state = record {
  shared = new_shared state.heads boot.links;
  taken = None;
  links = new_links boot.links boot.inputs;
  nav = new_nav (head_at state.heads 0) state.mark.index (inputs_of actor.Nav boot.inputs);
}

-- an input of the Navigator, or of one of so many links
abbrev pub IsInput : ℕ → Actor × InputLine → Type 0
IsInput links (actor.Nav, input) = IsForNav input
IsInput links (actor.Link number, input) = (number < links) × IsForLink input
IsInput links (other, input) = ⊥

-- a boot that the core takes: one link at most, no watcher, and each input one that its actor may have
pub record InLimits (boot : BootScript) : Type 0 where
  pub links : boot.links ≤ 1
  pub watchers : boot.watchers ≡ 0
  pub inputs : All (IsInput boot.links) boot.inputs

-- the mission in force is within its limit, and the mark's index is within the mission
pub record StateFits (state : BootState) : Type 0 where
  pub mission : HeadFits (head_at state.heads 0)
  pub index : state.mark.index ≤ (head_at state.heads 0).count
