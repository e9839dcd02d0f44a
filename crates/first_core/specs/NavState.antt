-- The Navigator: the rest of its schedule, its mode, its cache of the mission, its index, and whether a leg of the index
-- was shown.
use Rattle.std.specs.Prelude.{◌≡◌, ◌≢◌, ℕ, ◌<◌, ◌≤◌, ◌==◌, Bool, true, false, List, length, None, replicate, if◌then◌else◌}
use Rattle.std.specs.List.{All}
use Rattle.first_model.specs.declared.limits.TheConstants.{MAX_PLACES, MAX_MISSION_ITEMS}
use Rattle.first_model.specs.declared.plan.PlanHead.{PlanHead}
use Rattle.first_model.specs.declared.plan.PlanType.TheVariants.{Mission}
use Rattle.first_model.specs.declared.request.Client.TheVariants.{Nav}
use Rattle.first_model.specs.declared.vehicle.Mode.{Mode}
use Rattle.first_model.specs.declared.vehicle.Mode.TheVariants as mode
use Rattle.first_model.specs.declared.vehicle.VehicleLine.{VehicleLine}
use Rattle.first_model.specs.declared.vehicle.VehicleLine.TheVariants as event
use Rattle.first_model.specs.declared.schedule.InputLine.{InputLine}
use Rattle.first_model.specs.declared.schedule.InputLine.TheVariants as input
use Rattle.first_cache.specs.CacheState.{CacheState, adopted}
use Rattle.first_cache.specs.declared.cache.TheConstants.{SEQS}
use Rattle.first_core.specs.ScheduleState.{ScheduleState, fresh}

pub record NavState : Type 0 where
  pub schedule : ScheduleState
  pub mode : Mode
  pub cache : CacheState
  pub index : ℕ
  pub at_leg : Bool

-- the cache of a mission of which nothing is known
abbrev pub unknown : PlanHead → CacheState
unknown head = record { client = Nav; kind = Mission; id = head.id; count = head.count; from = 0; known = replicate MAX_MISSION_ITEMS None; in_flight = replicate SEQS false }

-- the Navigator at the beginning of a boot: in Hold, with the boot's mission adopted, at the mark's index
abbrev pub new_nav : PlanHead → ℕ → List InputLine → NavState
new_nav head index inputs = record { schedule = fresh inputs; mode = mode.Hold; cache = unknown head; index = index; at_leg = false }

-- the Navigator after a published mission was met: one of another id is adopted, from its first item on
abbrev pub met : NavState → PlanHead → NavState
met nav head = if nav.cache.id == head.id then nav else record nav { cache = adopted nav.cache head; index = 0; at_leg = false }

-- the Navigator in a mode: mission mode at the mission's end begins it again
abbrev pub in_mode : NavState → Mode → NavState
in_mode nav mode.Mission = if nav.index == nav.cache.count then record nav { mode = mode.Mission; index = 0; at_leg = false } else record nav { mode = mode.Mission }
in_mode nav other = record nav { mode = other }

-- an event that neither asks for a return nor tells a position
abbrev pub IsForMission : VehicleLine → Type 0
IsForMission (event.Mode mode.Return) = ⊥
IsForMission (event.Position x y) = ⊥
IsForMission other = Unit {0}

-- an input that the Navigator may have: such an event, a wait, or a meeting at one of the places
abbrev pub IsForNav : InputLine → Type 0
IsForNav (input.Vehicle given) = IsForMission given
IsForNav input.Wait = Unit {0}
IsForNav (input.Meet place count) = place < MAX_PLACES
IsForNav other = ⊥

-- the cache is the Navigator's cache of a whole mission, the index is within its count, no return goes on, and the
-- inputs are the Navigator's
pub record NavFits (n : NavState) : Type 0 where
  pub mode : n.mode ≢ mode.Return
  pub client : n.cache.client ≡ Nav
  pub kind : n.cache.kind ≡ Mission
  pub window : n.cache.from ≡ 0
  pub whole : length n.cache.known ≡ MAX_MISSION_ITEMS
  pub count : n.cache.count ≤ MAX_MISSION_ITEMS
  pub index : n.index ≤ n.cache.count
  pub leg : n.at_leg ≡ true → n.index < n.cache.count
  pub inputs : All IsForNav n.schedule.inputs

-- a published mission is within its limit
abbrev pub HeadFits : PlanHead → Type 0
HeadFits head = head.count ≤ MAX_MISSION_ITEMS
