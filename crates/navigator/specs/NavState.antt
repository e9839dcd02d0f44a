-- The Navigator: the plans as it knows them and has taken them, how it flies the mission, and where it returns to.
use Rattle.std.specs.Prelude.{◌≡◌, ℕ, ℤ, List, length, Option, Some, None}
use Rattle.mission_model.specs.declared.plan.Home.{Home}
use Rattle.mission_model.specs.declared.plan.Item.{Item}
use Rattle.mission_model.specs.declared.plan.Params.{Params}
use Rattle.mission_model.specs.declared.plan.PlanType.{PlanType}
use Rattle.mission_model.specs.declared.plan.PlanType.TheVariants.{Mission, Fence, Safe}
use Rattle.mission_model.specs.declared.vehicle.Mode.{Mode}
use Rattle.client_cache.specs.CacheState.{CacheState, count_of}
use Rattle.leg_machine.specs.MachineState.{MachineState}
use Rattle.return_mode.specs.ReturnState.{ReturnState}
use Rattle.return_mode.specs.There.{Places, AreThere}
use Rattle.navigator.specs.Taking.{PlanTaken}
use Rattle.navigator.specs.Judging.{MissionTaken, FedBy, mission_plan}
use Rattle.navigator.specs.Standing.{MarksState}

-- index, counts and whether a leg is shown; the uses that the boot's mark names, none once another mission was met; the
-- standing marks
pub record FlightState : Type 0 where
  pub legs : MachineState
  pub boot : List (ℕ × ℕ)
  pub marks : MarksState

-- what a contract sees of the code: of the mission the check and the judge, not the items that they were shown
pub record NavState : Type 0 where
  pub params : Params
  pub home : Option Home
  pub mode : Mode
  pub position : Option (ℤ × ℤ)
  pub mission : MissionTaken
  pub fence : PlanTaken
  pub safe : PlanTaken
  pub flight : FlightState
  pub owed : Option (PlanType × ℕ)
  pub way : Option ReturnState

-- the abstract Navigator: the parameters and the home, which stay; the mode; the position, once one was told; the three
-- plans, each with the items that were taken; the flight; the drop that is owed, of a type to a seq; the return that was
-- chosen, with the targets that are left of it
pub record NavTaken : Type 0 where
  pub params : Params
  pub home : Option Home
  pub mode : Mode
  pub position : Option (ℤ × ℤ)
  pub mission : PlanTaken
  pub fence : PlanTaken
  pub safe : PlanTaken
  pub flight : FlightState
  pub owed : Option (PlanType × ℕ)
  pub way : Option ReturnState

-- the abstract Navigator of which these items of the mission were taken
abbrev pub with_taken : NavState → List Item → NavTaken
with_taken n items = record {
  params = n.params;
  home = n.home;
  mode = n.mode;
  position = n.position;
  mission = mission_plan n.mission items;
  fence = n.fence;
  safe = n.safe;
  flight = n.flight;
  owed = n.owed;
  way = n.way;
}

-- where a return may lead: to the home that is set, to an item of the mission that is flown, to a safe point that was taken
abbrev pub places : Option Home → FlightState → PlanTaken → Places
places home flight safe = record { home = home; items = flight.legs.count; points = length safe.taken }

-- so do all targets that are left
abbrev pub LeadsThere : Places → Option ReturnState → Type 0
LeadsThere there None = Unit {0}
LeadsThere there (Some r) = AreThere there r.left

-- what holds of the code beside its type, where these items of the mission were taken: the judge was shown them, and a chosen
-- return leads to targets that are there
pub record HasShown (n : NavState) (items : List Item) : Type 0 where
  pub fed : FedBy n.params n.home n.fence n.mission items
  pub there : LeadsThere (places n.home n.flight n.safe) n.way

-- what is known of the plan of a type
abbrev pub cache_of : PlanType → NavTaken → CacheState
cache_of Mission v = v.mission.cache
cache_of Fence v = v.fence.cache
cache_of Safe v = v.safe.cache

-- the same with another cache of a type
abbrev pub with_cache : PlanType → CacheState → NavTaken → NavTaken
with_cache Mission c v = record v { mission = record v.mission { cache = c } }
with_cache Fence c v = record v { fence = record v.fence { cache = c } }
with_cache Safe c v = record v { safe = record v.safe { cache = c } }

abbrev pub own_cache : PlanType → NavState → CacheState
own_cache Mission n = n.mission.cache
own_cache Fence n = n.fence.cache
own_cache Safe n = n.safe.cache

abbrev pub with_own_cache : PlanType → CacheState → NavState → NavState
with_own_cache Mission c n = record n { mission = record n.mission { cache = c } }
with_own_cache Fence c n = record n { fence = record n.fence { cache = c } }
with_own_cache Safe c n = record n { safe = record n.safe { cache = c } }

-- the flight is that of the mission, and the plans are of their types
pub record IsFlown (mission : MissionTaken) (fence safe : PlanTaken) (flight : FlightState) : Type 0 where
  pub count : flight.legs.count ≡ count_of mission.cache.head
  pub fence_kind : fence.kind ≡ Fence
  pub safe_kind : safe.kind ≡ Safe
