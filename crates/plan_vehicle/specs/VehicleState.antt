-- The abstract vehicle: one plan of each type, which never changes but is swapped whole, the mark of the place in the
-- mission that a restart resumes, and what it is doing.
use Rattle.std.specs.Prelude.{ℕ, ℤ, Bool, false, List, [], length, Option, None}
use Rattle.mission_model.specs.declared.plan.Params.{Params}
use Rattle.mission_model.specs.declared.plan.Home.{Home}
use Rattle.mission_model.specs.declared.plan.PlanType.{PlanType}
use Rattle.mission_model.specs.declared.plan.PlanType.TheVariants.{Mission, Fence, Safe}
use Rattle.mission_model.specs.declared.request.Client.{Client}
use Rattle.mission_model.specs.declared.request.Asked.{Asked}
use Rattle.mission_model.specs.declared.request.Reply.{Reply}
use Rattle.mission_model.specs.declared.vehicle.Mode.{Mode}
use Rattle.mission_model.specs.declared.vehicle.Mode.TheVariants as mode
use Rattle.mission_model.specs.PlainMark.{PlainMark}
use Rattle.return_mode.specs.ReturnState.{ReturnState}
use Rattle.plan_vehicle.specs.PlanState.{PlanState}
use Rattle.plan_vehicle.specs.Drafts.{DraftState}

-- a link's request that was served last, with its reply
pub record ServedState : Type 0 where
  pub link : ℕ
  pub asked : Asked
  pub reply : Reply

-- the parameters and the home, which stay; the boots so far, and whether one of them was up;
-- the plan of each type, and the mark; the commits and marks that failed, each of which may have been made all the same;
-- of this boot the drafts, the request in service, and the marks of the places where the vehicle was;
-- of each link the request that was served last;
-- the mode; the index of the mission, how often each jump was taken, and whether a leg of the index was shown; the index
-- that a link asked for and no event has taken yet; the position; the return that was chosen
pub record VehicleState : Type 0 where
  pub params : Params
  pub home : Option Home
  pub boots : ℕ
  pub is_up : Bool
  pub mission : PlanState
  pub fence : PlanState
  pub safe : PlanState
  pub mark : PlainMark
  pub maybe : List Asked
  pub drafts : List DraftState
  pub service : Option (Client × Asked)
  pub passed : List PlainMark
  pub served : List ServedState
  pub mode : Mode
  pub index : ℕ
  pub counts : List (ℕ × ℕ)
  pub at_leg : Bool
  pub wanted : Option ℕ
  pub position : Option (ℤ × ℤ)
  pub way : Option ReturnState

abbrev pub no_plan : PlanState
no_plan = record { id = 0; items = [] }

-- the mark of a mission's first item, no jump taken
abbrev pub first_mark : ℕ → PlainMark
first_mark id = record { id = id; index = 0; pairs = [] }

-- the vehicle of a record that has no line yet
abbrev pub new_vehicle : Params → Option Home → VehicleState
new_vehicle params home = record {
  params = params;
  home = home;
  boots = 0;
  is_up = false;
  mission = no_plan;
  fence = no_plan;
  safe = no_plan;
  mark = first_mark 0;
  maybe = [];
  drafts = [];
  service = None;
  passed = [];
  served = [];
  mode = mode.Hold;
  index = 0;
  counts = [];
  at_leg = false;
  wanted = None;
  position = None;
  way = None;
}

-- the plan of a type
abbrev pub plan_of : VehicleState → PlanType → PlanState
plan_of v Mission = v.mission
plan_of v Fence = v.fence
plan_of v Safe = v.safe

-- the number of items of the mission
abbrev pub mission_count : VehicleState → ℕ
mission_count v = length v.mission.items

-- the vehicle with this plan in the place of that of its type; of a mission the mark is at the first item
abbrev pub with_plan : VehicleState → PlanType → PlanState → VehicleState
with_plan v Mission plan = record v { mission = plan; mark = first_mark plan.id }
with_plan v Fence plan = record v { fence = plan }
with_plan v Safe plan = record v { safe = plan }

-- the mark of the place where the vehicle is
abbrev pub place_of : VehicleState → PlainMark
place_of v = record { id = v.mission.id; index = v.index; pairs = v.counts }
