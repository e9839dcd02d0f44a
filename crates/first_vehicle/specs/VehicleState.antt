-- The abstract vehicle: one plan of each type, which never changes but is swapped whole, and the place in the mission.
-- It has no store, no queue, no cache and no worker.
use Rattle.std.specs.Prelude.{ℕ, ◌==◌, Bool, false, List, [], length, Option, Some, None, find, slice_index_or, if◌then◌else◌}
use Rattle.first_model.specs.declared.counts.Mark.{Mark}
use Rattle.first_model.specs.declared.plan.PlanType.{PlanType}
use Rattle.first_model.specs.declared.plan.PlanType.TheVariants.{Mission, Fence, Safe}
use Rattle.first_model.specs.declared.plan.PlanHead.{PlanHead}
use Rattle.first_model.specs.declared.plan.Item.{Item}
use Rattle.first_model.specs.declared.request.Client.{Client}
use Rattle.first_model.specs.declared.request.Client.TheVariants as client
use Rattle.first_model.specs.declared.request.Asked.{Asked}
use Rattle.first_model.specs.declared.request.Reply.{Reply}
use Rattle.first_model.specs.declared.vehicle.Mode.{Mode}
use Rattle.first_model.specs.declared.vehicle.Mode.TheVariants as mode
use Rattle.first_model.specs.CountsList.{pairs_of}
use Rattle.first_vehicle.specs.PlanState.{PlanState, DraftState, untold, with_told, put_by}

-- a link's request that was served last, with its reply
pub record ServedState : Type 0 where
  pub link : ℕ
  pub asked : Asked
  pub reply : Reply

-- the plan of each type; the drafts of this boot; the request in service; of each link the request that was served last;
-- the mode; the index, how often each jump was taken, and whether a leg of the index was shown; the index that a link
-- asked for and no event has taken yet
pub record VehicleState : Type 0 where
  pub mission : PlanState
  pub fence : PlanState
  pub safe : PlanState
  pub drafts : List DraftState
  pub service : Option (Client × Asked)
  pub served : List ServedState
  pub mode : Mode
  pub index : ℕ
  pub counts : List (ℕ × ℕ)
  pub at_leg : Bool
  pub wanted : Option ℕ

-- the plan of a type
abbrev pub plan_of : VehicleState → PlanType → PlanState
plan_of v Mission = v.mission
plan_of v Fence = v.fence
plan_of v Safe = v.safe

-- the vehicle with an item of the plan of a type told
abbrev pub with_item_told : VehicleState → PlanType → ℕ → Item → VehicleState
with_item_told v Mission seq item = record v { mission = with_told v.mission seq item }
with_item_told v Fence seq item = record v { fence = with_told v.fence seq item }
with_item_told v Safe seq item = record v { safe = with_told v.safe seq item }

-- the number of items of the mission
abbrev pub mission_count : VehicleState → ℕ
mission_count v = length v.mission.items

-- the head at a place of a boot line's heads, which are those of mission, fence and safe points
abbrev pub head_at : List PlanHead → ℕ → PlanHead
head_at heads place = slice_index_or heads place (record { id = 0; count = 0 })

-- the vehicle once a boot is up with these plans and this mark, the first boot of its record
abbrev pub booted : List PlanHead → Mark → VehicleState
booted heads mark = record { mission = untold (head_at heads 0); fence = untold (head_at heads 1); safe = untold (head_at heads 2); drafts = []; service = None; served = []; mode = mode.Hold; index = mark.index; counts = pairs_of mark.counts; at_leg = false; wanted = None }

-- a committed plan takes the place of the one in force; a mission begins at its first item
abbrev pub committed : VehicleState → PlanType → PlanState → VehicleState
committed v Mission plan = record v { mission = plan; index = 0; counts = []; at_leg = false; wanted = None }
committed v Fence plan = record v { fence = plan }
committed v Safe plan = record v { safe = plan }

-- the request is this link's
abbrev pub is_of_link : ℕ → ServedState → Bool
is_of_link link last = last.link == link

-- the request and its reply
abbrev pub reply_of : ServedState → Asked × Reply
reply_of last = (last.asked, last.reply)

-- of each link the request that was served last, after this one
abbrev pub with_served : List ServedState → Client → Asked → Reply → List ServedState
with_served served (client.Link link) asked reply = put_by (is_of_link link) (record { link = link; asked = asked; reply = reply }) served
with_served served other asked reply = served

-- the request of the link that was served last
abbrev pub last_served : List ServedState → ℕ → Option ServedState
last_served served link = find (is_of_link link) served

-- no request is in service any more: this one was served with this reply
abbrev pub ended : VehicleState → Client → Asked → Reply → VehicleState
ended v client asked reply = record v { service = None; served = with_served v.served client asked reply }

-- the vehicle once an event has taken the index that a link asked for; the first item begins the mission again
abbrev pub index_taken : VehicleState → Option ℕ → VehicleState
index_taken v None = v
index_taken v (Some index) = record v { index = index; counts = (if index == 0 then [] else v.counts); at_leg = false; wanted = None }

-- the vehicle in Mission mode; at the mission's end it begins again
abbrev pub in_mission_mode : VehicleState → VehicleState
in_mission_mode v = if v.index == mission_count v then record v { mode = mode.Mission; index = 0; counts = []; at_leg = false } else record v { mode = mode.Mission }
