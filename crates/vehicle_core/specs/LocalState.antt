-- One actor as the code keeps it, and what the lines tell of it.
use Rattle.std.specs.Prelude.{◌==◌, Bool, true, List, length, Option, Some, None}
use Rattle.mission_model.specs.declared.plan.Item.{Item}
use Rattle.mission_model.specs.declared.request.Client.{Client}
use Rattle.mission_model.specs.declared.request.Request.{Request}
use Rattle.vehicle_core.specs.declared.local.Local.{Local}
use Rattle.vehicle_core.specs.declared.local.Role.{Role}
use Rattle.vehicle_core.specs.declared.local.Role.TheVariants as role
use Rattle.vehicle_core.specs.Told.{ActorTold, Worker, Link, Nav, Watch}
use Rattle.vehicle_core.specs.LinkActs.{link_told}
use Rattle.vehicle_core.specs.NavActs.{nav_told}
use Rattle.vehicle_core.specs.WatchActs.{watch_told}

abbrev pub request_of : Option (Client × Request) → Option Request
request_of None = None
request_of (Some (client, request)) = Some request

module _ {W : Type 0} where
  -- what the lines tell of an actor; of a link these items were heard, of the Navigator's mission they were taken
  abbrev pub role_told : Role W → List Item → ActorTold W
  role_told (role.Worker taken) items = Worker
  role_told (role.Link l) items = Link (link_told l items)
  role_told (role.Nav n) items = Nav (nav_told n items)
  role_told (role.Watch w) items = Watch (watch_told w)

  abbrev pub local_told : Local W → List Item → ActorTold W
  local_told l items = role_told l.role items

  -- the request that the worker has taken and not answered
  abbrev pub taken_by : Role W → Option Request
  taken_by (role.Worker taken) = request_of taken
  taken_by other = None

  abbrev pub taken_of : Local W → Option Request
  taken_of l = taken_by l.role

  -- no input is left of its schedule
  abbrev pub finished_by : Role W → Bool
  finished_by (role.Worker taken) = true
  finished_by (role.Link l) = length l.schedule.inputs == 0
  finished_by (role.Nav n) = length n.schedule.inputs == 0
  finished_by (role.Watch w) = length w.schedule.inputs == 0

  abbrev pub finished_of : Local W → Bool
  finished_of l = finished_by l.role
