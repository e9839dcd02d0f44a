-- Plain plans: what a vehicle of today flies.
use Rattle.std.specs.Prelude.{◌≡◌, ◌<◌, List, length, All}
use Rattle.first_model.specs.declared.plan.Item.{Item}
use Rattle.first_model.specs.declared.plan.PlanType.{PlanType}
use Rattle.first_model.specs.declared.plan.PlanType.TheVariants.{Mission}
use Rattle.first_model.specs.declared.command.TheConstants.{FRAME_GLOBAL, NAV_WAYPOINT}
use Rattle.first_model.specs.PlanCode.{PlanValid}

-- a waypoint on the globe
abbrev pub IsWaypoint : Item → Type 0
IsWaypoint item = (item.frame ≡ FRAME_GLOBAL) × (item.command ≡ NAV_WAYPOINT)

-- a mission of waypoints, at least one, that a vehicle accepts
pub record IsPlain (kind : PlanType) (items : List Item) : Type 0 where
  pub mission : kind ≡ Mission
  pub some : 0 < length items
  pub waypoints : All IsWaypoint items
  pub valid : PlanValid kind items
