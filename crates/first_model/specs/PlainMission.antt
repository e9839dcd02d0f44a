-- What a plain mission is: waypoints on the globe that the plan check accepts.
use Rattle.std.specs.Prelude.{◌≡◌, ℕ, ◌<◌, ◌≤◌, true, List, length, take, Some, None, slice_get, slice_index_or, refl}
use Rattle.std.specs.List.{All}
use Rattle.std.proofs.Common.{subst}
use Rattle.std.proofs.lemmas.Option.{slice_get_within, get_or_from_slice_get}
use Rattle.first_model.specs.declared.limits.TheConstants.{MAX_MISSION_ITEMS}
use Rattle.first_model.specs.declared.plan.PlanType.TheVariants.{Mission}
use Rattle.first_model.specs.declared.plan.Item.{Item}
use Rattle.first_model.specs.declared.command.ParamRule.TheVariants.{UnsetOrNotNegative}
use Rattle.first_model.specs.declared.command.TheConstants.{NAV_WAYPOINT, FRAME_GLOBAL}
use Rattle.first_model.specs.declared.item_check.TheConstants.{MIN_LATITUDE, MAX_LATITUDE, MIN_LONGITUDE, MAX_LONGITUDE, MIN_HEIGHT, MAX_HEIGHT}
use Rattle.first_model.specs.CommandRows.{rule_of-NAV_WAYPOINT}
use Rattle.first_model.specs.ItemCode.{ItemCode, meets, is_placed}
use Rattle.first_model.specs.PlanCode.{PlanCode, PlanValid}

-- a waypoint in the global frame
pub record IsGlobalWaypoint (item : Item) : Type 0 where
  pub frame : item.frame ≡ FRAME_GLOBAL
  pub command : item.command ≡ NAV_WAYPOINT

-- a plain mission: at least one item, waypoints in the global frame alone, accepted by the plan check
pub record IsPlainMission (items : List Item) : Type 0 where
  pub some : 0 < length items
  pub waypoints : All IsGlobalWaypoint items
  pub valid : PlanValid Mission items

-- a waypoint in the global frame has no code where its parameters and its position are those of its command
pub ItemCode-waypoint : (item : Item) → IsGlobalWaypoint item → meets UnsetOrNotNegative item.p1 ≡ true → meets UnsetOrNotNegative item.p2 ≡ true → is_placed true MIN_LATITUDE MAX_LATITUDE item.x ≡ true → is_placed true MIN_LONGITUDE MAX_LONGITUDE item.y ≡ true → is_placed true MIN_HEIGHT MAX_HEIGHT item.z ≡ true → ItemCode Mission item ≡ None
unfolding ItemCode
ItemCode-waypoint item is param1 param2 latitude longitude height = rw (is.command, rule_of-NAV_WAYPOINT, is.frame, param1, param2, latitude, longitude, height) refl

-- a waypoint without a code of its own has none at any place of a mission
PlanCode-waypoint : (count : ℕ) (before : List Item) (item : Item) → IsGlobalWaypoint item → ItemCode Mission item ≡ None → PlanCode Mission count before item ≡ None
unfolding PlanCode
PlanCode-waypoint count before item is none = rw (none, is.command) refl

-- up to the limit, waypoints without a code make a plain mission
pub IsPlainMission-each : (items : List Item) → 0 < length items → length items ≤ MAX_MISSION_ITEMS → All IsGlobalWaypoint items → All (λ item. ItemCode Mission item ≡ None) items → IsPlainMission items
IsPlainMission-each items some within waypoints codes =
    let accepted : (place : ℕ) (item : Item) → slice_get items place ≡ Some item → PlanCode Mission (length items) (take place items) item ≡ None = λ place item at.
    let below = slice_get_within items place item at in
    let is : slice_index_or items place item ≡ item = get_or_from_slice_get items place item item at in
    PlanCode-waypoint (length items) (take place items) item (subst IsGlobalWaypoint is (waypoints place item below)) (subst (λ (x : Item). ItemCode Mission x ≡ None) is (codes place item below)) in
    record { some = some; waypoints = waypoints; valid = record { within = within; accepted = accepted } }
