-- The rule of each command, read off the table, and what it says of an item without a code.
use Rattle.std.specs.Prelude.{◌≡◌, ℕ, Bool, true, false, Some, refl}
use Rattle.mission_model.specs.declared.plan.PlanType.{PlanType}
use Rattle.mission_model.specs.declared.plan.PlanType.TheVariants.{Mission, Fence, Safe}
use Rattle.mission_model.specs.declared.command.ParamRule.{ParamRule}
use Rattle.mission_model.specs.declared.command.ParamRule.TheVariants.{Any, UnsetOrNotNegative, NotNegative, Whole}
use Rattle.mission_model.specs.declared.command.TheConstants.{NAV_WAYPOINT, NAV_LOITER_UNLIM, NAV_LOITER_TURNS, NAV_LOITER_TIME, NAV_RETURN_TO_LAUNCH, NAV_LAND, NAV_TAKEOFF, NAV_DELAY, DO_JUMP, DO_CHANGE_SPEED, DO_LAND_START, NAV_FENCE_POLYGON_VERTEX_INCLUSION, NAV_FENCE_POLYGON_VERTEX_EXCLUSION, NAV_RALLY_POINT}
use Rattle.mission_model.specs.Command.{rule_of}

-- a command's row: its plan type, whether it has a position, and the rules of its parameters
abbrev pub Row : PlanType → ℕ → Bool → ParamRule → ParamRule → Type 0
Row kind command positioned param1 param2 = rule_of kind command ≡ Some (record { command = command; kind = kind; positioned = positioned; param1 = param1; param2 = param2 })

pub rule_of-NAV_WAYPOINT : Row Mission NAV_WAYPOINT true UnsetOrNotNegative UnsetOrNotNegative
unfolding rule_of
rule_of-NAV_WAYPOINT = refl

pub rule_of-NAV_LOITER_UNLIM : Row Mission NAV_LOITER_UNLIM true Any Any
unfolding rule_of
rule_of-NAV_LOITER_UNLIM = refl

pub rule_of-NAV_LOITER_TURNS : Row Mission NAV_LOITER_TURNS true UnsetOrNotNegative Any
unfolding rule_of
rule_of-NAV_LOITER_TURNS = refl

pub rule_of-NAV_LOITER_TIME : Row Mission NAV_LOITER_TIME true UnsetOrNotNegative Any
unfolding rule_of
rule_of-NAV_LOITER_TIME = refl

pub rule_of-NAV_RETURN_TO_LAUNCH : Row Mission NAV_RETURN_TO_LAUNCH false Any Any
unfolding rule_of
rule_of-NAV_RETURN_TO_LAUNCH = refl

pub rule_of-NAV_LAND : Row Mission NAV_LAND true Any Any
unfolding rule_of
rule_of-NAV_LAND = refl

pub rule_of-NAV_TAKEOFF : Row Mission NAV_TAKEOFF true Any Any
unfolding rule_of
rule_of-NAV_TAKEOFF = refl

pub rule_of-NAV_DELAY : Row Mission NAV_DELAY false NotNegative Any
unfolding rule_of
rule_of-NAV_DELAY = refl

pub rule_of-DO_JUMP : Row Mission DO_JUMP false (Whole 0 65535) (Whole 0 65535)
unfolding rule_of
rule_of-DO_JUMP = refl

pub rule_of-DO_CHANGE_SPEED : Row Mission DO_CHANGE_SPEED false (Whole 0 3) Any
unfolding rule_of
rule_of-DO_CHANGE_SPEED = refl

pub rule_of-DO_LAND_START : Row Mission DO_LAND_START false Any Any
unfolding rule_of
rule_of-DO_LAND_START = refl

pub rule_of-NAV_FENCE_POLYGON_VERTEX_INCLUSION : Row Fence NAV_FENCE_POLYGON_VERTEX_INCLUSION true (Whole 3 65535) Any
unfolding rule_of
rule_of-NAV_FENCE_POLYGON_VERTEX_INCLUSION = refl

pub rule_of-NAV_FENCE_POLYGON_VERTEX_EXCLUSION : Row Fence NAV_FENCE_POLYGON_VERTEX_EXCLUSION true (Whole 3 65535) Any
unfolding rule_of
rule_of-NAV_FENCE_POLYGON_VERTEX_EXCLUSION = refl

pub rule_of-NAV_RALLY_POINT : Row Safe NAV_RALLY_POINT true Any Any
unfolding rule_of
rule_of-NAV_RALLY_POINT = refl
