-- The code of an item by itself: the first of its tests that fails, or none.
use Rattle.std.specs.Prelude.{ℕ, ℤ, Bool, true, false, not, ◌&&◌, ◌||◌, List, [], ◌∷◌, Option, Some, None, Result, Ok, Err, nat_le, ◌==◌, int_le, if◌then◌else◌}
use Rattle.std.specs.List.{list_any}
use Rattle.mission_model.specs.declared.plan.PlanType.{PlanType}
use Rattle.mission_model.specs.declared.plan.Param.{Param}
use Rattle.mission_model.specs.declared.plan.Param.TheVariants.{Unset, Milli}
use Rattle.mission_model.specs.declared.plan.Item.{Item}
use Rattle.mission_model.specs.declared.message.AckCode.{AckCode}
use Rattle.mission_model.specs.declared.message.AckCode.TheVariants as ack
use Rattle.mission_model.specs.declared.command.CommandRule.{CommandRule}
use Rattle.mission_model.specs.declared.command.ParamRule.{ParamRule}
use Rattle.mission_model.specs.declared.command.ParamRule.TheVariants.{Any, UnsetOrNotNegative, NotNegative, Whole}
use Rattle.mission_model.specs.declared.command.TheConstants.{POSITION_FRAMES, FRAME_MISSION}
use Rattle.mission_model.specs.declared.item_check.TheConstants.{MIN_LATITUDE, MAX_LATITUDE, MIN_LONGITUDE, MAX_LONGITUDE, MIN_HEIGHT, MAX_HEIGHT}
use Rattle.mission_model.specs.Command.{rule_of, whole_number, is_not_negative}

-- a command with a position takes the four global frames, and any other the mission frame as well
abbrev pub is_frame_of : Bool → ℕ → Bool
is_frame_of positioned frame = list_any (λ f. f == frame) POSITION_FRAMES || (not positioned && frame == FRAME_MISSION)

-- a whole number between these two
abbrev pub is_between : ℕ → ℕ → Option ℕ → Bool
is_between least greatest None = false
is_between least greatest (Some number) = nat_le least number && nat_le number greatest

-- the parameter is one that the rule allows
abbrev pub meets : ParamRule → Param → Bool
meets Any param = true
meets UnsetOrNotNegative Unset = true
meets UnsetOrNotNegative (Milli milli) = is_not_negative (Milli milli)
meets NotNegative param = is_not_negative param
meets (Whole least greatest) param = is_between least greatest (whole_number param)

-- a coordinate of a command with a position lies in its range; that of another is not looked at
abbrev pub is_placed : Bool → ℤ → ℤ → ℤ → Bool
is_placed positioned least greatest coordinate = not positioned || (int_le least coordinate && int_le coordinate greatest)

-- the code of the first test that fails
abbrev pub first_failing : List (Bool × AckCode) → Option AckCode
first_failing [] = None
first_failing ((passes, code) ∷ tests) = if passes then first_failing tests else Some code

-- the code of an item whose command has this row, or no row
abbrev pub code_by : Option CommandRule → Item → Option AckCode
code_by None item = Some ack.Unsupported
code_by (Some rule) item = first_failing (
    (is_frame_of rule.positioned item.frame, ack.UnsupportedFrame) ∷
    (meets rule.param1 item.p1, ack.InvalidParam1) ∷
    (meets rule.param2 item.p2, ack.InvalidParam2) ∷
    (is_placed rule.positioned MIN_LATITUDE MAX_LATITUDE item.x, ack.InvalidParam5X) ∷
    (is_placed rule.positioned MIN_LONGITUDE MAX_LONGITUDE item.y, ack.InvalidParam6Y) ∷
    (is_placed rule.positioned MIN_HEIGHT MAX_HEIGHT item.z, ack.InvalidParam7) ∷ [])

-- the code of an item in a plan of this type: of its command first, then of frame, param1, param2, x, y and z
unfoldable pub ItemCode : PlanType → Item → Option AckCode
ItemCode kind item = code_by (rule_of kind item.command) item

-- the answer of a check: accepted without a code, and else the code
abbrev pub answer_of : Option AckCode → Result (Unit {0}) AckCode
answer_of None = Ok tt
answer_of (Some code) = Err code
