-- The table of commands as definitions read it, and what an item says by its command and parameters.
use Rattle.std.specs.Prelude.{ℕ, ◌/◌, ◌%◌, pos, negsuc, Bool, false, not, ◌&&◌, ◌||◌, List, Option, Some, None, find, unwrap_or, nat_le, ◌==◌, int_le, if◌then◌else◌, IsTrue}
use Rattle.std.specs.List.{list_any}
use Rattle.std.specs.Ordering.{int_eq}
use Rattle.mission_model.specs.declared.plan.PlanType.{PlanType}
use Rattle.mission_model.specs.declared.plan.Param.{Param}
use Rattle.mission_model.specs.declared.plan.Param.TheVariants.{Unset, Milli}
use Rattle.mission_model.specs.declared.plan.Item.{Item}
use Rattle.mission_model.specs.declared.command.CommandRule.{CommandRule}
pub use Rattle.mission_model.specs.PlanTypes.{is_kind}
use Rattle.mission_model.specs.declared.command.Jump.{Jump}
use Rattle.mission_model.specs.declared.command.TheConstants.{COMMANDS, NAV_TAKEOFF, NAV_LAND, DO_JUMP, MILLI}

-- the first of these rows that is of this plan type and command
abbrev pub rule_among : List CommandRule → PlanType → ℕ → Option CommandRule
rule_among rules kind command = find (λ rule. is_kind rule.kind kind && rule.command == command) rules

-- the row of the table for this plan type and command
unfoldable pub rule_of : PlanType → ℕ → Option CommandRule
rule_of kind command = rule_among COMMANDS kind command

-- one of these rows says that the command has a position
abbrev pub is_positioned_by : List CommandRule → ℕ → Bool
is_positioned_by rules command = list_any (λ rule. rule.command == command && rule.positioned) rules

-- the table says that the command has a position
unfoldable pub is_positioned : ℕ → Bool
is_positioned command = is_positioned_by COMMANDS command

-- a takeoff or a landing whose latitude and longitude are both 0
abbrev pub means_present_place : Item → Bool
means_present_place item = (item.command == NAV_TAKEOFF || item.command == NAV_LAND) && int_eq item.x (pos 0) && int_eq item.y (pos 0)

-- whether the command has a position, and the item does not mean the present place
abbrev pub has_position : Item → Bool
has_position item = is_positioned item.command && not (means_present_place item)

-- the command has a position, and the item does not mean the present place
abbrev pub HasPosition : Item → Type 0
HasPosition item = IsTrue (has_position item)

-- a number of at least 0
abbrev pub is_not_negative : Param → Bool
is_not_negative Unset = false
is_not_negative (Milli milli) = int_le (pos 0) milli

-- the whole number k where the parameter is 1000 k thousandths
abbrev pub whole_number : Param → Option ℕ
whole_number Unset = None
whole_number (Milli (negsuc n)) = None
whole_number (Milli (pos milli)) = if milli % MILLI == 0 then Some (milli / MILLI) else None

-- a seq and a number of repeats, where both are given and fit
abbrev pub jump_to : Option ℕ → Option ℕ → Option Jump
jump_to (Some target) (Some repeats) = if nat_le target 65535 && nat_le repeats 65535 then Some (record { target = target; repeats = repeats }) else None
jump_to _ _ = None

-- where a DO_JUMP leads and how often: none for another command, or where that is no whole number to 65535
abbrev pub jump_of : Item → Option Jump
jump_of item = if item.command == DO_JUMP then jump_to (whole_number item.p1) (whole_number item.p2) else None

-- how many vertices a vertex says its polygon has
abbrev pub vertex_count : Item → ℕ
vertex_count item = unwrap_or (whole_number item.p1) 0
