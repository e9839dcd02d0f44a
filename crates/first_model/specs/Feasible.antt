-- Whether a mission is feasible: ten rules in their order, the first of them that is broken, and the first place that
-- breaks it. A rule is told by what breaks it: an item, with the items before it and after it in the mission. Two rules
-- ask something of the mission as a whole, and are broken at place 0.
use Rattle.std.specs.Prelude.{◌≡◌, ℕ, ◌+◌, ◌==◌, ℤ, pos, ◌-ℤ◌, Bool, false, not, ◌&&◌, ◌||◌, List, [], ◌∷◌, ◌++◌, Option, Some, None, is_some, length, slice_get, int_lt, if◌then◌else◌}
use Rattle.std.specs.List.{list_any}
use Rattle.std.specs.Ordering.{int_eq}
use Rattle.first_model.specs.declared.plan.Home.{Home}
use Rattle.first_model.specs.declared.plan.Item.{Item}
use Rattle.first_model.specs.declared.plan.Params.{Params}
use Rattle.first_model.specs.declared.command.Jump.{Jump}
use Rattle.first_model.specs.declared.command.TheConstants.{NAV_LOITER_UNLIM, NAV_TAKEOFF, FRAME_GLOBAL, FRAME_GLOBAL_RELATIVE_ALT, FRAME_GLOBAL_INT, FRAME_GLOBAL_RELATIVE_ALT_INT}
use Rattle.first_model.specs.Command.{has_position, jump_of}
use Rattle.first_model.specs.Fence.{is_allowed}
use Rattle.first_model.specs.Landing.{is_landing, is_land_start}

-- the item is a takeoff
abbrev pub is_takeoff : Item → Bool
is_takeoff item = item.command == NAV_TAKEOFF

-- the item is a loiter without an end
abbrev pub is_unlimited_loiter : Item → Bool
is_unlimited_loiter item = item.command == NAV_LOITER_UNLIM

-- heights of this frame are over the home
abbrev pub is_over_home : ℕ → Bool
is_over_home frame = frame == FRAME_GLOBAL_RELATIVE_ALT || frame == FRAME_GLOBAL_RELATIVE_ALT_INT

-- heights of this frame are over the sea
abbrev pub is_over_sea : ℕ → Bool
is_over_sea frame = frame == FRAME_GLOBAL || frame == FRAME_GLOBAL_INT

-- how far a height over the sea is over the home, where the home is set
abbrev pub less_home : Option Home → ℤ → Option ℤ
less_home None z = None
less_home (Some home) z = Some (z -ℤ home.z)

-- the height of an item over the home, where it has one
abbrev pub height_of : Option Home → Item → Option ℤ
height_of home item = if is_over_home item.frame then Some item.z else (if is_over_sea item.frame then less_home home item.z else None)

-- there is a height, and it is lower than this
abbrev pub is_lower : ℤ → Option ℤ → Bool
is_lower least None = false
is_lower least (Some height) = int_lt height least

-- there is a height, and it is higher than this
abbrev pub is_higher : ℤ → Option ℤ → Bool
is_higher greatest None = false
is_higher greatest (Some height) = int_lt greatest height

-- a parameter that is 0 asks nothing
abbrev pub is_asked : ℤ → Bool
is_asked limit = not (int_eq limit (pos 0))

-- the jump leads to this place
abbrev pub leads_to : ℕ → Option Jump → Bool
leads_to place None = false
leads_to place (Some jump) = jump.target == place

-- a jump of the mission leads to this place
abbrev pub is_jump_target : List Item → ℕ → Bool
is_jump_target mission place = list_any (λ item. leads_to place (jump_of item)) mission

-- there is an item, and it is a jump
abbrev pub is_jump : Option Item → Bool
is_jump None = false
is_jump (Some item) = is_some (jump_of item)

-- the jump leads to a jump of the mission
abbrev pub leads_to_jump : List Item → Option Jump → Bool
leads_to_jump mission None = false
leads_to_jump mission (Some jump) = is_jump (slice_get mission jump.target)

-- these begin with an item that is no land start
abbrev pub go_on_otherwise : List Item → Bool
go_on_otherwise [] = false
go_on_otherwise (next ∷ rest) = not (is_land_start next)

-- Rule 1, the mission has an item, is broken by none at all.
abbrev pub breaks_not_empty : List Item → Bool
breaks_not_empty mission = length mission == 0

-- Rule 2, the takeoff comes first, is broken by a takeoff that stands after an item with a position.
abbrev pub breaks_takeoff_first : List Item → Item → List Item → Bool
breaks_takeoff_first before item after = is_takeoff item && list_any has_position before

-- Rule 3, a takeoff reaches the least height that is asked, is broken by a takeoff with a lesser height.
abbrev pub breaks_takeoff_height : Params → Option Home → List Item → Item → List Item → Bool
breaks_takeoff_height params home before item after = is_asked params.takeoff_min && is_takeoff item && is_lower params.takeoff_min (height_of home item)

-- a takeoff, a landing, both of them, or both or neither: what is asked by this number, and is not met
abbrev pub lacks_asked : ℕ → Bool → Bool → Bool
lacks_asked asked takeoff landing =
    if asked == 1 then not takeoff
    else (if asked == 2 then not landing
    else (if asked == 3 then not (takeoff && landing)
    else (if asked == 4 then (takeoff && not landing) || (not takeoff && landing) else false)))

-- Rule 4, the mission has the takeoff and the landing that are asked, is broken by the lack of one.
abbrev pub breaks_takeoff_and_landing : Params → List Item → Bool
breaks_takeoff_and_landing params mission = lacks_asked params.tko_land (list_any is_takeoff mission) (list_any is_landing mission)

-- Rule 5, one land start and a landing after it, is broken by a land start that stands after another, or that no
-- landing stands after.
abbrev pub breaks_one_land_start : List Item → Item → List Item → Bool
breaks_one_land_start before item after = is_land_start item && (list_any is_land_start before || not (list_any is_landing after))

-- Rule 6, a jump's target is no jump, is broken by a jump to a jump.
abbrev pub breaks_jump_target : List Item → Item → List Item → Bool
breaks_jump_target before item after = leads_to_jump (before ++ item ∷ after) (jump_of item)

-- Rule 7, the fence allows each position, is broken by an item whose position it does not.
abbrev pub breaks_allowed : List Item → List Item → Item → List Item → Bool
breaks_allowed fence before item after = has_position item && not (is_allowed fence item.x item.y)

-- Rule 8, positions are at most as high as is asked, is broken by an item with a position and a greater height.
abbrev pub breaks_greatest_height : Params → Option Home → List Item → Item → List Item → Bool
breaks_greatest_height params home before item after = is_asked params.max_alt && has_position item && is_higher params.max_alt (height_of home item)

-- Rule 9, the home is set where heights are over it, is broken by an item with a position and such a height.
abbrev pub breaks_home_set : Option Home → List Item → Item → List Item → Bool
breaks_home_set home before item after = not (is_some home) && has_position item && is_over_home item.frame

-- Rule 10, a loiter without an end can be left, is broken by one whose next item is neither a land start nor the target
-- of a jump.
abbrev pub breaks_loiter_left : List Item → Item → List Item → Bool
breaks_loiter_left before item after = is_unlimited_loiter item && go_on_otherwise after && not (is_jump_target (before ++ item ∷ after) (length before + 1))

-- the same behind the items before
abbrev pub first_place_after : List Item → (List Item → Item → List Item → Bool) → List Item → Option ℕ
first_place_after before breaks [] = None
first_place_after before breaks (item ∷ after) = if breaks before item after then Some (length before) else first_place_after (before ++ item ∷ []) breaks after

-- the place of the first item that breaks a rule
abbrev pub first_place : (List Item → Item → List Item → Bool) → List Item → Option ℕ
first_place breaks mission = first_place_after [] breaks mission

-- place 0 where a rule on the whole mission is broken
abbrev pub at_start : Bool → Option ℕ
at_start broken = if broken then Some 0 else None

-- the first place that breaks each rule, in the order of the rules
abbrev pub broken_places : Params → Option Home → List Item → List Item → List (Option ℕ)
broken_places params home mission fence =
    at_start (breaks_not_empty mission) ∷
    first_place breaks_takeoff_first mission ∷
    first_place (breaks_takeoff_height params home) mission ∷
    at_start (breaks_takeoff_and_landing params mission) ∷
    first_place breaks_one_land_start mission ∷
    first_place breaks_jump_target mission ∷
    first_place (breaks_allowed fence) mission ∷
    first_place (breaks_greatest_height params home) mission ∷
    first_place (breaks_home_set home) mission ∷
    first_place breaks_loiter_left mission ∷ []

-- the first of some rules, numbered from this number on, that has a place, with its place
abbrev pub first_broken : ℕ → List (Option ℕ) → Option (ℕ × ℕ)
first_broken rule [] = None
first_broken rule (None ∷ places) = first_broken (rule + 1) places
first_broken rule (Some place ∷ places) = Some (rule, place)

-- the least broken rule, from 1 to 10, and the least place that breaks it
unfoldable pub FirstBroken : Params → Option Home → List Item → List Item → Option (ℕ × ℕ)
FirstBroken params home mission fence = first_broken 1 (broken_places params home mission fence)

-- no rule is broken
abbrev pub Feasible : Params → Option Home → List Item → List Item → Type 0
Feasible params home mission fence = FirstBroken params home mission fence ≡ None
