-- What a judge keeps of the items that it was shown, and what one more item makes of it.
use Rattle.std.specs.Prelude.{ℕ, ◌+◌, ◌==◌, nat_lt, Bool, false, not, ◌&&◌, ◌||◌, List, [], ◌∷◌, ◌++◌, length, Option, Some, None, is_some, if◌then◌else◌}
use Rattle.std.specs.List.{list_any}
use Rattle.mission_model.specs.declared.limits.TheConstants.{MAX_JUMPS}
use Rattle.mission_model.specs.declared.plan.Item.{Item}
use Rattle.mission_model.specs.declared.command.Jump.{Jump}
use Rattle.mission_model.specs.Command.{has_position, jump_of}
use Rattle.mission_model.specs.Landing.{is_landing, is_land_start}
use Rattle.mission_model.specs.Feasible.{is_takeoff, is_unlimited_loiter, go_on_otherwise}
use Rattle.feasibility.specs.declared.faults.Faults.{Faults}
use Rattle.feasibility.specs.declared.seen.Seen.{Seen}
use Rattle.feasibility.specs.declared.land_starts.LandStarts.{LandStarts}

-- the first place, or this place where there is none and its item breaks the rule
abbrev pub or_place : Option ℕ → Bool → ℕ → Option ℕ
or_place None breaks place = if breaks then Some place else None
or_place (Some first) breaks place = Some first

abbrev pub no_faults : Faults
no_faults = record { takeoff_first = None; takeoff_height = None; allowed = None; greatest_height = None; home_set = None }

abbrev pub nothing_seen : Seen
nothing_seen = record { position = false; takeoff = false; landing = false }

abbrev pub seen_with : Seen → Item → Seen
seen_with seen item = record { position = seen.position || has_position item; takeoff = seen.takeoff || is_takeoff item; landing = seen.landing || is_landing item }

abbrev pub no_land_starts : LandStarts
no_land_starts = record { first = None; second = None; landing = None }

-- the landing of the first land start, with one more item at this place
abbrev pub landing_with : Option (ℕ × ℕ) → Option ℕ → ℕ → Item → Option (ℕ × ℕ)
landing_with (Some landing) first place item = Some landing
landing_with None None place item = None
landing_with None (Some start) place item = if is_landing item then Some (start, place) else None

abbrev pub land_starts_with : LandStarts → ℕ → Item → LandStarts
land_starts_with starts place item = record {
  first = or_place starts.first (is_land_start item) place;
  second = or_place starts.second (is_land_start item && is_some starts.first) place;
  landing = landing_with starts.landing starts.first place item;
}

-- the first land start at fault: the second one, or the first one where it has no landing
abbrev pub fault_of : LandStarts → Option ℕ
fault_of starts = if is_some starts.landing then starts.second else starts.first

-- a land start that stands after another
abbrev pub is_second_land_start : List Item → Item → List Item → Bool
is_second_land_start before item after = is_land_start item && list_any is_land_start before

-- the jump at a place, with its target
abbrev pub jump_at : ℕ → Option Jump → List (ℕ × ℕ)
jump_at place None = []
jump_at place (Some jump) = (place, jump.target) ∷ []

-- the jump at a place before others
abbrev pub with_jump : ℕ → Option Jump → List (ℕ × ℕ) → List (ℕ × ℕ)
with_jump place None jumps = jumps
with_jump place (Some jump) jumps = (place, jump.target) ∷ jumps

-- the jumps among items that begin at this place, each with its target
abbrev pub jumps_from : ℕ → List Item → List (ℕ × ℕ)
jumps_from place [] = []
jumps_from place (item ∷ after) = with_jump place (jump_of item) (jumps_from (place + 1) after)

-- one of the jumps stands at this place
abbrev pub has_jump_at : List (ℕ × ℕ) → ℕ → Bool
has_jump_at jumps place = list_any (λ jump. jump.0 == place) jumps

-- one of the jumps leads to this place
abbrev pub has_target : List (ℕ × ℕ) → ℕ → Bool
has_target jumps place = list_any (λ jump. jump.1 == place) jumps

-- the place of the first of some jumps that leads to one of these jumps
abbrev pub first_to_jump : List (ℕ × ℕ) → List (ℕ × ℕ) → Option ℕ
first_to_jump jumps [] = None
first_to_jump jumps (jump ∷ rest) = if has_jump_at jumps jump.1 then Some jump.0 else first_to_jump jumps rest

-- a place before others, where it counts
abbrev pub with_place : Bool → ℕ → List ℕ → List ℕ
with_place counts place places = if counts then place ∷ places else places

-- the places of the loiters without an end whose next item is no land start, among items that begin at this place
abbrev pub stuck_from : ℕ → List Item → List ℕ
stuck_from place [] = []
stuck_from place (item ∷ after) = with_place (is_unlimited_loiter item && go_on_otherwise after) place (stuck_from (place + 1) after)

-- the place of the last item, where that one is a loiter without an end
abbrev pub last_loiter_from : ℕ → List Item → Option ℕ
last_loiter_from place [] = None
last_loiter_from place (item ∷ []) = or_place None (is_unlimited_loiter item) place
last_loiter_from place (item ∷ next ∷ after) = last_loiter_from (place + 1) (next ∷ after)

-- the loiter that was last, where the next item is no land start
abbrev pub stuck_with : Option ℕ → Item → List ℕ
stuck_with None next = []
stuck_with (Some place) next = if is_land_start next then [] else place ∷ []

-- the most loiters that a judge keeps: one more than the jumps that may let loiters out
abbrev pub most_loiters : ℕ
most_loiters = MAX_JUMPS + 1

-- the loiters kept so far, before one more
abbrev pub kept_with : List ℕ → List ℕ → List ℕ
kept_with kept more = if nat_lt (length kept) most_loiters then kept ++ more else kept

-- the first of these loiters whose next item no jump leads to
abbrev pub first_not_left : List (ℕ × ℕ) → List ℕ → Option ℕ
first_not_left jumps [] = None
first_not_left jumps (place ∷ rest) = if not (has_target jumps (place + 1)) then Some place else first_not_left jumps rest
