-- Where a mission lands: its land start, and the landing that belongs to it.
use Rattle.std.specs.Prelude.{ℕ, ◌+◌, ◌==◌, Bool, List, [], ◌∷◌, Option, None, if◌then◌else◌}
use Rattle.std.specs.List.{position_from}
use Rattle.std.specs.Option.{option_map}
use Rattle.first_model.specs.declared.plan.Item.{Item}
use Rattle.first_model.specs.declared.command.TheConstants.{NAV_LAND, DO_LAND_START}

-- the item is a landing
abbrev pub is_landing : Item → Bool
is_landing item = item.command == NAV_LAND

-- the item begins the way to a landing
abbrev pub is_land_start : Item → Bool
is_land_start item = item.command == DO_LAND_START

-- the same in items that begin at this place of the mission
abbrev pub landing_from : ℕ → List Item → Option (ℕ × ℕ)
landing_from place [] = None
landing_from place (item ∷ after) = if is_land_start item then option_map (λ landing. (place, landing)) (position_from is_landing (place + 1) after) else landing_from (place + 1) after

-- the places of the first land start and of the first landing after it; none where one of them is missing
abbrev pub landing_of : List Item → Option (ℕ × ℕ)
landing_of mission = landing_from 0 mission
