-- Where a return leads: the list of its targets, which the parameter rtl_type chooses among the home, the safe points and
-- the mission. Places are told by latitude x and longitude y in 1e-7 degree.
use Rattle.std.specs.Prelude.{ℕ, suc, zero, ◌+◌, ◌-◌, ℤ, pos, ◌+ℤ◌, ◌-ℤ◌, Bool, true, false, ◌&&◌, List, [], ◌∷◌, ◌++◌, reverse, Option, Some, None, find, filter_map, nat_lt, ◌==◌, int_le, unsigned_abs, is_none, if◌then◌else◌}
use Rattle.std.specs.Int.{int_min}
use Rattle.std.specs.List.{list_all, enumerate_from}
use Rattle.first_model.specs.declared.plan.Item.{Item}
use Rattle.first_model.specs.declared.plan.Home.{Home}
use Rattle.first_model.specs.declared.plan.Params.{Params}
use Rattle.first_model.specs.Command.{has_position}
use Rattle.first_model.specs.Fence.{is_allowed}
use Rattle.first_model.specs.Feasible.{FirstBroken}
use Rattle.first_model.specs.Landing.{landing_of}
use Rattle.first_model.specs.Legs.{is_leg}

-- a target of a return: the mission's item of this seq, the home, or the safe point of this seq
pub data ReturnTarget : Type 0 where
  to_item : ℕ → ReturnTarget
  to_home : ReturnTarget
  to_safe : ℕ → ReturnTarget

-- 360 degrees
abbrev pub full_turn : ℕ
full_turn = 3600000000

-- a difference of longitudes, or what it lacks to a full turn, whichever is less
abbrev pub shorter_way : ℤ → ℤ
shorter_way difference = int_min difference (pos full_turn -ℤ difference)

-- how far the vehicle is from a place: the difference of latitude and the shorter one of longitude, which is no distance. It is
-- 0 from an unknown position
abbrev pub measure_to : Option (ℤ × ℤ) → ℤ → ℤ → ℤ
measure_to None x y = pos 0
measure_to (Some position) x y = pos (unsigned_abs (position.0 -ℤ x)) +ℤ shorter_way (pos (unsigned_abs (position.1 -ℤ y)))

-- a target, and how far it is
pub record Candidate : Type 0 where
  pub measure : ℤ
  pub target : ReturnTarget

-- the home, where it is set
abbrev pub home_candidate : Option (ℤ × ℤ) → Option Home → List Candidate
home_candidate position None = []
home_candidate position (Some place) = record { measure = measure_to position place.x place.y; target = to_home } ∷ []

-- a safe point, where the fence allows it
abbrev pub safe_candidate : Option (ℤ × ℤ) → List Item → ℕ × Item → Option Candidate
safe_candidate position fence (seq, point) = if is_allowed fence point.x point.y then Some (record { measure = measure_to position point.x point.y; target = to_safe seq }) else None

-- what a return of type 0 may lead to: the home first, then the safe points in their order
unfoldable pub candidates : Option (ℤ × ℤ) → Option Home → List Item → List Item → List Candidate
candidates position place fence points = home_candidate position place ++ filter_map (safe_candidate position fence) (enumerate_from 0 points)

-- no candidate is nearer than this one
abbrev pub is_nearest : List Candidate → Candidate → Bool
is_nearest others candidate = list_all (λ other. int_le candidate.measure other.measure) others

-- the first of these to which none is nearer
unfoldable pub nearest : List Candidate → Option Candidate
nearest others = find (is_nearest others) others

-- so many items of the mission from this seq on
abbrev pub items_from : ℕ → ℕ → List ReturnTarget
items_from seq zero = []
items_from seq (suc more) = to_item seq ∷ items_from (seq + 1) more

-- the items of the mission from this seq to that one, both included
abbrev pub items_to : ℕ → ℕ → List ReturnTarget
items_to first last = items_from first (last + 1 - first)

-- the items of the mission before this index, the last of them first
abbrev pub items_back : ℕ → List ReturnTarget
items_back index = reverse (items_from 0 index)

-- the home, where it is set
abbrev pub home_target : Option Home → List ReturnTarget
home_target None = []
home_target (Some place) = to_home ∷ []

-- the one target of a candidate
abbrev pub target_of : Option Candidate → List ReturnTarget
target_of None = []
target_of (Some candidate) = candidate.target ∷ []

-- a return of type 1: from behind the land start to the landing, or else to the home
abbrev pub landing_targets : Option Home → Option (ℕ × ℕ) → List ReturnTarget
landing_targets place (Some (start, landing)) = items_to (start + 1) landing
landing_targets place None = home_target place

-- a return of type 2: on to the landing, or else back along a feasible mission, and home
abbrev pub mission_targets : Option Home → Option (ℕ × ℕ) → Bool → ℕ → List ReturnTarget
mission_targets place (Some (start, landing)) feasible index = if nat_lt landing index then to_item landing ∷ [] else items_to index landing
mission_targets place None true index = items_back index ++ home_target place
mission_targets place None false index = home_target place

-- the targets of a return by its type, over a mission that is feasible or not and has this landing
abbrev pub targets_by : ℕ → Option (ℤ × ℤ) → Option Home → List Item → List Item → Option (ℕ × ℕ) → Bool → ℕ → List ReturnTarget
targets_by rtl_type position place fence points landing feasible index =
    if rtl_type == 0 then target_of (nearest (candidates position place fence points))
    else (if rtl_type == 1 then landing_targets place landing else mission_targets place landing feasible index)

-- the landing that counts: none of a mission that is not feasible
abbrev pub landing_where : Bool → List Item → Option (ℕ × ℕ)
landing_where feasible mission = if feasible then landing_of mission else None

-- no rule is broken
abbrev pub is_feasible : Params → Option Home → List Item → List Item → Bool
is_feasible params place mission fence = is_none (FirstBroken params place mission fence)

-- the targets of a return, with these safe points, over this mission and with this fence, at this index
unfoldable pub ReturnList : Params → Option Home → Option (ℤ × ℤ) → List Item → List Item → List Item → ℕ → List ReturnTarget
ReturnList params place position points mission fence index =
    targets_by params.rtl_type position place fence points (landing_where (is_feasible params place mission fence) mission) (is_feasible params place mission fence) index

-- a return along the mission flies to this item: it is a leg and has a position. It skips any other
unfoldable pub is_return_leg : Item → Bool
is_return_leg item = is_leg item.command && has_position item
