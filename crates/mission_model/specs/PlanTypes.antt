-- The three plan types in one table: the number of each in a message, the most items of a plan of it, and its place in a
-- list of heads.
use Rattle.std.specs.Prelude.{ℕ, ◌==◌, Bool, true, false, List, [], ◌∷◌, Option, Some, None, slice_index_or, if◌then◌else◌}
use Rattle.mission_model.specs.declared.limits.TheConstants.{MAX_MISSION_ITEMS, MAX_FENCE_VERTICES, MAX_SAFE_POINTS}
use Rattle.mission_model.specs.declared.plan.PlanHead.{PlanHead}
use Rattle.mission_model.specs.declared.plan.PlanType.{PlanType}
use Rattle.mission_model.specs.declared.plan.PlanType.TheVariants.{Mission, Fence, Safe}
use Rattle.mission_model.specs.declared.plan_type.TheConstants.{ALL_TYPES}

-- the number of a type in a message, that of MAV_MISSION_TYPE
abbrev pub number_of : PlanType → ℕ
number_of Mission = 0
number_of Fence = 1
number_of Safe = 2

-- the most items of a plan of this type
abbrev pub limit_of : PlanType → ℕ
limit_of Mission = MAX_MISSION_ITEMS
limit_of Fence = MAX_FENCE_VERTICES
limit_of Safe = MAX_SAFE_POINTS

-- the place of a type in a list with one entry for each type
abbrev pub place_of : PlanType → ℕ
place_of Mission = 0
place_of Fence = 1
place_of Safe = 2

-- two plan types are the same
abbrev pub is_kind : PlanType → PlanType → Bool
is_kind Mission Mission = true
is_kind Fence Fence = true
is_kind Safe Safe = true
is_kind _ _ = false

-- the head of a type among three heads
abbrev pub head_of : List PlanHead → PlanType → PlanHead
head_of heads kind = slice_index_or heads (place_of kind) (record { id = 0; count = 0 })

-- the type with this number, if any has it
abbrev pub type_of : ℕ → Option PlanType
type_of number = if number == 0 then Some Mission else (if number == 1 then Some Fence else (if number == 2 then Some Safe else None))

-- none or one
abbrev pub listed : Option PlanType → List PlanType
listed None = []
listed (Some kind) = kind ∷ []

-- the types that a number in a message names, in order: one of them, or all
abbrev pub types_named : ℕ → List PlanType
types_named number = if number == ALL_TYPES then Mission ∷ Fence ∷ Safe ∷ [] else listed (type_of number)

-- the type behind this one in the table
abbrev pub type_after : PlanType → Option PlanType
type_after Mission = Some Fence
type_after Fence = Some Safe
type_after Safe = None
