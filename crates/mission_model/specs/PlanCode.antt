-- The code of an item at its place in a plan, and what a valid plan is.
use Rattle.std.specs.Prelude.{◌≡◌, ℕ, zero, suc, ◌+◌, ◌-◌, ◌≤◌, Bool, true, false, not, ◌&&◌, List, [], ◌∷◌, Option, Some, None, length, take, drop, find, count_by, is_some, unwrap_or, slice_get, nat_le, nat_lt, ◌==◌, if◌then◌else◌}
use Rattle.std.specs.Ordering.{int_eq}
use Rattle.mission_model.specs.declared.limits.TheConstants.{MAX_JUMPS}
use Rattle.mission_model.specs.declared.plan.PlanType.{PlanType}
use Rattle.mission_model.specs.declared.plan.PlanType.TheVariants.{Mission, Fence, Safe}
use Rattle.mission_model.specs.declared.plan.Param.{Param}
use Rattle.mission_model.specs.declared.plan.Param.TheVariants.{Unset, Milli}
use Rattle.mission_model.specs.declared.plan.Item.{Item}
use Rattle.mission_model.specs.declared.message.AckCode.{AckCode}
use Rattle.mission_model.specs.declared.message.AckCode.TheVariants as ack
use Rattle.mission_model.specs.declared.command.Jump.{Jump}
use Rattle.mission_model.specs.Command.{jump_of, vertex_count}
use Rattle.mission_model.specs.ItemCode.{ItemCode}
pub use Rattle.mission_model.specs.PlanTypes.{limit_of}

-- how many of the items are jumps
abbrev pub jumps_in : List Item → ℕ
jumps_in items = count_by (λ item. is_some (jump_of item)) items

-- a jump has room among the jumps so far, and leads to another item of the plan
abbrev pub jump_code_at : ℕ → ℕ → ℕ → Option Jump → Option AckCode
jump_code_at count place jumps None = None
jump_code_at count place jumps (Some jump) =
    if nat_le MAX_JUMPS jumps then Some ack.NoSpace else (if nat_lt jump.target count && not (jump.target == place) then None else Some ack.Invalid)

-- the code of a mission item among those before it
abbrev pub jump_code : ℕ → List Item → Item → Option AckCode
jump_code count items item = jump_code_at count (length items) (jumps_in items) (jump_of item)

-- a list of vertices cut into groups: the first vertex with as many after it as it says, and so on; the last group may lack vertices
unfoldable pub groups_within : ℕ → List Item → List (List Item)
groups_within cuts [] = []
groups_within zero (first ∷ rest) = []
groups_within (suc cuts) (first ∷ rest) = (first ∷ take (vertex_count first - 1) rest) ∷ groups_within cuts (drop (vertex_count first - 1) rest)

-- the polygons of a fence, found by cutting its list
abbrev pub polygons_of : List Item → List (List Item)
polygons_of items = groups_within (length items) items

-- the polygon has fewer vertices than its first one says
abbrev pub lacks_vertices : List Item → Bool
lacks_vertices [] = false
lacks_vertices (first ∷ rest) = nat_lt (length rest + 1) (vertex_count first)

-- the polygon that lacks vertices, or an empty one
abbrev pub open_polygon : List Item → List Item
open_polygon items = unwrap_or (find lacks_vertices (polygons_of items)) []

-- two parameters are the same
abbrev pub is_param : Param → Param → Bool
is_param Unset Unset = true
is_param (Milli a) (Milli b) = int_eq a b
is_param _ _ = false

-- a vertex that begins a polygon says no more vertices than are left; one within a polygon has the command and param1 of the first
abbrev pub vertex_code_in : List Item → ℕ → Item → Option AckCode
vertex_code_in [] left item = if nat_le (vertex_count item) left then None else Some ack.Invalid
vertex_code_in (first ∷ rest) left item = if item.command == first.command && is_param item.p1 first.p1 then None else Some ack.Invalid

-- the code of a fence vertex among those before it
abbrev pub vertex_code : ℕ → List Item → Item → Option AckCode
vertex_code count items item = vertex_code_in (open_polygon items) (count - length items) item

-- the code that an item has for its place
abbrev pub place_code : PlanType → ℕ → List Item → Item → Option AckCode
place_code Mission count items item = jump_code count items item
place_code Fence count items item = vertex_code count items item
place_code Safe count items item = None

-- the first code, or else the second
abbrev pub code_or : Option AckCode → Option AckCode → Option AckCode
code_or (Some code) other = Some code
code_or None other = other

-- the code of an item as the next one after the accepted items in a plan of this many items: its own first, then that of its place
unfoldable pub PlanCode : PlanType → ℕ → List Item → Item → Option AckCode
PlanCode kind count items item = code_or (ItemCode kind item) (place_code kind count items item)

-- no item has a code after the ones before it, in a plan of this many items
abbrev pub Accepted : PlanType → ℕ → List Item → Type 0
Accepted kind count items = (place : ℕ) (item : Item) → slice_get items place ≡ Some item → PlanCode kind count (take place items) item ≡ None

-- a plan is within its limit, and none of its items has a code
pub record PlanValid (kind : PlanType) (items : List Item) : Type 0 where
  pub within : length items ≤ limit_of kind
  pub accepted : Accepted kind (length items) items

-- the first item that has a code in a plan of this many items, and its code
pub record FirstRefused (kind : PlanType) (items : List Item) (place : ℕ) (code : AckCode) : Type 0 where
  pub before : Accepted kind (length items) (take place items)
  pub refused : (item : Item) × (slice_get items place ≡ Some item) × (PlanCode kind (length items) (take place items) item ≡ Some code)
