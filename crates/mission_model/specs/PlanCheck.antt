-- What a check of a plan, item by item, stands for.
use Rattle.std.specs.Prelude.{◌≡◌, ℕ, ◌+◌, ◌-◌, ◌<◌, ◌&&◌, List, [], ◌∷◌, ◌++◌, Option, Some, None, Result, Ok, Err, length, nat_le, nat_lt, ◌==◌, if◌then◌else◌}
use Rattle.mission_model.specs.declared.plan.PlanType.{PlanType}
use Rattle.mission_model.specs.declared.plan.PlanType.TheVariants.{Mission, Fence}
use Rattle.mission_model.specs.declared.plan.Item.{Item}
use Rattle.mission_model.specs.declared.message.AckCode.{AckCode}
use Rattle.mission_model.specs.declared.message.AckCode.TheVariants as ack
use Rattle.mission_model.specs.declared.plan_check.OpenPolygon.{OpenPolygon}
use Rattle.mission_model.specs.declared.plan_check.PlanCheck.{PlanCheck}
use Rattle.mission_model.specs.Command.{vertex_count}
use Rattle.mission_model.specs.ItemCode.{answer_of}
use Rattle.mission_model.specs.PlanCode.{PlanCode, Accepted, jumps_in, open_polygon, is_param}

-- what a check keeps of a polygon that lacks vertices: its first vertex, and how many are missing
abbrev pub kept_part : List Item → Option OpenPolygon
kept_part [] = None
kept_part (first ∷ rest) = Some (record { first = first; missing = vertex_count first - (length rest + 1) })

-- the check has accepted these items, one by one, of a plan of this type and count
pub record Checked (check : PlanCheck) (kind : PlanType) (count : ℕ) (items : List Item) : Type 0 where
  pub same_kind : check.kind ≡ kind
  pub same_count : check.count ≡ count
  pub taken : check.taken ≡ length items
  pub jumps : kind ≡ Mission → check.jumps ≡ jumps_in items
  pub polygon : kind ≡ Fence → check.polygon ≡ kept_part (open_polygon items)
  pub accepted : Accepted kind count items

-- fewer items were taken than the plan has
abbrev pub HasRoom : PlanCheck → Type 0
HasRoom check = check.taken < check.count

-- the number is how many items the check has accepted
abbrev pub CountsTaken : PlanCheck → ℕ → Type 0
CountsTaken check taken = (kind : PlanType) (count : ℕ) (items : List Item) → Checked check kind count items → taken ≡ length items

-- the answer to an item is its code after whatever items the check has accepted
abbrev pub AnswersByCode : PlanCheck → Item → Result (Unit {0}) AckCode → Type 0
AnswersByCode check item answer = (kind : PlanType) (count : ℕ) (items : List Item) → Checked check kind count items → answer ≡ answer_of (PlanCode kind count items item)

-- the new check has accepted this item after whatever items the old one has accepted
abbrev pub JoinsItem : PlanCheck → Item → PlanCheck → Type 0
JoinsItem old item new = (kind : PlanType) (count : ℕ) (items : List Item) → Checked old kind count items → Checked new kind count (items ++ item ∷ [])

-- an answer to the next item after these: its code, or a check that has accepted it as well
abbrev pub Takes : PlanType → ℕ → List Item → Item → Result PlanCheck AckCode → Type 0
Takes kind count items item (Ok check) = (PlanCode kind count items item ≡ None) × Checked check kind count (items ++ item ∷ [])
Takes kind count items item (Err code) = PlanCode kind count items item ≡ Some code

-- the answer to an item after whatever items the check has accepted
abbrev pub TakesItem : PlanCheck → Item → Result PlanCheck AckCode → Type 0
TakesItem check item answer = (kind : PlanType) (count : ℕ) (items : List Item) → Checked check kind count items → Takes kind count items item answer

-- the code of a vertex by what a check keeps of the polygon before it
abbrev pub vertex_code_by : Option OpenPolygon → ℕ → Item → Option AckCode
vertex_code_by None left item = if nat_le (vertex_count item) left then None else Some ack.Invalid
vertex_code_by (Some polygon) left item = if item.command == polygon.first.command && is_param item.p1 polygon.first.p1 then None else Some ack.Invalid

-- a polygon of which one more of the missing vertices has come
abbrev pub one_fewer : Item → ℕ → Option OpenPolygon
one_fewer first missing = if nat_lt 1 missing then Some (record { first = first; missing = missing - 1 }) else None

-- what is kept of a polygon once this vertex has come
abbrev pub polygon_with : Option OpenPolygon → Item → Option OpenPolygon
polygon_with None item = one_fewer item (vertex_count item)
polygon_with (Some polygon) item = one_fewer polygon.first polygon.missing
