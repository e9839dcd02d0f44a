-- What a check knows of the items that it has accepted is what the definitions say of the list.
use Rattle.std.proofs.Common.{◌≡◌, ℕ, ◌+◌, ◌-◌, Bool, true, false, cond, List, [], ◌∷◌, ◌++◌, Option, Some, None, Ok, Err, length, nat_lt, is_some, refl, sym, ap, ◌∙◌, arith, length-append, zero-add, if◌then◌else◌}
use Rattle.std.proofs.lemmas.List.Sums.{sum_by-append}
use Rattle.std.proofs.lemmas.Bool.Decides.{nat_tests}
use Rattle.mission_model.specs.declared.plan.PlanType.{PlanType}
use Rattle.mission_model.specs.declared.plan.PlanType.TheVariants.{Mission, Fence, Safe}
use Rattle.mission_model.specs.declared.plan.Item.{Item}
use Rattle.mission_model.specs.declared.message.AckCode.{AckCode}
use Rattle.mission_model.specs.declared.plan_check.OpenPolygon.{OpenPolygon}
use Rattle.mission_model.specs.declared.plan_check.PlanCheck.{PlanCheck}
use Rattle.mission_model.specs.Command.{jump_of, vertex_count}
use Rattle.mission_model.specs.ItemCode.{ItemCode, answer_of}
use Rattle.mission_model.specs.PlanCode.{PlanCode, jumps_in, jump_code_at, open_polygon, vertex_code_in, code_or}
use Rattle.mission_model.specs.PlanCheck.{Checked, kept_part, vertex_code_by, polygon_with}
use Rattle.mission_model.specs.AcceptedMore.{Accepted-append}
use Rattle.mission_model.proofs.Cutting.{still_open, open_polygon-nil, open_polygon-append}

-- the code of a vertex by what is kept of the polygon
vertex_code-kept : (polygon : List Item) (left : ℕ) (item : Item) → vertex_code_in polygon left item ≡ vertex_code_by (kept_part polygon) left item
vertex_code-kept [] left item = refl
vertex_code-kept (first ∷ rest) left item = refl

kept_part-if : (b : Bool) (first : Item) (rest : List Item) → kept_part (cond b (first ∷ rest) []) ≡ cond b (Some (record { first = first; missing = vertex_count first - (length rest + 1) })) None
kept_part-if true first rest = refl
kept_part-if false first rest = refl

length_grown : (rest : List Item) (item : Item) → length (rest ++ item ∷ []) ≡ length rest + 1
length_grown rest item = length-append rest (item ∷ [])

lt_less : (n v : ℕ) → nat_lt (n + 1 + 1) v ≡ nat_lt 1 (v - (n + 1))
lt_less n v = grind (arith, nat_tests)

sub_less : (n v : ℕ) → v - (n + 1 + 1) ≡ v - (n + 1) - 1
sub_less n v = omega arith

-- what is kept of a polygon with one more vertex
kept_part-grown : (polygon : List Item) (item : Item) → kept_part (still_open (polygon ++ item ∷ [])) ≡ polygon_with (kept_part polygon) item
kept_part-grown [] item = kept_part-if (nat_lt 1 (vertex_count item)) item []
kept_part-grown (first ∷ rest) item =
    kept_part-if (nat_lt (length (rest ++ item ∷ []) + 1) (vertex_count first)) first (rest ++ item ∷ [])
    ∙ ap (λ n. cond (nat_lt (n + 1) (vertex_count first)) (Some (record { first = first; missing = vertex_count first - (n + 1) })) None) (length_grown rest item)
    ∙ ap (λ b. cond b (Some (record { first = first; missing = vertex_count first - (length rest + 1 + 1) })) None) (lt_less (length rest) (vertex_count first))
    ∙ ap (λ n. cond (nat_lt 1 (vertex_count first - (length rest + 1))) (Some (record { first = first; missing = n })) None) (sub_less (length rest) (vertex_count first))

jumps_in-append : (items : List Item) (item : Item) → jumps_in (items ++ item ∷ []) ≡ jumps_in items + (if is_some (jump_of item) then 1 else 0)
jumps_in-append items item = sum_by-append (λ x. if is_some (jump_of x) then 1 else 0) items (item ∷ []) ∙ ap (λ n. jumps_in items + n) (zero-add (if is_some (jump_of item) then 1 else 0))

-- the code that an item has for its place, by the fields of a check
abbrev code_here : PlanType → PlanCheck → Item → Option AckCode
code_here Mission check item = jump_code_at check.count check.taken check.jumps (jump_of item)
code_here Fence check item = vertex_code_by check.polygon (check.count - check.taken) item
code_here Safe check item = None

PlanCode-checked : (kind : PlanType) (check : PlanCheck) (count : ℕ) (items : List Item) (item : Item) → Checked check kind count items → PlanCode kind count items item ≡ code_or (ItemCode kind item) (code_here kind check item)
unfolding PlanCode
PlanCode-checked Mission check count items item h = ap (code_or (ItemCode Mission item)) (
    ap (λ n. jump_code_at n (length items) (jumps_in items) (jump_of item)) (sym h.same_count)
    ∙ ap (λ n. jump_code_at check.count n (jumps_in items) (jump_of item)) (sym h.taken)
    ∙ ap (λ n. jump_code_at check.count check.taken n (jump_of item)) (sym (h.jumps refl)))
PlanCode-checked Fence check count items item h = ap (code_or (ItemCode Fence item)) (
    vertex_code-kept (open_polygon items) (count - length items) item
    ∙ ap (λ p. vertex_code_by p (count - length items) item) (sym (h.polygon refl))
    ∙ ap (λ n. vertex_code_by check.polygon (n - length items) item) (sym h.same_count)
    ∙ ap (λ n. vertex_code_by check.polygon (check.count - n) item) (sym h.taken))
PlanCode-checked Safe check count items item h = refl

passed : (code : Option AckCode) → answer_of code ≡ Ok tt → code ≡ None
passed None h = refl
passed (Some code) h = absurd cc

pub failed : (code : Option AckCode) (other : AckCode) → answer_of code ≡ Err other → code ≡ Some other
failed None other h = absurd cc
failed (Some code) other h = cc

not_fence : Mission ≡ Fence → ⊥
not_fence h = cc

not_mission : Safe ≡ Mission → ⊥
not_mission h = cc

not_fence_either : Safe ≡ Fence → ⊥
not_fence_either h = cc

-- the item is refused by itself
pub item_refused : (check : PlanCheck) (kind : PlanType) (count : ℕ) (items : List Item) (item : Item) (code : AckCode) → Checked check kind count items → answer_of (ItemCode check.kind item) ≡ Err code → PlanCode kind count items item ≡ Some code
item_refused check kind count items item code h answer =
    PlanCode-checked kind check count items item h ∙ ap (λ c. code_or c (code_here kind check item)) (ap (λ k. ItemCode k item) (sym h.same_kind) ∙ failed (ItemCode check.kind item) code answer)

-- the item passes by itself: its code is that of its place
pub item_passed : (check : PlanCheck) (kind here : PlanType) (count : ℕ) (items : List Item) (item : Item) → Checked check kind count items → check.kind ≡ here → answer_of (ItemCode check.kind item) ≡ Ok tt → PlanCode kind count items item ≡ code_here here check item
item_passed check kind here count items item h is answer =
    PlanCode-checked kind check count items item h ∙ ap (λ c. code_or c (code_here kind check item)) (ap (λ k. ItemCode k item) (sym h.same_kind) ∙ passed (ItemCode check.kind item) answer) ∙ ap (λ k. code_here k check item) (sym h.same_kind ∙ is)

-- one more item, in a mission
pub mission_taken : (check : PlanCheck) (kind : PlanType) (count : ℕ) (items : List Item) (item : Item) (jumps : ℕ) → Checked check kind count items → check.kind ≡ Mission → PlanCode kind count items item ≡ None → jumps ≡ check.jumps + (if is_some (jump_of item) then 1 else 0) → Checked (record check { taken = check.taken + 1; jumps = jumps }) kind count (items ++ item ∷ [])
mission_taken check kind count items item jumps h is none more = record {
  same_kind = h.same_kind;
  same_count = h.same_count;
  taken = ap (λ n. n + 1) h.taken ∙ sym (length_grown items item);
  jumps = λ k. more ∙ ap (λ n. n + (if is_some (jump_of item) then 1 else 0)) (h.jumps k) ∙ sym (jumps_in-append items item);
  polygon = λ k. absurd (not_fence (sym is ∙ h.same_kind ∙ k));
  accepted = Accepted-append kind count items item h.accepted none;
}

-- one more vertex, in a fence
pub vertex_taken : (check : PlanCheck) (kind : PlanType) (count : ℕ) (items : List Item) (item : Item) (polygon : Option OpenPolygon) → Checked check kind count items → check.kind ≡ Fence → PlanCode kind count items item ≡ None → polygon ≡ polygon_with check.polygon item → Checked (record check { taken = check.taken + 1; polygon = polygon }) kind count (items ++ item ∷ [])
vertex_taken check kind count items item polygon h is none more = record {
  same_kind = h.same_kind;
  same_count = h.same_count;
  taken = ap (λ n. n + 1) h.taken ∙ sym (length_grown items item);
  jumps = λ k. absurd (not_fence (sym (sym is ∙ h.same_kind ∙ k)));
  polygon = λ k. more ∙ ap (λ p. polygon_with p item) (h.polygon k) ∙ sym (ap kept_part (open_polygon-append items item) ∙ kept_part-grown (open_polygon items) item);
  accepted = Accepted-append kind count items item h.accepted none;
}

-- one more safe point
pub point_taken : (check : PlanCheck) (kind : PlanType) (count : ℕ) (items : List Item) (item : Item) → Checked check kind count items → check.kind ≡ Safe → PlanCode kind count items item ≡ None → Checked (record check { taken = check.taken + 1 }) kind count (items ++ item ∷ [])
point_taken check kind count items item h is none = record {
  same_kind = h.same_kind;
  same_count = h.same_count;
  taken = ap (λ n. n + 1) h.taken ∙ sym (length_grown items item);
  jumps = λ k. absurd (not_mission (sym is ∙ h.same_kind ∙ k));
  polygon = λ k. absurd (not_fence_either (sym is ∙ h.same_kind ∙ k));
  accepted = Accepted-append kind count items item h.accepted none;
}

-- no item yet
pub begun : (kind : PlanType) (count : ℕ) → Checked (record { kind = kind; count = count; taken = 0; jumps = 0; polygon = None }) kind count []
begun kind count = record {
  same_kind = refl;
  same_count = refl;
  taken = refl;
  jumps = λ k. refl;
  polygon = λ k. sym (ap kept_part open_polygon-nil);
  accepted = λ place item h. absurd cc;
}
