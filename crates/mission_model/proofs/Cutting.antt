-- A fence cut into polygons, with one more vertex at its end.
use Rattle.std.proofs.Common.{◌≡◌, ℕ, zero, suc, ◌+◌, ◌-◌, ◌<◌, ◌≤◌, Bool, true, false, cond, List, [], ◌∷◌, ◌++◌, Some, None, find, length, take, drop, unwrap_or, nat_lt, refl, sym, ap, ◌∙◌, arith, length-append, length-drop, if◌then◌else◌, inl, inr}
use Rattle.std.proofs.lemmas.List.{take_all, drop_all, drop-append-le, length-take-le}
use Rattle.std.proofs.lemmas.Bool.{cases_lt}
use Rattle.std.proofs.lemmas.Bool.Decides.{nat_tests}
use Rattle.mission_model.specs.declared.plan.Item.{Item}
use Rattle.mission_model.specs.Command.{vertex_count}
use Rattle.mission_model.specs.PlanCode.{groups_within, lacks_vertices, open_polygon}

-- a group stays open while it lacks vertices
abbrev pub still_open : List Item → List Item
still_open group = if lacks_vertices group then group else []

-- the open one of the groups
abbrev open_of : List (List Item) → List Item
open_of groups = unwrap_or (find lacks_vertices groups) []

groups_within-nil : (cuts : ℕ) → groups_within cuts [] ≡ []
unfolding groups_within
groups_within-nil zero = refl
groups_within-nil (suc cuts) = refl

groups_within-cons : (cuts : ℕ) (first : Item) (rest : List Item) → groups_within (suc cuts) (first ∷ rest) ≡ (first ∷ take (vertex_count first - 1) rest) ∷ groups_within cuts (drop (vertex_count first - 1) rest)
unfolding groups_within
groups_within-cons cuts first rest = refl

find_first : {X : Type 0} (p : X → Bool) (x : X) (xs : List X) → p x ≡ true → find p (x ∷ xs) ≡ Some x
find_first p x xs h = rw h refl

find_later : {X : Type 0} (p : X → Bool) (x : X) (xs : List X) → p x ≡ false → find p (x ∷ xs) ≡ find p xs
find_later p x xs h = rw h refl

find_only : {X : Type 0} (p : List X → Bool) (x : List X) → unwrap_or (find p (x ∷ [])) [] ≡ cond (p x) x []
find_only p x = elim (p x) as (λ b. unwrap_or (cond b (Some x) None) [] ≡ cond b x []) [ true ↦ refl | false ↦ refl ]

lt_false : (a b : ℕ) → b ≤ a → nat_lt a b ≡ false
lt_false a b h = grind (arith, nat_tests)

lt_true : (a b : ℕ) → a < b → nat_lt a b ≡ true
lt_true a b h = grind (arith, nat_tests)

-- a group that is cut off whole is not open
whole_group : (first : Item) (rest : List Item) (groups : List (List Item)) → vertex_count first - 1 ≤ length rest → open_of ((first ∷ take (vertex_count first - 1) rest) ∷ groups) ≡ open_of groups
whole_group first rest groups h =
    ap (λ o. unwrap_or o []) (find_later lacks_vertices (first ∷ take (vertex_count first - 1) rest) groups
    (lt_false (length (take (vertex_count first - 1) rest) + 1) (vertex_count first) (omega (arith, length-take-le (vertex_count first - 1) rest h))))

-- vertices that are no more than the first one says are one group
one_group : (n : ℕ) (first : Item) (rest : List Item) → length rest ≤ vertex_count first - 1 → groups_within (suc n) (first ∷ rest) ≡ (first ∷ rest) ∷ []
one_group n first rest h =
    groups_within-cons n first rest ∙ cc (take_all (vertex_count first - 1) rest h, drop_all (vertex_count first - 1) rest h, groups_within-nil n)

-- the last group, one more vertex at its end
last_group : (n m : ℕ) (first : Item) (rest : List Item) (item : Item) → length rest < vertex_count first - 1 → open_of (groups_within (suc m) (first ∷ (rest ++ item ∷ []))) ≡ still_open (open_of (groups_within (suc n) (first ∷ rest)) ++ item ∷ [])
last_group n m first rest item h =
    let opened : open_of (groups_within (suc n) (first ∷ rest)) ≡ first ∷ rest =
    ap open_of (one_group n first rest (omega arith)) ∙ ap (λ o. unwrap_or o []) (find_first lacks_vertices (first ∷ rest) [] (lt_true (length rest + 1) (vertex_count first) (omega arith))) in
    ap open_of (one_group m first (rest ++ item ∷ []) (omega (arith, length-append rest (item ∷ []))))
    ∙ find_only lacks_vertices (first ∷ (rest ++ item ∷ []))
    ∙ sym (ap (λ g. still_open (g ++ item ∷ [])) opened)

pub open_of-append : (n m : ℕ) (items : List Item) (item : Item) → length items ≤ n → length items < m → open_of (groups_within m (items ++ item ∷ [])) ≡ still_open (open_of (groups_within n items) ++ item ∷ [])
open_of-append n zero items item h k = absurd (omega arith)
open_of-append n (suc m) [] item h k =
    ap open_of (one_group m item [] (omega arith)) ∙ find_only lacks_vertices (item ∷ []) ∙ sym (ap (λ g. still_open (open_of g ++ item ∷ [])) (groups_within-nil n))
open_of-append zero (suc m) (first ∷ rest) item h k = absurd (omega arith)
open_of-append (suc n) (suc m) (first ∷ rest) item h k = elim (cases_lt (length rest) (vertex_count first - 1)) [
  | inl short ↦ last_group n m first rest item short
  | inr whole ↦
      ap open_of (groups_within-cons m first (rest ++ item ∷ []))
      ∙ whole_group first (rest ++ item ∷ []) (groups_within m (drop (vertex_count first - 1) (rest ++ item ∷ []))) (omega (arith, length-append rest (item ∷ [])))
      ∙ ap (λ l. open_of (groups_within m l)) (drop-append-le (vertex_count first - 1) rest (item ∷ []) whole)
      ∙ open_of-append n m (drop (vertex_count first - 1) rest) item (omega (arith, length-drop (vertex_count first - 1) rest)) (omega (arith, length-drop (vertex_count first - 1) rest))
      ∙ sym (ap (λ g. still_open (g ++ item ∷ [])) (ap open_of (groups_within-cons n first rest) ∙ whole_group first rest (groups_within n (drop (vertex_count first - 1) rest)) whole))
]

-- the open polygon of a fence and one more vertex
pub open_polygon-append : (items : List Item) (item : Item) → open_polygon (items ++ item ∷ []) ≡ still_open (open_polygon items ++ item ∷ [])
open_polygon-append items item = open_of-append (length items) (length (items ++ item ∷ [])) items item (omega arith) (omega (arith, length-append items (item ∷ [])))

pub open_polygon-nil : open_polygon [] ≡ []
open_polygon-nil = ap open_of (groups_within-nil (length {A = Item} []))
