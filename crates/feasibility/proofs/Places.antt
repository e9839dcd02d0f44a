-- First places with one more item at the end.
use Rattle.std.proofs.Common.{◌≡◌, ℕ, ◌+◌, Bool, true, false, cond, ◌||◌, List, [], ◌∷◌, ◌++◌, Option, Some, None, is_some, length, refl, sym, ap, subst, ◌∙◌, arith, append_assoc, append-nil}
use Rattle.std.specs.List.{list_any, position_from}
use Rattle.std.proofs.lemmas.List.Folds.{list_any-append}
use Rattle.mission_model.specs.declared.plan.Item.{Item}
use Rattle.mission_model.specs.Feasible.{first_place, first_place_after}
use Rattle.feasibility.specs.SoFar.{or_place}

-- the rule does not look at the items after an item
abbrev pub IgnoresAfter : (List Item → Item → List Item → Bool) → Type 0
IgnoresAfter breaks = (before : List Item) (item : Item) (after : List Item) → breaks before item after ≡ breaks before item []

or_place-cond : (b : Bool) (n : ℕ) (rest more : Option ℕ) (last : Bool) (place : ℕ) → more ≡ or_place rest last place → cond b (Some n) more ≡ or_place (cond b (Some n) rest) last place
or_place-cond true n rest more last place h = refl
or_place-cond false n rest more last place h = h

first_place_after-push : (breaks : List Item → Item → List Item → Bool) → IgnoresAfter breaks → (before items : List Item) (item : Item) → first_place_after before breaks (items ++ item ∷ []) ≡ or_place (first_place_after before breaks items) (breaks (before ++ items) item []) (length (before ++ items))
first_place_after-push breaks ignores before [] item = ap (λ l. cond (breaks l item []) (Some (length l)) None) (sym (append-nil before))
first_place_after-push breaks ignores before (first ∷ items) item =
    ap (λ b. cond b (Some (length before)) (first_place_after (before ++ first ∷ []) breaks (items ++ item ∷ []))) (ignores before first (items ++ item ∷ []) ∙ sym (ignores before first items))
    ∙ or_place-cond (breaks before first items) (length before) (first_place_after (before ++ first ∷ []) breaks items) (first_place_after (before ++ first ∷ []) breaks (items ++ item ∷ [])) (breaks (before ++ first ∷ items) item []) (length (before ++ first ∷ items))
    (subst (λ l. first_place_after (before ++ first ∷ []) breaks (items ++ item ∷ []) ≡ or_place (first_place_after (before ++ first ∷ []) breaks items) (breaks l item []) (length l)) (append_assoc before (first ∷ []) items)
    (first_place_after-push breaks ignores (before ++ first ∷ []) items item))

-- the first place that breaks a rule, with one more item
pub first_place-push : (breaks : List Item → Item → List Item → Bool) → IgnoresAfter breaks → (items : List Item) (item : Item) → first_place breaks (items ++ item ∷ []) ≡ or_place (first_place breaks items) (breaks items item []) (length items)
first_place-push breaks ignores items item = first_place_after-push breaks ignores [] items item

or_nil : (b : Bool) → (b || false) ≡ b
or_nil true = refl
or_nil false = refl

-- a test of some item, with one more item
pub list_any-push : (test : Item → Bool) (items : List Item) (item : Item) → list_any test (items ++ item ∷ []) ≡ (list_any test items || test item)
list_any-push test items item = list_any-append test items (item ∷ []) ∙ ap (λ b. list_any test items || b) (or_nil (test item))

-- the first item that passes a test, with one more item
pub position_from-push : (test : Item → Bool) (place : ℕ) (items : List Item) (item : Item) → position_from test place (items ++ item ∷ []) ≡ or_place (position_from test place items) (test item) (place + length items)
position_from-push test place [] item =
    let same : place ≡ place + 0 = omega arith in
    ap (λ k. cond (test item) (Some k) None) same
position_from-push test place (first ∷ items) item =
    let same : place + 1 + length items ≡ place + length (first ∷ items) = omega arith in
    or_place-cond (test first) place (position_from test (place + 1) items) (position_from test (place + 1) (items ++ item ∷ [])) (test item) (place + length (first ∷ items))
    (position_from-push test (place + 1) items item ∙ ap (λ k. or_place (position_from test (place + 1) items) (test item) k) same)

is_some-cond : (b : Bool) (n : ℕ) (rest : Option ℕ) → is_some (cond b (Some n) rest) ≡ (b || is_some rest)
is_some-cond true n rest = refl
is_some-cond false n rest = refl

-- there is a first item where there is any
pub is_some-position_from : (test : Item → Bool) (place : ℕ) (items : List Item) → is_some (position_from test place items) ≡ list_any test items
is_some-position_from test place [] = refl
is_some-position_from test place (item ∷ items) = is_some-cond (test item) place (position_from test (place + 1) items) ∙ ap (λ b. test item || b) (is_some-position_from test (place + 1) items)
