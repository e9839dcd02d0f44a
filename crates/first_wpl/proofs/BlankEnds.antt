-- Lines without the blank ones at their end.
use Rattle.std.proofs.Common.{◌≡◌, ℕ, ◌+◌, ◌-◌, ◌<◌, ◌≤◌, Bool, true, false, List, [], ◌∷◌, ◌++◌, length, take, get_or, cond, refl, ◌∙◌, ap, arith, map}
use Rattle.std.proofs.lemmas.List.{take_more, map_push}
use Rattle.std.specs.Prelude.{◌&&◌}
use Rattle.std.specs.List.{list_all}
use Rattle.first_wpl.specs.Wpl.{is_blank_line, without_blank_end}

-- whether all lines are blank, with one more at the end
all_more : (lines : List (List ℕ)) (line : List ℕ) → list_all is_blank_line (lines ++ line ∷ []) ≡ (list_all is_blank_line lines && is_blank_line line)
all_more [] line = elim (is_blank_line line) as (λ b. (b && true) ≡ b) [ true ↦ refl | false ↦ refl ]
all_more (first ∷ more) line = elim (is_blank_line first) as (λ b. (b && list_all is_blank_line (more ++ line ∷ [])) ≡ ((b && list_all is_blank_line more) && is_blank_line line))
    [ true ↦ all_more more line | false ↦ refl ]

and_true : (b : Bool) → (b && true) ≡ b
and_true true = refl
and_true false = refl

and_false : (b : Bool) → (b && false) ≡ false
and_false true = refl
and_false false = refl

-- a blank line at the end goes
pub blank_goes : (lines : List (List ℕ)) (line : List ℕ) → is_blank_line line ≡ true → without_blank_end (lines ++ line ∷ []) ≡ without_blank_end lines
blank_goes [] line blank = ap (λ b. cond (b && true) [] (line ∷ [])) blank
blank_goes (first ∷ more) line blank =
    ap (λ b. cond b [] (first ∷ without_blank_end (more ++ line ∷ [])))
    (all_more (first ∷ more) line ∙ ap (λ b. (list_all is_blank_line (first ∷ more)) && b) blank ∙ and_true (list_all is_blank_line (first ∷ more)))
    ∙ ap (λ rest. cond (list_all is_blank_line (first ∷ more)) [] (first ∷ rest)) (blank_goes more line blank)

-- another line stays, with all before it
pub row_stays : (lines : List (List ℕ)) (line : List ℕ) → is_blank_line line ≡ false → without_blank_end (lines ++ line ∷ []) ≡ lines ++ line ∷ []
row_stays [] line row = ap (λ b. cond (b && true) [] (line ∷ [])) row
row_stays (first ∷ more) line row =
    ap (λ b. cond b [] (first ∷ without_blank_end (more ++ line ∷ [])))
    (all_more (first ∷ more) line ∙ ap (λ b. (list_all is_blank_line (first ∷ more)) && b) row ∙ and_false (list_all is_blank_line (first ∷ more)))
    ∙ ap (λ rest. first ∷ rest) (row_stays more line row)

-- the last of the first spans
pub last_of : {A B : Type 0} (f : A → B) (spans : List A) (count : ℕ) (d : A) → 0 < count → count ≤ length spans
    → map f (take count spans) ≡ map f (take (count - 1) spans) ++ f (get_or spans (count - 1) d) ∷ []
last_of f spans count d some within =
    let same : count ≡ count - 1 + 1 = omega arith in
    ap (λ n. map f (take n spans)) same ∙ ap (map f) (take_more spans (count - 1) d (omega arith)) ∙ map_push f (take (count - 1) spans) (get_or spans (count - 1) d)
