-- A text made of lines has those lines.
use Rattle.std.proofs.Common.{◌≡◌, ℕ, List, [], ◌∷◌, ◌++◌, map, refl, ◌∙◌, ap, arith, suc, append_assoc, get_or}
use Rattle.std.specs.Prelude.{All}
use Rattle.std.specs.List.{slice_split}
use Rattle.std.specs.Str.Lines.{lines_of_parts}
use Rattle.std.proofs.lemmas.List.Splits.{slice_split_at}
use Rattle.std.proofs.lemmas.Bool.{ne_eqb}
use Rattle.first_text.specs.Lines.{is_line_feed, lines_of}
use Rattle.first_text.specs.Joined.{text_of_lines, IsPlainLine}
use Rattle.first_text.proofs.LineSteps.{lines_cons}

-- one more line
pub text_more : (found : List (List ℕ)) (line : List ℕ) → text_of_lines (found ++ line ∷ []) ≡ (text_of_lines found ++ line) ++ 10 ∷ []
text_more [] line = refl
text_more (first ∷ more) line = ap (λ text. first ++ 10 ∷ text) (text_more more line) ∙ simp append_assoc

first_line : (line rest : List ℕ) → IsPlainLine line → lines_of (line ++ 10 ∷ rest) ≡ line ∷ lines_of rest
unfolding lines_of
first_line line rest plain =
    ap lines_of_parts (slice_split_at is_line_feed line 10 rest (λ k d h. ne_eqb (get_or line k d) 10 (plain.0 k d h)) refl)
    ∙ lines_cons line is_line_feed rest
    ∙ ap (λ piece. piece ∷ lines_of_parts (slice_split is_line_feed rest)) plain.1

-- the lines of a text made of plain lines
pub read_back : {A : Type 0} (view : A → List ℕ) (lines : List A) → All (λ line. IsPlainLine (view line)) lines → lines_of (text_of_lines (map view lines)) ≡ map view lines
unfolding lines_of
read_back view [] plain = refl
read_back view (line ∷ more) plain =
    first_line (view line) (text_of_lines (map view more)) (plain 0 line (omega arith))
    ∙ ap (λ found. view line ∷ found) (read_back view more (λ k d h. plain (suc k) d (omega arith)))
