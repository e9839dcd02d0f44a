-- How what a loop has found goes on by one more.
use Rattle.std.proofs.Common.{◌≡◌, ℕ, ◌≤◌, List, [], ◌∷◌, ◌++◌, map, sym, ◌∙◌, ap, arith, append_assoc, zero, suc, length}
use Rattle.std.proofs.lemmas.List.{map_push}
use Rattle.nav_text.specs.declared.span.Span.{Span}
use Rattle.std.specs.Prelude.{All}
use Rattle.nav_text.specs.Spans.{Rising, IsInside}

-- what was found, and what is left
pub one_more : {A : Type 0} (found : List A) (x : A) (left rest whole : List A) → found ++ left ≡ whole → left ≡ x ∷ rest → (found ++ x ∷ []) ++ rest ≡ whole
one_more found x left rest whole h e = append_assoc found (x ∷ []) rest ∙ ap (λ r. found ++ r) (sym e) ∙ h

pub one_more_mapped : {A B : Type 0} (f : A → B) (found : List A) (x : A) (left rest whole : List B) → map f found ++ left ≡ whole → left ≡ f x ∷ rest → map f (found ++ x ∷ []) ++ rest ≡ whole
one_more_mapped f found x left rest whole h e = ap (λ r. r ++ rest) (map_push f found x) ∙ one_more (map f found) (f x) left rest whole h e

-- spans that lie before `to` lie before any later place
pub rising_later : (from : ℕ) (spans : List Span) (to later : ℕ) → Rising from spans to → to ≤ later → Rising from spans later
rising_later from [] to later h l = omega arith
rising_later from (span ∷ more) to later h l = (h.0, h.1, rising_later span.to more to later h.2 l)

-- one more span behind them
pub rising_more : (from : ℕ) (spans : List Span) (to : ℕ) (span : Span) (later : ℕ) → Rising from spans to → to ≤ span.from → span.from ≤ span.to → span.to ≤ later → Rising from (spans ++ span ∷ []) later
rising_more from [] to span later h a b c = (omega arith, b, c)
rising_more from (first ∷ more) to span later h a b c = (h.0, h.1, rising_more first.to more to span later h.2 a b c)

rising_bounds : (from : ℕ) (spans : List Span) (to : ℕ) → Rising from spans to → from ≤ to
rising_bounds from [] to h = h
rising_bounds from (span ∷ more) to h = let later = rising_bounds span.to more to h.2 in omega (arith, h.0, h.1)

-- spans in rising order that lie before the end of a text lie within it
pub all_inside : (text : List ℕ) (from : ℕ) (spans : List Span) (to : ℕ) → Rising from spans to → to ≤ length text → All (IsInside text) spans
all_inside text from [] to h l k d below = absurd (omega arith)
all_inside text from (span ∷ more) to h l zero d below = (h.1, (let later = rising_bounds span.to more to h.2 in omega arith))
all_inside text from (span ∷ more) to h l (suc k) d below = all_inside text span.to more to h.2 l k d (omega arith)
