-- What a text's faults and lines are bounded by.
use Rattle.std.proofs.Common.{◌≡◌, ℕ, ◌+◌, ◌<◌, ◌≤◌, List, [], ◌∷◌, length, true, false, cond, arith}
use Rattle.std.specs.Prelude.{Option, Some, None, ◌==◌}
use Rattle.std.specs.List.{slice_split}
use Rattle.std.proofs.lemmas.List.Splits.{length-slice_split}
use Rattle.std.proofs.lemmas.List.Sums.{count_by-le-length}
use Rattle.std.proofs.lemmas.List.Quantifiers.{position-Some}
use Rattle.nav_text.specs.declared.span.Span.{Span}
use Rattle.nav_text.specs.declared.fault.TextFault.TheVariants.{NotAscii}
use Rattle.nav_text.specs.Lines.{is_line_feed, lines_of, spans_of_pieces, line_spans}
use Rattle.nav_text.specs.Faults.{is_high, is_long, fault_of, text_fault}
use Rattle.std.specs.Prelude.{position}
use Rattle.std.specs.List.{position_from}

count_spans : (from : ℕ) (pieces : List (List ℕ)) → length (spans_of_pieces from pieces) ≤ length pieces
count_spans from [] = omega arith
count_spans from (last ∷ []) = elim (length last == 0) as (λ b. length (cond {A = List Span} b [] (record { from = from; to = from + length last } ∷ [])) ≤ 1) [ true ↦ omega arith | false ↦ omega arith ]
count_spans from (piece ∷ next ∷ more) = let rest = count_spans (from + length piece + 1) (next ∷ more) in omega (arith, rest)

-- a text has no more lines than bytes, but for one
pub few_lines : (text : List ℕ) → length (line_spans 0 text) ≤ length text + 1
unfolding line_spans
few_lines text = omega (arith, count_spans 0 (slice_split is_line_feed text), length-slice_split is_line_feed text, count_by-le-length is_line_feed text)

high_of : (high long : Option ℕ) (place : ℕ) → fault_of high long ≡ Some (NotAscii place) → high ≡ Some place
high_of (Some found) long place e = cc
high_of None (Some number) place e = cc
high_of None None place e = cc

-- a byte that is no ASCII stands in the text
pub high_within : (text : List ℕ) (place : ℕ) → text_fault text ≡ Some (NotAscii place) → place < length text
unfolding text_fault
high_within text place e = (position-Some is_high text place 0 (high_of (position is_high text) (position_from is_long 1 (lines_of text)) place e)).0
