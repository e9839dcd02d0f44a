-- The lines of a text.
use Rattle.std.specs.Prelude.{ℕ, ◌+◌, List, [], ◌∷◌, length, Bool, ◌==◌, if◌then◌else◌}
use Rattle.std.specs.List.{slice_split}
use Rattle.std.specs.Str.Lines.{lines, strip_carriage_return}
use Rattle.first_text.specs.declared.span.Span.{Span}

-- whether a byte is a line feed
abbrev pub is_line_feed : ℕ → Bool
is_line_feed byte = byte == 10

-- the lines of a text: the pieces between its line feeds, where a piece in front of a line feed loses one carriage return at its end, and an empty piece at the end is no line
unfoldable pub lines_of : List ℕ → List (List ℕ)
lines_of text = lines text

-- where those lines lie among pieces of which the first begins at `from`, and which a line feed parts
abbrev pub spans_of_pieces : ℕ → List (List ℕ) → List Span
spans_of_pieces from [] = []
spans_of_pieces from (last ∷ []) = if length last == 0 then [] else record { from = from; to = from + length last } ∷ []
spans_of_pieces from (piece ∷ next ∷ more) = record { from = from; to = from + length (strip_carriage_return piece) } ∷ spans_of_pieces (from + length piece + 1) (next ∷ more)

-- where the lines of a text lie, if its first byte stands at `from`
unfoldable pub line_spans : ℕ → List ℕ → List Span
line_spans from text = spans_of_pieces from (slice_split is_line_feed text)
