-- The words of a line.
use Rattle.std.specs.Prelude.{ℕ, ◌+◌, List, [], ◌∷◌, length, Bool, ◌==◌, ◌||◌, nat_lt, filter, if◌then◌else◌}
use Rattle.std.specs.List.{slice_split}
use Rattle.first_text.specs.declared.span.Span.{Span}

-- whether a byte is a space or a tab
abbrev pub is_blank : ℕ → Bool
is_blank byte = (byte == 32) || (byte == 9)

-- the words of a line: what spaces and tabs part it into, empty parts left out
unfoldable pub words_in : List ℕ → List (List ℕ)
words_in line = filter (λ piece. nat_lt 0 (length piece)) (slice_split is_blank line)

-- where pieces lie of which the first begins at `from`, and which one byte parts
abbrev pub piece_spans : ℕ → List (List ℕ) → List Span
piece_spans from [] = []
piece_spans from (piece ∷ more) = record { from = from; to = from + length piece } ∷ piece_spans (from + length piece + 1) more

-- where the words of a line lie, if its first byte stands at `from`
unfoldable pub word_spans : ℕ → List ℕ → List Span
word_spans from line = filter (λ (span : Span). nat_lt span.from span.to) (piece_spans from (slice_split is_blank line))

-- the word between two places, if any byte lies between them
abbrev pub word_between : ℕ → ℕ → List Span
word_between from to = if nat_lt from to then record { from = from; to = to } ∷ [] else []
