-- Spans of a text: where a line or a word lies.
use Rattle.std.specs.Prelude.{ℕ, ◌≤◌, List, [], ◌∷◌, length, min, max}
use Rattle.std.specs.List.{slice_range}
use Rattle.first_text.specs.declared.span.Span.{Span}

-- the bytes of the text that a span names
abbrev pub text_of : List ℕ → Span → List ℕ
text_of text span = slice_range text span.from span.to

-- the span lies within the text
abbrev pub IsInside : List ℕ → Span → Type 0
IsInside text span = (span.from ≤ span.to) × (span.to ≤ length text)

-- where a span stops: at its end or the text's, whichever comes first, and never before it begins
abbrev pub stop_of : List ℕ → Span → ℕ
stop_of text span = max span.from (min span.to (length text))

-- the spans lie between two places of a text, in rising order, and none begins before the one in front of it ends
abbrev pub Rising : ℕ → List Span → ℕ → Type 0
Rising from [] to = from ≤ to
Rising from (span ∷ more) to = (from ≤ span.from) × (span.from ≤ span.to) × Rising span.to more to
