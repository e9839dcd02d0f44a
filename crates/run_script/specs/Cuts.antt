-- The spans of a line's first words.
use Rattle.std.specs.Prelude.{◌≡◌, ℕ, ◌<◌, List, [], length, get_or}
use Rattle.nav_text.specs.declared.span.Span.{Span}
use Rattle.nav_text.specs.Spans.{text_of, IsInside}

-- no bytes
abbrev pub nothing : Span
nothing = record { from = 0; to = 0 }

-- the spans name the first six of so many words
pub record IsCut (text : List ℕ) (spans : List Span) (count : ℕ) (words : List (List ℕ)) : Type 0 where
  pub all : count ≡ length words
  pub six : length spans ≡ 6
  pub inside : (k : ℕ) → k < 6 → IsInside text (get_or spans k nothing)
  pub named : (k : ℕ) → k < 6 → text_of text (get_or spans k nothing) ≡ get_or words k []
