-- The first words of a line in a number of places.
use Rattle.std.specs.Prelude.{◌≡◌, ℕ, ◌<◌, ◌≤◌, List, [], length, get_or, All}
use Rattle.nav_text.specs.declared.span.Span.{Span}
use Rattle.nav_text.specs.Spans.{text_of, IsInside}
use Rattle.nav_text.specs.Words.{words_in, word_spans}

-- the places name the line's first words, and lie where those lie; behind its last word they are as they were
pub record AreFirstWords (text : List ℕ) (line : Span) (old new : List Span) : Type 0 where
  pub size : length new ≡ length old
  pub words : (k : ℕ) (d : Span) → k < length old → k < length (words_in (text_of text line)) → text_of text (get_or new k d) ≡ get_or (words_in (text_of text line)) k []
  pub spans : (k : ℕ) (d : Span) → k < length old → k < length (words_in (text_of text line)) → get_or new k d ≡ get_or (word_spans line.from (text_of text line)) k d
  pub rest : (k : ℕ) (d : Span) → k < length old → length (words_in (text_of text line)) ≤ k → get_or new k d ≡ get_or old k d
  pub inside : All (IsInside text) old → All (IsInside text) new
