-- What a cursor has before it, and what it gives next.
use Rattle.std.specs.Prelude.{◌≡◌, ℕ, ◌<◌, ◌≤◌, ◌^◌, List, [], ◌∷◌, length, Option, Some, None}
use Rattle.std.specs.List.{slice_range}
use Rattle.nav_text.specs.declared.span.Span.{Span}
use Rattle.nav_text.specs.declared.cursor.WordCursor.{WordCursor}
use Rattle.nav_text.specs.Spans.{text_of}
use Rattle.nav_text.specs.Words.{words_in, word_spans}

-- the words of the line that were not given yet
abbrev pub words_left : List ℕ → WordCursor → List (List ℕ)
words_left text cursor = words_in (slice_range text cursor.at cursor.to)

-- where those words lie
abbrev pub spans_left : List ℕ → WordCursor → List Span
spans_left text cursor = word_spans cursor.at (slice_range text cursor.at cursor.to)

-- the line of the cursor ends within the text
abbrev pub IsWithin : List ℕ → WordCursor → Type 0
IsWithin text cursor = (cursor.to ≤ length text) × (cursor.to < 2 ^ 32)

-- this word is the first of those between two places, and the others lie behind the next place
pub record IsFirstWord (text : List ℕ) (from to : ℕ) (word : Span) (next : ℕ) : Type 0 where
  pub words : words_in (slice_range text from to) ≡ text_of text word ∷ words_in (slice_range text next to)
  pub spans : word_spans from (slice_range text from to) ≡ word ∷ word_spans next (slice_range text next to)
  pub begins : from ≤ word.from
  pub some : word.from < word.to
  pub ends : word.to ≤ to
  pub behind : word.to < next

-- the first word between two places, and the place behind it; none where no word lies between them, and then the search is over
abbrev pub GivesWord : List ℕ → ℕ → ℕ → Option Span → ℕ → Type 0
GivesWord text from to (Some word) next = IsFirstWord text from to word next
GivesWord text from to None next = (words_in (slice_range text from to) ≡ []) × (word_spans from (slice_range text from to) ≡ []) × (to ≤ next)

-- a cursor gives the first of the words that are left, and the others are left then
abbrev pub Gives : List ℕ → WordCursor → Option Span → WordCursor → Type 0
Gives text old word new = (new.to ≡ old.to) × GivesWord text old.at old.to word new.at
