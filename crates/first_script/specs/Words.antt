-- The words of a script's line, by their places from 0.
use Rattle.std.specs.Prelude.{ℕ, List, [], Bool, get_or, nat_eq, ◌==◌}
use Rattle.std.specs.Cmp.Lexicographic.{pointwise}
use Rattle.first_text.specs.Words.{words_in}

-- the word at a place, and no bytes past the last
abbrev pub word : ℕ → List (List ℕ) → List ℕ
word place words = get_or words place []

-- whether a word has these bytes
abbrev pub is_same : List ℕ → List ℕ → Bool
is_same word text = pointwise nat_eq word text

-- whether the words are those of this text
unfoldable pub says : List (List ℕ) → List ℕ → Bool
says words text = pointwise is_same words (words_in text)

-- whether a line's first word begins with `#`
abbrev pub is_comment : List (List ℕ) → Bool
is_comment words = get_or (word 0 words) 0 0 == 35
