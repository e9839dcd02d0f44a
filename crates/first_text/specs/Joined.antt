-- A text made of lines.
use Rattle.std.specs.Prelude.{◌≡◌, ℕ, List, [], ◌∷◌, ◌++◌, ◌≢◌, All}
use Rattle.std.specs.Str.Lines.{strip_carriage_return}

-- the lines, each with a line feed behind it
abbrev pub text_of_lines : List (List ℕ) → List ℕ
text_of_lines [] = []
text_of_lines (line ∷ more) = line ++ 10 ∷ text_of_lines more

-- a line that can be told from its text: it has no line feed, and no carriage return at its end
abbrev pub IsPlainLine : List ℕ → Type 0
IsPlainLine line = All (λ byte. byte ≢ 10) line × (strip_carriage_return line ≡ line)
