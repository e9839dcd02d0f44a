-- The whole numbers that words write.
use Rattle.std.specs.Prelude.{ℕ, List, length, Bool, ◌&&◌, nat_le, Option, Some, None, option_and_then, is_some, if◌then◌else◌}
use Rattle.std.specs.Char.{is_ascii_digit}
use Rattle.std.specs.List.{list_all}
use Rattle.std.specs.Str.Parse.{digits_value}
use Rattle.first_script.specs.declared.bounds.TheConstants.{MAX_DIGITS}

-- whether a word is one to ten digits
abbrev pub is_whole : List ℕ → Bool
is_whole word = nat_le 1 (length word) && nat_le (length word) MAX_DIGITS && list_all is_ascii_digit word

-- the whole number that a word writes
unfoldable pub whole_of : List ℕ → Option ℕ
whole_of word = if is_whole word then Some (digits_value 10 word) else None

-- the whole number that a word writes, if it is not below `low` and not above `high`
unfoldable pub whole_within : ℕ → ℕ → List ℕ → Option ℕ
whole_within low high word = option_and_then (λ n. if nat_le low n && nat_le n high then Some n else None) (whole_of word)

-- whether a word writes a whole number of a range
abbrev pub is_within : ℕ → ℕ → List ℕ → Bool
is_within low high word = is_some (whole_within low high word)
