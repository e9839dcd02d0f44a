-- The first digits of a number that is written out, followed by zeros without end.
use Rattle.std.specs.Prelude.{ℕ, ◌-◌, ◌*◌, ◌^◌, List, length, take, slice_index_or}
use Rattle.std.specs.Char.{digit_value}
use Rattle.std.specs.Str.Parse.{digits_value}

-- the number that the first digits write, zeros standing behind the last
abbrev pub leading_number : List ℕ → ℕ → ℕ
leading_number digits count = digits_value 10 (take count digits) * 10 ^ (count - length digits)

-- the digit at a place, a zero behind the last
abbrev pub digit_at : List ℕ → ℕ → ℕ
digit_at digits place = digit_value (slice_index_or digits place 48)
