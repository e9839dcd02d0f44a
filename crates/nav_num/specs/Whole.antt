-- The whole number that a token of digits stands for, and the first reason why it stands for none.
use Rattle.std.specs.Prelude.{ℕ, List, length, Bool, not, ◌&&◌, nat_le, nat_lt, ◌==◌, Option, Some, None, position, Result, Ok, Err, if◌then◌else◌}
use Rattle.std.specs.Char.{is_ascii_digit}
use Rattle.std.specs.Str.Parse.{digits_value}
use Rattle.nav_num.specs.declared.TheConstants.{MOST_DIGITS}
use Rattle.nav_num.specs.declared.fault.NumFault.{NumFault}
use Rattle.nav_num.specs.declared.fault.NumFault.TheVariants.{Empty, TooLong, BadDigit, OutOfRange}

-- the byte is no digit
abbrev pub is_no_digit : ℕ → Bool
is_no_digit byte = not (is_ascii_digit byte)

-- the number, where it lies between these two
abbrev pub within : ℕ → ℕ → ℕ → Result ℕ NumFault
within least greatest n = if nat_le least n && nat_le n greatest then Ok n else Err OutOfRange

-- the number that the token's digits write, where none of its bytes is another; the place of the first one that is
abbrev pub by_digits : ℕ → ℕ → List ℕ → Option ℕ → Result ℕ NumFault
by_digits least greatest token (Some place) = Err (BadDigit place)
by_digits least greatest token None = within least greatest (digits_value 10 token)

-- A token of one to ten digits stands for the number that they write, if that lies between these two. What refuses it comes
-- in this order: it is empty, it is too long, a byte of it is no digit, its number lies elsewhere.
unfoldable pub whole_number : ℕ → ℕ → List ℕ → Result ℕ NumFault
whole_number least greatest token =
    if length token == 0 then Err Empty
    else (if nat_lt MOST_DIGITS (length token) then Err TooLong
    else by_digits least greatest token (position is_no_digit token))
