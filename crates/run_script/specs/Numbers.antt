-- The numbers that words write, beside the decimal ones: whole numbers with a minus, and bytes in hexadecimal digits.
use Rattle.std.specs.Prelude.{ℕ, ◌+◌, ◌-◌, ◌*◌, ℤ, pos, neg_ℤ, List, drop, length, get_or, Bool, true, false, ◌&&◌, ◌==◌, nat_le, Option, Some, None, Result, Ok, Err, if◌then◌else◌}
use Rattle.nav_num.specs.declared.fault.NumFault.{NumFault}
use Rattle.nav_num.specs.Whole.{whole_number}

-- a value, if there is one
abbrev pub value_of : Result ℕ NumFault → Option ℕ
value_of (Ok n) = Some n
value_of (Err fault) = None

-- whether there is a value
abbrev pub has_value : Result ℕ NumFault → Bool
has_value (Ok n) = true
has_value (Err fault) = false

-- a magnitude without and with a minus
abbrev pub not_below_zero : Option ℕ → Option ℤ
not_below_zero (Some n) = Some (pos n)
not_below_zero None = None

abbrev pub not_above_zero : Option ℕ → Option ℤ
not_above_zero (Some n) = Some (neg_ℤ (pos n))
not_above_zero None = None

-- the number of 32 bits that a word of digits writes, with a minus in front of them or without
unfoldable pub signed_number : List ℕ → Option ℤ
signed_number word =
    if get_or word 0 0 == 45 then not_above_zero (value_of (whole_number 0 2147483648 (drop 1 word)))
    else not_below_zero (value_of (whole_number 0 2147483647 word))

-- the value of a hexadecimal digit, in letters of either case
abbrev pub hex_digit : ℕ → Option ℕ
hex_digit byte =
    if nat_le 48 byte && nat_le byte 57 then Some (byte - 48)
    else (if nat_le 97 byte && nat_le byte 102 then Some (byte - 87)
    else (if nat_le 65 byte && nat_le byte 70 then Some (byte - 55)
    else None))

-- the byte of two digits
abbrev pub byte_of_digits : Option ℕ → Option ℕ → Option ℕ
byte_of_digits (Some high) (Some low) = Some (16 * high + low)
byte_of_digits _ _ = None

-- the byte that a word of two hexadecimal digits writes
unfoldable pub hex_number : List ℕ → Option ℕ
hex_number word = if length word == 2 then byte_of_digits (hex_digit (get_or word 0 0)) (hex_digit (get_or word 1 0)) else None
