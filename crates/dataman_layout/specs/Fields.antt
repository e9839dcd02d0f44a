-- The fields of a record: numbers of some bytes at a place of a list of bytes, the lowest byte first.
use Rattle.std.specs.Prelude.{ℕ, ℤ, ◌<◌, Bool, List, drop, get_or, ◌==◌}
use Rattle.std.specs.List.{list_all}
use Rattle.std.specs.Int.{w32, cast_unsigned, cast_signed}
use Rattle.byteorder.specs.Endian.{little_bytes, little_number}

-- the n bytes of a number
unfoldable pub number_bytes : ℕ → ℕ → List ℕ
number_bytes n x = little_bytes n x

-- the number in the n bytes from a place on
unfoldable pub number_at : ℕ → ℕ → List ℕ → ℕ
number_at at n bytes = little_number n (drop at bytes)

-- the four bytes of a signed number, by two's complement
abbrev pub signed_bytes : ℤ → List ℕ
signed_bytes z = number_bytes 4 (cast_unsigned w32 z)

-- the signed number in the four bytes from a place on
abbrev pub signed_at : ℕ → List ℕ → ℤ
signed_at at bytes = cast_signed w32 (number_at at 4 bytes)

-- only zeros
abbrev pub is_zeros : List ℕ → Bool
is_zeros bytes = list_all (λ byte. byte == 0) bytes

-- each byte is below 256
abbrev pub IsBytes : List ℕ → Type 0
IsBytes bytes = (i : ℕ) → get_or bytes i 0 < 256
