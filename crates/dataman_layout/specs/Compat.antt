-- The payload of the compat cell in 7 bytes: the version of the store's layout, and three zeros.
use Rattle.std.specs.Prelude.{◌≡◌, ℕ, true, List, ◌++◌, length, drop, replicate}
use Rattle.dataman_layout.specs.Fields.{number_bytes, number_at, is_zeros}

-- the bytes of a version
unfoldable pub compat_bytes : ℕ → List ℕ
compat_bytes version = number_bytes 4 version ++ replicate 3 0

-- the bytes are the version's: its number in four bytes, and zeros behind it
pub record CompatRecord (bytes : List ℕ) (number : ℕ) : Type 0 where
  pub size : length bytes ≡ 7
  pub version : number_at 0 4 bytes ≡ number
  pub rest : is_zeros (drop 4 bytes) ≡ true
