-- Bytes and versions correspond one to one.
use Rattle.std.proofs.Common.{◌≡◌, ℕ, ◌^◌, ◌<◌, List, drop, length-drop, refl, arith}
use Rattle.dataman_layout.specs.Fields.{number_bytes, IsBytes}
use Rattle.dataman_layout.specs.FieldLaws.{drop-field, number_at-number_bytes, zeros_are}
use Rattle.dataman_layout.specs.Compat.{compat_bytes, CompatRecord}

-- the bytes of a version are the version's
pub record-compat_bytes : (version : ℕ) → version < 2 ^ 32 → CompatRecord (compat_bytes version) version
unfolding compat_bytes number_bytes
record-compat_bytes version low = record { size = refl; version = number_at-number_bytes 0 4 version (compat_bytes version) (omega (arith, low)) refl; rest = refl }

-- bytes that are a version's are its bytes
pub compat_bytes-record : (bytes : List ℕ) (version : ℕ) → IsBytes bytes → CompatRecord bytes version → bytes ≡ compat_bytes version
unfolding compat_bytes
compat_bytes-record bytes version low is =
    let size = is.size in
    let zeros = zeros_are (drop 4 bytes) 3 (omega (arith, size, length-drop 4 bytes)) is.rest in
    drop-field 0 4 4 version bytes _ low refl (omega (arith, size)) is.version zeros
