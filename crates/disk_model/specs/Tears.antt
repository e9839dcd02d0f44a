-- What a cut leaves of bytes that were written since the last sync.
use Rattle.std.specs.Prelude.{◌≡◌, ℕ, ◌<◌, min, Bool, true, false, IsTrue, List, length, get_or}
use Rattle.disk_model.specs.declared.disk.Tear.{Tear}
use Rattle.disk_model.specs.declared.disk.Tear.TheVariants.{Old, New, Front, Fill}

-- an image: any bytes where a write is pending, and else what is read
pub record IsImage (bytes : List ℕ) (pending : List Bool) (c : List ℕ) : Type 0 where
  pub size : length c ≡ length bytes
  pub kept : (k : ℕ) → get_or pending k false ≡ false → get_or c k 0 ≡ get_or bytes k 0

-- how many of the n bytes of a write that is cut are applied
abbrev pub applied : Tear → ℕ → ℕ
applied (Front m) n = min m n
applied _ n = n

-- what a cut leaves of a pending byte, by its value at the last sync and its written value
abbrev pub torn_byte : Tear → ℕ → ℕ → ℕ
torn_byte Old synced written = synced
torn_byte New synced written = written
torn_byte (Front _) synced written = written
torn_byte (Fill b) synced written = b

-- a list with its pending bytes torn
pub record TornBy (tear : Tear) (synced : List ℕ) (pending : List Bool) (old new : List ℕ) : Type 0 where
  pub size : length new ≡ length old
  pub torn : (k : ℕ) → k < length old → IsTrue (get_or pending k false) → get_or new k 0 ≡ torn_byte tear (get_or synced k 0) (get_or old k 0)
  pub kept : (k : ℕ) → get_or pending k false ≡ false → get_or new k 0 ≡ get_or old k 0

-- what a cut leaves of a byte, pending or not
abbrev pub torn_or_read : Tear → Bool → ℕ → ℕ → ℕ
torn_or_read tear true synced written = torn_byte tear synced written
torn_or_read tear false synced written = written
