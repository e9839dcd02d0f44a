-- The bytes of a disk in memory after a write and after a sync.
use Rattle.std.specs.Prelude.{◌≡◌, ℕ, ◌+◌, ◌<◌, ◌≤◌, true, false, List, length, get_or}
use Rattle.disk_model.specs.Bytes.{Outside, Torn}
use Rattle.disk_model.specs.Tears.{torn_or_read}
use Rattle.disk_model.specs.declared.disk.Tear.{Tear}
use Rattle.disk_model.specs.declared.contents.Contents.{Contents}

-- the first m of these bytes are written from `at` on, and the places of all of them are pending
pub record Puts (at m : ℕ) (bytes : List ℕ) (old new : Contents) : Type 0 where
  pub others : Torn at m old.bytes.items new.bytes.items
  pub here : (k : ℕ) → k < m → get_or new.bytes.items (at + k) 0 ≡ get_or bytes k 0
  pub marked : (k : ℕ) → at ≤ k → k < at + length bytes → get_or new.pending.items k false ≡ true
  pub unmarked : (k : ℕ) → Outside at (length bytes) k → get_or new.pending.items k false ≡ get_or old.pending.items k false
  pub synced : new.synced.items ≡ old.synced.items

-- nothing is pending, and what is read is what was synced
pub record IsSettled (contents : Contents) : Type 0 where
  pub synced : contents.synced.items ≡ contents.bytes.items
  pub dry : (k : ℕ) → get_or contents.pending.items k false ≡ false

-- what a cut with this tear leaves at a place
abbrev pub left_at : Tear → Contents → ℕ → ℕ
left_at tear contents k = torn_or_read tear (get_or contents.pending.items k false) (get_or contents.synced.items k 0) (get_or contents.bytes.items k 0)
