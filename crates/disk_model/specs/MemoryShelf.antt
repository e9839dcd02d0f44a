-- A shelf in memory: what is known of it, and which disk it gives.
use Rattle.std.specs.Prelude.{◌≡◌, ◌≤◌, ℕ, Bool, true, false, List, [], ◌∷◌, length, Option, Some, None, string_bytes}
use Rattle.disk_model.specs.Shelf.{ShelfCall, MemoryCall, OpenCall, ShelfState}
use Rattle.disk_model.specs.declared.memory_disk.MemoryDisk.{MemoryDisk}
use Rattle.disk_model.specs.declared.memory_shelf.MemoryShelf.{MemoryShelf}
use Rattle.disk_model.specs.declared.memory_shelf.ShelfEntry.{ShelfEntry}
use Rattle.disk_model.specs.declared.memory_shelf.ShelfEntry.TheVariants as entry

-- the call that an entry of the list is of
abbrev pub call_of : ShelfEntry → ShelfCall
call_of (entry.Memory size) = MemoryCall size true
call_of (entry.Open size path create ok) = OpenCall size (string_bytes path) create ok

abbrev pub calls_of : List ShelfEntry → List ShelfCall
calls_of [] = []
calls_of (e ∷ es) = call_of e ∷ calls_of es

-- the images of the disk that the next `open` gives: what a read of the kept disk gives
abbrev pub kept_images : Bool → Option MemoryDisk → List ℕ → Type 0
kept_images true kept c = ⊥
kept_images false None c = ⊥
kept_images false (Some disk) c = c ≡ disk.contents.bytes.items

-- a disk of at least this size is kept and may be given
abbrev pub Keeps : Bool → Option MemoryDisk → ℕ → Type 0
Keeps true kept size = ⊥
Keeps false None size = ⊥
Keeps false (Some disk) size = size ≤ length disk.contents.bytes.items

abbrev pub state_of : MemoryShelf → ShelfState
state_of shelf = record {
  faults = shelf.faults;
  tells = true;
  images = kept_images shelf.open_fails shelf.kept;
  tells_calls = true;
  calls = calls_of shelf.calls.items;
}
