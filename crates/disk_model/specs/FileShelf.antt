-- A shelf over files: what is known of it, and of the disks that it gives.
use Rattle.std.specs.Prelude.{ℕ, false, []}
use Rattle.disk_model.specs.Disk.{DiskState, IsSound}
use Rattle.disk_model.specs.Shelf.{ShelfState}
use Rattle.disk_model.specs.Memory.{state_of as memory_state, state_sound as memory_sound}
use Rattle.disk_model.specs.File.{state_of as file_state, state_sound as file_sound}
use Rattle.disk_model.specs.declared.file_shelf.ShelfDisk.{ShelfDisk}
use Rattle.disk_model.specs.declared.file_shelf.ShelfDisk.TheVariants as disk

abbrev pub state_of : ShelfDisk → DiskState
state_of (disk.Memory memory) = memory_state memory
state_of (disk.File file) = file_state file

pub state_sound : (given : ShelfDisk) → IsSound (state_of given)
state_sound (disk.Memory memory) = memory_sound memory
state_sound (disk.File file) = file_sound file

-- a shelf that tells nothing but how often a call failed
abbrev pub untold_shelf : ℕ → ShelfState
untold_shelf faults = record { faults = faults; tells = false; images = λ c. ⊥; tells_calls = false; calls = [] }
