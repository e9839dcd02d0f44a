-- The calls of write_spare and open_spare.
use Rattle.std.proofs.Common.{◌≡◌, ℕ, ◌*◌, ◌+◌, ◌-◌, ◌^◌, ◌<◌, ◌≤◌, List, ◌++◌, length, true, Ok, refl, sym, ◌∙◌, arith, length-append}
use Rattle.std.specs.Int.{to_le_bytes, w64}
use Rattle.disk_model.specs.Disk.{DiskState, IsSound, Writes, Syncs}
use Rattle.disk_model.specs.Every.{Every, every_write, every_kept, run_write}
use Rattle.gated_cell.specs.declared.cell.GatedCell.{GatedCell}
use Rattle.gated_cell.specs.Cell.{spare_at, spare_of, stored, Fits, Known, Staged, HasNext}
use Rattle.gated_cell.specs.Slots.{fits_behind, has_next, every_held}
use Rattle.gated_cell.proofs.Closing.{CellRun, cell_start, spare_low, spare_high}

abbrev next_bytes : GatedCell → List ℕ → List ℕ
next_bytes cell next = to_le_bytes w64 (cell.generation + 1) ++ next

module _ (cell : GatedCell) (nine : 9 ≤ cell.place.slot_bytes) where
  module _ (next : List ℕ) (long : length next ≡ cell.place.slot_bytes - 9) (closed : cell.spare_closed ≡ true) where
    size : length (next_bytes cell next) + 1 ≡ cell.place.slot_bytes
    size =
        let both : length (next_bytes cell next) ≡ 8 + length next = length-append (to_le_bytes w64 (cell.generation + 1)) next in
        omega (arith, both, long, nine)

    pub putting : (old mid : DiskState) (wrote : _) → Known cell old → Writes (spare_at cell + 1) (next_bytes cell next) old mid wrote → Every (Fits cell (stored cell old.seen)) mid
    putting old mid wrote known writes =
        every_write (Fits cell (stored cell old.seen)) (Fits cell (stored cell old.seen)) (spare_at cell + 1) (next_bytes cell next) old mid wrote
        (λ d c torn fits. fits_behind cell (stored cell old.seen) (length (next_bytes cell next)) d c nine size closed torn fits) writes known

    pub put_run : (old mid : DiskState) (wrote : _) → IsSound old → Known cell old → Writes (spare_at cell + 1) (next_bytes cell next) old mid wrote → CellRun cell old mid
    put_run old mid wrote sound known writes =
        run_write cell.place.at (2 * cell.place.slot_bytes) _ (spare_at cell + 1) (next_bytes cell next) old old mid wrote
        (omega (arith, spare_low cell.place (spare_of cell.in_force))) (omega (arith, size, spare_high cell.place (spare_of cell.in_force) cell.place.slot_bytes (omega arith))) writes
        (every_held cell (stored cell old.seen) mid (putting old mid wrote known writes)) (cell_start cell old sound known)

    pub next_kept : (old mid new : DiskState) (u v : Unit {0}) → IsSound new → cell.generation + 1 < 2 ^ 64 → Known cell old → Writes (spare_at cell + 1) (next_bytes cell next) old mid (Ok u) → Syncs mid new (Ok v) → Every (HasNext cell next) new
    next_kept old mid new u v sound below known writes syncs =
        every_kept (Fits cell (stored cell old.seen)) (HasNext cell next) (spare_at cell + 1) (next_bytes cell next) old mid new u v sound
        (λ d c holds fits. has_next cell next d c nine long below holds) writes syncs known

  pub staged_as : (next : List ℕ) (disk : DiskState) → IsSound disk → Every (HasNext cell next) disk → Staged cell disk
  staged_as next disk sound every = record {
    reads = λ told. record { generation = (every.reads told).generation; payload = refl };
    images = λ c left. record { generation = (every.images c left).generation; payload = (every.images c left).payload ∙ sym (every.reads (sound.told c left)).payload };
  }
