-- The two calls of close_spare.
use Rattle.std.proofs.Common.{◌≡◌, ℕ, ◌*◌, ◌+◌, ◌≤◌, length, IsTrue, true, false, Bool, Ok, arith}
use Rattle.disk_model.specs.Disk.{DiskState, IsSound, Writes, Syncs}
use Rattle.disk_model.specs.Every.{Every, every_write, every_sync, every_kept, Run, run_start, run_write, run_sync}
use Rattle.gated_cell.specs.declared.place.CellPlace.{CellPlace}
use Rattle.gated_cell.specs.declared.cell.GatedCell.{GatedCell}
use Rattle.gated_cell.specs.Cell.{slot_at, spare_at, spare_of, stored, held, Fits, Known, in_force}
use Rattle.gated_cell.specs.Slots.{shut_bytes, shut_short, fits_shutting, fits_shut, fits_says, every_held}

-- the cell's calls so far, with what each image holds
abbrev pub CellRun : GatedCell → DiskState → DiskState → Type 0
CellRun cell old now = Run cell.place.at (2 * cell.place.slot_bytes) (λ c. held cell.place c ≡ in_force cell old) old now

pub cell_start : (cell : GatedCell) (old : DiskState) → IsSound old → Known cell old → CellRun cell old old
cell_start cell old sound known = run_start cell.place.at (2 * cell.place.slot_bytes) _ old sound (every_held cell (stored cell old.seen) old known)

pub spare_low : (place : CellPlace) (second : Bool) → place.at ≤ slot_at place second
spare_low place false = omega arith
spare_low place true = omega arith

pub spare_high : (place : CellPlace) (second : Bool) (n : ℕ) → n ≤ place.slot_bytes → slot_at place second + n ≤ place.at + 2 * place.slot_bytes
spare_high place false n short = omega (arith, short)
spare_high place true n short = omega (arith, short)

-- what the cell says under either name
pub same_force : (cell : GatedCell) (old new : DiskState) → Every (Fits cell (stored cell old.seen)) new → IsTrue new.tells → in_force cell new ≡ in_force cell old
same_force cell old new every told = fits_says cell (stored cell old.seen) new.seen (every.reads told)

pub shutting : (cell : GatedCell) → 9 ≤ cell.place.slot_bytes → (old mid : DiskState) (wrote : _) → Known cell old → Writes (spare_at cell) (shut_bytes cell.spare_closed) old mid wrote
    → Every (Fits cell (stored cell old.seen)) mid
shutting cell nine old mid wrote known writes =
    every_write (Fits cell (stored cell old.seen)) (Fits cell (stored cell old.seen)) (spare_at cell) (shut_bytes cell.spare_closed) old mid wrote
    (λ d c torn fits. fits_shutting cell (stored cell old.seen) d c nine torn fits) writes known

pub shut_run : (cell : GatedCell) → 9 ≤ cell.place.slot_bytes → (old mid : DiskState) (wrote : _) → IsSound old → Known cell old → Writes (spare_at cell) (shut_bytes cell.spare_closed) old mid wrote → CellRun cell old mid
shut_run cell nine old mid wrote sound known writes =
    run_write cell.place.at (2 * cell.place.slot_bytes) _ (spare_at cell) (shut_bytes cell.spare_closed) old old mid wrote (spare_low cell.place (spare_of cell.in_force)) (spare_high cell.place (spare_of cell.in_force) (length (shut_bytes cell.spare_closed)) (omega (arith, shut_short cell.spare_closed, nine))) writes
    (every_held cell (stored cell old.seen) mid (shutting cell nine old mid wrote known writes)) (cell_start cell old sound known)

-- and the sync
pub cell_sync : (cell : GatedCell) (old mid new : DiskState) (synced : _) → Every (Fits cell (stored cell old.seen)) mid → Syncs mid new synced → Every (Fits cell (stored cell old.seen)) new
cell_sync cell old mid new synced every syncs = every_sync (Fits cell (stored cell old.seen)) mid new synced syncs every

pub sync_run : (cell : GatedCell) (old mid new : DiskState) (synced : _) → Every (Fits cell (stored cell old.seen)) mid → Syncs mid new synced → CellRun cell old mid → CellRun cell old new
sync_run cell old mid new synced every syncs run =
    run_sync cell.place.at (2 * cell.place.slot_bytes) _ old mid new synced syncs (every_held cell (stored cell old.seen) new (cell_sync cell old mid new synced every syncs)) run

pub shut_kept : (cell : GatedCell) → 9 ≤ cell.place.slot_bytes → (old mid new : DiskState) (u v : Unit {0}) → IsSound new
    → Known cell old → Writes (spare_at cell) (shut_bytes cell.spare_closed) old mid (Ok u) → Syncs mid new (Ok v) → Every (Fits (record cell { spare_closed = true }) (stored cell old.seen)) new
shut_kept cell nine old mid new u v sound known writes syncs =
    every_kept (Fits cell (stored cell old.seen)) (Fits (record cell { spare_closed = true }) (stored cell old.seen)) (spare_at cell) (shut_bytes cell.spare_closed) old mid new u v sound
    (λ d c holds fits. fits_shut cell (stored cell old.seen) d c nine holds fits) writes syncs known
