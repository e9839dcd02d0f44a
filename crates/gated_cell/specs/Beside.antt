-- What calls of the disk beside a cell leave of it.
use Rattle.std.specs.Prelude.{◌≡◌, ℕ, ◌*◌, ◌≤◌, Bool, true, false, IsTrue, List, length}
use Rattle.std.proofs.Common.{inl, inr, ap, arith}
use Rattle.disk_model.specs.Bytes.{field, Torn}
use Rattle.disk_model.specs.Disk.{DiskState, IsSound, Writes, Syncs, Still, Elapses, Only}
use Rattle.disk_model.specs.Every.{Every, Run, every_write, every_sync, every_still, every_run}
use Rattle.disk_model.specs.Places.{Apart}
use Rattle.gated_cell.specs.declared.place.CellPlace.{CellPlace}
use Rattle.gated_cell.specs.declared.cell.GatedCell.{GatedCell}
use Rattle.gated_cell.specs.Cell.{slot_at, held, Fits, stored, staged, Known, IsEither, Doubtful, Settled, in_force}
use Rattle.gated_cell.specs.Slots.{SlotStays, slot_stays, fits_same, held_same, fits_says, known_again, either_here}

-- n bytes from `at` on are none of the cell's
abbrev pub IsBeside : ℕ → ℕ → CellPlace → Type 0
IsBeside at n place = Apart place.at (2 * place.slot_bytes) at n

slot_beside : (place : CellPlace) (second : Bool) (at n : ℕ) → IsBeside at n place → Apart (slot_at place second) place.slot_bytes at n
slot_beside place false at n (inl before) = inl (omega (arith, before))
slot_beside place true at n (inl before) = inl (omega (arith, before))
slot_beside place false at n (inr behind) = inr (omega (arith, behind))
slot_beside place true at n (inr behind) = inr (omega (arith, behind))

-- both slots stay
pub slots_stay : (place : CellPlace) (at n : ℕ) (old new : List ℕ) → 9 ≤ place.slot_bytes → IsBeside at n place → Torn at n old new → (second : Bool) → SlotStays place (slot_at place second) old new
slots_stay place at n old new nine beside torn second = slot_stays place (slot_at place second) at n old new nine (slot_beside place second at n beside) torn

-- what a cell holds stays
pub held_beside : (place : CellPlace) (at n : ℕ) (old new : List ℕ) → 9 ≤ place.slot_bytes → IsBeside at n place → Torn at n old new → held place new ≡ held place old
held_beside place at n old new nine beside torn = held_same place old new (slots_stay place at n old new nine beside torn)

-- an image still fits
pub fits_beside : (cell : GatedCell) (payload : List ℕ) (at n : ℕ) (old new : List ℕ) → 9 ≤ cell.place.slot_bytes → IsBeside at n cell.place → Torn at n old new → Fits cell payload old → Fits cell payload new
fits_beside cell payload at n old new nine beside torn fits = fits_same cell payload old new (slots_stay cell.place at n old new nine beside torn) fits

-- what is known of a cell, and what is in force in it, after calls that left each image as the cell knows it
pub record Stays (cell : GatedCell) (old new : DiskState) : Type 0 where
  pub known : Known cell new
  pub same : IsTrue new.tells → in_force cell new ≡ in_force cell old

-- such calls
pub stays_by : (cell : GatedCell) (old new : DiskState) → IsSound new → Every (Fits cell (stored cell old.seen)) new → Stays cell old new
stays_by cell old new sound every = record {
  known = known_again cell (stored cell old.seen) new sound every;
  same = λ told. fits_says cell (stored cell old.seen) new.seen (every.reads told);
}

-- a run of calls that writes beside it, as each call of another cell is
pub stays_run : (cell : GatedCell) (at n : ℕ) (Q : List ℕ → Type 0) (old new : DiskState) → 9 ≤ cell.place.slot_bytes → IsBeside at n cell.place → IsSound new → Run at n Q old new → Known cell old → Stays cell old new
stays_run cell at n Q old new nine beside sound run known =
    stays_by cell old new sound (every_run at n Q (Fits cell (stored cell old.seen)) old new run (λ d c torn fits. fits_beside cell (stored cell old.seen) at n d c nine beside torn fits) known)

-- a write beside it
pub stays_write : (cell : GatedCell) (at : ℕ) (bytes : List ℕ) (old new : DiskState) (result : _) → 9 ≤ cell.place.slot_bytes → IsBeside at (length bytes) cell.place → IsSound new → Writes at bytes old new result → Known cell old → Stays cell old new
stays_write cell at bytes old new result nine beside sound writes known =
    stays_by cell old new sound
    (every_write (Fits cell (stored cell old.seen)) (Fits cell (stored cell old.seen)) at bytes old new result (λ d c torn fits. fits_beside cell (stored cell old.seen) at (length bytes) d c nine beside torn fits) writes known)

-- a sync
pub stays_sync : (cell : GatedCell) (old new : DiskState) (result : _) → IsSound new → Syncs old new result → Known cell old → Stays cell old new
stays_sync cell old new result sound syncs known = stays_by cell old new sound (every_sync (Fits cell (stored cell old.seen)) old new result syncs known)

-- a read, or any call that changes nothing
pub stays_still : (cell : GatedCell) (old new : DiskState) → IsSound new → Still old new → Elapses old new → Known cell old → Stays cell old new
stays_still cell old new sound still time known = stays_by cell old new sound (every_still (Fits cell (stored cell old.seen)) old new still time known)

-- a call that changes nothing leaves a doubt as it is
pub doubtful_still : (cell : GatedCell) (old new : DiskState) → IsSound new → Still old new → Elapses old new → Doubtful cell old → Doubtful cell new
doubtful_still cell old new sound still time doubtful =
    either_here cell (stored cell old.seen) (staged cell old.seen) new sound (every_still (IsEither cell (stored cell old.seen) (staged cell old.seen)) old new still time doubtful)

-- a disk with a single image, as after a sync or a restart, is settled everywhere
pub settled_only : (place : CellPlace) (disk : DiskState) → Only disk.seen disk.images → Settled place disk
settled_only place disk only c left = ap (λ (l : List ℕ). field place.at (2 * place.slot_bytes) l) (only c left)
