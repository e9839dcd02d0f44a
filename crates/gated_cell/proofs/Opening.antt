-- The calls of open_spare, and those of resolve.
use Rattle.std.proofs.Common.{◌≡◌, ◌⊎◌, ℕ, ◌*◌, ◌+◌, ◌≤◌, List, [], ◌∷◌, true, false, Bool, IsTrue, Ok, ap, arith}
use Rattle.disk_model.specs.Disk.{DiskState, IsSound, Writes, Syncs}
use Rattle.disk_model.specs.Every.{Every, every_weaker, every_write, every_sync, every_kept, Run, run_start, run_write, run_sync}
use Rattle.gated_cell.specs.declared.cell.GatedCell.{GatedCell}
use Rattle.gated_cell.specs.Cell.{InForce, spare_at, spare_of, stored, staged, held, Fits, Known, Staged, IsEither, in_force, next_of, opened, SameChoice}
use Rattle.gated_cell.specs.Slots.{fits_opened, fits_resolved, either_gate, either_held, says_stored}
use Rattle.gated_cell.proofs.Closing.{spare_low, spare_high}

module _ (cell : GatedCell) (nine : 9 ≤ cell.place.slot_bytes) (old : DiskState) where
  -- the old payload or the next, as they were read at first
  abbrev pub E : List ℕ → Type 0
  E = IsEither cell (stored cell old.seen) (staged cell old.seen)

  abbrev pub Q : List ℕ → Type 0
  Q c = (held cell.place c ≡ in_force cell old) ⊎ (held cell.place c ≡ next_of cell old)

  abbrev pub EitherRun : DiskState → Type 0
  EitherRun now = Run cell.place.at (2 * cell.place.slot_bytes) Q old now

  pub holds_either : (disk : DiskState) → Every E disk → Every Q disk
  holds_either disk every = every_weaker E Q disk (λ c either. either_held cell (stored cell old.seen) (staged cell old.seen) c either) every

  pub at_first : Known cell old → Staged cell old → Every E old
  at_first known has = record {
    reads = λ told. record { force = (known.reads told).force; spare = has.reads told };
    images = λ c left. record { force = (known.images c left).force; spare = has.images c left };
  }

  -- neither payload changed
  pub same_choice : (doubt : Bool) (new : DiskState) → Every E new → IsTrue new.tells → SameChoice cell old (record cell { doubt = doubt }) new
  same_choice doubt new every told = record {
    in_force = says_stored cell.place cell.in_force cell.generation (stored cell old.seen) new.seen (every.reads told).force;
    next = ap (λ (p : List ℕ). InForce (spare_of cell.in_force) (cell.generation + 1) p) (every.reads told).spare.payload;
  }

  module _ (sound : IsSound old) (first : Every E old) (byte : ℕ) where
    pub gate : (mid : DiskState) (wrote : _) → Writes (spare_at cell) (byte ∷ []) old mid wrote → Every E mid
    gate mid wrote writes = every_write E E (spare_at cell) (byte ∷ []) old mid wrote (λ d c torn either. either_gate cell (stored cell old.seen) (staged cell old.seen) d c nine torn either) writes first

    pub gate_run : (mid : DiskState) (wrote : _) → Writes (spare_at cell) (byte ∷ []) old mid wrote → EitherRun mid
    gate_run mid wrote writes =
        run_write cell.place.at (2 * cell.place.slot_bytes) Q (spare_at cell) (byte ∷ []) old old mid wrote (spare_low cell.place (spare_of cell.in_force)) (spare_high cell.place (spare_of cell.in_force) 1 (omega (arith, nine))) writes
        (holds_either mid (gate mid wrote writes)) (run_start cell.place.at (2 * cell.place.slot_bytes) Q old sound (holds_either old first))

    pub gate_sync : (mid new : DiskState) (wrote synced : _) → Writes (spare_at cell) (byte ∷ []) old mid wrote → Syncs mid new synced → Every E new
    gate_sync mid new wrote synced writes syncs = every_sync E mid new synced syncs (gate mid wrote writes)

    pub gate_sync_run : (mid new : DiskState) (wrote synced : _) → Writes (spare_at cell) (byte ∷ []) old mid wrote → Syncs mid new synced → EitherRun new
    gate_sync_run mid new wrote synced writes syncs =
        run_sync cell.place.at (2 * cell.place.slot_bytes) Q old mid new synced syncs (holds_either new (gate_sync mid new wrote synced writes syncs)) (gate_run mid wrote writes)

  pub opened_kept : (mid new : DiskState) (u v : Unit {0}) → IsSound new → Every E old → Writes (spare_at cell) (165 ∷ []) old mid (Ok u) → Syncs mid new (Ok v) → Every (Fits (opened cell) (staged cell old.seen)) new
  opened_kept mid new u v sound first writes syncs =
      every_kept E (Fits (opened cell) (staged cell old.seen)) (spare_at cell) (165 ∷ []) old mid new u v sound
      (λ d c holds either. fits_opened cell (stored cell old.seen) (staged cell old.seen) d c nine holds either) writes syncs first

  pub resolved_kept : (mid new : DiskState) (u v : Unit {0}) → IsSound new → Every E old → Writes (spare_at cell) (0 ∷ []) old mid (Ok u) → Syncs mid new (Ok v)
      → Every (Fits (record cell { spare_closed = true; doubt = false }) (stored cell old.seen)) new
  resolved_kept mid new u v sound first writes syncs =
      every_kept E (Fits (record cell { spare_closed = true; doubt = false }) (stored cell old.seen)) (spare_at cell) (0 ∷ []) old mid new u v sound
      (λ d c holds either. fits_resolved cell (stored cell old.seen) (staged cell old.seen) d c nine holds either) writes syncs first
