-- What a shelf is at a moment, and what its calls give and leave.
use Rattle.std.specs.Prelude.{◌≡◌, ◌⊎◌, ◌≤◌, ◌↔◌, ℕ, Bool, true, false, IsTrue, List, [], ◌∷◌, ◌++◌, Result, Ok, Err, IsErrOf}
use Rattle.std.proofs.Common.{ap, arith}
use Rattle.disk_model.specs.Bytes.{IsZeros}
use Rattle.disk_model.specs.Disk.{DiskState, Meter, Only, counted, new_meter}
use Rattle.disk_model.specs.Given.{IsGiven}
use Rattle.disk_model.specs.declared.shelf.ShelfFault.{ShelfFault}
use Rattle.disk_model.specs.declared.shelf.ShelfFault.TheVariants as fault

-- a call of a shelf, and whether it was Ok
pub data ShelfCall : Type 0 where
  MemoryCall : (size : ℕ) (ok : Bool) → ShelfCall
  OpenCall : (size : ℕ) (path : List ℕ) (create ok : Bool) → ShelfCall

-- a shelf at a moment
pub record ShelfState : Type 1 where
  pub faults : ℕ  -- how often a call failed
  pub tells : Bool  -- whether it tells the next one
  pub images : List ℕ → Type 0  -- the images of the disk that the next `open` gives
  pub tells_calls : Bool  -- whether it tells the next one
  pub calls : List ShelfCall  -- its calls so far, but for those that found no memory

-- the list of calls after one more
abbrev pub logged : {D : Type 0} → (Bool → ShelfCall) → Result D ShelfFault → List ShelfCall → List ShelfCall
logged call (Ok _) calls = calls ++ call true ∷ []
logged call (Err fault.Failed) calls = calls ++ call false ∷ []
logged call (Err (fault.Memory _)) calls = calls

-- a call of a shelf: its faults rise by one exactly where the answer is Failed
pub record AfterShelf (D : Type 0) (call : Bool → ShelfCall) (old new : ShelfState) (result : Result D ShelfFault) : Type 0 where
  pub tells : new.tells ≡ old.tells
  pub tells_calls : new.tells_calls ≡ old.tells_calls
  pub faults : old.faults ≤ new.faults
  pub failed : IsErrOf result fault.Failed → new.faults ≡ counted old.faults
  pub calm : IsErrOf result fault.Failed ⊎ (new.faults ≡ old.faults)
  pub calls : IsTrue old.tells_calls → new.calls ≡ logged call result old.calls

-- two shelves whose next `open` gives a disk with the same images
abbrev pub SameShelf : ShelfState → ShelfState → Type 0
SameShelf old new = (c : List ℕ) → new.images c ↔ old.images c

-- a disk in memory that tells, can be cut and holds zeros alone
pub record IsZeroDisk (size : ℕ) (disk : DiskState) : Type 0 where
  pub tells : IsTrue disk.tells
  pub zeros : IsZeros disk.seen
  pub only : Only disk.seen disk.images
  pub meter : disk.meter ≡ new_meter size true

-- a stored disk of at least this size, with the images that the shelf told
pub record IsStored (size : ℕ) (shelf : ShelfState) (disk : DiskState) : Type 0 where
  pub given : IsGiven size disk
  pub tells : IsTrue shelf.tells → IsTrue disk.tells
  pub images : IsTrue shelf.tells → (c : List ℕ) → disk.images c ↔ shelf.images c

-- a new disk in memory, and with it any that a shelf gives, is as a program gets one
pub zeros_given : (size : ℕ) (disk : DiskState) → IsZeroDisk size disk → IsGiven size disk
zeros_given size disk zero = record {
  room = omega (arith, ap (λ (m : Meter). m.size) zero.meter);
  power = ap (λ (m : Meter). m.power) zero.meter;
  armed = ap (λ (m : Meter). m.armed) zero.meter;
  faults = ap (λ (m : Meter). m.faults) zero.meter;
  cuts = ap (λ (m : Meter). m.cuts) zero.meter;
  only = zero.only;
}
