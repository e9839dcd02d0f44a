-- What a disk is at a moment, and what each of its calls does to what it reads and to what a cut may leave.
use Rattle.std.specs.Prelude.{◌≡◌, ◌⊎◌, ◌<◌, ◌≤◌, ◌==◌, ℕ, ◌+◌, ◌-◌, ◌^◌, min, Bool, true, false, IsTrue, List, length, Option, Some, None, IsSome, Result, IsErrOf, OnOk, OnErr}
use Rattle.disk_model.specs.Bytes.{field, Torn, Holds}
use Rattle.disk_model.specs.declared.disk.DiskFault.{DiskFault}
use Rattle.disk_model.specs.declared.disk.DiskFault.TheVariants as fault
use Rattle.disk_model.specs.declared.disk.CutAt.{CutAt}
use Rattle.disk_model.specs.declared.disk.CutAt.TheVariants as cut

-- the counts and switches that every disk has, whatever it tells of its content
pub record Meter : Type 0 where
  pub size : ℕ  -- its bytes
  pub can_cut : Bool
  pub faults : ℕ  -- how often a call failed
  pub cuts : ℕ  -- how often a cut came
  pub power : Bool  -- whether the power is on
  pub armed : Option CutAt  -- the cut that is to come
  pub changes : ℕ  -- writes and syncs since the last `arm`
  pub reads : ℕ  -- reads since the last `arm`

-- a disk at a moment; one that tells nothing of its content has no image
pub record DiskState : Type 1 where
  pub tells : Bool  -- whether it tells the next two
  pub seen : List ℕ  -- what a read gives
  pub images : List ℕ → Type 0  -- what a cut at this moment may leave
  pub tells_since : Bool  -- whether it tells each image since a moment, and not only those of now
  pub moment : ℕ  -- which moment this is
  pub since : ℕ → List ℕ → Type 0  -- what a cut at that moment or later may have left
  pub meter : Meter

-- a count with one more, which stands still at the last value of 64 bits
abbrev pub counted : ℕ → ℕ
counted n = min (n + 1) (2 ^ 64 - 1)

-- the count rose, or stands at its last value
abbrev pub Rose : ℕ → ℕ → Type 0
Rose before now = counted before ≤ now

-- the number of calls with one more, which stands still at 4294967296
abbrev pub next_call : ℕ → ℕ
next_call n = min (n + 1) (2 ^ 32)

-- this list is the only image
abbrev pub Only : List ℕ → (List ℕ → Type 0) → Type 0
Only bytes images = (c : List ℕ) → images c → c ≡ bytes

-- each new image is an old one after a step
abbrev pub Follows : (List ℕ → List ℕ → Type 0) → (List ℕ → Type 0) → (List ℕ → Type 0) → Type 0
Follows step old new = (c : List ℕ) → new c → (d : List ℕ) × old d × step d c

-- each old image after each such step is a new image
abbrev pub Allows : (List ℕ → List ℕ → Type 0) → (List ℕ → Type 0) → (List ℕ → Type 0) → Type 0
Allows step old new = (d c : List ℕ) → old d → step d c → new c

-- what holds of every disk at each moment
pub record IsSound (disk : DiskState) : Type 0 where
  -- what a read gives is one of the images
  pub seen_is_left : IsTrue disk.tells → disk.images disk.seen
  -- a disk that does not tell has none
  pub told : (c : List ℕ) → disk.images c → IsTrue disk.tells
  pub size : (c : List ℕ) → disk.images c → length c ≡ disk.meter.size
  pub small : disk.meter.size < 2 ^ 64
  -- each image of now is one since each moment so far, and since now there is no other
  pub counts_now : (t : ℕ) (c : List ℕ) → t ≤ disk.moment → disk.images c → disk.since t c
  pub only_now : (c : List ℕ) → disk.since disk.moment c → disk.images c

-- time goes on
pub record Elapses (old new : DiskState) : Type 0 where
  pub tells : new.tells ≡ old.tells
  pub tells_since : new.tells_since ≡ old.tells_since
  pub later : old.moment ≤ new.moment
  -- an image since t is an earlier one or one of now
  pub nothing_else : (t : ℕ) (c : List ℕ) → t ≤ old.moment → new.since t c → old.since t c ⊎ new.images c
  -- and a disk that tells them forgets none
  pub keeps : IsTrue old.tells_since → (t : ℕ) (c : List ℕ) → t ≤ old.moment → old.since t c → new.since t c

-- neither what a read gives nor an image changed
pub record Still (old new : DiskState) : Type 0 where
  pub seen : new.seen ≡ old.seen
  pub images : (c : List ℕ) → new.images c → old.images c
  pub kept : (c : List ℕ) → old.images c → new.images c

-- the cut that was armed comes, and turns the power off
pub record CutComes (old new : Meter) : Type 0 where
  pub armed : IsSome old.armed
  pub rose : new.cuts ≡ counted old.cuts
  pub off : new.power ≡ false
  pub disarmed : new.armed ≡ None

-- no cut comes
pub record NoCut (old new : Meter) : Type 0 where
  pub cuts : new.cuts ≡ old.cuts
  pub power : new.power ≡ old.power
  pub armed : new.armed ≡ old.armed

-- a read, a write or a sync; `named` tells whether the armed cut names this call
pub record AfterCall (named : Bool) (old new : Meter) (result : Result (Unit {0}) DiskFault) : Type 0 where
  pub size : new.size ≡ old.size
  pub can_cut : new.can_cut ≡ old.can_cut
  -- the faults rise by one exactly where the answer is Failed
  pub faults : old.faults ≤ new.faults
  pub failed : IsErrOf result fault.Failed → new.faults ≡ counted old.faults
  pub calm : IsErrOf result fault.Failed ⊎ (new.faults ≡ old.faults)
  -- Cut comes with the cut, or because the power is off since an earlier one
  pub cut : IsErrOf result fault.Cut → CutComes old new ⊎ (old.power ≡ false)
  pub comes : (CutComes old new × IsErrOf result fault.Cut) ⊎ NoCut old new
  pub off : (old.power ≡ false) → IsErrOf result fault.Cut × NoCut old new
  -- on a disk that can be cut, with the power on, the call that an armed cut names is cut, and no other is
  pub exactly : IsTrue old.can_cut → IsTrue old.power → (IsTrue named → CutComes old new) × ((named ≡ false) → NoCut old new)

-- whether the armed cut is at the n-th write or sync
abbrev pub names_change : Option CutAt → ℕ → Bool
names_change (Some (cut.Change k _)) n = k == n
names_change _ n = false

-- whether the armed cut is at the n-th read
abbrev pub names_read : Option CutAt → ℕ → Bool
names_read (Some (cut.Read k _)) n = k == n
names_read _ n = false

-- a write or a sync is counted as a changing call
pub record AfterChange (old new : Meter) (result : Result (Unit {0}) DiskFault) : Type 0 where
  pub call : AfterCall (names_change old.armed (next_call old.changes)) old new result
  pub changes : new.changes ≡ next_call old.changes
  pub reads : new.reads ≡ old.reads

-- a read is counted as one
pub record AfterRead (old new : Meter) (result : Result (Unit {0}) DiskFault) : Type 0 where
  pub call : AfterCall (names_read old.armed (next_call old.reads)) old new result
  pub changes : new.changes ≡ old.changes
  pub reads : new.reads ≡ next_call old.reads

-- `read_at` of n bytes
pub record Reads (at n : ℕ) (old new : DiskState) (got : List ℕ) (result : Result (Unit {0}) DiskFault) : Type 0 where
  pub read : IsTrue old.tells → OnOk result (got ≡ field at n old.seen)
  pub still : Still old new
  pub time : Elapses old new
  pub meter : AfterRead old.meter new.meter result

-- `write_at`: its range may come out of a cut with any bytes, whether the call succeeded or not, and every image of before is still one
pub record Writes (at : ℕ) (bytes : List ℕ) (old new : DiskState) (result : Result (Unit {0}) DiskFault) : Type 0 where
  pub written : IsTrue old.tells → OnOk result (Holds at bytes old.seen new.seen)
  pub torn : IsTrue old.tells → Torn at (length bytes) old.seen new.seen
  pub images : Follows (Torn at (length bytes)) old.images new.images
  pub allows : OnOk result (Allows (Torn at (length bytes)) old.images new.images)
  pub kept : (c : List ℕ) → old.images c → new.images c
  pub off : (old.meter.power ≡ false) → Still old new
  pub time : Elapses old new
  pub meter : AfterChange old.meter new.meter result

-- `sync`: after Ok what a read gives is the only image, else nothing changed
pub record Syncs (old new : DiskState) (result : Result (Unit {0}) DiskFault) : Type 0 where
  pub durable : OnOk result (Only new.seen new.images)
  pub seen : new.seen ≡ old.seen
  pub images : (c : List ℕ) → new.images c → old.images c
  pub failed : OnErr result (Still old new)
  pub time : Elapses old new
  pub meter : AfterChange old.meter new.meter result

-- `arm`: this cut and no other is to come, and the calls are numbered from 1 again
pub record Arms (cut : Option CutAt) (old new : DiskState) : Type 0 where
  pub still : Still old new
  pub time : Elapses old new
  pub meter : new.meter ≡ record old.meter { armed = cut; changes = 0; reads = 0 }

-- `restart`: the power is turned on over one image, which then is what a read gives
pub record Restarts (old new : DiskState) : Type 0 where
  pub image : IsTrue old.tells → old.images new.seen
  pub only : Only new.seen new.images
  pub time : Elapses old new
  pub meter : new.meter ≡ record old.meter { power = true }

-- a disk as it is handed to a program: the power is on, no cut is armed, and the only image is what a read gives
pub record IsFresh (disk : DiskState) : Type 0 where
  pub power : IsTrue disk.meter.power
  pub armed : disk.meter.armed ≡ None
  pub only : Only disk.seen disk.images

-- a disk of this size that nothing was asked of: the power is on, and no cut is armed
abbrev pub new_meter : ℕ → Bool → Meter
new_meter size can_cut = record { size = size; can_cut = can_cut; faults = 0; cuts = 0; power = true; armed = None; changes = 0; reads = 0 }
