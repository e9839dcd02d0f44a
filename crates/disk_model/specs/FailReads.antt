-- A disk whose listed reads of 48 bytes fail.
use Rattle.std.specs.Prelude.{◌≡◌, ◌^◌, ◌+◌, ◌-◌, ◌==◌, ◌&&◌, if◌then◌else◌, ℕ, Bool, false, min, IsTrue, List, Vec, Result, Ok, Err, is_ok}
use Rattle.std.proofs.Common.{arith}
use Rattle.std.specs.declared.alloc.Global.{Global}
use Rattle.disk_model.specs.Disk.{DiskState, Meter, IsSound, Reads, counted, next_call}
use Rattle.disk_model.specs.Given.{IsGiven}
use Rattle.disk_model.specs.Power.{fails_at}
use Rattle.disk_model.specs.declared.disk.DiskFault.{DiskFault}
use Rattle.disk_model.specs.declared.disk.DiskFault.TheVariants as fault
use Rattle.disk_model.specs.declared.fail_reads.ReadFaults.{ReadFaults}

-- the counts of a disk with so many faults more
abbrev pub with_faults : ℕ → Meter → Meter
with_faults more m = record m { faults = min (m.faults + more) (2 ^ 64 - 1) }

-- what is known of the disk inside, but that so many faults more are counted
abbrev pub failing : DiskState → ℕ → DiskState
failing disk more = record disk { meter = with_faults more disk.meter }

-- these are to fail, and nothing was read
abbrev pub no_faults : Vec (ℕ × ℕ) Global → ReadFaults
no_faults items = record { items = items; life = 0; done = 0; faults = 0 }

-- whether the next read of 48 bytes that the disk inside answers Ok is listed
abbrev pub is_listed : ReadFaults → Bool
is_listed faults = fails_at faults.life (next_call faults.done) faults.items.items

-- after such a read
abbrev pub after_long_read : ReadFaults → ReadFaults
after_long_read faults = record faults { done = next_call faults.done; faults = if is_listed faults then counted faults.faults else faults.faults }

-- the next life
abbrev pub next_life : ReadFaults → ReadFaults
next_life faults = record faults { life = min (faults.life + 1) (2 ^ 64 - 1); done = 0 }

-- whether a read of n bytes with this answer is one
abbrev pub is_long_read : ℕ → Result (Unit {0}) DiskFault → Bool
is_long_read n result = is_ok result && (n == 48)

-- a read of n bytes that the disk inside made, and that is Failed all the same
pub record IsFailed (at n : ℕ) (old new : DiskState) (before after : ReadFaults) (got : List ℕ) (result : Result (Unit {0}) DiskFault) : Type 0 where
  pub inside : Reads at n old new got (Ok tt)
  pub long : n ≡ 48
  pub listed : IsTrue (is_listed before)
  pub answer : result ≡ Err fault.Failed
  pub leaves : after ≡ after_long_read before

-- a read with the answer of the disk inside
pub record IsPassedOn (at n : ℕ) (old new : DiskState) (before after : ReadFaults) (got : List ℕ) (result : Result (Unit {0}) DiskFault) : Type 0 where
  pub inside : Reads at n old new got result
  pub free : IsTrue (is_long_read n result) → is_listed before ≡ false
  pub leaves : after ≡ (if is_long_read n result then after_long_read before else before)

pub failing_sound : (disk : DiskState) (more : ℕ) → IsSound disk → IsSound (failing disk more)
failing_sound disk more sound = record {
  seen_is_left = sound.seen_is_left;
  told = sound.told;
  size = sound.size;
  small = sound.small;
  counts_now = sound.counts_now;
  only_now = sound.only_now;
}

-- with no fault of its own it is as a program gets one where the disk inside is
pub failing_given : (size : ℕ) (disk : DiskState) → IsGiven size disk → IsGiven size (failing disk 0)
failing_given size disk given = record { room = given.room; power = given.power; armed = given.armed; faults = omega (arith, given.faults); cuts = given.cuts; only = given.only }
