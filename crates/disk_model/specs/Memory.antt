-- A disk in memory: what is known of it, and exactly what its calls do.
use Rattle.std.specs.Prelude.{◌≡◌, ℕ, true, false, List, length}
use Rattle.std.proofs.Common.{refl}
use Rattle.disk_model.specs.Disk.{DiskState, IsSound}
use Rattle.disk_model.specs.Power.{meter_of}
use Rattle.disk_model.specs.Tears.{IsImage, applied, TornBy}
use Rattle.disk_model.specs.Contents.{Puts, IsSettled}
use Rattle.disk_model.specs.declared.memory_disk.MemoryDisk.{MemoryDisk}
use Rattle.disk_model.specs.declared.contents.Contents.{Contents}
use Rattle.disk_model.specs.declared.power.Power.{Power}
use Rattle.disk_model.specs.declared.power.Step.{Step}
use Rattle.disk_model.specs.declared.power.Step.TheVariants.{Goes, Fails, IsOff, IsCut}
use Rattle.disk_model.specs.declared.disk.Tear.{Tear}

-- what is known of these bytes under this power: reads and images of now
abbrev pub shows : Contents → Power → DiskState
shows contents power = record {
  tells = true;
  seen = contents.bytes.items;
  images = IsImage contents.bytes.items contents.pending.items;
  tells_since = false;
  moment = 0;
  since = λ _. IsImage contents.bytes.items contents.pending.items;
  meter = meter_of (length contents.bytes.items) power;
}

abbrev pub state_of : MemoryDisk → DiskState
state_of disk = shows disk.contents disk.power

pub state_sound : (disk : MemoryDisk) → IsSound (state_of disk)
state_sound disk = record {
  seen_is_left = λ told. record { size = refl; kept = λ k dry. refl };
  told = λ c left. refl;
  size = λ c left. left.size;
  small = disk.contents.small;
  counts_now = λ t c le left. left;
  only_now = λ c left. left;
}

-- a write: all bytes, or those that a cut applies, or none
abbrev pub WritesTo : Step → ℕ → List ℕ → Contents → Contents → Type 0
WritesTo Goes at bytes old new = Puts at (length bytes) bytes old new
WritesTo (IsCut tear) at bytes old new = Puts at (applied tear (length bytes)) bytes old new
WritesTo Fails at bytes old new = new ≡ old
WritesTo IsOff at bytes old new = new ≡ old

-- a sync: what is read is settled, or nothing changes
abbrev pub SyncsTo : Step → Contents → Contents → Type 0
SyncsTo Goes old new = IsSettled new × (new.bytes ≡ old.bytes)
SyncsTo (IsCut _) old new = new ≡ old
SyncsTo Fails old new = new ≡ old
SyncsTo IsOff old new = new ≡ old

-- a restart: what is pending is torn as the last cut says, and settled
pub record TearsTo (tear : Tear) (old new : Contents) : Type 0 where
  pub torn : TornBy tear old.synced.items old.pending.items old.bytes.items new.bytes.items
  pub settled : IsSettled new
