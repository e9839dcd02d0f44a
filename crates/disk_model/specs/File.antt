-- A disk over a file, which tells nothing of its content.
use Rattle.std.specs.Prelude.{ℕ, true, false, None, []}
use Rattle.std.proofs.lemmas.Bool.{false≢true}
use Rattle.disk_model.specs.Disk.{DiskState, Meter, IsSound}
use Rattle.disk_model.specs.declared.tally.Tally.{Tally}
use Rattle.disk_model.specs.declared.file_disk.FileDisk.{FileDisk}

-- the counts of a disk that cannot be cut
abbrev pub uncut_meter : ℕ → Tally → Meter
uncut_meter size tally = record { size = size; can_cut = false; faults = tally.faults; cuts = 0; power = true; armed = None; changes = tally.changes; reads = tally.reads }

abbrev pub state_of : FileDisk → DiskState
state_of disk = record {
  tells = false;
  seen = [];
  images = λ c. ⊥;
  tells_since = false;
  moment = 0;
  since = λ t c. ⊥;
  meter = uncut_meter disk.size disk.tally;
}

pub state_sound : (disk : FileDisk) → IsSound (state_of disk)
state_sound disk = record {
  seen_is_left = λ told. false≢true told;
  told = λ c left. absurd left;
  size = λ c left. absurd left;
  small = disk.small;
  counts_now = λ t c le left. left;
  only_now = λ c left. left;
}
