-- A disk that records its calls: what is known of it.
use Rattle.std.specs.Prelude.{◌≡◌, ℕ, true, List, length}
use Rattle.std.proofs.Common.{refl, sym, subst}
use Rattle.std.proofs.lemmas.List.{length-replicate}
use Rattle.disk_model.specs.Disk.{DiskState, IsSound}
use Rattle.disk_model.specs.File.{uncut_meter}
use Rattle.disk_model.specs.Entries.{changes_of}
use Rattle.disk_model.specs.History.{Change, Moment, Since, replay, zero_moment, counts_now, only_now, seen_in, sized}
use Rattle.disk_model.specs.declared.tally.Tally.{Tally}
use Rattle.disk_model.specs.declared.record_disk.RecordDisk.{RecordDisk}

-- what is known of a disk of this size, of zeros at first, after these changes
abbrev pub shows : ℕ → List ℕ → List Change → Tally → DiskState
shows size bytes changes tally = record {
  tells = true;
  seen = bytes;
  images = (replay (zero_moment size) changes).images;
  tells_since = true;
  moment = length changes;
  since = Since (zero_moment size) changes;
  meter = uncut_meter size tally;
}

abbrev pub state_of : RecordDisk → DiskState
state_of disk = shows (length disk.bytes.items) disk.bytes.items (changes_of disk.entries.items) disk.tally

pub state_sound : (disk : RecordDisk) → IsSound (state_of disk)
state_sound disk = record {
  seen_is_left = λ told. subst (replay start changes).images (sym disk.agrees) (seen_in start changes refl);
  told = λ c left. refl;
  size = λ c left. sized size start changes (length-replicate size 0) (λ d is. subst (λ (l : List ℕ). length l ≡ size) (sym is) (length-replicate size 0)) c left;
  small = disk.small;
  counts_now = counts_now start changes;
  only_now = only_now start changes;
}
  where
    size : ℕ
    size = length disk.bytes.items

    start : Moment
    start = zero_moment size

    changes : List Change
    changes = changes_of disk.entries.items
