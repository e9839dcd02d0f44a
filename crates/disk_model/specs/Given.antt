-- A disk as a program gets it.
use Rattle.std.specs.Prelude.{◌≡◌, ◌≤◌, ℕ, IsTrue, None}
use Rattle.std.proofs.Common.{◌∙◌, arith}
use Rattle.disk_model.specs.Disk.{DiskState, Only}
use Rattle.disk_model.specs.Meters.{Uncut}

-- with room, on power, with no cut to come, no fault and no cut counted, and nothing that a cut could take
pub record IsGiven (size : ℕ) (disk : DiskState) : Type 0 where
  pub room : size ≤ disk.meter.size
  pub power : IsTrue disk.meter.power
  pub armed : disk.meter.armed ≡ None
  pub faults : disk.meter.faults ≡ 0
  pub cuts : disk.meter.cuts ≡ 0
  pub only : Only disk.seen disk.images

-- calls of which none failed or was cut leave it so where what is read is then the only image
pub given_after : (size k r : ℕ) (old new : DiskState) → IsGiven size old → Uncut k r old.meter new.meter → new.meter.faults ≡ old.meter.faults → Only new.seen new.images → IsGiven size new
given_after size k r old new given uncut calm only = record {
  room = omega (arith, given.room, uncut.size);
  power = uncut.no_cut.power ∙ given.power;
  armed = uncut.no_cut.armed ∙ given.armed;
  faults = calm ∙ given.faults;
  cuts = uncut.no_cut.cuts ∙ given.cuts;
  only = only;
}
