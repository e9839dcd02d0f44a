-- A disk of which only the counts are known.
use Rattle.std.specs.Prelude.{false, []}
use Rattle.std.proofs.lemmas.Bool.{false≢true}
use Rattle.disk_model.specs.Disk.{DiskState, Meter, IsSound}

-- no image is told, nor what a read gives
abbrev pub untold : Meter → DiskState
untold meter = record { tells = false; seen = []; images = λ c. ⊥; tells_since = false; moment = 0; since = λ t c. ⊥; meter = meter }

pub untold_sound : (disk : DiskState) → IsSound disk → IsSound (untold disk.meter)
untold_sound disk sound = record {
  seen_is_left = λ told. false≢true told;
  told = λ c left. absurd left;
  size = λ c left. absurd left;
  small = sound.small;
  counts_now = λ t c le left. left;
  only_now = λ c left. left;
}
