use Rattle.std.proofs.Common.{◌≡◌, true}
use Rattle.mission_model.specs.CountsList.{pairs_of}
use Rattle.mission_model.specs.Pairs.{rises_from}
use Rattle.dataman_layout.specs.Mark.{pairs_in}
use Rattle.dataman_layout.proofs.Rising.{least_from}
use Rattle.dataman_layout.proofs.mark.counts_of.Given as goal

abbrev pub invariant-loop-place : goal.invariant-loop-place
invariant-loop-place l = record {
  pairs : pairs_of l.counts ≡ pairs_in l.bytes l.place;
  rise : rises_from 0 (pairs_in l.bytes l.place) ≡ true;
  least : l.least ≡ least_from 0 (pairs_in l.bytes l.place);
}
