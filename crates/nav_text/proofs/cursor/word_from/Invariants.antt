-- no word lies before the place
use Rattle.std.proofs.Common.{◌-◌, ◌≡◌, ◌≤◌}
use Rattle.std.specs.List.{slice_range}
use Rattle.nav_text.specs.Words.{words_in, word_spans}
use Rattle.nav_text.proofs.cursor.word_from.Given as goal

abbrev pub invariant-loop-at : goal.invariant-loop-at
invariant-loop-at l = record {
  above : l.from ≤ l.at;
  words : words_in (slice_range l.text l.from l.to) ≡ words_in (slice_range l.text l.at l.to);
  spans : word_spans l.from (slice_range l.text l.from l.to) ≡ word_spans l.at (slice_range l.text l.at l.to);
}

abbrev pub decreases-loop-at : goal.decreases-loop-at
decreases-loop-at l = l.to - l.at
