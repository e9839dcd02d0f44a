-- the words found, and those that are left, are those of the line
use Rattle.std.proofs.Common.{◌-◌, ◌≡◌, ◌≤◌, ◌++◌, map}
use Rattle.std.specs.Prelude.{All}
use Rattle.nav_text.specs.Spans.{text_of, stop_of, Rising, IsInside}
use Rattle.nav_text.specs.Words.{words_in, word_spans}
use Rattle.nav_text.specs.Cursors.{IsWithin, words_left, spans_left}
use Rattle.nav_text.proofs.words.words_of.Given as goal

abbrev pub invariant-loop-word : goal.invariant-loop-word
invariant-loop-word l = record {
  within : IsWithin l.text l.words;
  words : map (text_of l.text) l.spans.items ++ words_left l.text l.words ≡ words_in (text_of l.text l.fn.line);
  spans : l.spans.items ++ spans_left l.text l.words ≡ word_spans l.fn.line.from (text_of l.text l.fn.line);
  stops : l.words.to ≤ stop_of l.text l.fn.line;
  rising : Rising l.fn.line.from l.spans.items l.words.at;
  behind : Rising l.fn.line.from l.spans.items (stop_of l.text l.fn.line);
  inside : All (IsInside l.text) l.spans.items;
}

abbrev pub decreases-loop-word : goal.decreases-loop-word
decreases-loop-word l = l.words.to - l.words.at
