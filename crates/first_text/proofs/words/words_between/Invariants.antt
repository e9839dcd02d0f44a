use Rattle.std.proofs.Common.{◌-◌, ◌≡◌, ◌≤◌, ◌++◌, map}
use Rattle.std.specs.List.{slice_range}
use Rattle.first_text.specs.Spans.{text_of, Rising}
use Rattle.first_text.specs.Words.{words_in, word_spans}
use Rattle.first_text.proofs.words.words_between.Given as goal

-- the words found, and those of what is left, are those of the whole
abbrev pub invariant-loop-begin : goal.invariant-loop-begin
invariant-loop-begin l = record {
  above : l.from ≤ l.begin;
  words : map (text_of l.text) l.spans.items ++ words_in (slice_range l.text l.begin l.to) ≡ words_in (slice_range l.text l.from l.to);
  spans : l.spans.items ++ word_spans l.begin (slice_range l.text l.begin l.to) ≡ word_spans l.from (slice_range l.text l.from l.to);
  rising : Rising l.from l.spans.items l.begin;
  inside : Rising l.from l.spans.items l.to;
}

abbrev pub decreases-loop-begin : goal.decreases-loop-begin
decreases-loop-begin l = l.to - l.begin
