use Rattle.std.proofs.Common.{length, ◌-◌, ◌≡◌, ◌+◌, ◌≤◌, ◌++◌, drop, map, vec_len}
use Rattle.std.specs.List.{position_from}
use Rattle.first_text.specs.Spans.{text_of, Rising}
use Rattle.first_text.specs.Lines.{lines_of, line_spans}
use Rattle.first_text.specs.Faults.{is_long}
use Rattle.first_text.proofs.lines.ascii_lines.Given as goal

-- the lines found, and those of the text that is left, are those of the whole text
abbrev pub invariant-loop-from : goal.invariant-loop-from
invariant-loop-from l = record {
  within : l.from ≤ length l.text;
  count : vec_len l.spans ≤ l.from;
  lines : map (text_of l.text) l.spans.items ++ lines_of (drop l.from l.text) ≡ lines_of l.text;
  spans : l.spans.items ++ line_spans l.from (drop l.from l.text) ≡ line_spans 0 l.text;
  rising : Rising 0 l.spans.items l.from;
  short : position_from is_long (vec_len l.spans + 1) (lines_of (drop l.from l.text)) ≡ position_from is_long 1 (lines_of l.text);
}

abbrev pub decreases-loop-from : goal.decreases-loop-from
decreases-loop-from l = length l.text - l.from
