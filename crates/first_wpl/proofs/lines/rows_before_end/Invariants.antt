use Rattle.std.proofs.Common.{◌≡◌, ◌≤◌, length, map, take}
use Rattle.first_text.specs.Spans.{text_of}
use Rattle.first_wpl.specs.Wpl.{without_blank_end}
use Rattle.first_wpl.proofs.lines.rows_before_end.Given as goal

-- the lines from `count` on are blank
abbrev pub invariant-loop-count : goal.invariant-loop-count
invariant-loop-count l = record {
  within : l.count ≤ length l.lines;
  rows : without_blank_end (map (text_of l.text) (take l.count l.lines)) ≡ without_blank_end (map (text_of l.text) l.lines);
}

abbrev pub decreases-loop-count : goal.decreases-loop-count
decreases-loop-count l = l.count
