use Rattle.std.proofs.Common.{length, ◌-◌, ◌+◌, ◌≤◌, drop}
use Rattle.run_script.proofs.Reading.{ReadTo}
use Rattle.run_script.proofs.read.read_lines.Given as goal

-- the lines so far, with those that are left, are all lines
abbrev pub invariant-loop-number : goal.invariant-loop-number
invariant-loop-number l = record {
  within : l.number ≤ length l.lines;
  read : ReadTo l.text l.lines (l.number + 1) l.within (drop l.number l.lines) l.draft;
}

abbrev pub decreases-loop-number : goal.decreases-loop-number
decreases-loop-number l = length l.lines - l.number
