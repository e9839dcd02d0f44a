use Rattle.std.proofs.Common.{◌≡◌, map, take}
use Rattle.first_text.specs.Joined.{text_of_lines}
use Rattle.first_text.proofs.joining.join_text.Given as goal

abbrev pub invariant-loop-line : goal.invariant-loop-line
invariant-loop-line l = l.text.items ≡ text_of_lines (map (λ line. line.items) (take l.line-index l.lines))
