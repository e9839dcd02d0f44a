use Rattle.std.proofs.Common.{length, ◌≡◌, ◌≤◌, ◌+◌}
use Rattle.first_text.specs.Words.{words_in}
use Rattle.first_script.proofs.words.count_words.Given as goal

abbrev pub invariant-loop-behind : goal.invariant-loop-behind
invariant-loop-behind l = record { counted : length (words_in l.line) ≡ l.count + length (words_in l.rest); short : l.count + length l.rest ≤ length l.line }

abbrev pub decreases-loop-behind : goal.decreases-loop-behind
decreases-loop-behind l = length l.rest
