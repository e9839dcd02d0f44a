use Rattle.std.specs.Cmp.Lexicographic.{same_text}
use Rattle.first_runner.proofs.Commands.{two_words}
use Rattle.first_runner.proofs.words.command_of.Goals as goal

pub returns-then-eq-2 : goal.returns-then-eq-2
returns-then-eq-2 c = two_words _ _ _ _ c.if-words-eq2.true (same_text _ _ c.if-eq-2.ensures) c.in-Some.ensures
