use Rattle.std.proofs.Common.{◌-◌}
use Rattle.run_script.proofs.draft.Draft.+add_turns.Given as goal

abbrev pub decreases-add_turns : goal.decreases-add_turns
decreases-add_turns l = l.words.to - l.words.at
