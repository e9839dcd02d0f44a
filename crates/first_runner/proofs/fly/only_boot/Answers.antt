use Rattle.std.proofs.Common.{◌∙◌, sym}
use Rattle.first_runner.proofs.Boots.{last_flyable}
use Rattle.first_runner.proofs.fly.only_boot.Goals as goal

pub returns-clause-flyable : goal.returns-clause-flyable
returns-clause-flyable c = last_flyable c.args.script.boots _ c.in-Some.boot c.requires.boots (sym c.into_vec.ensures ∙ c.in-Some.ensures.items)
