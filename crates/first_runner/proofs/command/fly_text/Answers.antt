use Rattle.std.proofs.Common.{sym, ◌∙◌}
use Rattle.first_runner.proofs.Flown.{memory_cause}
use Rattle.first_runner.proofs.command.fly_text.Goals as goal

pub returns-then-is_err-clause-cause : goal.returns-then-is_err-clause-cause
returns-then-is_err-clause-cause g c = memory_cause c.args.text.now c.in-Ok.script c.only_boot.result c.fly-lines.result.0.items c.fly-lines.result.1 c.in-Ok.ensures.good c.only_boot.ensures.only c.fly-lines.ensures.err (sym c.is_err.ensures.value ∙ c.if-is_err.true)
