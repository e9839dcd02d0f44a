use Rattle.nav_text.proofs.Places.{none_high}
use Rattle.nav_text.proofs.lines.first_high.Goals as goal

pub returns-then-is_ascii : goal.returns-then-is_ascii
returns-then-is_ascii c = none_high c.args.text.now c.if-is_ascii.ensures.cases
