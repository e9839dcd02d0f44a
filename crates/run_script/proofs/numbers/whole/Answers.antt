use Rattle.std.proofs.Common.{sym}
use Rattle.nav_num.specs.WholeLaws.{numeral-whole_number}
use Rattle.run_script.proofs.numbers.whole.Goals as goal

pub returns-in-Ok-clause-above : goal.returns-in-Ok-clause-above
returns-in-Ok-clause-above c = (numeral-whole_number c.args.least c.args.greatest c.args.word.now c.in-Ok.number (sym c.in-Ok.ensures)).low

pub returns-in-Ok-clause-below : goal.returns-in-Ok-clause-below
returns-in-Ok-clause-below c = (numeral-whole_number c.args.least c.args.greatest c.args.word.now c.in-Ok.number (sym c.in-Ok.ensures)).high
