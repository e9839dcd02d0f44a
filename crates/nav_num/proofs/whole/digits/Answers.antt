use Rattle.std.proofs.Common.{◌∙◌}
use Rattle.nav_num.specs.WholeLaws.{AllDigits-found}
use Rattle.nav_num.proofs.Wholes.{min-digits}
use Rattle.nav_num.proofs.whole.digits.Goals as goal

pub number_up_to-requires-clause-digits : goal.number_up_to-requires-clause-digits
number_up_to-requires-clause-digits c = AllDigits-found c.args.token.now c.requires.digits

pub returns : goal.returns
returns c = c.number_up_to.ensures ∙ min-digits c.args.token.now (AllDigits-found c.args.token.now c.requires.digits) c.requires.few
