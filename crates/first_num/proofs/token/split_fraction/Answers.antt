use Rattle.std.proofs.Common.{arith, rules, refl, Some}
use Rattle.std.proofs.lemmas.Grind.{common_steps}
use Rattle.first_num.proofs.token.split_fraction.Goals as goal

pub returns-in-46 : goal.returns-in-46
returns-in-46 c = record {
  fraction = Some c.split_digits.result.0.now;
  text = first_of (search rules, grind (arith, common_steps));
  same_digits = refl;
  ends = (c.split_digits.ensures.digits, c.split_digits.ensures.left);
}
