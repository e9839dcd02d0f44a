use Rattle.std.proofs.Common.{◌++◌, drop, sym, ap, ◌∙◌, arith}
use Rattle.return_mode.specs.Route.{targets_of, home_if}
use Rattle.return_mode.proofs.Items.{items_to-cons, items_back-cons}
use Rattle.return_mode.proofs.route.Route.rest.Goals as goal

pub returns-in-Onward : goal.returns-in-Onward
returns-in-Onward c = sym (ap (λ r. drop 1 (targets_of r)) c.in-Onward.is ∙ ap (drop 1) (items_to-cons c.in-Onward.first c.in-Onward.last (omega arith)))

pub returns-in-Back : goal.returns-in-Back
returns-in-Back c = sym (ap (λ r. drop 1 (targets_of r)) c.in-Back.is ∙ ap (λ l. drop 1 (l ++ home_if c.in-Back.has_home)) (items_back-cons c.in-Back.index (omega arith)))
