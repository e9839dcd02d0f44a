use Rattle.std.proofs.Common.{◌++◌, sym, ap, ◌∙◌, arith}
use Rattle.std.specs.List.{slice_get}
use Rattle.return_mode.specs.Route.{targets_of, home_if}
use Rattle.return_mode.proofs.Items.{items_back-cons}
use Rattle.return_mode.proofs.route.Route.target.Goals as goal

pub returns-in-Back : goal.returns-in-Back
returns-in-Back c = sym (ap (λ r. slice_get (targets_of r) 0) c.in-Back.is ∙ ap (λ l. slice_get (l ++ home_if c.in-Back.has_home) 0) (items_back-cons c.in-Back.index (omega arith)))
