use Rattle.first_core.proofs.Beginning.{new_core-fits}
use Rattle.first_core.proofs.CoreParts.{parts_stay}
use Rattle.first_core.proofs.parts.parts_fit.Goals as goal

pub returns-clause-begin : goal.returns-clause-begin
returns-clause-begin c = new_core-fits

pub returns-clause-stay : goal.returns-clause-stay
returns-clause-stay c = parts_stay
