use Rattle.first_core.specs.NavState.{NavState, NavFits}
use Rattle.first_core.proofs.NavStays.{NavFits-advanced}
use Rattle.first_core.proofs.nav.happen.Goals as goal

pub returns-else-matches-clause-fits : goal.returns-else-matches-clause-fits
returns-else-matches-clause-fits c =
    let n : NavState = record { schedule = c.nav.inside.schedule; mode = c.nav.inside.mode; cache = c.nav.inside.cache; index = c.nav.inside.index; at_leg = c.nav.inside.at_leg } in
    let fits : NavFits n = rw c.nav.view_is c.act-entry.ensures.fits in
    rw c.advance.ensures (NavFits-advanced n fits)
