use Rattle.first_cache.specs.CacheState.{got}
use Rattle.first_core.specs.NavState.{NavState, NavFits}
use Rattle.first_core.proofs.NavStays.{got-shape, NavFits-with}
use Rattle.first_core.proofs.nav.step.Goals as goal

pub returns-in-Some-clause-fits : goal.returns-in-Some-clause-fits
returns-in-Some-clause-fits c =
    let n : NavState = record { schedule = c.nav.inside.schedule; mode = c.nav.inside.mode; cache = c.nav.inside.cache; index = c.nav.inside.index; at_leg = c.nav.inside.at_leg } in
    let fits : NavFits n = rw c.nav.view_is c.requires.fits in
    rw c.got.ensures.cache (NavFits-with n n.schedule (got n.cache c.in-Some.asked c.in-Some.reply) n.at_leg fits (got-shape n.cache c.in-Some.asked c.in-Some.reply) fits.inputs fits.leg)
