use Rattle.std.proofs.Common.{refl, rules}
use Rattle.first_core.proofs.Beginning.{new_core-fits}
use Rattle.first_core.proofs.boot_core.Core.new.Goals as goal

pub invariant_of-result : goal.invariant_of-result
invariant_of-result c = rw (c.in_ok-shared.ensures, c.in_ok-links.ensures.links, c.in_ok-nav.ensures, c.in_ok-inputs.ensures.own, c.in_ok-links.ensures.nav, c.into_vec.ensures) (new_core-fits c.args.boot c.args.state.now c.requires.limits c.requires.state (search rules))

pub returns-clause-core : goal.returns-clause-core
returns-clause-core c = rw (c.in_ok-shared.ensures, c.in_ok-links.ensures.links, c.in_ok-nav.ensures, c.in_ok-inputs.ensures.own, c.in_ok-links.ensures.nav, c.into_vec.ensures) refl

pub returns-clause-fits : goal.returns-clause-fits
returns-clause-fits c = rw (c.in_ok-shared.ensures, c.in_ok-links.ensures.links, c.in_ok-nav.ensures, c.in_ok-inputs.ensures.own, c.in_ok-links.ensures.nav, c.into_vec.ensures) (new_core-fits c.args.boot c.args.state.now c.requires.limits c.requires.state (search rules))
