use Rattle.std.proofs.Common.{refl}
use Rattle.bank_state.specs.Gathered.{gathered}
use Rattle.bank_state.proofs.Gathering.{ready_store}
use Rattle.bank_state.proofs.banks.Banks.from_parts.Goals as goal

pub returns-clause-store : goal.returns-clause-store
returns-clause-store g c =
    let s = (g.met.D.Disk g.world.𝓛 g.world.𝓜 g.world.𝓡 ((λ s x. x), (λ x. x), (λ x. x), λ x. x)).sound in
    ready_store (gathered c.args.cells c.args.banks c.args.heads c.args.mark) (g.D.Disk.state c.args.disk) (s c.args.disk) refl c.requires.ready
