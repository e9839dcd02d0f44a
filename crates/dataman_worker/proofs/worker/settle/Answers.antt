use Rattle.disk_model.specs.Moments.{started}
use Rattle.bank_state.specs.Ledger.{ledger_of}
use Rattle.bank_state.specs.Store.{StandsNow}
use Rattle.bank_state.specs.Moments.{store_stands}
use Rattle.dataman_worker.proofs.worker.settle.Goals as goal

pub returns-else-in_doubt-clause-any_moment : goal.returns-else-in_doubt-clause-any_moment
returns-else-in_doubt-clause-any_moment g c =
    let s = (g.met.D.Disk g.world.𝓛 g.world.𝓜 g.world.𝓡 ((λ s x. x), (λ x. x), (λ x. x), λ x. x)).sound in
    let banks = c.args.banks.now in
    let disk = g.D.Disk.state banks.disk in
    started disk (StandsNow (ledger_of banks.parts) disk) (s banks.disk) (store_stands banks.parts disk (s banks.disk) c.requires)
