use Rattle.recovery.specs.Booting.{Boots}
use Rattle.recovery.proofs.Booted.{boots_unsynced, boots_synced}
use Rattle.recovery.proofs.Steps.{passed_up}
use Rattle.recovery.proofs.pass.gather.Goals as goal

pub returns-in_err-sync : goal.returns-in_err-sync
returns-in_err-sync g c =
    let sound = (g.met.D.Disk g.world.𝓛 g.world.𝓜 g.world.𝓡 ((λ s x. x), (λ x. x), (λ x. x), λ x. x)).sound in
    let a = g.D.Disk.state c.args.disk.now in
    let b = g.D.Disk.state c.sync.new.self in
    passed_up (λ r. Boots 1 a b r) c.from_residual.result c.in_err-sync.field-0.0 c.from_residual.ensures.1
    (λ e gives. boots_unsynced a b (sound c.args.disk.now) c.in_err-sync.field-0.0 e c.in_err-sync.ensures gives)

pub returns : goal.returns
returns g c =
    let sound = (g.met.D.Disk g.world.𝓛 g.world.𝓜 g.world.𝓡 ((λ s x. x), (λ x. x), (λ x. x), λ x. x)).sound in
    boots_synced (g.D.Disk.state c.args.disk.now) (g.D.Disk.state c.sync.new.self) (sound c.args.disk.now) c.in_ok-sync.field-0 c.in_ok-sync.ensures (g.D.Disk.state c.find.new.disk) c.find.result c.find.ensures
