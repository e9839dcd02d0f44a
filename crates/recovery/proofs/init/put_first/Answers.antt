use Rattle.std.proofs.Common.{arith}
use Rattle.recovery.specs.Steps.{Went}
use Rattle.recovery.proofs.Steps.{passed_up, quiet_sync, quietly_on, change_stopped, stopped_on, stopped_wider}
use Rattle.recovery.proofs.Emptied.{begun_first, within_first, begun_last, within_last, all_held}
use Rattle.recovery.proofs.init.put_first.Goals as goal

pub returns-in_err-write_at-clause-begun : goal.returns-in_err-write_at-clause-begun
returns-in_err-write_at-clause-begun g c =
    let sound = (g.met.D.Disk g.world.𝓛 g.world.𝓜 g.world.𝓡 ((λ s x. x), (λ x. x), (λ x. x), λ x. x)).sound in
    let a = g.D.Disk.state c.args.disk.now in
    let b = g.D.Disk.state c.write_at.new.self in
    begun_first a (sound c.args.disk.now) c.requires.only c.requires.behind b _ c.write_at.ensures

pub returns-in_err-write_at-clause-within : goal.returns-in_err-write_at-clause-within
returns-in_err-write_at-clause-within g c =
    let sound = (g.met.D.Disk g.world.𝓛 g.world.𝓜 g.world.𝓡 ((λ s x. x), (λ x. x), (λ x. x), λ x. x)).sound in
    let a = g.D.Disk.state c.args.disk.now in
    let b = g.D.Disk.state c.write_at.new.self in
    within_first a (sound c.args.disk.now) c.requires.only c.requires.behind b _ c.write_at.ensures

pub returns-in_err-write_at-clause-went : goal.returns-in_err-write_at-clause-went
returns-in_err-write_at-clause-went g c =
    let a = (g.D.Disk.state c.args.disk.now).meter in
    let b = (g.D.Disk.state c.write_at.new.self).meter in
    passed_up (Went 2 0 a b) c.from_residual.result c.in_err-write_at.field-0.0 c.from_residual.ensures.1
    (λ e gives. stopped_wider e 1 2 a b (omega arith) (change_stopped c.in_err-write_at.field-0.0 e a b c.in_err-write_at.ensures.meter gives))

pub returns-in_err-sync-clause-begun : goal.returns-in_err-sync-clause-begun
returns-in_err-sync-clause-begun g c =
    let sound = (g.met.D.Disk g.world.𝓛 g.world.𝓜 g.world.𝓡 ((λ s x. x), (λ x. x), (λ x. x), λ x. x)).sound in
    let a = g.D.Disk.state c.args.disk.now in
    let b = g.D.Disk.state c.write_at.new.self in
    let z = g.D.Disk.state c.sync.new.self in
    begun_last a (sound c.args.disk.now) c.requires.only c.requires.behind b _ c.write_at.ensures z _ c.sync.ensures

pub returns-in_err-sync-clause-within : goal.returns-in_err-sync-clause-within
returns-in_err-sync-clause-within g c =
    let sound = (g.met.D.Disk g.world.𝓛 g.world.𝓜 g.world.𝓡 ((λ s x. x), (λ x. x), (λ x. x), λ x. x)).sound in
    let a = g.D.Disk.state c.args.disk.now in
    let b = g.D.Disk.state c.write_at.new.self in
    let z = g.D.Disk.state c.sync.new.self in
    within_last a (sound c.args.disk.now) c.requires.only c.requires.behind b _ c.write_at.ensures z _ c.sync.ensures

pub returns-in_err-sync-clause-went : goal.returns-in_err-sync-clause-went
returns-in_err-sync-clause-went g c =
    let a = (g.D.Disk.state c.args.disk.now).meter in
    let b = (g.D.Disk.state c.write_at.new.self).meter in
    let z = (g.D.Disk.state c.sync.new.self).meter in
    passed_up (Went 2 0 a z) c.from_residual-in_err-sync.result c.in_err-sync.field-0.0 c.from_residual-in_err-sync.ensures.1
    (λ e gives. stopped_on e 1 0 1 a b z (quiet_sync a b c.in_ok-write_at.field-0 c.in_ok-write_at.ensures.meter) (change_stopped c.in_err-sync.field-0.0 e b z c.in_err-sync.ensures.meter gives))

pub returns-clause-begun : goal.returns-clause-begun
returns-clause-begun g c =
    let sound = (g.met.D.Disk g.world.𝓛 g.world.𝓜 g.world.𝓡 ((λ s x. x), (λ x. x), (λ x. x), λ x. x)).sound in
    let a = g.D.Disk.state c.args.disk.now in
    let b = g.D.Disk.state c.write_at.new.self in
    let z = g.D.Disk.state c.sync.new.self in
    begun_last a (sound c.args.disk.now) c.requires.only c.requires.behind b _ c.write_at.ensures z _ c.sync.ensures

pub returns-clause-within : goal.returns-clause-within
returns-clause-within g c =
    let sound = (g.met.D.Disk g.world.𝓛 g.world.𝓜 g.world.𝓡 ((λ s x. x), (λ x. x), (λ x. x), λ x. x)).sound in
    let a = g.D.Disk.state c.args.disk.now in
    let b = g.D.Disk.state c.write_at.new.self in
    let z = g.D.Disk.state c.sync.new.self in
    within_last a (sound c.args.disk.now) c.requires.only c.requires.behind b _ c.write_at.ensures z _ c.sync.ensures

pub returns-clause-empty : goal.returns-clause-empty
returns-clause-empty g c =
    all_held (g.D.Disk.state c.args.disk.now) (g.D.Disk.state c.write_at.new.self) (g.D.Disk.state c.sync.new.self) _ _ c.requires.behind c.in_ok-write_at.ensures c.in_ok-sync.ensures

pub returns-clause-went : goal.returns-clause-went
returns-clause-went g c =
    let a = (g.D.Disk.state c.args.disk.now).meter in
    let b = (g.D.Disk.state c.write_at.new.self).meter in
    let z = (g.D.Disk.state c.sync.new.self).meter in
    quietly_on 1 0 1 0 a b z (quiet_sync a b c.in_ok-write_at.field-0 c.in_ok-write_at.ensures.meter) (quiet_sync b z c.in_ok-sync.field-0 c.in_ok-sync.ensures.meter)
