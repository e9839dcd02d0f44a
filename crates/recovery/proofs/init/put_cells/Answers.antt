use Rattle.std.specs.Prelude.{ℕ, [], Ok}
use Rattle.std.proofs.Common.{subst, arith}
use Rattle.disk_model.specs.Disk.{Writes}
use Rattle.recovery.specs.Steps.{Went}
use Rattle.recovery.proofs.Steps.{passed_up, quiet_sync, quietly_on, change_stopped, stopped_on, stopped_wider}
use Rattle.recovery.proofs.Emptied.{begun_front, within_front, begun_cells, within_cells, begun_sync, within_sync, cells_held, front_rest, front_long, cells_long}
use Rattle.recovery.proofs.init.put_cells.Goals as goal

pub returns-in_err-write_at-clause-begun : goal.returns-in_err-write_at-clause-begun
returns-in_err-write_at-clause-begun g c =
    let sound = (g.met.D.Disk g.world.𝓛 g.world.𝓜 g.world.𝓡 ((λ s x. x), (λ x. x), (λ x. x), λ x. x)).sound in
    let a = g.D.Disk.state c.args.disk.now in
    let b = g.D.Disk.state c.write_at.new.self in
    begun_front a (sound c.args.disk.now) c.requires.only c.requires.unused _ [] b _ c.write_at.ensures

pub returns-in_err-write_at-clause-within : goal.returns-in_err-write_at-clause-within
returns-in_err-write_at-clause-within g c =
    let sound = (g.met.D.Disk g.world.𝓛 g.world.𝓜 g.world.𝓡 ((λ s x. x), (λ x. x), (λ x. x), λ x. x)).sound in
    let a = g.D.Disk.state c.args.disk.now in
    let b = g.D.Disk.state c.write_at.new.self in
    within_front a (sound c.args.disk.now) c.requires.only c.requires.unused _ [] b _ c.write_at.ensures (front_long c.empty_front.result c.empty_front.ensures)

pub returns-in_err-write_at-clause-went : goal.returns-in_err-write_at-clause-went
returns-in_err-write_at-clause-went g c =
    let a = (g.D.Disk.state c.args.disk.now).meter in
    let b = (g.D.Disk.state c.write_at.new.self).meter in
    passed_up (Went 3 0 a b) c.from_residual.result c.in_err-write_at.field-0.0 c.from_residual.ensures.1
    (λ e gives. stopped_wider e 1 3 a b (omega arith) (change_stopped c.in_err-write_at.field-0.0 e a b c.in_err-write_at.ensures.meter gives))

pub returns-in_err-write_at-2-clause-begun : goal.returns-in_err-write_at-2-clause-begun
returns-in_err-write_at-2-clause-begun g c =
    let sound = (g.met.D.Disk g.world.𝓛 g.world.𝓜 g.world.𝓡 ((λ s x. x), (λ x. x), (λ x. x), λ x. x)).sound in
    let a = g.D.Disk.state c.args.disk.now in
    let b = g.D.Disk.state c.write_at.new.self in
    let d = g.D.Disk.state c.write_at-2.new.self in
    begun_cells a (sound c.args.disk.now) c.requires.only c.requires.unused _ c.empty_cells.result b _ c.write_at.ensures d _ (subst (λ (n : ℕ). Writes n c.empty_cells.result b d c.write_at-2.result) c.state_at.ensures c.write_at-2.ensures)

pub returns-in_err-write_at-2-clause-within : goal.returns-in_err-write_at-2-clause-within
returns-in_err-write_at-2-clause-within g c =
    let sound = (g.met.D.Disk g.world.𝓛 g.world.𝓜 g.world.𝓡 ((λ s x. x), (λ x. x), (λ x. x), λ x. x)).sound in
    let a = g.D.Disk.state c.args.disk.now in
    let b = g.D.Disk.state c.write_at.new.self in
    let d = g.D.Disk.state c.write_at-2.new.self in
    within_cells a (sound c.args.disk.now) c.requires.only c.requires.unused _ c.empty_cells.result b _ c.write_at.ensures d _ (subst (λ (n : ℕ). Writes n c.empty_cells.result b d c.write_at-2.result) c.state_at.ensures c.write_at-2.ensures) (front_long c.empty_front.result c.empty_front.ensures) (cells_long c.empty_cells.result c.empty_cells.ensures)

pub returns-in_err-write_at-2-clause-went : goal.returns-in_err-write_at-2-clause-went
returns-in_err-write_at-2-clause-went g c =
    let a = (g.D.Disk.state c.args.disk.now).meter in
    let b = (g.D.Disk.state c.write_at.new.self).meter in
    let d = (g.D.Disk.state c.write_at-2.new.self).meter in
    passed_up (Went 3 0 a d) c.from_residual-in_err-write_at-2.result c.in_err-write_at-2.field-0.0 c.from_residual-in_err-write_at-2.ensures.1
    (λ e gives. stopped_wider e 2 3 a d (omega arith) (stopped_on e 1 0 1 a b d (quiet_sync a b c.in_ok-write_at.field-0 c.in_ok-write_at.ensures.meter)
    (change_stopped c.in_err-write_at-2.field-0.0 e b d c.in_err-write_at-2.ensures.meter gives)))

pub returns-in_err-sync-clause-begun : goal.returns-in_err-sync-clause-begun
returns-in_err-sync-clause-begun g c =
    let sound = (g.met.D.Disk g.world.𝓛 g.world.𝓜 g.world.𝓡 ((λ s x. x), (λ x. x), (λ x. x), λ x. x)).sound in
    let a = g.D.Disk.state c.args.disk.now in
    let b = g.D.Disk.state c.write_at.new.self in
    let d = g.D.Disk.state c.write_at-2.new.self in
    let z = g.D.Disk.state c.sync.new.self in
    begun_sync a (sound c.args.disk.now) c.requires.only c.requires.unused _ c.empty_cells.result b _ c.write_at.ensures d _ (subst (λ (n : ℕ). Writes n c.empty_cells.result b d c.write_at-2.result) c.state_at.ensures c.write_at-2.ensures) z _ c.sync.ensures

pub returns-in_err-sync-clause-within : goal.returns-in_err-sync-clause-within
returns-in_err-sync-clause-within g c =
    let sound = (g.met.D.Disk g.world.𝓛 g.world.𝓜 g.world.𝓡 ((λ s x. x), (λ x. x), (λ x. x), λ x. x)).sound in
    let a = g.D.Disk.state c.args.disk.now in
    let b = g.D.Disk.state c.write_at.new.self in
    let d = g.D.Disk.state c.write_at-2.new.self in
    let z = g.D.Disk.state c.sync.new.self in
    within_sync a (sound c.args.disk.now) c.requires.only c.requires.unused _ c.empty_cells.result b _ c.write_at.ensures d _ (subst (λ (n : ℕ). Writes n c.empty_cells.result b d c.write_at-2.result) c.state_at.ensures c.write_at-2.ensures) z _ c.sync.ensures (front_long c.empty_front.result c.empty_front.ensures) (cells_long c.empty_cells.result c.empty_cells.ensures)

pub returns-in_err-sync-clause-went : goal.returns-in_err-sync-clause-went
returns-in_err-sync-clause-went g c =
    let a = (g.D.Disk.state c.args.disk.now).meter in
    let b = (g.D.Disk.state c.write_at.new.self).meter in
    let d = (g.D.Disk.state c.write_at-2.new.self).meter in
    let z = (g.D.Disk.state c.sync.new.self).meter in
    let both = quietly_on 1 0 1 0 a b d (quiet_sync a b c.in_ok-write_at.field-0 c.in_ok-write_at.ensures.meter) (quiet_sync b d c.in_ok-write_at-2.field-0 c.in_ok-write_at-2.ensures.meter) in
    passed_up (Went 3 0 a z) c.from_residual-in_err-sync.result c.in_err-sync.field-0.0 c.from_residual-in_err-sync.ensures.1
    (λ e gives. stopped_on e 2 0 1 a d z both (change_stopped c.in_err-sync.field-0.0 e d z c.in_err-sync.ensures.meter gives))

pub returns-clause-begun : goal.returns-clause-begun
returns-clause-begun g c =
    let sound = (g.met.D.Disk g.world.𝓛 g.world.𝓜 g.world.𝓡 ((λ s x. x), (λ x. x), (λ x. x), λ x. x)).sound in
    let a = g.D.Disk.state c.args.disk.now in
    let b = g.D.Disk.state c.write_at.new.self in
    let d = g.D.Disk.state c.write_at-2.new.self in
    let z = g.D.Disk.state c.sync.new.self in
    begun_sync a (sound c.args.disk.now) c.requires.only c.requires.unused _ c.empty_cells.result b _ c.write_at.ensures d _ (subst (λ (n : ℕ). Writes n c.empty_cells.result b d c.write_at-2.result) c.state_at.ensures c.write_at-2.ensures) z _ c.sync.ensures

pub returns-clause-within : goal.returns-clause-within
returns-clause-within g c =
    let sound = (g.met.D.Disk g.world.𝓛 g.world.𝓜 g.world.𝓡 ((λ s x. x), (λ x. x), (λ x. x), λ x. x)).sound in
    let a = g.D.Disk.state c.args.disk.now in
    let b = g.D.Disk.state c.write_at.new.self in
    let d = g.D.Disk.state c.write_at-2.new.self in
    let z = g.D.Disk.state c.sync.new.self in
    within_sync a (sound c.args.disk.now) c.requires.only c.requires.unused _ c.empty_cells.result b _ c.write_at.ensures d _ (subst (λ (n : ℕ). Writes n c.empty_cells.result b d c.write_at-2.result) c.state_at.ensures c.write_at-2.ensures) z _ c.sync.ensures (front_long c.empty_front.result c.empty_front.ensures) (cells_long c.empty_cells.result c.empty_cells.ensures)

pub returns-clause-behind : goal.returns-clause-behind
returns-clause-behind g c = λ told.
    let a = g.D.Disk.state c.args.disk.now in
    let b = g.D.Disk.state c.write_at.new.self in
    let d = g.D.Disk.state c.write_at-2.new.self in
    let z = g.D.Disk.state c.sync.new.self in
    cells_held _ c.empty_cells.result a b d z _ _ _ (front_long c.empty_front.result c.empty_front.ensures) (cells_long c.empty_cells.result c.empty_cells.ensures) c.in_ok-write_at.ensures
    (subst (λ (n : ℕ). Writes n c.empty_cells.result b d (Ok c.in_ok-write_at-2.field-0)) c.state_at.ensures c.in_ok-write_at-2.ensures) c.in_ok-sync.ensures told (front_rest c.empty_front.result c.empty_front.ensures) c.empty_cells.ensures

pub returns-clause-went : goal.returns-clause-went
returns-clause-went g c =
    let a = (g.D.Disk.state c.args.disk.now).meter in
    let b = (g.D.Disk.state c.write_at.new.self).meter in
    let d = (g.D.Disk.state c.write_at-2.new.self).meter in
    let z = (g.D.Disk.state c.sync.new.self).meter in
    let both = quietly_on 1 0 1 0 a b d (quiet_sync a b c.in_ok-write_at.field-0 c.in_ok-write_at.ensures.meter) (quiet_sync b d c.in_ok-write_at-2.field-0 c.in_ok-write_at-2.ensures.meter) in
    quietly_on 2 0 1 0 a d z both (quiet_sync d z c.in_ok-sync.field-0 c.in_ok-sync.ensures.meter)
