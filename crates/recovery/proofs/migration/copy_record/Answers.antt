use Rattle.std.specs.Prelude.{◌≡◌, ℕ, length}
use Rattle.std.proofs.Common.{rules, subst, arith, ◌∙◌}
use Rattle.disk_model.specs.Bytes.{field}
use Rattle.disk_model.specs.Every.{Run}
use Rattle.recovery.specs.Steps.{Went}
use Rattle.recovery.proofs.Steps.{passed_up, read_stopped, change_stopped, stopped_on, stopped_wider, step_read, quiet_sync, quietly_on}
use Rattle.recovery.proofs.Copying.{Anything, run_reading, run_copying, copied_one}
use Rattle.recovery.proofs.migration.copy_record.Goals as goal

pub returns-in_err-read_at-clause-run : goal.returns-in_err-read_at-clause-run
returns-in_err-read_at-clause-run g c =
    let sound = (g.met.D.Disk g.world.𝓛 g.world.𝓜 g.world.𝓡 ((λ s x. x), (λ x. x), (λ x. x), λ x. x)).sound in
    run_reading _ c.record_at.result _ (g.D.Disk.state c.args.disk.now) (g.D.Disk.state c.read_at.new.self) _ (sound c.args.disk.now) c.read_at.ensures

pub returns-in_err-read_at-clause-went : goal.returns-in_err-read_at-clause-went
returns-in_err-read_at-clause-went g c =
    let a = (g.D.Disk.state c.args.disk.now).meter in
    let b = (g.D.Disk.state c.read_at.new.self).meter in
    passed_up (Went 1 1 a b) c.from_residual.result c.in_err-read_at.field-0.0 c.from_residual.ensures.1
    (λ e gives. stopped_wider e 0 1 a b (omega arith) (read_stopped c.in_err-read_at.field-0.0 e a b c.in_err-read_at.ensures.meter gives))

pub returns-in_err-write_at-clause-run : goal.returns-in_err-write_at-clause-run
returns-in_err-write_at-clause-run g c =
    let sound = (g.met.D.Disk g.world.𝓛 g.world.𝓜 g.world.𝓡 ((λ s x. x), (λ x. x), (λ x. x), λ x. x)).sound in
    let a = g.D.Disk.state c.args.disk.now in
    let b = g.D.Disk.state c.read_at.new.self in
    let z = g.D.Disk.state c.write_at.new.self in
    let long : length c.read_at.new.buf ≡ 48 = search rules in
    subst (λ (n : ℕ). Run n 48 Anything a z) c.record_at-2.ensures.place
    (run_copying c.record_at-2.result c.record_at.result _ c.read_at.new.buf a b z c.read_at.result c.write_at.result long (sound c.args.disk.now) c.read_at.ensures c.write_at.ensures)

pub returns-in_err-write_at-clause-went : goal.returns-in_err-write_at-clause-went
returns-in_err-write_at-clause-went g c =
    let a = g.D.Disk.state c.args.disk.now in
    let b = g.D.Disk.state c.read_at.new.self in
    let z = g.D.Disk.state c.write_at.new.self in
    let first = (step_read c.record_at.result 48 c.read_at.new.buf a b c.in_ok-read_at.field-0 c.in_ok-read_at.field-0 c.in_ok-read_at.ensures).went in
    passed_up (Went 1 1 a.meter z.meter) c.from_residual-in_err-write_at.result c.in_err-write_at.field-0.0 c.from_residual-in_err-write_at.ensures.1
    (λ e gives. stopped_on e 0 1 1 a.meter b.meter z.meter first (change_stopped c.in_err-write_at.field-0.0 e b.meter z.meter c.in_err-write_at.ensures.meter gives))

pub returns-clause-run : goal.returns-clause-run
returns-clause-run g c =
    let sound = (g.met.D.Disk g.world.𝓛 g.world.𝓜 g.world.𝓡 ((λ s x. x), (λ x. x), (λ x. x), λ x. x)).sound in
    let a = g.D.Disk.state c.args.disk.now in
    let b = g.D.Disk.state c.read_at.new.self in
    let z = g.D.Disk.state c.write_at.new.self in
    let long : length c.read_at.new.buf ≡ 48 = search rules in
    subst (λ (n : ℕ). Run n 48 Anything a z) c.record_at-2.ensures.place
    (run_copying c.record_at-2.result c.record_at.result _ c.read_at.new.buf a b z c.read_at.result c.write_at.result long (sound c.args.disk.now) c.read_at.ensures c.write_at.ensures)

pub returns-clause-copied : goal.returns-clause-copied
returns-clause-copied g c = λ told.
    let a = g.D.Disk.state c.args.disk.now in
    let b = g.D.Disk.state c.read_at.new.self in
    let z = g.D.Disk.state c.write_at.new.self in
    let long : length c.read_at.new.buf ≡ 48 = search rules in
    let same = copied_one c.record_at-2.result c.record_at.result c.read_at.new.buf a b z c.in_ok-read_at.field-0 c.in_ok-write_at.field-0 long c.in_ok-read_at.ensures c.in_ok-write_at.ensures told in
    record { bytes = subst (λ (n : ℕ). field n 48 z.seen ≡ field c.record_at.result 48 a.seen) c.record_at-2.ensures.place same ∙ (λ i. field (c.record_at.ensures.place i) 48 a.seen) }

pub returns-clause-went : goal.returns-clause-went
returns-clause-went g c =
    let a = g.D.Disk.state c.args.disk.now in
    let b = g.D.Disk.state c.read_at.new.self in
    let z = g.D.Disk.state c.write_at.new.self in
    let first = (step_read c.record_at.result 48 c.read_at.new.buf a b c.in_ok-read_at.field-0 c.in_ok-read_at.field-0 c.in_ok-read_at.ensures).went in
    quietly_on 0 1 1 0 a.meter b.meter z.meter first (quiet_sync b.meter z.meter c.in_ok-write_at.field-0 c.in_ok-write_at.ensures.meter)
