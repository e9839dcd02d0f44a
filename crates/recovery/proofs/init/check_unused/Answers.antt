use Rattle.std.specs.Prelude.{Err}
use Rattle.recovery.specs.declared.fault.BootFault.TheVariants.{NotAStore}
use Rattle.recovery.specs.Steps.{Went}
use Rattle.recovery.proofs.Steps.{passed_on, passed_up, quiet_sync, change_stopped, went_on, quietly_on, found}
use Rattle.recovery.proofs.init.check_unused.Goals as goal

pub returns-in_err-sync-clause-went : goal.returns-in_err-sync-clause-went
returns-in_err-sync-clause-went g c =
    let a = (g.D.Disk.state c.args.disk.now).meter in
    let b = (g.D.Disk.state c.sync.new.self).meter in
    passed_up (Went 1 1 a b) c.from_residual.result c.in_err-sync.field-0.0 c.from_residual.ensures.1 (λ e gives. change_stopped c.in_err-sync.field-0.0 e a b c.in_err-sync.ensures.meter gives)

pub returns-in_err-byte-clause-went : goal.returns-in_err-byte-clause-went
returns-in_err-byte-clause-went g c =
    let a = (g.D.Disk.state c.args.disk.now).meter in
    let b = (g.D.Disk.state c.sync.new.self).meter in
    let z = (g.D.Disk.state c.first_byte.new.disk).meter in
    let f = c.in_err-byte.field-0.0 in
    passed_on (Went 1 1 a z) c.from_residual-in_err-byte.result f c.from_residual-in_err-byte.ensures.1
    (went_on {T = Unit {0}} 1 0 0 1 a b z (Err f) (quiet_sync a b c.in_ok-sync.field-0 c.in_ok-sync.ensures.meter) c.in_err-byte.ensures.step.went)

pub returns-else-byte-eq0-clause-went : goal.returns-else-byte-eq0-clause-went
returns-else-byte-eq0-clause-went g c =
    let a = (g.D.Disk.state c.args.disk.now).meter in
    let b = (g.D.Disk.state c.sync.new.self).meter in
    let z = (g.D.Disk.state c.first_byte.new.disk).meter in
    found (NotAStore c.in_ok-byte.byte) 1 1 a z (λ no_disk. no_disk) (quietly_on 1 0 0 1 a b z (quiet_sync a b c.in_ok-sync.field-0 c.in_ok-sync.ensures.meter) c.in_ok-byte.ensures.step.went)
