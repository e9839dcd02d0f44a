use Rattle.std.specs.Prelude.{◌≡◌, ◌+◌, ℕ}
use Rattle.std.proofs.Common.{subst, arith}
use Rattle.dataman_layout.specs.Mark.{plain_marks}
use Rattle.recovery.specs.Migration.{items_named}
use Rattle.recovery.specs.Steps.{Went, Quietly}
use Rattle.recovery.proofs.Steps.{passed_on, passed_up, change_stopped, quiet_sync, quietly_on, stopped_on, stopped_wider}
use Rattle.recovery.proofs.Moving.{behind_on, marked_behind, synced_behind, put_there}
use Rattle.recovery.proofs.migration.put_behind.Goals as goal

pub returns-in_err-_plans-clause-went : goal.returns-in_err-_plans-clause-went
returns-in_err-_plans-clause-went g c =
    let a = (g.D.Disk.state c.args.disk.now).meter in
    let b = (g.D.Disk.state c.copy_plans.new.disk).meter in
    let n = items_named c.args.found.now.states in
    let f = c.in_err-_plans.field-0.0 in
    passed_on (Went (n + 5) n a b) c.from_residual.result f c.from_residual.ensures.1 (stopped_wider f n (n + 5) a b (omega arith) c.in_err-_plans.ensures.went)

pub returns-in_err-_states-clause-run : goal.returns-in_err-_states-clause-run
returns-in_err-_states-clause-run g c =
    behind_on (g.D.Disk.state c.args.disk.now) (g.D.Disk.state c.copy_plans.new.disk) (g.D.Disk.state c.write_states.new.disk) c.copy_plans.ensures.run c.write_states.ensures.run

pub returns-in_err-_states-clause-went : goal.returns-in_err-_states-clause-went
returns-in_err-_states-clause-went g c =
    let a = (g.D.Disk.state c.args.disk.now).meter in
    let b = (g.D.Disk.state c.copy_plans.new.disk).meter in
    let d = (g.D.Disk.state c.write_states.new.disk).meter in
    let n = items_named c.args.found.now.states in
    let f = c.in_err-_states.field-0.0 in
    passed_on (Went (n + 5) n a d) c.from_residual-in_err-_states.result f c.from_residual-in_err-_states.ensures.1
    (stopped_wider f (n + 3) (n + 5) a d (omega arith) (stopped_on f n n 3 a b d c.in_ok-_plans.ensures.went c.in_err-_states.ensures.went))

pub returns-in_err-_mark-clause-run : goal.returns-in_err-_mark-clause-run
returns-in_err-_mark-clause-run g c =
    marked_behind (g.D.Disk.state c.args.disk.now) (g.D.Disk.state c.copy_plans.new.disk) (g.D.Disk.state c.write_states.new.disk) (g.D.Disk.state c.write_mark.new.disk) c.copy_plans.ensures.run c.write_states.ensures.run c.write_mark.ensures.run

pub returns-in_err-_mark-clause-went : goal.returns-in_err-_mark-clause-went
returns-in_err-_mark-clause-went g c =
    let a = (g.D.Disk.state c.args.disk.now).meter in
    let b = (g.D.Disk.state c.copy_plans.new.disk).meter in
    let d = (g.D.Disk.state c.write_states.new.disk).meter in
    let e = (g.D.Disk.state c.write_mark.new.disk).meter in
    let n = items_named c.args.found.now.states in
    let f = c.in_err-_mark.field-0.0 in
    passed_on (Went (n + 5) n a e) c.from_residual-in_err-_mark.result f c.from_residual-in_err-_mark.ensures.1
    (stopped_wider f ((n + 3) + 1) (n + 5) a e (omega arith) (stopped_on f (n + 3) (n + 0) 1 a d e (quietly_on n n 3 0 a b d c.in_ok-_plans.ensures.went c.in_ok-_states.ensures.went) c.in_err-_mark.ensures.went))

pub returns-in_err-sync-clause-run : goal.returns-in_err-sync-clause-run
returns-in_err-sync-clause-run g c =
    synced_behind (g.D.Disk.state c.args.disk.now) (g.D.Disk.state c.copy_plans.new.disk) (g.D.Disk.state c.write_states.new.disk) (g.D.Disk.state c.write_mark.new.disk) c.copy_plans.ensures.run c.write_states.ensures.run c.write_mark.ensures.run
    (g.D.Disk.state c.sync.new.self) _ c.sync.ensures

pub returns-in_err-sync-clause-went : goal.returns-in_err-sync-clause-went
returns-in_err-sync-clause-went g c =
    let a = (g.D.Disk.state c.args.disk.now).meter in
    let b = (g.D.Disk.state c.copy_plans.new.disk).meter in
    let d = (g.D.Disk.state c.write_states.new.disk).meter in
    let e = (g.D.Disk.state c.write_mark.new.disk).meter in
    let z = (g.D.Disk.state c.sync.new.self).meter in
    let n = items_named c.args.found.now.states in
    let before = quietly_on (n + 3) (n + 0) 1 0 a d e (quietly_on n n 3 0 a b d c.in_ok-_plans.ensures.went c.in_ok-_states.ensures.went) c.in_ok-_mark.ensures.went in
    passed_up (Went (n + 5) n a z) c.from_residual-in_err-sync.result c.in_err-sync.field-0.0 c.from_residual-in_err-sync.ensures.1
    (λ f gives. stopped_wider f (((n + 3) + 1) + 1) (n + 5) a z (omega arith) (stopped_on f ((n + 3) + 1) ((n + 0) + 0) 1 a e z before (change_stopped c.in_err-sync.field-0.0 f e z c.in_err-sync.ensures.meter gives)))

pub returns-clause-put : goal.returns-clause-put
returns-clause-put g c =
    put_there (g.D.Disk.state c.args.disk.now) (g.D.Disk.state c.copy_plans.new.disk) (g.D.Disk.state c.write_states.new.disk) (g.D.Disk.state c.write_mark.new.disk) c.copy_plans.ensures.run c.write_states.ensures.run c.write_mark.ensures.run
    (g.D.Disk.state c.sync.new.self) _ c.sync.ensures c.args.found.now.states (plain_marks c.args.found.now.mark) c.requires.states c.in_ok-_plans.ensures.copied c.in_ok-_states.ensures.left c.in_ok-_states.ensures.states c.in_ok-_mark.ensures.mark

pub returns-clause-run : goal.returns-clause-run
returns-clause-run g c =
    synced_behind (g.D.Disk.state c.args.disk.now) (g.D.Disk.state c.copy_plans.new.disk) (g.D.Disk.state c.write_states.new.disk) (g.D.Disk.state c.write_mark.new.disk) c.copy_plans.ensures.run c.write_states.ensures.run c.write_mark.ensures.run
    (g.D.Disk.state c.sync.new.self) _ c.sync.ensures

pub returns-clause-went : goal.returns-clause-went
returns-clause-went g c =
    let a = (g.D.Disk.state c.args.disk.now).meter in
    let b = (g.D.Disk.state c.copy_plans.new.disk).meter in
    let d = (g.D.Disk.state c.write_states.new.disk).meter in
    let e = (g.D.Disk.state c.write_mark.new.disk).meter in
    let z = (g.D.Disk.state c.sync.new.self).meter in
    let n = items_named c.args.found.now.states in
    let before = quietly_on (n + 3) (n + 0) 1 0 a d e (quietly_on n n 3 0 a b d c.in_ok-_plans.ensures.went c.in_ok-_states.ensures.went) c.in_ok-_mark.ensures.went in
    let all = quietly_on ((n + 3) + 1) ((n + 0) + 0) 1 0 a e z before (quiet_sync e z c.in_ok-sync.field-0 c.in_ok-sync.ensures.meter) in
    let changes : ((n + 3) + 1) + 1 ≡ n + 5 = omega arith in
    let reads : ((n + 0) + 0) + 0 ≡ n = omega arith in
    subst (λ (r : ℕ). Quietly (n + 5) r a z) reads (subst (λ (k : ℕ). Quietly k (((n + 0) + 0) + 0) a z) changes all)
