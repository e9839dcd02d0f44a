use Rattle.std.specs.Prelude.{◌≡◌, ◌+◌, ℕ, IfErr}
use Rattle.std.proofs.Common.{subst, arith, ◌∙◌}
use Rattle.bank_state.specs.Counting.{on_ok_of}
use Rattle.recovery.specs.Found.{reads_behind}
use Rattle.recovery.specs.Migration.{items_named}
use Rattle.recovery.specs.Steps.{Went, IsOfDisk}
use Rattle.recovery.proofs.Booted.{moved_of_disk, kept_moved, kept_carried}
use Rattle.recovery.proofs.Steps.{passed_on, steady_trans, stopped_wider, went_on}
use Rattle.recovery.proofs.pass.find_moved.Goals as goal

pub returns-in_err-_moved-clause-of_disk : goal.returns-in_err-_moved-clause-of_disk
returns-in_err-_moved-clause-of_disk g c = λ told. passed_on (λ r. IfErr r IsOfDisk) c.from_residual.result c.in_err-_moved.field-0.0 c.from_residual.ensures.1 c.in_err-_moved.ensures.of_disk

pub returns-in_err-_moved-clause-went : goal.returns-in_err-_moved-clause-went
returns-in_err-_moved-clause-went g c =
    let a = (g.D.Disk.state c.args.disk.now).meter in
    let b = (g.D.Disk.state c.move_store.new.disk).meter in
    let n = items_named c.args.found.now.states in
    let f = c.in_err-_moved.field-0.0 in
    passed_on (λ r. Went (n + 12) (n + reads_behind r) a b r) c.from_residual.result f c.from_residual.ensures.1 (stopped_wider f (n + 11) (n + 12) a b (omega arith) c.in_err-_moved.ensures.went)

pub returns-clause-moved : goal.returns-clause-moved
returns-clause-moved g c =
    on_ok_of c.find_synced.result (kept_moved (g.D.Disk.state c.args.disk.now).seen (g.D.Disk.state c.move_store.new.disk) (g.D.Disk.state c.find_synced.new.disk) c.find_synced.ensures.kept c.in_ok-_moved.ensures.moved)

pub returns-clause-images : goal.returns-clause-images
returns-clause-images g c =
    let a = g.D.Disk.state c.args.disk.now in
    let b = g.D.Disk.state c.move_store.new.disk in
    let z = g.D.Disk.state c.find_synced.new.disk in
    kept_carried a b z c.move_store.ensures.images c.find_synced.ensures.kept

pub returns-clause-tells : goal.returns-clause-tells
returns-clause-tells g c = c.find_synced.ensures.kept.tells ∙ c.move_store.ensures.tells

pub returns-clause-steady : goal.returns-clause-steady
returns-clause-steady g c =
    steady_trans (g.D.Disk.state c.args.disk.now).meter (g.D.Disk.state c.move_store.new.disk).meter (g.D.Disk.state c.find_synced.new.disk).meter c.move_store.ensures.steady c.find_synced.ensures.kept.steady

pub returns-clause-of_disk : goal.returns-clause-of_disk
returns-clause-of_disk g c =
    moved_of_disk (g.D.Disk.state c.args.disk.now) (g.D.Disk.state c.move_store.new.disk) c.find_synced.result c.in_ok-_moved.ensures.moved c.find_synced.ensures.answers c.move_store.ensures.tells

pub returns-clause-went : goal.returns-clause-went
returns-clause-went g c =
    let a = (g.D.Disk.state c.args.disk.now).meter in
    let b = (g.D.Disk.state c.move_store.new.disk).meter in
    let z = (g.D.Disk.state c.find_synced.new.disk).meter in
    let n = items_named c.args.found.now.states in
    let r = reads_behind c.find_synced.result in
    let same : (n + 11) + 1 ≡ n + 12 = omega arith in
    subst (λ (k : ℕ). Went k (n + r) a z c.find_synced.result) same (went_on (n + 11) n 1 r a b z c.find_synced.result c.in_ok-_moved.ensures.went c.find_synced.ensures.went)
