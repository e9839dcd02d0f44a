use Rattle.std.specs.Prelude.{◌≡◌, ◌+◌, ℕ}
use Rattle.std.proofs.Common.{subst, arith}
use Rattle.recovery.specs.Found.{reads_behind}
use Rattle.recovery.specs.Steps.{Went}
use Rattle.recovery.proofs.Booted.{found_synced, answers_synced}
use Rattle.recovery.proofs.Steps.{passed_up, keeps_sync, keeps_on, quiet_sync, change_stopped, went_on}
use Rattle.recovery.proofs.pass.find_synced.Goals as goal

pub returns-in_err-_synced-clause-kept : goal.returns-in_err-_synced-clause-kept
returns-in_err-_synced-clause-kept g c =
    let sound = (g.met.D.Disk g.world.𝓛 g.world.𝓜 g.world.𝓡 ((λ s x. x), (λ x. x), (λ x. x), λ x. x)).sound in
    keeps_sync (g.D.Disk.state c.args.disk.now) (g.D.Disk.state c.sync.new.self) _ (sound c.args.disk.now) c.sync.ensures

pub returns-in_err-_synced-clause-went : goal.returns-in_err-_synced-clause-went
returns-in_err-_synced-clause-went g c =
    let a = (g.D.Disk.state c.args.disk.now).meter in
    let b = (g.D.Disk.state c.sync.new.self).meter in
    passed_up (λ r. Went 1 (reads_behind r) a b r) c.from_residual.result c.in_err-_synced.field-0.0 c.from_residual.ensures.1
    (λ e gives. change_stopped c.in_err-_synced.field-0.0 e a b c.in_err-_synced.ensures.meter gives)

pub returns-clause-found : goal.returns-clause-found
returns-clause-found g c =
    let b = g.D.Disk.state c.sync.new.self in
    let z = g.D.Disk.state c.find_behind.new.disk in
    found_synced b z c.find_behind.result c.in_ok-_synced.ensures.durable c.find_behind.ensures.step c.find_behind.ensures.states c.find_behind.ensures.place c.find_behind.ensures.calm c.find_behind.ensures.within c.find_behind.ensures.answers

pub returns-clause-kept : goal.returns-clause-kept
returns-clause-kept g c =
    let sound = (g.met.D.Disk g.world.𝓛 g.world.𝓜 g.world.𝓡 ((λ s x. x), (λ x. x), (λ x. x), λ x. x)).sound in
    let a = g.D.Disk.state c.args.disk.now in
    let b = g.D.Disk.state c.sync.new.self in
    keeps_on (reads_behind c.find_behind.result) a b (g.D.Disk.state c.find_behind.new.disk) c.find_behind.result (keeps_sync a b _ (sound c.args.disk.now) c.sync.ensures) c.find_behind.ensures.step

pub returns-clause-went : goal.returns-clause-went
returns-clause-went g c =
    let a = g.D.Disk.state c.args.disk.now in
    let b = g.D.Disk.state c.sync.new.self in
    let z = g.D.Disk.state c.find_behind.new.disk in
    let r = reads_behind c.find_behind.result in
    let same : 0 + r ≡ r = omega arith in
    subst (λ (n : ℕ). Went 1 n a.meter z.meter c.find_behind.result) same
    (went_on 1 0 0 r a.meter b.meter z.meter c.find_behind.result (quiet_sync a.meter b.meter c.in_ok-_synced._synced c.in_ok-_synced.ensures.meter) c.find_behind.ensures.step.went)

pub returns-clause-answers : goal.returns-clause-answers
returns-clause-answers g c =
    let a = g.D.Disk.state c.args.disk.now in
    let b = g.D.Disk.state c.sync.new.self in
    answers_synced a b c.find_behind.result c.sync.ensures.seen c.sync.ensures.time.tells c.find_behind.ensures.answers
