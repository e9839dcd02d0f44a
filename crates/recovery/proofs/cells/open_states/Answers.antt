use Rattle.std.specs.Prelude.{Ok, Err}
use Rattle.recovery.specs.Steps.{Step}
use Rattle.recovery.proofs.Steps.{passed_on, step_then, step_as, step_stopped}
use Rattle.recovery.proofs.cells.open_states.Goals as goal

pub returns-in_err-fence-clause-step : goal.returns-in_err-fence-clause-step
returns-in_err-fence-clause-step g c =
    let a = g.D.Disk.state c.args.disk.now in
    let b = g.D.Disk.state c.open_state.new.disk in
    let d = g.D.Disk.state c.open_state-2.new.disk in
    passed_on (Step 6 a d) c.from_residual-in_err-fence.result c.in_err-fence.field-0.0 c.from_residual-in_err-fence.ensures.1
    (step_stopped 4 6 a d c.in_err-fence.field-0.0 (step_then 2 2 a b d c.in_ok-mission.mission (Err c.in_err-fence.field-0.0) c.in_ok-mission.ensures.step c.in_err-fence.ensures.step))

pub returns-in_err-safe-clause-step : goal.returns-in_err-safe-clause-step
returns-in_err-safe-clause-step g c =
    let a = g.D.Disk.state c.args.disk.now in
    let b = g.D.Disk.state c.open_state.new.disk in
    let d = g.D.Disk.state c.open_state-2.new.disk in
    let e = g.D.Disk.state c.open_state-3.new.disk in
    let so_far = step_then 2 2 a b d c.in_ok-mission.mission (Ok c.in_ok-fence.fence) c.in_ok-mission.ensures.step c.in_ok-fence.ensures.step in
    passed_on (Step 6 a e) c.from_residual-in_err-safe.result c.in_err-safe.field-0.0 c.from_residual-in_err-safe.ensures.1
    (step_then 4 2 a d e c.in_ok-fence.fence (Err c.in_err-safe.field-0.0) so_far (step_stopped 2 2 d e c.in_err-safe.field-0.0 c.in_err-safe.ensures.step))

pub returns-clause-step : goal.returns-clause-step
returns-clause-step g c =
    let a = g.D.Disk.state c.args.disk.now in
    let b = g.D.Disk.state c.open_state.new.disk in
    let d = g.D.Disk.state c.open_state-2.new.disk in
    let e = g.D.Disk.state c.open_state-3.new.disk in
    let so_far = step_then 2 2 a b d c.in_ok-mission.mission (Ok c.in_ok-fence.fence) c.in_ok-mission.ensures.step c.in_ok-fence.ensures.step in
    step_as 6 a e c.in_ok-safe.safe _ (step_then 4 2 a d e c.in_ok-fence.fence (Ok c.in_ok-safe.safe) so_far c.in_ok-safe.ensures.step)
