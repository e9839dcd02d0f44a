use Rattle.recovery.specs.Steps.{Step}
use Rattle.recovery.proofs.Steps.{passed_up, step_unread}
use Rattle.recovery.proofs.plans.read_record.Goals as goal

pub returns-in_err-read_at-clause-step : goal.returns-in_err-read_at-clause-step
returns-in_err-read_at-clause-step g c =
    let old = g.D.Disk.state c.args.disk.now in
    let new = g.D.Disk.state c.read_at.new.self in
    passed_up (Step 1 old new) c.from_residual.result c.in_err-read_at.field-0.0 c.from_residual.ensures.1
    (λ e gives. step_unread 1 c.record_at.result 48 _ old new c.in_err-read_at.field-0.0 e c.in_err-read_at.ensures gives)
