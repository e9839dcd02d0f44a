use Rattle.std.specs.Prelude.{Ok, Err, ◌≡◌, ◌+◌, ℕ, None, List}
use Rattle.std.proofs.Common.{refl, ◌∙◌}
use Rattle.mission_model.specs.declared.plan.PlanType.TheVariants.{Fence, Safe}
use Rattle.recovery.specs.Faults.{items_fault}
use Rattle.recovery.specs.Steps.{Step}
use Rattle.recovery.proofs.Steps.{passed_on, step_then, step_as, step_stopped}
use Rattle.recovery.proofs.Gathered.{of_first, plans_none}
use Rattle.recovery.proofs.plans.read_plans.Goals as goal

pub returns-in_err-_fence-clause-step : goal.returns-in_err-_fence-clause-step
returns-in_err-_fence-clause-step g c =
    let a = g.D.Disk.state c.args.disk.now in
    let b = g.D.Disk.state c.read_plan.new.disk in
    let d = g.D.Disk.state c.read_plan-2.new.disk in
    let m = c.args.states.now.mission.head.count in
    let f = c.args.states.now.fence.head.count in
    let all = m + (f + c.args.states.now.safe.head.count) in
    passed_on (Step all a d) c.from_residual-in_err-_fence.result c.in_err-_fence.field-0.0 c.from_residual-in_err-_fence.ensures.1
    (step_stopped (m + f) all a d c.in_err-_fence.field-0.0 (step_then m f a b d c.in_ok-jumps.jumps (Err c.in_err-_fence.field-0.0) c.in_ok-jumps.ensures.step c.in_err-_fence.ensures.step))

pub returns-in_err-_safe-clause-step : goal.returns-in_err-_safe-clause-step
returns-in_err-_safe-clause-step g c =
    let a = g.D.Disk.state c.args.disk.now in
    let b = g.D.Disk.state c.read_plan.new.disk in
    let d = g.D.Disk.state c.read_plan-2.new.disk in
    let e = g.D.Disk.state c.read_plan-3.new.disk in
    let m = c.args.states.now.mission.head.count in
    let f = c.args.states.now.fence.head.count in
    let s = c.args.states.now.safe.head.count in
    passed_on (Step (m + (f + s)) a e) c.from_residual-in_err-_safe.result c.in_err-_safe.field-0.0 c.from_residual-in_err-_safe.ensures.1
    (step_then m (f + s) a b e c.in_ok-jumps.jumps (Err c.in_err-_safe.field-0.0) c.in_ok-jumps.ensures.step
    (step_then f s b d e c.in_ok-_fence._fence (Err c.in_err-_safe.field-0.0) c.in_ok-_fence.ensures.step c.in_err-_safe.ensures.step))

pub returns-clause-step : goal.returns-clause-step
returns-clause-step g c =
    let a = g.D.Disk.state c.args.disk.now in
    let b = g.D.Disk.state c.read_plan.new.disk in
    let d = g.D.Disk.state c.read_plan-2.new.disk in
    let e = g.D.Disk.state c.read_plan-3.new.disk in
    let m = c.args.states.now.mission.head.count in
    let f = c.args.states.now.fence.head.count in
    let s = c.args.states.now.safe.head.count in
    step_as (m + (f + s)) a e c.in_ok-_safe._safe c.in_ok-jumps.jumps
    (step_then m (f + s) a b e c.in_ok-jumps.jumps (Ok c.in_ok-_safe._safe) c.in_ok-jumps.ensures.step
    (step_then f s b d e c.in_ok-_fence._fence (Ok c.in_ok-_safe._safe) c.in_ok-_fence.ensures.step c.in_ok-_safe.ensures.step))

pub returns-clause-answers : goal.returns-clause-answers
returns-clause-answers g c = λ told read.
    let a = g.D.Disk.state c.args.disk.now in
    let b = g.D.Disk.state c.read_plan.new.disk in
    let d = g.D.Disk.state c.read_plan-2.new.disk in
    let states = c.args.states.now in
    let first = c.in_ok-jumps.ensures.step in
    let second = c.in_ok-_fence.ensures.step in
    let mission = c.in_ok-jumps.ensures.answers told in
    let fence = of_first a b first.still.seen first.time.tells (λ (l : List ℕ). items_fault c.args.layout Fence states.fence.bank states.fence.head states.fence.head.count l ≡ None) (λ t. (c.in_ok-_fence.ensures.answers t).0) told in
    let safe = of_first a d (second.still.seen ∙ first.still.seen) (second.time.tells ∙ first.time.tells) (λ (l : List ℕ). items_fault c.args.layout Safe states.safe.bank states.safe.head states.safe.head.count l ≡ None) (λ t. (c.in_ok-_safe.ensures.answers t).0) told in
    (plans_none c.args.layout states a.seen read mission.0 fence safe, mission.1 refl)

pub returns-clause-items : goal.returns-clause-items
returns-clause-items g c = c.in_ok-jumps.ensures.items refl
