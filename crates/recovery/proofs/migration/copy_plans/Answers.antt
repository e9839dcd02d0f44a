use Rattle.std.specs.Prelude.{◌+◌}
use Rattle.std.proofs.Common.{arith}
use Rattle.bank_state.specs.Counting.{on_ok_map}
use Rattle.recovery.specs.Migration.{items_named}
use Rattle.recovery.specs.Steps.{Went}
use Rattle.recovery.proofs.Steps.{passed_on, went_on, stopped_on, stopped_wider}
use Rattle.recovery.proofs.Moving.{two_plans_behind, plans_behind, all_copied, first_plan_behind}
use Rattle.recovery.proofs.migration.copy_plans.Goals as goal

pub returns-in_err-_mission-clause-run : goal.returns-in_err-_mission-clause-run
returns-in_err-_mission-clause-run g c = first_plan_behind (g.D.Disk.state c.args.disk.now) (g.D.Disk.state c.copy_plan.new.disk) c.copy_plan.ensures.run

pub returns-in_err-_mission-clause-went : goal.returns-in_err-_mission-clause-went
returns-in_err-_mission-clause-went g c =
    let a = (g.D.Disk.state c.args.disk.now).meter in
    let b = (g.D.Disk.state c.copy_plan.new.disk).meter in
    let states = c.args.states.now in
    let n = items_named states in
    let f = c.in_err-_mission.field-0.0 in
    passed_on (Went n n a b) c.from_residual.result f c.from_residual.ensures.1 (stopped_wider f states.mission.head.count n a b (omega arith) c.in_err-_mission.ensures.went)

pub returns-in_err-_fence-clause-run : goal.returns-in_err-_fence-clause-run
returns-in_err-_fence-clause-run g c =
    two_plans_behind (g.D.Disk.state c.args.disk.now) (g.D.Disk.state c.copy_plan.new.disk) (g.D.Disk.state c.copy_plan-2.new.disk) c.copy_plan.ensures.run c.copy_plan-2.ensures.run

pub returns-in_err-_fence-clause-went : goal.returns-in_err-_fence-clause-went
returns-in_err-_fence-clause-went g c =
    let a = (g.D.Disk.state c.args.disk.now).meter in
    let b = (g.D.Disk.state c.copy_plan.new.disk).meter in
    let d = (g.D.Disk.state c.copy_plan-2.new.disk).meter in
    let states = c.args.states.now in
    let n = items_named states in
    let m = states.mission.head.count in
    let k = states.fence.head.count in
    let f = c.in_err-_fence.field-0.0 in
    passed_on (Went n n a d) c.from_residual-in_err-_fence.result f c.from_residual-in_err-_fence.ensures.1
    (stopped_wider f (m + k) n a d (omega arith) (stopped_on f m m k a b d c.in_ok-_mission.ensures.went c.in_err-_fence.ensures.went))

pub returns-clause-copied : goal.returns-clause-copied
returns-clause-copied g c =
    let a = g.D.Disk.state c.args.disk.now in
    let b = g.D.Disk.state c.copy_plan.new.disk in
    let d = g.D.Disk.state c.copy_plan-2.new.disk in
    let e = g.D.Disk.state c.copy_plan-3.new.disk in
    on_ok_map c.copy_plan-3.result (all_copied a b d c.copy_plan.ensures.run c.copy_plan-2.ensures.run e c.copy_plan-3.ensures.run c.args.states.now c.requires.states c.in_ok-_mission.ensures.copied c.in_ok-_fence.ensures.copied) c.copy_plan-3.ensures.copied

pub returns-clause-run : goal.returns-clause-run
returns-clause-run g c =
    let a = g.D.Disk.state c.args.disk.now in
    let b = g.D.Disk.state c.copy_plan.new.disk in
    let d = g.D.Disk.state c.copy_plan-2.new.disk in
    let e = g.D.Disk.state c.copy_plan-3.new.disk in
    plans_behind a b d c.copy_plan.ensures.run c.copy_plan-2.ensures.run e c.copy_plan-3.ensures.run

pub returns-clause-went : goal.returns-clause-went
returns-clause-went g c =
    let a = (g.D.Disk.state c.args.disk.now).meter in
    let b = (g.D.Disk.state c.copy_plan.new.disk).meter in
    let d = (g.D.Disk.state c.copy_plan-2.new.disk).meter in
    let e = (g.D.Disk.state c.copy_plan-3.new.disk).meter in
    let states = c.args.states.now in
    let m = states.mission.head.count in
    let k = states.fence.head.count in
    let s = states.safe.head.count in
    went_on m m (k + s) (k + s) a b e c.copy_plan-3.result c.in_ok-_mission.ensures.went (went_on k k s s b d e c.copy_plan-3.result c.in_ok-_fence.ensures.went c.copy_plan-3.ensures.went)
