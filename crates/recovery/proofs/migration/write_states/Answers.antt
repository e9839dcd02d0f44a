use Rattle.std.proofs.Common.{arith}
use Rattle.bank_state.specs.Counting.{on_ok_of, on_ok_map}
use Rattle.recovery.specs.Steps.{Went}
use Rattle.recovery.proofs.Steps.{passed_on, went_on, stopped_on, stopped_wider}
use Rattle.recovery.proofs.Moving.{first_state_behind, two_states, three_states, all_states, states_leave}
use Rattle.recovery.proofs.migration.write_states.Goals as goal

pub returns-in_err-_mission-clause-run : goal.returns-in_err-_mission-clause-run
returns-in_err-_mission-clause-run g c = first_state_behind (g.D.Disk.state c.args.disk.now) (g.D.Disk.state c.write_state.new.disk) c.write_state.ensures.run

pub returns-in_err-_mission-clause-went : goal.returns-in_err-_mission-clause-went
returns-in_err-_mission-clause-went g c =
    let a = (g.D.Disk.state c.args.disk.now).meter in
    let b = (g.D.Disk.state c.write_state.new.disk).meter in
    let f = c.in_err-_mission.field-0.0 in
    passed_on (Went 3 0 a b) c.from_residual.result f c.from_residual.ensures.1 (stopped_wider f 1 3 a b (omega arith) c.in_err-_mission.ensures.went)

pub returns-in_err-_fence-clause-run : goal.returns-in_err-_fence-clause-run
returns-in_err-_fence-clause-run g c =
    two_states (g.D.Disk.state c.args.disk.now) (g.D.Disk.state c.write_state.new.disk) (g.D.Disk.state c.write_state-2.new.disk) c.write_state.ensures.run c.write_state-2.ensures.run

pub returns-in_err-_fence-clause-went : goal.returns-in_err-_fence-clause-went
returns-in_err-_fence-clause-went g c =
    let a = (g.D.Disk.state c.args.disk.now).meter in
    let b = (g.D.Disk.state c.write_state.new.disk).meter in
    let d = (g.D.Disk.state c.write_state-2.new.disk).meter in
    let f = c.in_err-_fence.field-0.0 in
    passed_on (Went 3 0 a d) c.from_residual-in_err-_fence.result f c.from_residual-in_err-_fence.ensures.1
    (stopped_wider f 2 3 a d (omega arith) (stopped_on f 1 0 1 a b d c.in_ok-_mission.ensures.went c.in_err-_fence.ensures.went))

pub returns-clause-states : goal.returns-clause-states
returns-clause-states g c =
    let a = g.D.Disk.state c.args.disk.now in
    let b = g.D.Disk.state c.write_state.new.disk in
    let d = g.D.Disk.state c.write_state-2.new.disk in
    let e = g.D.Disk.state c.write_state-3.new.disk in
    on_ok_map c.write_state-3.result (all_states a b d c.write_state.ensures.run c.write_state-2.ensures.run e c.write_state-3.ensures.run c.args.states.now c.in_ok-_mission.ensures.state c.in_ok-_fence.ensures.state) c.write_state-3.ensures.state

pub returns-clause-left : goal.returns-clause-left
returns-clause-left g c =
    let a = g.D.Disk.state c.args.disk.now in
    let b = g.D.Disk.state c.write_state.new.disk in
    let d = g.D.Disk.state c.write_state-2.new.disk in
    let e = g.D.Disk.state c.write_state-3.new.disk in
    on_ok_of c.write_state-3.result (states_leave a b d c.write_state.ensures.run c.write_state-2.ensures.run e c.write_state-3.ensures.run c.args.states.now c.requires.states)

pub returns-clause-run : goal.returns-clause-run
returns-clause-run g c =
    let a = g.D.Disk.state c.args.disk.now in
    let b = g.D.Disk.state c.write_state.new.disk in
    let d = g.D.Disk.state c.write_state-2.new.disk in
    let e = g.D.Disk.state c.write_state-3.new.disk in
    three_states a b d c.write_state.ensures.run c.write_state-2.ensures.run e c.write_state-3.ensures.run

pub returns-clause-went : goal.returns-clause-went
returns-clause-went g c =
    let a = (g.D.Disk.state c.args.disk.now).meter in
    let b = (g.D.Disk.state c.write_state.new.disk).meter in
    let d = (g.D.Disk.state c.write_state-2.new.disk).meter in
    let e = (g.D.Disk.state c.write_state-3.new.disk).meter in
    went_on 1 0 2 0 a b e c.write_state-3.result c.in_ok-_mission.ensures.went (went_on 1 0 1 0 b d e c.write_state-3.result c.in_ok-_fence.ensures.went c.write_state-3.ensures.went)
