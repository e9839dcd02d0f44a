use Rattle.std.specs.Prelude.{Ok, Err, ◌≡◌, ◌+◌, ℕ, List, Option}
use Rattle.std.proofs.Common.{subst, arith, ◌∙◌}
use Rattle.mission_model.specs.declared.counts.Mark.{Mark}
use Rattle.gated_cell.specs.declared.cell.GatedCell.{GatedCell}
use Rattle.recovery.specs.declared.finding.Found.{Found}
use Rattle.recovery.specs.Faults.{fault_behind}
use Rattle.recovery.specs.Steps.{Step, Answers}
use Rattle.recovery.specs.Found.{AllRead, reads_behind}
use Rattle.recovery.proofs.Steps.{passed_on, step_then, step_as, step_stopped}
use Rattle.recovery.proofs.Gathered.{of_first, before_mark, MarkStopped, mark_first, MarkFound, all_read, none_at_all}
use Rattle.recovery.proofs.finding.find_behind.Goals as goal

pub returns-in_err-jumps-clause-step : goal.returns-in_err-jumps-clause-step
returns-in_err-jumps-clause-step g c =
    let a = g.D.Disk.state c.args.disk.now in
    let b = g.D.Disk.state c.open_states.new.disk in
    let d = g.D.Disk.state c.read_plans.new.disk in
    let f = c.in_err-jumps.field-0.0 in
    let states = c.in_ok-states.states in
    let n = states.mission.head.count + (states.fence.head.count + states.safe.head.count) in
    passed_on (λ r. Step (reads_behind r) a d r) c.from_residual-in_err-jumps.result f c.from_residual-in_err-jumps.ensures.1
    (step_stopped (6 + n) 0 a d f (step_then 6 n a b d states (Err f) c.in_ok-states.ensures.step c.in_err-jumps.ensures.step))

pub returns-in_err-mark_cell-clause-step : goal.returns-in_err-mark_cell-clause-step
returns-in_err-mark_cell-clause-step g c =
    let a = g.D.Disk.state c.args.disk.now in
    let b = g.D.Disk.state c.open_states.new.disk in
    let d = g.D.Disk.state c.read_plans.new.disk in
    let z = g.D.Disk.state c.open_mark.new.disk in
    let f = c.in_err-mark_cell.field-0.0 in
    let states = c.in_ok-states.states in
    let n = states.mission.head.count + (states.fence.head.count + states.safe.head.count) in
    let more = step_then 6 n a b d states (Ok c.in_ok-jumps.jumps) c.in_ok-states.ensures.step c.in_ok-jumps.ensures.step in
    passed_on (λ r. Step (reads_behind r) a z r) c.from_residual-in_err-mark_cell.result f c.from_residual-in_err-mark_cell.ensures.1
    (step_stopped ((6 + n) + 2) 0 a z f (step_then (6 + n) 2 a d z c.in_ok-jumps.jumps (Err f) more c.in_err-mark_cell.ensures.step))

pub returns-in_err-mark_cell-clause-answers : goal.returns-in_err-mark_cell-clause-answers
returns-in_err-mark_cell-clause-answers g c = λ told.
    let a = g.D.Disk.state c.args.disk.now in
    let b = g.D.Disk.state c.open_states.new.disk in
    let d = g.D.Disk.state c.read_plans.new.disk in
    let f = c.in_err-mark_cell.field-0.0 in
    let layout = c.args.layout in
    let states = c.in_ok-states.states in
    let jumps = c.in_ok-jumps.jumps in
    let one = c.in_ok-states.ensures.step in
    let two = c.in_ok-jumps.ensures.step in
    let before = before_mark layout a b states jumps one.still.seen one.time.tells c.in_ok-states.ensures.answers c.in_ok-jumps.ensures.answers told in
    passed_on (Answers (fault_behind layout a.seen) (λ (found : Found). AllRead layout a.seen found.states found.mark_cell found.mark)) c.from_residual-in_err-mark_cell.result f c.from_residual-in_err-mark_cell.ensures.1
    (mark_first layout a.seen states jumps f before (of_first a d (two.still.seen ∙ one.still.seen) (two.time.tells ∙ one.time.tells) (λ (l : List ℕ). MarkStopped layout states jumps f l) c.in_err-mark_cell.ensures.answers told))

pub returns-clause-step : goal.returns-clause-step
returns-clause-step g c =
    let a = g.D.Disk.state c.args.disk.now in
    let b = g.D.Disk.state c.open_states.new.disk in
    let d = g.D.Disk.state c.read_plans.new.disk in
    let z = g.D.Disk.state c.open_mark.new.disk in
    let states = c.in_ok-states.states in
    let jumps = c.in_ok-jumps.jumps in
    let found : GatedCell × Option Mark = (c.in_ok-mark_cell.mark_cell, c.in_ok-mark_cell.mark) in
    let n = states.mission.head.count + (states.fence.head.count + states.safe.head.count) in
    let more = step_then 6 n a b d states (Ok jumps) c.in_ok-states.ensures.step c.in_ok-jumps.ensures.step in
    let all = step_then (6 + n) 2 a d z jumps (Ok found) more c.in_ok-mark_cell.ensures.step in
    let same : (6 + n) + 2 ≡ 8 + n = omega arith in
    step_as (8 + n) a z found _ (subst (λ (m : ℕ). Step m a z (Ok found)) same all)

pub returns-clause-answers : goal.returns-clause-answers
returns-clause-answers g c = λ told.
    let a = g.D.Disk.state c.args.disk.now in
    let b = g.D.Disk.state c.open_states.new.disk in
    let d = g.D.Disk.state c.read_plans.new.disk in
    let layout = c.args.layout in
    let states = c.in_ok-states.states in
    let jumps = c.in_ok-jumps.jumps in
    let cell = c.in_ok-mark_cell.mark_cell in
    let mark = c.in_ok-mark_cell.mark in
    let one = c.in_ok-states.ensures.step in
    let two = c.in_ok-jumps.ensures.step in
    let before = before_mark layout a b states jumps one.still.seen one.time.tells c.in_ok-states.ensures.answers c.in_ok-jumps.ensures.answers told in
    let there = of_first a d (two.still.seen ∙ one.still.seen) (two.time.tells ∙ one.time.tells) (λ (l : List ℕ). MarkFound layout states jumps cell mark l) c.in_ok-mark_cell.ensures.answers told in
    let all = all_read layout a.seen states jumps cell mark before there in
    (none_at_all layout a.seen states jumps cell mark before all, all)

pub returns-clause-within : goal.returns-clause-within
returns-clause-within g c = c.in_ok-mark_cell.ensures.within c.in_ok-jumps.ensures.items
