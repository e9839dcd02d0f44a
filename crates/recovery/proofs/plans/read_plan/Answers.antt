use Rattle.std.specs.Prelude.{Some, ◌≡◌}
use Rattle.std.proofs.Common.{rules, refl}
use Rattle.mission_model.specs.declared.plan.Item.{Item}
use Rattle.mission_model.specs.declared.plan.PlanType.TheVariants.{Mission}
use Rattle.bank_state.specs.StandsFor.{record_of}
use Rattle.bank_state.specs.Ledger.{items_read}
use Rattle.bank_state.specs.Outcomes.{item_by}
use Rattle.mission_model.specs.declared.counts.Counts.{Counts}
use Rattle.recovery.specs.Faults.{items_fault}
use Rattle.recovery.specs.Steps.{Step, Answers}
use Rattle.recovery.specs.Found.{HasJumps}
use Rattle.recovery.proofs.Steps.{passed_on}
use Rattle.recovery.proofs.Items.{so_far_start, has_room, so_far_unread, step_unread_item, so_far_refused, step_refused_item, so_far_next, so_far_done}
use Rattle.recovery.proofs.plans.read_plan.Goals as goal

pub loop-seq-init : goal.loop-seq-init
loop-seq-init g c = so_far_start c.args.layout c.args.kind c.args.banks c.begin-check.result c.new-jumps.result (g.D.Disk.state c.args.disk.now) c.begin-check.ensures c.new-jumps.ensures

pub loop-seq-preserved : goal.loop-seq-preserved
loop-seq-preserved g c =
    let old = g.D.Disk.state c.args.disk.now in
    let mid = g.D.Disk.state c.loop-seq.disk in
    let new = g.D.Disk.state c.read_item.new.disk in
    so_far_next c.args.layout c.args.kind c.args.banks c.loop-seq.seq c.loop-seq.check c.loop-seq.jumps old mid new c.loop-seq.invariant c.in_ok-item.item c.in_ok-item.ensures.answers
    _ c.next.new.self c.note.new.repeats refl (search rules) c.requires.count c.in_ok-item.ensures.step c.in-Ok.ensures.code c.in-Ok.ensures.ok c.note.ensures.jump c.note.ensures.none

pub next-requires : goal.next-requires
next-requires g c =
    let old = g.D.Disk.state c.args.disk.now in
    has_room c.args.layout c.args.kind c.args.banks c.loop-seq.seq c.loop-seq.check c.loop-seq.jumps old (g.D.Disk.state c.loop-seq.disk) (search rules) c.loop-seq.invariant

pub returns-in_err-item-clause-step : goal.returns-in_err-item-clause-step
returns-in_err-item-clause-step g c =
    let old = g.D.Disk.state c.args.disk.now in
    let mid = g.D.Disk.state c.loop-seq.disk in
    let new = g.D.Disk.state c.read_item.new.disk in
    passed_on (Step c.args.banks.head.count old new) c.from_residual.result c.in_err-item.field-0.0 c.from_residual.ensures.1
    (step_unread_item c.args.layout c.args.kind c.args.banks c.loop-seq.seq c.loop-seq.check c.loop-seq.jumps old mid new c.loop-seq.invariant c.in_err-item.field-0.0 c.in_err-item.ensures.step)

pub returns-in_err-item-clause-answers : goal.returns-in_err-item-clause-answers
returns-in_err-item-clause-answers g c = λ told.
    let old = g.D.Disk.state c.args.disk.now in
    let mid = g.D.Disk.state c.loop-seq.disk in
    let new = g.D.Disk.state c.read_item.new.disk in
    let banks = c.args.banks in
    passed_on (Answers (items_fault c.args.layout c.args.kind banks.bank banks.head banks.head.count old.seen) (λ (jumps : Counts). c.args.kind ≡ Mission → HasJumps (items_read c.args.layout c.args.kind banks.bank banks.head.count old.seen) jumps)) c.from_residual.result c.in_err-item.field-0.0 c.from_residual.ensures.1
    (so_far_unread c.args.layout c.args.kind banks c.loop-seq.seq c.loop-seq.check c.loop-seq.jumps old mid new c.loop-seq.invariant
    (λ (item : Item). item_by c.args.kind banks.head.id c.loop-seq.seq (record_of c.args.layout c.args.kind banks.bank c.loop-seq.seq mid.seen) ≡ Some item) c.in_err-item.field-0.0 (search rules) c.in_err-item.ensures.answers told)

pub returns-in-Err-clause-step : goal.returns-in-Err-clause-step
returns-in-Err-clause-step g c =
    let old = g.D.Disk.state c.args.disk.now in
    let mid = g.D.Disk.state c.loop-seq.disk in
    let new = g.D.Disk.state c.read_item.new.disk in
    step_refused_item c.args.layout c.args.kind c.args.banks c.loop-seq.seq c.loop-seq.check c.loop-seq.jumps old mid new c.loop-seq.invariant c.in_ok-item.item c.in_ok-item.ensures.answers c.in_ok-item.ensures.step

pub returns-in-Err-clause-answers : goal.returns-in-Err-clause-answers
returns-in-Err-clause-answers g c =
    let old = g.D.Disk.state c.args.disk.now in
    let mid = g.D.Disk.state c.loop-seq.disk in
    let new = g.D.Disk.state c.read_item.new.disk in
    so_far_refused c.args.layout c.args.kind c.args.banks c.loop-seq.seq c.loop-seq.check c.loop-seq.jumps old mid new c.loop-seq.invariant c.in_ok-item.item c.in_ok-item.ensures.answers c.in-Err.field-0 (search rules) c.in-Err.ensures.code

pub returns-clause-step : goal.returns-clause-step
returns-clause-step g c = (so_far_done c.args.layout c.args.kind c.args.banks c.loop-seq.seq c.loop-seq.check c.loop-seq.jumps (g.D.Disk.state c.args.disk.now) (g.D.Disk.state c.loop-seq.disk) (search rules) c.loop-seq.invariant).0

pub returns-clause-answers : goal.returns-clause-answers
returns-clause-answers g c = (so_far_done c.args.layout c.args.kind c.args.banks c.loop-seq.seq c.loop-seq.check c.loop-seq.jumps (g.D.Disk.state c.args.disk.now) (g.D.Disk.state c.loop-seq.disk) (search rules) c.loop-seq.invariant).1

pub returns-clause-items : goal.returns-clause-items
returns-clause-items g c = λ mission. (c.loop-seq.invariant.items, search rules, c.loop-seq.invariant.jumps_are mission)
