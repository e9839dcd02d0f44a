use Rattle.std.specs.Prelude.{◌≡◌, ℕ, Ok, Err, get_or}
use Rattle.std.proofs.Common.{sym, ap, ◌∙◌}
use Rattle.dataman_layout.specs.declared.layout.Layout.{Layout}
use Rattle.gated_cell.specs.declared.cell.GatedCell.{GatedCell}
use Rattle.gated_cell.specs.Cell.{InForce, held}
use Rattle.bank_state.specs.StandsFor.{compat_place}
use Rattle.recovery.specs.declared.fault.BootFault.TheVariants.{NotAStore}
use Rattle.recovery.specs.Faults.{compat_fault, layout_in}
use Rattle.recovery.specs.Found.{IsOpened}
use Rattle.recovery.specs.Steps.{Step, Answers}
use Rattle.recovery.proofs.Compat.{held_payload, stopped_compat, free_compat, told_compat}
use Rattle.recovery.proofs.Steps.{passed_on, step_then, step_as, step_stopped, step_found, by_disk}
use Rattle.recovery.proofs.cells.open_compat.Goals as goal

pub returns-in_err-byte-clause-step : goal.returns-in_err-byte-clause-step
returns-in_err-byte-clause-step g c =
    let old = g.D.Disk.state c.args.disk.now in
    let mid = g.D.Disk.state c.open_cell.new.disk in
    let new = g.D.Disk.state c.first_byte.new.disk in
    passed_on (Step 2 old new) c.from_residual-in_err-byte.result c.in_err-byte.field-0.0 c.from_residual-in_err-byte.ensures.1
    (step_stopped 3 2 old new c.in_err-byte.field-0.0 (step_then 2 1 old mid new c.in_ok-cell.cell (Err c.in_err-byte.field-0.0) c.in_ok-cell.ensures.step c.in_err-byte.ensures.step))

pub returns-in_err-byte-clause-answers : goal.returns-in_err-byte-clause-answers
returns-in_err-byte-clause-answers g c = λ told.
    let old = g.D.Disk.state c.args.disk.now in
    let finds = compat_fault (get_or old.seen 0 0) (held compat_place old.seen) in
    passed_on (Answers finds (λ (found : GatedCell × Layout). IsOpened found.0 old.seen × (found.1 ≡ layout_in (held compat_place old.seen)))) c.from_residual-in_err-byte.result c.in_err-byte.field-0.0 c.from_residual-in_err-byte.ensures.1
    (by_disk finds c.in_err-byte.field-0.0 c.in_err-byte.ensures.of_disk)

pub returns-then-not-has_payload-clause-step : goal.returns-then-not-has_payload-clause-step
returns-then-not-has_payload-clause-step g c =
    let old = g.D.Disk.state c.args.disk.now in
    let mid = g.D.Disk.state c.open_cell.new.disk in
    let new = g.D.Disk.state c.first_byte.new.disk in
    step_found 3 2 old new c.in_ok-byte.byte (NotAStore c.in_ok-byte.byte) (λ no. no)
    (step_then 2 1 old mid new c.in_ok-cell.cell (Ok c.in_ok-byte.byte) c.in_ok-cell.ensures.step c.in_ok-byte.ensures.step)

pub returns-in_err-layout-clause-step : goal.returns-in_err-layout-clause-step
returns-in_err-layout-clause-step g c =
    let old = g.D.Disk.state c.args.disk.now in
    let new = g.D.Disk.state c.open_cell.new.disk in
    passed_on (Step 2 old new) c.from_residual-in_err-layout.result c.in_err-layout.field-0.0 c.from_residual-in_err-layout.ensures.1
    (step_found 2 2 old new c.in_ok-cell.cell c.in_err-layout.field-0.0 c.in_err-layout.ensures.found c.in_ok-cell.ensures.step)

pub returns-in_err-layout-clause-answers : goal.returns-in_err-layout-clause-answers
returns-in_err-layout-clause-answers g c = λ told.
    let old = g.D.Disk.state c.args.disk.now in
    let cell = c.in_ok-cell.cell in
    let h = held compat_place old.seen in
    let there = (c.in_ok-cell.ensures.answers told).1 in
    let is = held_payload cell.in_force cell.generation c.open_cell.new.payload h (sym c.has_payload.ensures ∙ c.if-not-has_payload.false) there.held in
    passed_on (Answers (compat_fault (get_or old.seen 0 0) h) (λ (found : GatedCell × Layout). IsOpened found.0 old.seen × (found.1 ≡ layout_in h))) c.from_residual-in_err-layout.result c.in_err-layout.field-0.0 c.from_residual-in_err-layout.ensures.1
    (stopped_compat (get_or old.seen 0 0) is.0 c.generation.result c.open_cell.new.payload h (is.1 ∙ ap (λ (n : ℕ). InForce is.0 n c.open_cell.new.payload) (sym c.generation.ensures)) c.in_err-layout.field-0.0 c.in_err-layout.ensures.answers)

pub returns-clause-step : goal.returns-clause-step
returns-clause-step g c = step_as 2 (g.D.Disk.state c.args.disk.now) (g.D.Disk.state c.open_cell.new.disk) c.in_ok-cell.cell _ c.in_ok-cell.ensures.step

pub returns-clause-answers : goal.returns-clause-answers
returns-clause-answers g c = λ told.
    let old = g.D.Disk.state c.args.disk.now in
    let cell = c.in_ok-cell.cell in
    let payload = c.open_cell.new.payload in
    let h = held compat_place old.seen in
    let there = (c.in_ok-cell.ensures.answers told).1 in
    let is = held_payload cell.in_force cell.generation payload h (sym c.has_payload.ensures ∙ c.if-not-has_payload.false) there.held in
    let judged = c.in_ok-layout.ensures.answers in
    let same = is.1 ∙ ap (λ (n : ℕ). InForce is.0 n payload) (sym c.generation.ensures) in (
      free_compat (get_or old.seen 0 0) is.0 c.generation.result payload h same judged.0,
      (there.opened, told_compat (get_or old.seen 0 0) is.0 c.generation.result payload h same c.in_ok-layout.layout judged.1),
    )
