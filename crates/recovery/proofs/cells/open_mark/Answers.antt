use Rattle.std.specs.Prelude.{◌≡◌, Option}
use Rattle.std.proofs.Common.{sym, ap, subst, ◌∙◌}
use Rattle.mission_model.specs.declared.counts.Mark.{Mark}
use Rattle.mission_model.specs.PlainMark.{PlainMark}
use Rattle.gated_cell.specs.declared.cell.GatedCell.{GatedCell}
use Rattle.gated_cell.specs.Cell.{held}
use Rattle.dataman_layout.specs.Mark.{plain_marks}
use Rattle.bank_state.specs.StandsFor.{mark_cell}
use Rattle.recovery.specs.Faults.{unfit, mark_fault}
use Rattle.recovery.specs.Standing.{kept_of, mark_at}
use Rattle.recovery.specs.Steps.{Answers, StoppedBy}
use Rattle.recovery.specs.Found.{IsOpened}
use Rattle.recovery.proofs.Steps.{passed_on}
use Rattle.recovery.proofs.Marked.{in_force_is, stopped_mark, free_mark, kept_mark}
use Rattle.recovery.proofs.Within.{within_of}
use Rattle.recovery.proofs.cells.open_mark.Goals as goal

pub returns-in_err-mark-clause-answers : goal.returns-in_err-mark-clause-answers
returns-in_err-mark-clause-answers g c = λ told plan heads jumps.
    let old = g.D.Disk.state c.args.disk.now in
    let layout = c.args.layout in
    let cell = c.in_ok-cell.cell in
    let f = c.in_err-mark.field-0.0 in
    let there = (c.in_ok-cell.ensures.answers told).1 in
    let is = in_force_is layout cell.in_force cell.generation (plain_marks c.in_ok-cell.found) (held (mark_cell layout) old.seen) (sym c.has_payload.ensures ∙ c.if-not-has_payload.false) there.held in
    passed_on (Answers (mark_fault layout plan (held (mark_cell layout) old.seen)) (λ (found : GatedCell × Option Mark). IsOpened found.0 old.seen × (plain_marks found.1 ≡ mark_at layout c.args.mission.id (held (mark_cell layout) old.seen))))
    c.from_residual-in_err-mark.result f c.from_residual-in_err-mark.ensures.1
    (stopped_mark layout plan is.0 cell.generation is.1 (held (mark_cell layout) old.seen) f is.2
    (subst (λ (o : Option PlainMark). StoppedBy (unfit plan o) f) is.3 (c.in_err-mark.ensures.answers plan heads jumps)))

pub returns-clause-answers : goal.returns-clause-answers
returns-clause-answers g c = λ told plan heads jumps.
    let old = g.D.Disk.state c.args.disk.now in
    let layout = c.args.layout in
    let cell = c.in_ok-cell.cell in
    let there = (c.in_ok-cell.ensures.answers told).1 in
    let is = in_force_is layout cell.in_force cell.generation (plain_marks c.in_ok-cell.found) (held (mark_cell layout) old.seen) (sym c.has_payload.ensures ∙ c.if-not-has_payload.false) there.held in
    let judged = c.in_ok-mark.ensures.answers plan heads jumps in (
      free_mark layout plan is.0 cell.generation is.1 (held (mark_cell layout) old.seen) is.2 (ap (unfit plan) (sym is.3) ∙ judged.0),
      (
        there.opened,
        kept_mark layout c.args.mission.id is.0 cell.generation is.1 (held (mark_cell layout) old.seen) c.in_ok-mark.mark is.2 (judged.1 ∙ ap (kept_of c.args.mission.id) is.3),
      ),
    )

pub returns-clause-within : goal.returns-clause-within
returns-clause-within g c = λ has. within_of c.args.mission c.args.jumps.now (plain_marks c.in_ok-cell.found) c.in_ok-mark.mark has c.in_ok-mark.ensures.answers
