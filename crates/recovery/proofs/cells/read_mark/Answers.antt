use Rattle.std.specs.Prelude.{◌≡◌, None}
use Rattle.std.proofs.Common.{sym, subst}
use Rattle.gated_cell.specs.Cell.{held}
use Rattle.dataman_layout.specs.declared.layout.Layout.{Layout}
use Rattle.dataman_layout.specs.declared.layout.Layout.TheVariants.{Two}
use Rattle.dataman_layout.specs.Mark.{plain_marks}
use Rattle.bank_state.specs.StandsFor.{mark_cell}
use Rattle.recovery.specs.Faults.{mark_number, twins_fault}
use Rattle.recovery.specs.Found.{IsMarkFound}
use Rattle.recovery.proofs.Marked.{mark_found_in}
use Rattle.recovery.proofs.cells.read_mark.Goals as goal

pub returns-in_ok-cell-in-Two-clause-answers : goal.returns-in_ok-cell-in-Two-clause-answers
returns-in_ok-cell-in-Two-clause-answers g c = λ told.
    let seen = (g.D.Disk.state c.args.disk.now).seen in
    let cell = c.in_ok-cell-in-Two.cell in
    let mark = plain_marks c.decode_mark.result in
    subst (λ (l : Layout). (twins_fault mark_number (held (mark_cell l) seen) ≡ None) × IsMarkFound l cell mark seen) (sym c.in-Two.is)
    (mark_found_in Two cell (record { at = c.mark_at-in-Two.result; slot_bytes = c.mark_slot_bytes-in-Two.result }) c.open_cell-in-Two.new.payload seen mark
    (λ i. record { at = c.mark_at-in-Two.ensures i; slot_bytes = c.mark_slot_bytes-in-Two.ensures i }) c.decode_mark.ensures.read (c.in_ok-cell-in-Two.ensures.answers told))
