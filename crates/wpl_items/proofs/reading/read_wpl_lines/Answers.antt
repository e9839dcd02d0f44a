use Rattle.std.proofs.Common.{List, ℕ, sym, subst, ◌∙◌}
use Rattle.wpl_items.specs.Fields.{named}
use Rattle.wpl_items.specs.Rows.{RowsAre}
use Rattle.wpl_items.proofs.RowSteps.{found_lines, told_lines, rows_same}
use Rattle.wpl_items.proofs.reading.read_wpl_lines.Goals as goal

pub returns-in-Some-clause-good : goal.returns-in-Some-clause-good
returns-in-Some-clause-good c =
    let lines = named c.args.text.now c.args.lines.now in
    found_lines lines (named c.args.text.now c.in-Some.rows.now) c.read_rows.result c.in-Some.ensures.cases.0 c.in-Some.ensures.cases.1 c.read_rows.ensures.limit c.read_rows.ensures.good

pub returns-in-Some-clause-only : goal.returns-in-Some-clause-only
returns-in-Some-clause-only c items wpl =
    let P : List (List ℕ) → Type 0 = λ ls. RowsAre 0 ls items in
    c.read_rows.ensures.only items wpl.limit (subst P (rows_same (named c.args.text.now c.args.lines.now) ∙ sym c.in-Some.ensures.cases.1) wpl.rows)

pub returns-in-Some-clause-fault : goal.returns-in-Some-clause-fault
returns-in-Some-clause-fault c =
    told_lines (named c.args.text.now c.args.lines.now) (named c.args.text.now c.in-Some.rows.now) c.read_rows.result c.in-Some.ensures.cases.0 c.in-Some.ensures.cases.1 c.read_rows.ensures.bad
