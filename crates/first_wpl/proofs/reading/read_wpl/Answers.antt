use Rattle.std.proofs.Common.{◌≡◌, List, ℕ, ap, ◌∙◌, sym, subst, true}
use Rattle.first_text.specs.Lines.{lines_of}
use Rattle.first_wpl.specs.Fields.{named}
use Rattle.first_wpl.specs.Rows.{RowsAre}
use Rattle.first_wpl.specs.Wpl.{is_headed, rows_of}
use Rattle.first_wpl.proofs.RowSteps.{found_text, told_text, rows_same}
use Rattle.first_wpl.proofs.reading.read_wpl.Goals as goal

pub returns-in-Some-clause-good : goal.returns-in-Some-clause-good
returns-in-Some-clause-good c =
    let text = c.args.text.now in
    let rows = named text c.in-Some.rows.now in
    let lines : named text c.deref.result.now ≡ lines_of text = ap (named text) c.deref.ensures.value ∙ c.in_ok-lines.ensures.lines in
    let header : is_headed (lines_of text) ≡ true = ap is_headed (sym lines) ∙ c.in-Some.ensures.cases.0 in
    let same : rows ≡ rows_of text = c.in-Some.ensures.cases.1 ∙ rows_same text (named text c.deref.result.now) lines in
    found_text text rows c.read_rows.result c.requires c.in_ok-lines.ensures.sound header same c.read_rows.ensures.limit c.read_rows.ensures.good

pub returns-in-Some-clause-only : goal.returns-in-Some-clause-only
returns-in-Some-clause-only c items wpl =
    let text = c.args.text.now in
    let rows = named text c.in-Some.rows.now in
    let lines : named text c.deref.result.now ≡ lines_of text = ap (named text) c.deref.ensures.value ∙ c.in_ok-lines.ensures.lines in
    let same : rows ≡ rows_of text = c.in-Some.ensures.cases.1 ∙ rows_same text (named text c.deref.result.now) lines in
    let P : List (List ℕ) → Type 0 = λ ls. RowsAre 0 ls items in
    c.read_rows.ensures.only items wpl.limit (subst P (sym same) wpl.rows)

pub returns-in-Some-clause-fault : goal.returns-in-Some-clause-fault
returns-in-Some-clause-fault c =
    let text = c.args.text.now in
    let rows = named text c.in-Some.rows.now in
    let lines : named text c.deref.result.now ≡ lines_of text = ap (named text) c.deref.ensures.value ∙ c.in_ok-lines.ensures.lines in
    let header : is_headed (lines_of text) ≡ true = ap is_headed (sym lines) ∙ c.in-Some.ensures.cases.0 in
    let same : rows ≡ rows_of text = c.in-Some.ensures.cases.1 ∙ rows_same text (named text c.deref.result.now) lines in
    told_text text rows c.read_rows.result c.in_ok-lines.ensures.sound header same c.read_rows.ensures.bad
