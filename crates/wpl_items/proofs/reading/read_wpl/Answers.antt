use Rattle.std.proofs.Common.{◌≡◌, ap, ◌∙◌}
use Rattle.nav_text.specs.Lines.{lines_of}
use Rattle.wpl_items.specs.Fields.{named}
use Rattle.wpl_items.proofs.RowSteps.{found_text, text_lines, told_text}
use Rattle.wpl_items.proofs.reading.read_wpl.Goals as goal

pub returns-clause-good : goal.returns-clause-good
returns-clause-good c =
    let text = c.args.text.now in
    let lines : named text c.deref.result.now ≡ lines_of text = ap (named text) c.deref.ensures.value ∙ c.in_ok-lines.ensures.lines in
    found_text text (named text c.deref.result.now) c.read_wpl_lines.result c.requires c.in_ok-lines.ensures.sound lines c.read_wpl_lines.ensures.good

pub returns-clause-only : goal.returns-clause-only
returns-clause-only c items wpl =
    let text = c.args.text.now in
    let lines : named text c.deref.result.now ≡ lines_of text = ap (named text) c.deref.ensures.value ∙ c.in_ok-lines.ensures.lines in
    c.read_wpl_lines.ensures.only items (text_lines text (named text c.deref.result.now) items lines wpl)

pub returns-clause-fault : goal.returns-clause-fault
returns-clause-fault c =
    let text = c.args.text.now in
    let lines : named text c.deref.result.now ≡ lines_of text = ap (named text) c.deref.ensures.value ∙ c.in_ok-lines.ensures.lines in
    told_text text (named text c.deref.result.now) c.read_wpl_lines.result c.in_ok-lines.ensures.sound lines c.read_wpl_lines.ensures.fault
