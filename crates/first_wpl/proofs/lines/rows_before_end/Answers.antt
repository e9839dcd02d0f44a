use Rattle.std.proofs.Common.{◌≡◌, ◌-◌, map, take, sym, ◌∙◌, ap, get_or, arith, true, false}
use Rattle.first_text.specs.declared.span.Span.{Span}
use Rattle.first_text.specs.Spans.{text_of}
use Rattle.first_wpl.specs.Wpl.{is_blank_line, without_blank_end}
use Rattle.first_wpl.proofs.BlankEnds.{blank_goes, row_stays, last_of}
use Rattle.first_wpl.proofs.lines.rows_before_end.Goals as goal

pub returns-then-not-blank_line-clause-rows : goal.returns-then-not-blank_line-clause-rows
returns-then-not-blank_line-clause-rows c =
    let none : Span = record { from = 0; to = 0 } in
    let text = c.args.text.now in
    let lines = c.args.lines.now in
    let count = c.loop-count.count in
    let last : Span = get_or lines (count - 1) none in
    let split = last_of (text_of text) lines count none c.loop-count-test.true c.loop-count.invariant.within in
    let row : is_blank_line (text_of text last) ≡ false = sym c.blank_line.ensures ∙ c.if-not-blank_line.true in
    split ∙ sym (row_stays (map (text_of text) (take (count - 1) lines)) (text_of text last) row) ∙ ap without_blank_end (sym split) ∙ c.loop-count.invariant.rows

pub loop-count-preserved : goal.loop-count-preserved
loop-count-preserved c =
    let none : Span = record { from = 0; to = 0 } in
    let text = c.args.text.now in
    let lines = c.args.lines.now in
    let count = c.loop-count.count in
    let last : Span = get_or lines (count - 1) none in
    let split = last_of (text_of text) lines count none c.loop-count-test.true c.loop-count.invariant.within in
    let blank : is_blank_line (text_of text last) ≡ true = sym c.blank_line.ensures ∙ c.if-not-blank_line.false in
    record {
      within = omega arith;
      rows = sym (blank_goes (map (text_of text) (take (count - 1) lines)) (text_of text last) blank) ∙ ap without_blank_end (sym split) ∙ c.loop-count.invariant.rows;
    }
