use Rattle.std.proofs.Common.{◌+◌, ◌∷◌, ap, ◌∙◌, sym, arith}
use Rattle.first_text.proofs.LineSteps.{line_at_end, span_at_end, line_at_feed, span_at_feed}
use Rattle.first_text.specs.Lines.{lines_of}
use Rattle.std.proofs.Common.{drop}
use Rattle.first_text.proofs.lines.line_from.Goals as goal

pub returns-then-end-text-clause-line : goal.returns-then-end-text-clause-line
returns-then-end-text-clause-line c = line_at_end c.args.text.now c.args.from c.line_feed_from-end.result c.line_feed_from-end.ensures.place c.requires.begins c.if-end-text.true

pub returns-then-end-text-clause-span : goal.returns-then-end-text-clause-span
returns-then-end-text-clause-span c = span_at_end c.args.text.now c.args.from c.line_feed_from-end.result c.line_feed_from-end.ensures.place c.requires.begins c.if-end-text.true

pub returns-clause-line : goal.returns-clause-line
returns-clause-line c =
    line_at_feed c.args.text.now c.args.from c.line_feed_from-end.result c.line_feed_from-end.ensures.place (omega arith)
    ∙ ap (λ line. line ∷ lines_of (drop (c.line_feed_from-end.result + 1) c.args.text.now)) (sym c.line_end-to.ensures.line)

pub returns-clause-span : goal.returns-clause-span
returns-clause-span c =
    span_at_feed c.args.text.now c.args.from c.line_end-to.result c.line_feed_from-end.result c.line_feed_from-end.ensures.place (omega arith)
    c.line_end-to.ensures.above c.line_end-to.ensures.below c.line_end-to.ensures.line
