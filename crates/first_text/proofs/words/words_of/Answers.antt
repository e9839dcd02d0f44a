use Rattle.std.proofs.Common.{map, min, length, sym, ◌∙◌, ap, arith}
use Rattle.first_text.specs.Spans.{text_of}
use Rattle.first_text.specs.Words.{words_in, word_spans}
use Rattle.first_text.proofs.SpanText.{clipped}
use Rattle.first_text.proofs.WordSteps.{no_words, no_word_spans}
use Rattle.first_text.proofs.words.words_of.Goals as goal

pub returns-then-from-to-clause-words : goal.returns-then-from-to-clause-words
returns-then-from-to-clause-words c =
    let text = c.args.text.now in
    let line = c.args.line in
    ap (map (text_of text)) c.new.ensures.items
    ∙ sym (no_words text line.from (min (length text) line.to) (omega arith))
    ∙ ap words_in (clipped text line.from line.to)

pub returns-then-from-to-clause-spans : goal.returns-then-from-to-clause-spans
returns-then-from-to-clause-spans c =
    let text = c.args.text.now in
    let line = c.args.line in
    c.new.ensures.items
    ∙ sym (no_word_spans text line.from (min (length text) line.to) (omega arith))
    ∙ ap (word_spans line.from) (clipped text line.from line.to)
