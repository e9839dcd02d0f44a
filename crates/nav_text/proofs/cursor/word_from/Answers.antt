use Rattle.std.proofs.Common.{arith, ◌∙◌}
use Rattle.nav_text.proofs.WordSteps.{first_word, words_later, word_spans_later, no_words, no_word_spans}
use Rattle.nav_text.proofs.cursor.word_from.Goals as goal

pub returns-then-at-end : goal.returns-then-at-end
returns-then-at-end c =
    first_word c.args.text.now c.args.from c.loop-at.at c.args.to c.blank_from-end.result c.blank_from-end.ensures.place c.blank_from-end.ensures.inside (omega arith) c.requires.inside c.loop-at.invariant.above c.loop-at.invariant.words c.loop-at.invariant.spans

pub loop-at-preserved : goal.loop-at-preserved
loop-at-preserved c =
    let place = c.blank_from-end.ensures.place in
    record {
      above = omega arith;
      words = c.loop-at.invariant.words ∙ words_later c.args.text.now c.loop-at.at c.args.to c.blank_from-end.result place (omega arith) (omega arith) c.requires.inside;
      spans = c.loop-at.invariant.spans ∙ word_spans_later c.args.text.now c.loop-at.at c.args.to c.blank_from-end.result place (omega arith) (omega arith) c.requires.inside;
    }

pub returns : goal.returns
returns c = (
  c.loop-at.invariant.words ∙ no_words c.args.text.now c.loop-at.at c.args.to (omega arith),
  c.loop-at.invariant.spans ∙ no_word_spans c.args.text.now c.loop-at.at c.args.to (omega arith),
  omega arith,
)
