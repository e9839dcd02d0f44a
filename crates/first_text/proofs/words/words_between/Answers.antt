use Rattle.std.proofs.Common.{◌≡◌, ◌+◌, ◌++◌, [], map, ap, ◌∙◌, sym, arith, append-nil}
use Rattle.std.specs.List.{slice_range}
use Rattle.first_text.specs.Spans.{text_of}
use Rattle.first_text.specs.Words.{word_between, words_in, word_spans}
use Rattle.first_text.proofs.WordSteps.{words_step, word_spans_step, no_words, no_word_spans}
use Rattle.first_text.proofs.Loops.{words_more, words_more_mapped, rising_words, all_inside}
use Rattle.first_text.proofs.words.words_between.Goals as goal

pub loop-begin-preserved : goal.loop-begin-preserved
loop-begin-preserved c =
    let from = c.loop-begin.begin in
    let end = c.blank_from-end.result in
    let to = c.args.to in
    let text = c.args.text.now in
    let found = c.loop-begin.spans.items in
    let items = c.in_ok-push_word.ensures in
    let words = words_step text from to end c.blank_from-end.ensures.place c.blank_from-end.ensures.inside (omega arith) c.requires.inside in
    let spans = word_spans_step text from to end c.blank_from-end.ensures.place c.blank_from-end.ensures.inside (omega arith) c.requires.inside in
    record {
      above = omega arith;
      words = rw items (words_more_mapped (text_of text) found (word_between from end) (words_in (slice_range text from to)) (words_in (slice_range text (end + 1) to)) (words_in (slice_range text c.args.from to)) c.loop-begin.invariant.words words);
      spans = rw items (words_more found (word_between from end) (word_spans from (slice_range text from to)) (word_spans (end + 1) (slice_range text (end + 1) to)) (word_spans c.args.from (slice_range text c.args.from to)) c.loop-begin.invariant.spans spans);
      rising = rw items (rising_words c.args.from found from end (end + 1) c.loop-begin.invariant.rising (omega arith) (omega arith));
      inside = rw items (rising_words c.args.from found from end to c.loop-begin.invariant.rising (omega arith) c.blank_from-end.ensures.inside);
    }

pub returns-clause-words : goal.returns-clause-words
returns-clause-words c =
    let none : words_in (slice_range c.args.text.now c.loop-begin.begin c.args.to) ≡ [] = no_words c.args.text.now c.loop-begin.begin c.args.to (omega arith) in
    sym (append-nil _) ∙ ap (λ rest. map (text_of c.args.text.now) c.loop-begin.spans.items ++ rest) (sym none) ∙ c.loop-begin.invariant.words

pub returns-clause-spans : goal.returns-clause-spans
returns-clause-spans c =
    let none : word_spans c.loop-begin.begin (slice_range c.args.text.now c.loop-begin.begin c.args.to) ≡ [] = no_word_spans c.args.text.now c.loop-begin.begin c.args.to (omega arith) in
    sym (append-nil _) ∙ ap (λ rest. c.loop-begin.spans.items ++ rest) (sym none) ∙ c.loop-begin.invariant.spans

pub returns-clause-inside : goal.returns-clause-inside
returns-clause-inside c = all_inside c.args.text.now c.args.from c.loop-begin.spans.items c.args.to c.loop-begin.invariant.inside c.requires.inside
