use Rattle.std.proofs.Common.{◌≡◌, ◌∷◌, ◌∙◌, ap, arith, sym}
use Rattle.std.specs.List.{slice_range}
use Rattle.std.proofs.lemmas.List.Elements.{All-push}
use Rattle.nav_text.specs.Spans.{text_of, IsInside}
use Rattle.nav_text.specs.Words.{words_in, word_spans}
use Rattle.nav_text.specs.Cursors.{words_left, spans_left}
use Rattle.nav_text.proofs.Loops.{one_more, one_more_mapped, rising_more}
use Rattle.nav_text.proofs.words.words_of.Goals as goal

pub loop-word-preserved : goal.loop-word-preserved
loop-word-preserved c =
    let text = c.args.text.now in
    let found = c.loop-word.spans.items in
    let word = c.in-Some.word in
    let next = c.next.new.self in
    let h = c.loop-word.invariant in
    let given = (c.in-Some.ensures.word).1 in
    let same_end = sym (c.in-Some.ensures.word).0 in
    let words : words_left text c.loop-word.words ≡ text_of text word ∷ words_left text next = given.words ∙ ap (λ n. text_of text word ∷ words_in (slice_range text next.at n)) same_end in
    let spans : spans_left text c.loop-word.words ≡ word ∷ spans_left text next = given.spans ∙ ap (λ n. word ∷ word_spans next.at (slice_range text next.at n)) same_end in
    let ends = given.ends in
    record {
      within = c.in-Some.ensures.within;
      words = rw c.in_ok-push.ensures.items (one_more_mapped (text_of text) found word (words_left text c.loop-word.words) (words_left text next) _ h.words words);
      spans = rw c.in_ok-push.ensures.items (one_more found word (spans_left text c.loop-word.words) (spans_left text next) _ h.spans spans);
      stops = omega (arith, h.stops, same_end);
      rising = rw c.in_ok-push.ensures.items (rising_more c.args.line.from found c.loop-word.words.at word next.at h.rising given.begins (omega (arith, given.some)) (omega (arith, given.behind)));
      behind = rw c.in_ok-push.ensures.items (rising_more c.args.line.from found c.loop-word.words.at word _ h.rising given.begins (omega (arith, given.some)) (omega (arith, given.ends, h.stops)));
      inside = rw c.in_ok-push.ensures.items (All-push (IsInside text) found word h.inside (omega (arith, given.some), omega (arith, given.ends, h.within)));
    }
