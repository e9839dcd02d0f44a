use Rattle.std.proofs.Common.{◌≡◌, ◌∷◌, ℕ, ◌∙◌, ap, arith, sym, get_or, [], ◌≤◌, length}
use Rattle.std.proofs.Math.ListN.{set}
use Rattle.std.specs.List.{slice_range}
use Rattle.nav_text.specs.declared.span.Span.{Span}
use Rattle.nav_text.specs.Spans.{text_of, IsInside}
use Rattle.nav_text.specs.Words.{words_in, word_spans}
use Rattle.nav_text.specs.Cursors.{words_left, spans_left}
use Rattle.nav_text.proofs.Fronts.{front, at_end}
use Rattle.nav_text.proofs.Keeping.{holds_of}
use Rattle.nav_text.proofs.words.first_words.Goals as goal

pub loop-word-preserved : goal.loop-word-preserved
loop-word-preserved c =
    let text = c.args.text.now in
    let list = words_in (text_of text c.args.line) in
    let lies = word_spans c.args.line.from (text_of text c.args.line) in
    let word = c.in-Some.word in
    let next = c.next.new.self in
    let count = c.loop-word.count in
    let places = c.loop-word.places in
    let none : Span = record { from = 0; to = 0 } in
    let h = c.loop-word.invariant in
    let given = (c.in-Some.ensures.word).1 in
    let same_end = sym (c.in-Some.ensures.word).0 in
    let words : words_left text c.loop-word.words ≡ text_of text word ∷ words_left text next = given.words ∙ ap (λ n. text_of text word ∷ words_in (slice_range text next.at n)) same_end in
    let spans : spans_left text c.loop-word.words ≡ word ∷ spans_left text next = given.spans ∙ ap (λ n. word ∷ word_spans next.at (slice_range text next.at n)) same_end in
    let first = front list count (text_of text word) (words_left text next) [] (h.left ∙ words) in
    let lie = front lies count word (spans_left text next) none (h.lie ∙ spans) in
    let kept : c.keep.new.places ≡ set places count word = c.keep.ensures in
    let many : length c.keep.new.places ≡ length places = ap length kept ∙ (grind arith) in
    record {
      within = c.in-Some.ensures.within;
      left = first.1;
      lie = lie.1;
      small = omega (arith, h.small, given.begins, given.some, given.behind);
      few = omega (arith, first.2);
      size = many ∙ h.size;
      inside = λ before k d below. rw kept (holds_of places count word (λ k s. IsInside text s) k d (omega (arith, many, below)) (λ ne. h.inside before k d (omega (arith, many, below))) (λ e. (omega (arith, given.some), omega (arith, given.ends, h.within))));
      named = λ k d below less. rw kept (holds_of places count word (λ k s. text_of text s ≡ get_or list k []) k d (omega (arith, h.size, below)) (λ ne. h.named k d below (omega (arith, ne, less))) (λ e. sym first.0 ∙ ap (λ (n : ℕ). get_or list n []) (sym e)));
      lies = λ k d below less. rw kept (holds_of places count word (λ k s. s ≡ get_or lies k d) k d (omega (arith, h.size, below)) (λ ne. h.lies k d below (omega (arith, ne, less))) (λ e. sym (front lies count word (spans_left text next) d (h.lie ∙ spans)).0 ∙ ap (λ (n : ℕ). get_or lies n d) (sym e)));
      rest = λ k d below more. rw kept (holds_of places count word (λ k s. s ≡ get_or c.args.places.now k d) k d (omega (arith, h.size, below)) (λ ne. h.rest k d below (omega (arith, more))) (λ e. absurd (omega (arith, e, more))));
    }

pub returns-clause-count : goal.returns-clause-count
returns-clause-count c =
    let list = words_in (text_of c.args.text.now c.args.line) in
    let h = c.loop-word.invariant in
    let past : length list ≤ c.loop-word.count = at_end list c.loop-word.count (h.left ∙ (c.in_default.ensures.word).1.0) in
    omega (arith, past, h.few)

pub returns-clause-places : goal.returns-clause-places
returns-clause-places c =
    let list = words_in (text_of c.args.text.now c.args.line) in
    let h = c.loop-word.invariant in
    let past : length list ≤ c.loop-word.count = at_end list c.loop-word.count (h.left ∙ (c.in_default.ensures.word).1.0) in
    record {
      size = h.size;
      words = λ k d below less. h.named k d below (omega (arith, less, past));
      spans = λ k d below less. h.lies k d below (omega (arith, less, past));
      rest = λ k d below more. h.rest k d below (omega (arith, more, h.few, past));
      inside = h.inside;
    }
