-- the words that are left stand behind those that were counted, and the first of those are kept
use Rattle.std.proofs.Common.{◌≡◌, ◌≤◌, ◌<◌, ◌-◌, ℕ, length, drop, get_or, []}
use Rattle.std.specs.Prelude.{All}
use Rattle.nav_text.specs.declared.span.Span.{Span}
use Rattle.nav_text.specs.Spans.{text_of, IsInside}
use Rattle.nav_text.specs.Words.{words_in, word_spans}
use Rattle.nav_text.specs.Cursors.{IsWithin, words_left, spans_left}
use Rattle.nav_text.proofs.words.first_words.Given as goal

abbrev pub invariant-loop-word : goal.invariant-loop-word
invariant-loop-word l = record {
  within : IsWithin l.text l.words;
  left : drop l.count (words_in (text_of l.text l.fn.line)) ≡ words_left l.text l.words;
  lie : drop l.count (word_spans l.fn.line.from (text_of l.text l.fn.line)) ≡ spans_left l.text l.words;
  small : l.count ≤ l.words.at;
  few : l.count ≤ length (words_in (text_of l.text l.fn.line));
  size : length l.places ≡ length l.fn.places;
  inside : All (IsInside l.text) l.fn.places → All (IsInside l.text) l.places;
  named : (k : ℕ) (d : Span) → k < length l.fn.places → k < l.count → text_of l.text (get_or l.places k d) ≡ get_or (words_in (text_of l.text l.fn.line)) k [];
  lies : (k : ℕ) (d : Span) → k < length l.fn.places → k < l.count → get_or l.places k d ≡ get_or (word_spans l.fn.line.from (text_of l.text l.fn.line)) k d;
  rest : (k : ℕ) (d : Span) → k < length l.fn.places → l.count ≤ k → get_or l.places k d ≡ get_or l.fn.places k d;
}

abbrev pub decreases-loop-word : goal.decreases-loop-word
decreases-loop-word l = l.words.to - l.words.at
