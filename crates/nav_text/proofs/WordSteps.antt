-- How the words of a line go on after the first piece.
use Rattle.std.proofs.Common.{◌≡◌, ℕ, ◌+◌, ◌-◌, ◌<◌, ◌≤◌, Bool, true, false, List, [], ◌∷◌, ◌++◌, length, take, drop, cond, refl, sym, ◌∙◌, ap, arith, map, filter, inl, inr}
use Rattle.std.specs.Prelude.{nat_lt}
use Rattle.std.specs.List.{position_or_len, slice_split, slice_range}
use Rattle.std.proofs.lemmas.List.Splits.{slice_split_none, slice_split_first}
use Rattle.std.proofs.lemmas.List.Sums.{fails_before_first}
use Rattle.std.proofs.lemmas.List.{length-take, take-take, take_all, drop_all, drop-drop, drop-take}
use Rattle.std.proofs.lemmas.Bool.{lt-ltb, le-ltb, cases_lt}
use Rattle.nav_text.specs.declared.span.Span.{Span}
use Rattle.nav_text.specs.Spans.{text_of}
use Rattle.nav_text.specs.Words.{is_blank, words_in, piece_spans, word_spans, word_between}
use Rattle.nav_text.specs.Cursors.{IsFirstWord}
use Rattle.nav_text.proofs.SpanText.{length-slice_range}

-- no byte that parts is left: all is one piece
whole : (p : ℕ → Bool) (xs : List ℕ) → length xs ≤ position_or_len p xs → slice_split p xs ≡ xs ∷ []
whole p xs e = slice_split_none p xs (λ k d h. fails_before_first p xs k d (omega arith))

-- the words of pieces, of which the first ends where the first byte parts
words_split : (p : ℕ → Bool) (xs : List ℕ)
    → filter (λ piece. nat_lt 0 (length piece)) (slice_split p xs) ≡ filter (λ piece. nat_lt 0 (length piece)) (take (position_or_len p xs) xs ∷ slice_split p (drop (position_or_len p xs + 1) xs))
words_split p xs = elim (cases_lt (position_or_len p xs) (length xs)) [
  | inl h ↦ ap (filter (λ (piece : List ℕ). nat_lt 0 (length piece))) (slice_split_first p xs 0 h)
  | inr h ↦
      let all : take (position_or_len p xs) xs ≡ xs = take_all (position_or_len p xs) xs h in
      let none : drop (position_or_len p xs + 1) xs ≡ [] = drop_all (position_or_len p xs + 1) xs (omega arith) in
      rw (all, none) (ap (filter (λ (piece : List ℕ). nat_lt 0 (length piece))) (whole p xs h))
]

no_word : (k : ℕ) → nat_lt k (k + 0) ≡ false
no_word k = le-ltb k (k + 0) (omega arith)

spans_split : (from : ℕ) (p : ℕ → Bool) (xs : List ℕ)
    → filter (λ (span : Span). nat_lt span.from span.to) (piece_spans from (slice_split p xs))
    ≡ filter (λ (span : Span). nat_lt span.from span.to) (piece_spans from (take (position_or_len p xs) xs ∷ slice_split p (drop (position_or_len p xs + 1) xs)))
spans_split from p xs = elim (cases_lt (position_or_len p xs) (length xs)) [
  | inl h ↦ ap (λ pieces. filter (λ (span : Span). nat_lt span.from span.to) (piece_spans from pieces)) (slice_split_first p xs 0 h)
  | inr h ↦
      let all : take (position_or_len p xs) xs ≡ xs = take_all (position_or_len p xs) xs h in
      let none : drop (position_or_len p xs + 1) xs ≡ [] = drop_all (position_or_len p xs + 1) xs (omega arith) in
      let last : Span = record { from = from + length xs + 1; to = from + length xs + 1 + 0 } in
      let first : Span = record { from = from; to = from + length xs } in
      rw (all, none) (ap (λ pieces. filter (λ (span : Span). nat_lt span.from span.to) (piece_spans from pieces)) (whole p xs h)
      ∙ ap (λ b. cond (nat_lt from (from + length xs)) (first ∷ cond b (last ∷ []) []) (cond b (last ∷ []) [])) (sym (no_word (from + length xs + 1))))
]

same_test : (from end : ℕ) → from ≤ end → nat_lt 0 (end - from) ≡ nat_lt from end
same_test from end h = elim (cases_lt from end) [
  | inl less ↦ lt-ltb 0 (end - from) (omega arith) ∙ sym (lt-ltb from end less)
  | inr more ↦ le-ltb 0 (end - from) (omega arith) ∙ sym (le-ltb from end more)
]

-- the rest of a range of a text
rest_of : (text : List ℕ) (from to n : ℕ) → n ≤ to - from → drop (n + 1) (slice_range text from to) ≡ slice_range text (from + n + 1) to
rest_of text from to n h = elim (cases_lt n (to - from)) [
  | inl less ↦
      let parts : to - from ≡ n + 1 + (to - (from + n + 1)) = omega arith in
      ap (λ k. drop (n + 1) (take k (drop from text))) parts ∙ drop-take (n + 1) (to - (from + n + 1)) (drop from text)
      ∙ ap (take (to - (from + n + 1))) (drop-drop (n + 1) from text ∙ ap (λ k. drop k text) (omega arith))
  | inr more ↦
      let none : to - (from + n + 1) ≡ 0 = omega arith in
      drop_all (n + 1) (slice_range text from to) (omega (arith, length-take (to - from) (drop from text))) ∙ sym (ap (λ k. take k (drop (from + n + 1) text)) none)
]

-- the first piece of a range of a text
first_of : (text : List ℕ) (from to n : ℕ) → n ≤ to - from → take n (slice_range text from to) ≡ slice_range text from (from + n)
first_of text from to n h = take-take n (to - from) (drop from text) h ∙ ap (λ k. take k (drop from text)) (omega arith)

word_or_none : (text : List ℕ) (span : Span) (more : List (List ℕ)) (b : Bool) → cond b (text_of text span ∷ more) more ≡ map (text_of text) (cond b (span ∷ []) []) ++ more
word_or_none text span more true = refl
word_or_none text span more false = refl

span_or_none : (span : Span) (more : List Span) (b : Bool) → cond b (span ∷ more) more ≡ cond b (span ∷ []) [] ++ more
span_or_none span more true = refl
span_or_none span more false = refl

-- the words of a range go on behind the first byte that parts
pub words_step : (text : List ℕ) (from to end : ℕ) → end ≡ from + position_or_len is_blank (slice_range text from to) → end ≤ to → from ≤ to → to ≤ length text
    → words_in (slice_range text from to) ≡ map (text_of text) (word_between from end) ++ words_in (slice_range text (end + 1) to)
unfolding words_in
words_step text from to end place ends rising inside =
    let n : position_or_len is_blank (slice_range text from to) ≡ end - from = omega arith in
    let goes : from + (end - from) ≡ end = omega arith in
    let size : length (slice_range text from end) ≡ end - from = length-slice_range text from end (omega arith) (omega arith) in
    let first : take (end - from) (slice_range text from to) ≡ slice_range text from end = first_of text from to (end - from) (omega arith) ∙ ap (slice_range text from) goes in
    let rest : drop (end - from + 1) (slice_range text from to) ≡ slice_range text (end + 1) to = rest_of text from to (end - from) (omega arith) ∙ ap (λ k. slice_range text (k + 1) to) goes in
    words_split is_blank (slice_range text from to)
    ∙ ap (λ k. filter (λ (piece : List ℕ). nat_lt 0 (length piece)) (take k (slice_range text from to) ∷ slice_split is_blank (drop (k + 1) (slice_range text from to)))) n
    ∙ ap (λ piece. filter (λ (piece : List ℕ). nat_lt 0 (length piece)) (piece ∷ slice_split is_blank (drop (end - from + 1) (slice_range text from to)))) first
    ∙ ap (λ more. filter (λ (piece : List ℕ). nat_lt 0 (length piece)) (slice_range text from end ∷ slice_split is_blank more)) rest
    ∙ ap (λ b. cond b (slice_range text from end ∷ filter (λ (piece : List ℕ). nat_lt 0 (length piece)) (slice_split is_blank (slice_range text (end + 1) to))) (filter (λ (piece : List ℕ). nat_lt 0 (length piece)) (slice_split is_blank (slice_range text (end + 1) to))))
    (ap (nat_lt 0) size ∙ same_test from end (omega arith))
    ∙ word_or_none text (record { from = from; to = end }) (filter (λ (piece : List ℕ). nat_lt 0 (length piece)) (slice_split is_blank (slice_range text (end + 1) to))) (nat_lt from end)

pub word_spans_step : (text : List ℕ) (from to end : ℕ) → end ≡ from + position_or_len is_blank (slice_range text from to) → end ≤ to → from ≤ to → to ≤ length text
    → word_spans from (slice_range text from to) ≡ word_between from end ++ word_spans (end + 1) (slice_range text (end + 1) to)
unfolding word_spans
word_spans_step text from to end place ends rising inside =
    let n : position_or_len is_blank (slice_range text from to) ≡ end - from = omega arith in
    let goes : from + (end - from) ≡ end = omega arith in
    let size : length (slice_range text from end) ≡ end - from = length-slice_range text from end (omega arith) (omega arith) in
    let first : take (end - from) (slice_range text from to) ≡ slice_range text from end = first_of text from to (end - from) (omega arith) ∙ ap (slice_range text from) goes in
    let rest : drop (end - from + 1) (slice_range text from to) ≡ slice_range text (end + 1) to = rest_of text from to (end - from) (omega arith) ∙ ap (λ k. slice_range text (k + 1) to) goes in
    let ends_at : from + length (slice_range text from end) ≡ end = omega arith in
    let spans : List (List ℕ) → List Span = λ pieces. filter (λ (span : Span). nat_lt span.from span.to) (piece_spans from pieces) in
    spans_split from is_blank (slice_range text from to)
    ∙ ap (λ k. spans (take k (slice_range text from to) ∷ slice_split is_blank (drop (k + 1) (slice_range text from to)))) n
    ∙ ap (λ piece. spans (piece ∷ slice_split is_blank (drop (end - from + 1) (slice_range text from to)))) first
    ∙ ap (λ more. spans (slice_range text from end ∷ slice_split is_blank more)) rest
    ∙ ap (λ (k : ℕ). filter (λ (span : Span). nat_lt span.from span.to) (record { from = from; to = k } ∷ piece_spans (k + 1) (slice_split is_blank (slice_range text (end + 1) to)))) ends_at
    ∙ span_or_none (record { from = from; to = end }) (filter (λ (span : Span). nat_lt span.from span.to) (piece_spans (end + 1) (slice_split is_blank (slice_range text (end + 1) to)))) (nat_lt from end)

-- nothing is left of a range that is behind its end
pub no_words : (text : List ℕ) (from to : ℕ) → to ≤ from → words_in (slice_range text from to) ≡ []
unfolding words_in
no_words text from to h =
    let none : to - from ≡ 0 = omega arith in
    ap (λ k. filter (λ (piece : List ℕ). nat_lt 0 (length piece)) (slice_split is_blank (take k (drop from text)))) none

pub no_word_spans : (text : List ℕ) (from to : ℕ) → to ≤ from → word_spans from (slice_range text from to) ≡ []
unfolding word_spans
no_word_spans text from to h =
    let none : to - from ≡ 0 = omega arith in
    let last : Span = record { from = from; to = from + 0 } in
    ap (λ k. filter (λ (span : Span). nat_lt span.from span.to) (piece_spans from (slice_split is_blank (take k (drop from text))))) none
    ∙ ap (λ b. cond b (last ∷ []) []) (no_word from)

-- a word lies between two places where the first is before the second
word_there : (from end : ℕ) → from < end → word_between from end ≡ record { from = from; to = end } ∷ []
word_there from end h = ap (λ b. cond b (record { from = from; to = end } ∷ []) []) (lt-ltb from end h)

no_word_there : (from end : ℕ) → end ≤ from → word_between from end ≡ []
no_word_there from end h = ap (λ b. cond b (record { from = from; to = end } ∷ []) []) (le-ltb from end h)

-- the first word of a range ends where the first byte parts
pub first_word : (text : List ℕ) (before from to end : ℕ) → end ≡ from + position_or_len is_blank (slice_range text from to) → end ≤ to → from < end → to ≤ length text → before ≤ from
    → words_in (slice_range text before to) ≡ words_in (slice_range text from to)
    → word_spans before (slice_range text before to) ≡ word_spans from (slice_range text from to)
    → IsFirstWord text before to (record { from = from; to = end }) (end + 1)
first_word text before from to end place ends some inside above words spans = record {
  words = words ∙ words_step text from to end place ends (omega arith) inside ∙ ap (λ (found : List Span). map (text_of text) found ++ words_in (slice_range text (end + 1) to)) (word_there from end some);
  spans = spans ∙ word_spans_step text from to end place ends (omega arith) inside ∙ ap (λ (found : List Span). found ++ word_spans (end + 1) (slice_range text (end + 1) to)) (word_there from end some);
  begins = above;
  some = some;
  ends = ends;
  behind = omega arith;
}

-- no word begins where a byte parts
pub words_later : (text : List ℕ) (from to end : ℕ) → end ≡ from + position_or_len is_blank (slice_range text from to) → end ≤ from → from ≤ to → to ≤ length text → words_in (slice_range text from to) ≡ words_in (slice_range text (end + 1) to)
words_later text from to end place same rising inside =
    words_step text from to end place (omega arith) rising inside ∙ ap (λ (found : List Span). map (text_of text) found ++ words_in (slice_range text (end + 1) to)) (no_word_there from end same)

pub word_spans_later : (text : List ℕ) (from to end : ℕ) → end ≡ from + position_or_len is_blank (slice_range text from to) → end ≤ from → from ≤ to → to ≤ length text → word_spans from (slice_range text from to) ≡ word_spans (end + 1) (slice_range text (end + 1) to)
word_spans_later text from to end place same rising inside =
    word_spans_step text from to end place (omega arith) rising inside ∙ ap (λ (found : List Span). found ++ word_spans (end + 1) (slice_range text (end + 1) to)) (no_word_there from end same)
