-- How the lines of a text go on after the first one.
use Rattle.std.proofs.Common.{◌≡◌, ℕ, ◌+◌, ◌-◌, ◌<◌, ◌≤◌, Bool, true, false, List, [], ◌∷◌, length, take, drop, get_or, cond, refl, sym, ◌∙◌, ap, arith, suc, zero}
use Rattle.std.specs.List.{position_or_len, slice_range, slice_split, onto_first}
use Rattle.std.specs.Str.Lines.{lines, lines_of_parts, strip_carriage_return}
use Rattle.std.proofs.lemmas.List.Splits.{slice_split_none, slice_split_first}
use Rattle.std.proofs.lemmas.List.Sums.{fails_before_first}
use Rattle.std.proofs.lemmas.List.{length-take-le, get_or-take, take-take, length-drop, take_all, drop_all, drop-drop}
use Rattle.std.proofs.lemmas.Bool.{ne_eqb, eq-eqb}
use Rattle.first_text.specs.Lines.{is_line_feed, lines_of, spans_of_pieces, line_spans}

-- a first piece in front of others
pub lines_cons : (piece : List ℕ) (p : ℕ → Bool) (xs : List ℕ) → lines_of_parts (piece ∷ slice_split p xs) ≡ strip_carriage_return piece ∷ lines_of_parts (slice_split p xs)
lines_cons piece p [] = refl
lines_cons piece p (x ∷ xs) = elim (p x) as (λ b. lines_of_parts (piece ∷ cond b ([] ∷ slice_split p xs) (onto_first x (slice_split p xs))) ≡ strip_carriage_return piece ∷ lines_of_parts (cond b ([] ∷ slice_split p xs) (onto_first x (slice_split p xs)))) [
  | true ↦ refl
  | false ↦ elim (slice_split p xs) as (λ parts. lines_of_parts (piece ∷ onto_first x parts) ≡ strip_carriage_return piece ∷ lines_of_parts (onto_first x parts)) [ [] ↦ refl | (y ∷ ys) ↦ refl ]
]

spans_cons : (at : ℕ) (piece : List ℕ) (p : ℕ → Bool) (xs : List ℕ) → spans_of_pieces at (piece ∷ slice_split p xs) ≡ record { from = at; to = at + length (strip_carriage_return piece) } ∷ spans_of_pieces (at + length piece + 1) (slice_split p xs)
spans_cons at piece p [] = refl
spans_cons at piece p (x ∷ xs) = elim (p x) as (λ b. spans_of_pieces at (piece ∷ cond b ([] ∷ slice_split p xs) (onto_first x (slice_split p xs))) ≡ record { from = at; to = at + length (strip_carriage_return piece) } ∷ spans_of_pieces (at + length piece + 1) (cond b ([] ∷ slice_split p xs) (onto_first x (slice_split p xs)))) [
  | true ↦ refl
  | false ↦ elim (slice_split p xs) as (λ parts. spans_of_pieces at (piece ∷ onto_first x parts) ≡ record { from = at; to = at + length (strip_carriage_return piece) } ∷ spans_of_pieces (at + length piece + 1) (onto_first x parts)) [ [] ↦ refl | (y ∷ ys) ↦ refl ]
]

-- no line feed is left: all is one piece
whole : (p : ℕ → Bool) (xs : List ℕ) → position_or_len p xs ≡ length xs → slice_split p xs ≡ xs ∷ []
whole p xs e = slice_split_none p xs (λ k d h. fails_before_first p xs k d (omega (arith, e)))

last_line : (xs : List ℕ) → 0 < length xs → lines_of_parts (xs ∷ []) ≡ xs ∷ []
last_line [] h = absurd (omega arith)
last_line (x ∷ xs) h = ap (λ b. cond b [] ((x ∷ xs) ∷ [])) (ne_eqb (suc (length xs)) 0 (λ q. omega arith))

last_span : (at : ℕ) (xs : List ℕ) → 0 < length xs → spans_of_pieces at (xs ∷ []) ≡ record { from = at; to = at + length xs } ∷ []
last_span at [] h = absurd (omega arith)
last_span at (x ∷ xs) h = ap (λ b. cond b [] (record { from = at; to = at + suc (length xs) } ∷ [])) (ne_eqb (suc (length xs)) 0 (λ q. omega arith))

-- the last line, which no line feed ends
pub line_last : (xs : List ℕ) → 0 < length xs → position_or_len is_line_feed xs ≡ length xs → lines_of xs ≡ xs ∷ lines_of []
unfolding lines_of
line_last xs h e = ap lines_of_parts (whole is_line_feed xs e) ∙ last_line xs h

pub span_last : (at next : ℕ) (xs : List ℕ) → 0 < length xs → position_or_len is_line_feed xs ≡ length xs → line_spans at xs ≡ record { from = at; to = at + length xs } ∷ line_spans next []
unfolding line_spans
span_last at next xs h e = ap (spans_of_pieces at) (whole is_line_feed xs e) ∙ last_span at xs h

-- a line that a line feed ends
pub line_cut : (xs : List ℕ) → position_or_len is_line_feed xs < length xs
    → lines_of xs ≡ strip_carriage_return (take (position_or_len is_line_feed xs) xs) ∷ lines_of (drop (position_or_len is_line_feed xs + 1) xs)
unfolding lines_of
line_cut xs h = ap lines_of_parts (slice_split_first is_line_feed xs 0 h) ∙ lines_cons (take (position_or_len is_line_feed xs) xs) is_line_feed (drop (position_or_len is_line_feed xs + 1) xs)

pub span_cut : (at : ℕ) (xs : List ℕ) → position_or_len is_line_feed xs < length xs
    → line_spans at xs ≡ record { from = at; to = at + length (strip_carriage_return (take (position_or_len is_line_feed xs) xs)) } ∷ line_spans (at + length (take (position_or_len is_line_feed xs) xs) + 1) (drop (position_or_len is_line_feed xs + 1) xs)
unfolding line_spans
span_cut at xs h = ap (spans_of_pieces at) (slice_split_first is_line_feed xs 0 h) ∙ spans_cons at (take (position_or_len is_line_feed xs) xs) is_line_feed (drop (position_or_len is_line_feed xs + 1) xs)

-- a piece of n bytes that ends with a carriage return, and one that does not
pub stripped : (xs : List ℕ) (n : ℕ) → 0 < n → n ≤ length xs → get_or xs (n - 1) 0 ≡ 13 → take (n - 1) xs ≡ strip_carriage_return (take n xs)
stripped xs n h l e =
    let len : length (take n xs) ≡ n = length-take-le n xs l in
    let last : get_or (take n xs) (length (take n xs) - 1) 0 ≡ 13 = ap (λ k. get_or (take n xs) (k - 1) 0) len ∙ get_or-take n xs (n - 1) 0 (omega arith) ∙ e in
    let shorter : take (length (take n xs) - 1) (take n xs) ≡ take (n - 1) xs = ap (λ k. take (k - 1) (take n xs)) len ∙ take-take (n - 1) n xs (omega arith) in
    sym (ap (λ b. cond b (take (length (take n xs) - 1) (take n xs)) (take n xs)) (eq-eqb _ 13 last) ∙ shorter)

pub not_stripped : (xs : List ℕ) (n : ℕ) → n ≤ length xs → (0 < n → get_or xs (n - 1) 0 ≡ 13 → ⊥) → take n xs ≡ strip_carriage_return (take n xs)
not_stripped xs zero l e = refl
not_stripped xs (suc n) l e =
    let len : length (take (suc n) xs) ≡ suc n = length-take-le (suc n) xs l in
    let last : get_or (take (suc n) xs) (length (take (suc n) xs) - 1) 0 ≡ get_or xs (suc n - 1) 0 = ap (λ k. get_or (take (suc n) xs) (k - 1) 0) len ∙ get_or-take (suc n) xs (suc n - 1) 0 (omega arith) in
    sym (ap (λ b. cond b (take (length (take (suc n) xs) - 1) (take (suc n) xs)) (take (suc n) xs)) (ne_eqb _ 13 (λ q. e (omega arith) (sym last ∙ q))))

-- the line that begins at `from`, where no line feed is left
pub line_at_end : (text : List ℕ) (from end : ℕ) → end ≡ from + position_or_len is_line_feed (drop from text) → from < length text → end ≡ length text
    → lines_of (drop from text) ≡ take (end - from) (drop from text) ∷ lines_of (drop end text)
line_at_end text from end place begins whole =
    let len : length (drop from text) ≡ length text - from = length-drop from text in
    let all : take (end - from) (drop from text) ≡ drop from text = take_all (end - from) (drop from text) (omega arith) in
    let none : drop end text ≡ [] = drop_all end text (omega arith) in
    rw (all, none) (line_last (drop from text) (omega arith) (omega arith))

pub span_at_end : (text : List ℕ) (from end : ℕ) → end ≡ from + position_or_len is_line_feed (drop from text) → from < length text → end ≡ length text
    → line_spans from (drop from text) ≡ record { from = from; to = end } ∷ line_spans end (drop end text)
span_at_end text from end place begins whole =
    let len : length (drop from text) ≡ length text - from = length-drop from text in
    let to : from + length (drop from text) ≡ end = omega arith in
    let none : drop end text ≡ [] = drop_all end text (omega arith) in
    rw none (span_last from end (drop from text) (omega arith) (omega arith) ∙ ap (λ (n : ℕ). record { from = from; to = n } ∷ line_spans end []) to)

-- the line that begins at `from`, and that a line feed at `end` ends
pub line_at_feed : (text : List ℕ) (from end : ℕ) → end ≡ from + position_or_len is_line_feed (drop from text) → end < length text
    → lines_of (drop from text) ≡ strip_carriage_return (take (end - from) (drop from text)) ∷ lines_of (drop (end + 1) text)
line_at_feed text from end place inside =
    let len : length (drop from text) ≡ length text - from = length-drop from text in
    let n : end - from ≡ position_or_len is_line_feed (drop from text) = omega arith in
    let next : drop (position_or_len is_line_feed (drop from text) + 1) (drop from text) ≡ drop (end + 1) text = drop-drop (position_or_len is_line_feed (drop from text) + 1) from text ∙ ap (λ k. drop k text) (omega arith) in
    rw n (line_cut (drop from text) (omega arith) ∙ ap (λ rest. strip_carriage_return (take (position_or_len is_line_feed (drop from text)) (drop from text)) ∷ lines_of rest) next)

pub span_at_feed : (text : List ℕ) (from to end : ℕ) → end ≡ from + position_or_len is_line_feed (drop from text) → end < length text
    → from ≤ to → to ≤ end → slice_range text from to ≡ strip_carriage_return (slice_range text from end)
    → line_spans from (drop from text) ≡ record { from = from; to = to } ∷ line_spans (end + 1) (drop (end + 1) text)
span_at_feed text from to end place inside above below line =
    let len : length (drop from text) ≡ length text - from = length-drop from text in
    let n : end - from ≡ position_or_len is_line_feed (drop from text) = omega arith in
    let next : drop (position_or_len is_line_feed (drop from text) + 1) (drop from text) ≡ drop (end + 1) text = drop-drop (position_or_len is_line_feed (drop from text) + 1) from text ∙ ap (λ k. drop k text) (omega arith) in
    let size : length (take (position_or_len is_line_feed (drop from text)) (drop from text)) ≡ position_or_len is_line_feed (drop from text) = length-take-le (position_or_len is_line_feed (drop from text)) (drop from text) (omega arith) in
    let line_size : length (take (to - from) (drop from text)) ≡ to - from = length-take-le (to - from) (drop from text) (omega arith) in
    let same : strip_carriage_return (take (position_or_len is_line_feed (drop from text)) (drop from text)) ≡ take (to - from) (drop from text) = sym (line ∙ ap (λ k. strip_carriage_return (take k (drop from text))) n) in
    let ends : from + length (strip_carriage_return (take (position_or_len is_line_feed (drop from text)) (drop from text))) ≡ to = ap (λ piece. from + length piece) same ∙ ap (λ k. from + k) line_size ∙ omega arith in
    let begins : from + length (take (position_or_len is_line_feed (drop from text)) (drop from text)) + 1 ≡ end + 1 = omega arith in
    span_cut from (drop from text) (omega arith)
    ∙ ap (λ (k : ℕ). record { from = from; to = k } ∷ line_spans (from + length (take (position_or_len is_line_feed (drop from text)) (drop from text)) + 1) (drop (position_or_len is_line_feed (drop from text) + 1) (drop from text))) ends
    ∙ ap (λ k. record { from = from; to = to } ∷ line_spans k (drop (position_or_len is_line_feed (drop from text) + 1) (drop from text))) begins
    ∙ ap (λ rest. record { from = from; to = to } ∷ line_spans (end + 1) rest) next

-- nothing is left at the end of the text
pub no_lines : (from : ℕ) (text : List ℕ) → length text ≤ from → lines_of (drop from text) ≡ []
unfolding lines_of
no_lines from text h = ap lines (drop_all from text h)

pub no_line_spans : (from : ℕ) (text : List ℕ) → length text ≤ from → line_spans from (drop from text) ≡ []
unfolding line_spans
no_line_spans from text h = ap (λ rest. spans_of_pieces from (slice_split is_line_feed rest)) (drop_all from text h)
