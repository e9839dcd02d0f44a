-- The first word of a line.
use Rattle.std.proofs.Common.{◌-◌, not, add-one, drop-cons, suc, inl, inr, one-add, cond, ◌≡◌, ℕ, ◌+◌, ◌<◌, ◌≤◌, List, [], ◌∷◌, length, take, drop, Bool, true, false, refl, sym, ◌∙◌, ap, subst, arith, get_or}
use Rattle.std.proofs.Math.Nat.{eq-or-lt_of_le}
use Rattle.std.specs.Prelude.{filter, nat_lt}
use Rattle.std.specs.List.{slice_split, position_or_len, prefix_len, before_first, after_first}
use Rattle.std.proofs.lemmas.List.Splits.{slice_split_first, slice_split_none, slice_split-cons_yes}
use Rattle.std.proofs.lemmas.List.Sums.{fails_before_first, prefix_len_stops, passes_at_first}
use Rattle.std.proofs.lemmas.Grind.{common_steps}
use Rattle.first_text.specs.Words.{is_blank, words_in}

-- a blank in front changes nothing
words_in-blank : (byte : ℕ) (line : List ℕ) → is_blank byte ≡ true → words_in (byte ∷ line) ≡ words_in line
unfolding words_in
words_in-blank byte line h = ap (filter (λ piece. nat_lt 0 (length piece))) (slice_split-cons_yes is_blank byte line h)

drop_one : (byte : ℕ) (line : List ℕ) → words_in (drop (prefix_len is_blank line) line) ≡ words_in line → (b : Bool) → is_blank byte ≡ b → words_in (drop (prefix_len is_blank (byte ∷ line)) (byte ∷ line)) ≡ words_in (byte ∷ line)
drop_one byte line more true e = ap (λ (b : Bool). words_in (drop (cond b (1 + prefix_len is_blank line) 0) (byte ∷ line))) e ∙ (ap (λ (n : ℕ). words_in (drop n (byte ∷ line))) (one-add (prefix_len is_blank line)) ∙ (more ∙ sym (words_in-blank byte line e)))
drop_one byte line more false e = ap (λ (b : Bool). words_in (drop (cond b (1 + prefix_len is_blank line) 0) (byte ∷ line))) e

-- nor do all the blanks in front
pub words_in-drop_blanks : (line : List ℕ) → words_in (drop (prefix_len is_blank line) line) ≡ words_in line
words_in-drop_blanks [] = refl
words_in-drop_blanks (byte ∷ line) = drop_one byte line (words_in-drop_blanks line) (is_blank byte) refl

-- behind the blanks stands no blank
begins_dark : (line text : List ℕ) → text ≡ drop (prefix_len is_blank line) line → 0 < length text → is_blank (get_or text 0 0) ≡ false
begins_dark line text e some =
    let here : prefix_len is_blank line < length line = grind (arith, common_steps) in
    let stops = prefix_len_stops is_blank line 0 here in
    grind (arith, common_steps)

-- a word and what stands behind it
kept_word : (word : List ℕ) (more : List (List ℕ)) → 0 < length word → filter (λ (piece : List ℕ). nat_lt 0 (length piece)) (word ∷ more) ≡ word ∷ filter (λ (piece : List ℕ). nat_lt 0 (length piece)) more
kept_word word more some = grind (arith, common_steps)

-- the first word of a line that begins with it
first_word_ended : (text : List ℕ) (end : ℕ) → end ≡ position_or_len is_blank text → 0 < end → end < length text → words_in text ≡ take end text ∷ words_in (drop (end + 1) text)
unfolding words_in
first_word_ended text end e some h =
    let here : position_or_len is_blank text < length text = omega arith in
    let long : 0 < length (before_first is_blank text) = grind (arith, common_steps) in
    let parts = ap (filter (λ (piece : List ℕ). nat_lt 0 (length piece))) (slice_split_first is_blank text 0 here) ∙ kept_word (before_first is_blank text) (slice_split is_blank (after_first is_blank text)) long in
    subst (λ (k : ℕ). words_in text ≡ take k text ∷ words_in (drop (k + 1) text)) (sym e) parts

-- no blank
unbroken : (text : List ℕ) → length text ≤ position_or_len is_blank text → (k d : ℕ) → k < length text → is_blank (get_or text k d) ≡ false
unbroken text h k d m = fails_before_first is_blank text k d (omega arith)

only_word : (text : List ℕ) → length text ≤ position_or_len is_blank text → 0 < length text → words_in text ≡ text ∷ []
unfolding words_in
only_word text h some = ap (filter (λ (piece : List ℕ). nat_lt 0 (length piece))) (slice_split_none is_blank text (unbroken text h)) ∙ kept_word text [] some

pub words_in-none : words_in [] ≡ []
unfolding words_in
words_in-none = refl

-- a word that begins a line has a byte
dark_len : (text : List ℕ) → is_blank (get_or text 0 0) ≡ false → 0 < length text → 0 < position_or_len is_blank text
dark_len [] dark some = some
dark_len (byte ∷ text) dark some = let P : Bool → Type 0 = λ b. 0 < cond (not b) (1 + position_or_len is_blank text) 0 in subst P (sym dark) (omega arith)

-- the blank behind a word
blank_next : (text : List ℕ) (end : ℕ) → end ≡ position_or_len is_blank text → end < length text → words_in (drop (end + 1) text) ≡ words_in (drop end text)
blank_next text end e h =
    let here : position_or_len is_blank text < length text = omega arith in
    let blank = passes_at_first is_blank text 0 here in
    let blank' : is_blank (get_or text end 0) ≡ true = rw e blank in
    rw (add-one, drop-cons text end 0) (sym (words_in-blank (get_or text end 0) (drop (suc end) text) blank'))

-- nothing behind a last word
last_word : (text : List ℕ) (end : ℕ) → end ≡ position_or_len is_blank text → end ≡ length text → 0 < length text → words_in text ≡ take end text ∷ words_in (drop end text)
last_word text end e same some =
    let whole : take end text ≡ text = grind (arith, common_steps) in
    let rest : drop end text ≡ [] = grind (arith, common_steps) in
    rw (whole, rest, words_in-none) (only_word text (omega arith) some)

first_word : (text : List ℕ) (end : ℕ) → is_blank (get_or text 0 0) ≡ false → end ≡ position_or_len is_blank text → end ≤ length text → 0 < length text → (words_in text ≡ take end text ∷ words_in (drop end text)) × (0 < end)
first_word text end dark e within some =
    let long = dark_len text dark some in
    elim (eq-or-lt_of_le within) [ inl h ↦ (last_word text end e h some, omega arith) | inr h ↦ (first_word_ended text end e (omega arith) h ∙ ap (λ (words : List (List ℕ)). take end text ∷ words) (blank_next text end e h), omega arith) ]

-- the first word of a line, and what stands behind it
pub words_in-cons : (line text : List ℕ) (end : ℕ) → text ≡ drop (prefix_len is_blank line) line → end ≡ position_or_len is_blank text → end ≤ length text → 0 < length text → (words_in line ≡ take end text ∷ words_in (drop end text)) × (0 < end)
words_in-cons line text end t e within some =
    let first = first_word text end (begins_dark line text t some) e within some in
    (sym (words_in-drop_blanks line) ∙ (ap words_in (sym t) ∙ first.0), first.1)

-- the end of a list from a place on
pub rest-is : (start : ℕ) (bytes : List ℕ) → take (length bytes - start) (drop start bytes) ≡ drop start bytes
rest-is start bytes = grind (arith, common_steps)
