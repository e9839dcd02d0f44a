-- No two records have one text, and a record's text has no bad line.
use Rattle.std.proofs.Common.{◌≡◌, ◌≢◌, ℕ, suc, ◌+◌, ◌≤◌, ◌<◌, List, [], ◌∷◌, ◌++◌, length, drop, refl, sym, ap, subst, ◌∙◌, append_assoc, arith}
use Rattle.std.specs.Prelude.{All, codes}
use Rattle.std.proofs.lemmas.List.{append_cancel_left, append-nil, length-append, nil_from_length}
use Rattle.std.proofs.lemmas.List.Elements.{All-push}
use Rattle.std.proofs.lemmas.List.Concat.{flat_map-cons}
use Rattle.mission_model.specs.declared.flight_line.Line.{Line}
use Rattle.record_text.specs.Record.{words_text, line_text_of, record_text_of, record_text_of-more}
use Rattle.record_text.specs.Read.{IsWritable, IsRecord, BeginsNoLine, IsFirstBad, Begins}
use Rattle.record_text.specs.LineReading.{line_at}
use Rattle.record_text.proofs.LineLaws.{line-again}

-- the first element has it, and so have the others
first_of_all : {X : Type 0} (P : X → Type 0) (x : X) (xs : List X) → All P (x ∷ xs) → P x
first_of_all P x xs all = all 0 x (omega arith)

rest_of_all : {X : Type 0} (P : X → Type 0) (x : X) (xs : List X) → All P (x ∷ xs) → All P xs
rest_of_all P x xs all = λ k d inside. all (suc k) d (omega arith)

record-cons : (line : Line) (lines : List Line) → record_text_of (line ∷ lines) ≡ line_text_of line ++ record_text_of lines
record-cons line lines = flat_map-cons line_text_of line lines

-- a line's text has at least its LF
pub text-some : (line : Line) → 0 < length (line_text_of line)
text-some line = omega (arith, length-append (words_text line) (codes "\n"))

-- two texts of lines that begin the same bytes are of one line, and what stands behind is the same
same_first : (line other : Line) (more rest : List ℕ) → IsWritable line → IsWritable other → line_text_of line ++ more ≡ line_text_of other ++ rest → (line ≡ other) × (more ≡ rest)
same_first line other more rest is other_is same =
    let lines : line ≡ other = sym (line-again line more is) ∙ ap line_at same ∙ line-again other rest other_is in
    (lines, append_cancel_left (line_text_of other) more rest (subst (λ (x : Line). line_text_of x ++ more ≡ line_text_of other ++ rest) lines same))

same_cons : (line other : Line) (lines others : List Line) → line ≡ other → lines ≡ others → line ∷ lines ≡ other ∷ others
same_cons line other lines others first rest = cc

-- a record's text that begins with another's is that record and more
begins : (before lines : List Line) (rest : List ℕ) → All IsWritable before → All IsWritable lines → record_text_of lines ≡ record_text_of before ++ rest
    → (more : List Line) × All IsWritable more × (lines ≡ before ++ more) × (record_text_of more ≡ rest)
begins [] lines rest before_are lines_are same = (lines, lines_are, refl, same)
begins (line ∷ before) [] rest before_are lines_are same =
    absurd (omega (arith, text-some line, ap length same, length-append (record_text_of (line ∷ before)) rest, ap length (record-cons line before), length-append (line_text_of line) (record_text_of before)))
begins (line ∷ before) (other ∷ lines) rest before_are lines_are same =
    let texts : line_text_of other ++ record_text_of lines ≡ line_text_of line ++ (record_text_of before ++ rest) =
    sym (record-cons other lines) ∙ same ∙ ap (λ (t : List ℕ). t ++ rest) (record-cons line before) ∙ append_assoc (line_text_of line) (record_text_of before) rest in
    let first = same_first other line (record_text_of lines) (record_text_of before ++ rest) (first_of_all IsWritable other lines lines_are) (first_of_all IsWritable line before before_are) texts in
    let behind = begins before lines rest (rest_of_all IsWritable line before before_are) (rest_of_all IsWritable other lines lines_are) first.1 in
    (behind.0, behind.1, same_cons other line lines (before ++ behind.0) first.0 behind.2, behind.3)

-- only the record of no line has no text
no_text : (lines : List Line) → record_text_of lines ≡ [] → lines ≡ []
no_text [] same = refl
no_text (line ∷ lines) same = absurd (omega (arith, text-some line, ap length (sym (record-cons line lines) ∙ same), length-append (line_text_of line) (record_text_of lines)))

pub one_record : (lines others : List Line) → All IsWritable lines → All IsWritable others → record_text_of lines ≡ record_text_of others → lines ≡ others
one_record lines others lines_are others_are same =
    let behind = begins others lines [] others_are lines_are (same ∙ sym (append-nil (record_text_of others))) in
    behind.2 ∙ ap (λ (more : List Line). others ++ more) (no_text behind.0 behind.3) ∙ append-nil others

no_more : (more : List Line) (rest : List ℕ) → All IsWritable more → record_text_of more ≡ rest → rest ≢ [] → BeginsNoLine rest → ⊥
no_more [] rest are same there bad = there (sym same)
no_more (line ∷ lines) rest are same there bad = bad line (record_text_of lines) (first_of_all IsWritable line lines are) (sym same ∙ record-cons line lines)

-- a text with a bad line is no record's
pub no_record : (bytes : List ℕ) (number : ℕ) (lines : List Line) → IsFirstBad bytes number → IsRecord bytes lines → ⊥
no_record bytes number lines bad is =
    let behind = begins bad.before lines bad.rest bad.writable is.0 (sym is.1 ∙ bad.text) in
    no_more behind.0 bad.rest behind.1 behind.3 bad.there bad.bad

-- a line that begins the rest goes on the lines, and what stands behind it is left
pub record GoesOn (bytes : List ℕ) (lines : List Line) (rest : List ℕ) : Type 0 where
  pub text : bytes ≡ record_text_of lines ++ rest
  pub writable : All IsWritable lines
  pub short : length lines + length rest ≤ length bytes

pub goes_on : (bytes : List ℕ) (lines longer : List Line) (line : Line) (rest text left : List ℕ) (len : ℕ) → GoesOn bytes lines rest → longer ≡ lines ++ line ∷ [] → Begins line text rest
    → len ≡ length text → left ≡ drop len rest
    → GoesOn bytes longer left
goes_on bytes lines longer line rest text left len before more begins text_len behind =
    let front : rest ≡ line_text_of line ++ left = begins.front ∙ rw (behind, text_len, begins.line_text) refl in
    let all : record_text_of longer ≡ record_text_of lines ++ line_text_of line = ap record_text_of more ∙ record_text_of-more lines line in
    record {
      text = before.text ∙ ap (λ (t : List ℕ). record_text_of lines ++ t) front ∙ sym (append_assoc (record_text_of lines) (line_text_of line) left) ∙ ap (λ (t : List ℕ). t ++ left) (sym all);
      writable = rw more (All-push IsWritable lines line before.writable begins.writable);
      short = omega (arith, before.short, text-some line, ap length front, length-append (line_text_of line) left, ap length more, length-append lines (line ∷ []));
    }

pub is_whole : (bytes : List ℕ) (lines : List Line) (rest : List ℕ) → GoesOn bytes lines rest → length rest ≡ 0 → IsRecord bytes lines
is_whole bytes lines rest so_far none =
    (so_far.writable, so_far.text ∙ ap (λ (t : List ℕ). record_text_of lines ++ t) (nil_from_length rest none) ∙ append-nil (record_text_of lines))

pub is_bad : (bytes : List ℕ) (lines : List Line) (rest : List ℕ) → GoesOn bytes lines rest → (length rest ≡ 0 → ⊥) → BeginsNoLine rest → (number : ℕ) → number ≡ length lines + 1 → IsFirstBad bytes number
is_bad bytes lines rest so_far some none number counted =
    record { before = lines; writable = so_far.writable; rest = rest; text = so_far.text; there = λ same. some (ap length same); bad = none; counted = counted }

-- so only its own lines are read of a record's text, and no fault is told
pub whole_reads : (bytes : List ℕ) (found lines : List Line) → IsRecord bytes found → IsRecord bytes lines → found ≡ lines
whole_reads bytes found lines is other = one_record found lines is.0 other.0 (sym is.1 ∙ other.1)
