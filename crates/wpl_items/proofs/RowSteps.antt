-- From row to row of a plan text.
use Rattle.std.proofs.Common.{◌≡◌, ℕ, ◌+◌, ◌<◌, ◌≤◌, List, [], ◌∷◌, ◌++◌, length, suc, refl, sym, subst, ap, ◌∙◌, arith, inl, inr, map, take, drop, get_or, Result, Ok, Err, Vec, Global, IfOk, IfErr, None, true}
use Rattle.std.proofs.lemmas.List.{take-append-drop, map-append, drop_more, take_more, map_push, length-map, length-take-le}
use Rattle.nav_text.specs.declared.fault.TextFault.{TextFault}
use Rattle.nav_text.specs.declared.lines.TheConstants.{MAX_TEXT_BYTES}
use Rattle.nav_text.specs.Lines.{lines_of}
use Rattle.nav_text.specs.Faults.{text_fault}
use Rattle.nav_text.specs.Words.{words_in}
use Rattle.mission_model.specs.declared.plan.Item.{Item}
use Rattle.mission_model.specs.declared.limits.TheConstants.{MAX_PLAN_ROWS}
use Rattle.wpl_items.specs.declared.fault.WplFault.{WplFault}
use Rattle.wpl_items.specs.declared.fault.WplFault.TheVariants.{Text, Header, TooMany, FieldCount, BadWhole, BadIndex, Num, Memory}
use Rattle.wpl_items.specs.Rows.{RowIs, RowsAre}
use Rattle.wpl_items.specs.Fields.{word_at}
use Rattle.wpl_items.specs.declared.fields.TheConstants.{FIELDS}
use Rattle.wpl_items.specs.Faults.{Field, Place, Whole, Parameter, Number, field_of, IsBad, FaultFrom, IsRowFault, FirstRowFault}
use Rattle.wpl_items.specs.Wpl.{Wpl, IsWplFault, WplLines, IsLinesFault, is_headed, rows_among, rows_of, without_blank_end}

-- one more row behind them
pub rows_more : (place : ℕ) (lines : List (List ℕ)) (items : List Item) (line : List ℕ) (item : Item) (at : ℕ)
    → at ≡ place + length lines → RowsAre place lines items → RowIs (words_in line) at item → RowsAre place (lines ++ line ∷ []) (items ++ item ∷ [])
rows_more place [] [] line item at e rows row = ((let P : ℕ → Type 0 = λ n. RowIs (words_in line) n item in let same : at ≡ place = omega arith in subst P same row), tt)
rows_more place [] (x ∷ xs) line item at e rows row = absurd rows
rows_more place (first ∷ lines) [] line item at e rows row = absurd rows
rows_more place (first ∷ lines) (x ∷ xs) line item at e rows row = (rows.0, rows_more (place + 1) lines xs line item at (omega arith) rows.1 row)

-- rows and a row behind them, taken apart
rows_split : (place : ℕ) (lines : List (List ℕ)) (line : List ℕ) (others : List Item) (at : ℕ) → at ≡ place + length lines → RowsAre place (lines ++ line ∷ []) others
    → (front : List Item) × (last : Item) × (others ≡ front ++ last ∷ []) × RowsAre place lines front × RowIs (words_in line) at last
rows_split place [] line [] at e rows = absurd rows
rows_split place [] line (x ∷ []) at e rows = ([], x, refl, tt, (let P : ℕ → Type 0 = λ n. RowIs (words_in line) n x in let same : place ≡ at = omega arith in subst P same rows.0))
rows_split place [] line (x ∷ y ∷ ys) at e rows = absurd rows.1
rows_split place (first ∷ lines) line [] at e rows = absurd rows
rows_split place (first ∷ lines) line (x ∷ xs) at e rows =
    let r = rows_split (place + 1) lines line xs at (omega arith) rows.1 in
    (x ∷ r.0, r.1, ap (λ found. x ∷ found) r.2, (rows.0, r.3), r.4)

-- no other items are those of the rows and of one behind them
pub rows_last : (place : ℕ) (lines : List (List ℕ)) (items others : List Item) (line : List ℕ) (item : Item) (at : ℕ)
    → at ≡ place + length lines
    → ((rest : List Item) → RowsAre place lines rest → rest ≡ items)
    → ((other : Item) → RowIs (words_in line) at other → item ≡ other)
    → RowsAre place (lines ++ line ∷ []) others → others ≡ items ++ item ∷ []
rows_last place lines items others line item at e only one rows =
    let r = rows_split place lines line others at e rows in
    r.2 ∙ ap (λ front. front ++ r.1 ∷ []) (only r.0 r.3) ∙ ap (λ x. items ++ x ∷ []) (sym (one r.1 r.4))

-- the item of a row in the midst
pub row_at : (place : ℕ) (lines : List (List ℕ)) (line : List ℕ) (more : List (List ℕ)) (items : List Item) (at : ℕ)
    → at ≡ place + length lines → RowsAre place (lines ++ line ∷ more) items → (item : Item) × RowIs (words_in line) at item
row_at place [] line more [] at e rows = absurd rows
row_at place [] line more (x ∷ xs) at e rows = (x, (let P : ℕ → Type 0 = λ n. RowIs (words_in line) n x in let same : place ≡ at = omega arith in subst P same rows.0))
row_at place (first ∷ lines) line more [] at e rows = absurd rows
row_at place (first ∷ lines) line more (x ∷ xs) at e rows = row_at (place + 1) lines line more xs at (omega arith) rows.1

-- as many items as rows
pub rows_length : (place : ℕ) (lines : List (List ℕ)) (items : List Item) → RowsAre place lines items → length lines ≡ length items
rows_length place [] [] rows = refl
rows_length place [] (x ∷ xs) rows = absurd rows
rows_length place (line ∷ lines) [] rows = absurd rows
rows_length place (line ∷ lines) (x ∷ xs) rows = ap suc (rows_length (place + 1) lines xs rows.1)

-- the first fault behind good rows
pub fault_behind_rows : (place : ℕ) (lines more : List (List ℕ)) (items : List Item) (fault : WplFault) (at : ℕ)
    → at ≡ place + length lines → at ≤ MAX_PLAN_ROWS → RowsAre place lines items → FirstRowFault at more fault → FirstRowFault place (lines ++ more) fault
fault_behind_rows place [] more items fault at e below rows found = (let P : ℕ → Type 0 = λ n. FirstRowFault n more fault in let same : at ≡ place = omega arith in subst P same found)
fault_behind_rows place (line ∷ lines) more [] fault at e below rows found = absurd rows
fault_behind_rows place (line ∷ lines) more (x ∷ xs) fault at e below rows found = inr (omega arith, (x, rows.0), fault_behind_rows (place + 1) lines more xs fault at (omega arith) below rows.1 found)

-- lines taken apart at one of them
pub named_split : {A B : Type 0} (f : A → B) (spans : List A) (i : ℕ) (d : A) → i < length spans
    → map f spans ≡ map f (take i spans) ++ (f (get_or spans i d) ∷ map f (drop (i + 1) spans))
named_split f spans i d h = ap (map f) (sym (take-append-drop i spans)) ∙ map-append f (take i spans) (drop i spans) ∙ ap (λ rest. map f (take i spans) ++ map f rest) (drop_more spans i d h)

pub named_more : {A B : Type 0} (f : A → B) (spans : List A) (i : ℕ) (d : A) → i < length spans
    → map f (take (i + 1) spans) ≡ map f (take i spans) ++ f (get_or spans i d) ∷ []
named_more f spans i d h = ap (map f) (take_more spans i d h) ∙ map_push f (take i spans) (get_or spans i d)

pub named_size : {A B : Type 0} (f : A → B) (spans : List A) (i : ℕ) → i ≤ length spans → length (map f (take i spans)) ≡ i
named_size f spans i h = length-map (take i spans) f ∙ length-take-le i spans h

-- no row has a fault of the text below, or of the header
no_text : (field : Field) (place line number : ℕ) (word : List ℕ) (fault : TextFault) → IsBad field place line number word (Text fault) → ⊥
no_text Place place line number word fault bad = bad
no_text (Whole _) place line number word fault bad = bad
no_text Parameter place line number word fault bad = bad
no_text (Number _) place line number word fault bad = bad

no_header : (field : Field) (place line number : ℕ) (word : List ℕ) → IsBad field place line number word Header → ⊥
no_header Place place line number word bad = bad
no_header (Whole _) place line number word bad = bad
no_header Parameter place line number word bad = bad
no_header (Number _) place line number word bad = bad

pub no_text_fault : (place : ℕ) (lines : List (List ℕ)) (fault : TextFault) → FirstRowFault place lines (Text fault) → ⊥
no_text_fault place [] fault found = found
no_text_fault place (line ∷ lines) fault (inl here) = no_text (field_of here.2.0) place (place + 2) here.2.0 (word_at (words_in line) here.2.0) fault here.2.4
no_text_fault place (line ∷ lines) fault (inr behind) = no_text_fault (place + 1) lines fault behind.2

pub no_header_fault : (place : ℕ) (lines : List (List ℕ)) → FirstRowFault place lines Header → ⊥
no_header_fault place [] found = found
no_header_fault place (line ∷ lines) (inl here) = no_header (field_of here.2.0) place (place + 2) here.2.0 (word_at (words_in line) here.2.0) here.2.4
no_header_fault place (line ∷ lines) (inr behind) = no_header_fault (place + 1) lines behind.2

-- what the rows of lines and the lines themselves say of each other
pub found_lines : (lines rows : List (List ℕ)) (answer : Result (Vec Item Global) WplFault)
    → is_headed lines ≡ true → rows ≡ without_blank_end (drop 1 lines)
    → IfOk answer (λ items. length items.items ≤ MAX_PLAN_ROWS) → IfOk answer (λ items. RowsAre 0 rows items.items) → IfOk answer (λ items. WplLines lines items.items)
unfolding rows_among
found_lines lines rows (Ok items) header same limit found = record {
  header = header;
  limit = limit;
  rows = (let P : List (List ℕ) → Type 0 = λ ls. RowsAre 0 ls items.items in subst P same found);
}
found_lines lines rows (Err fault) header same limit found = tt

-- the rows of lines
pub rows_same : (lines : List (List ℕ)) → rows_among lines ≡ without_blank_end (drop 1 lines)
unfolding rows_among
rows_same lines = refl

told_rows : (lines rows : List (List ℕ)) (fault : WplFault) → rows ≡ without_blank_end (drop 1 lines) → FirstRowFault 0 rows fault → FirstRowFault 0 (rows_among lines) fault
told_rows lines rows fault same found = let P : List (List ℕ) → Type 0 = λ ls. FirstRowFault 0 ls fault in subst P (same ∙ sym (rows_same lines)) found

pub told_lines : (lines rows : List (List ℕ)) (answer : Result (Vec Item Global) WplFault)
    → is_headed lines ≡ true → rows ≡ without_blank_end (drop 1 lines) → IfErr answer (FirstRowFault 0 rows) → IfErr answer (IsLinesFault lines)
told_lines lines rows (Ok items) header same found = tt
told_lines lines rows (Err (Memory _)) header same found = tt
told_lines lines rows (Err (Text fault)) header same found = absurd (no_text_fault 0 rows fault found)
told_lines lines rows (Err Header) header same found = absurd (no_header_fault 0 rows found)
told_lines lines rows (Err (TooMany n)) header same found = (header, told_rows lines rows (TooMany n) same found)
told_lines lines rows (Err (FieldCount n)) header same found = (header, told_rows lines rows (FieldCount n) same found)
told_lines lines rows (Err (BadWhole n m)) header same found = (header, told_rows lines rows (BadWhole n m) same found)
told_lines lines rows (Err (BadIndex n)) header same found = (header, told_rows lines rows (BadIndex n) same found)
told_lines lines rows (Err (Num n m fault)) header same found = (header, told_rows lines rows (Num n m fault) same found)

-- what a text and its lines say of each other
pub found_text : (text : List ℕ) (lines : List (List ℕ)) (answer : Result (Vec Item Global) WplFault)
    → length text ≤ MAX_TEXT_BYTES → text_fault text ≡ None → lines ≡ lines_of text
    → IfOk answer (λ items. WplLines lines items.items) → IfOk answer (λ items. Wpl text items.items)
found_text text lines (Ok items) size sound same found =
    let P : List (List ℕ) → Type 0 = λ ls. WplLines ls items.items in
    let here = subst P same found in
    record { size = size; sound = sound; header = here.header; limit = here.limit; rows = here.rows }
found_text text lines (Err fault) size sound same found = tt

pub text_lines : (text : List ℕ) (lines : List (List ℕ)) (items : List Item) → lines ≡ lines_of text → Wpl text items → WplLines lines items
text_lines text lines items same wpl =
    let P : List (List ℕ) → Type 0 = λ ls. WplLines ls items in
    subst P (sym same) (record { header = wpl.header; limit = wpl.limit; rows = wpl.rows })

told_same : (text : List ℕ) (lines : List (List ℕ)) (fault : WplFault) → lines ≡ lines_of text → (is_headed lines ≡ true) × FirstRowFault 0 (rows_among lines) fault → (is_headed (lines_of text) ≡ true) × FirstRowFault 0 (rows_of text) fault
told_same text lines fault same found = let P : List (List ℕ) → Type 0 = λ ls. (is_headed ls ≡ true) × FirstRowFault 0 (rows_among ls) fault in subst P same found

pub told_text : (text : List ℕ) (lines : List (List ℕ)) (answer : Result (Vec Item Global) WplFault)
    → text_fault text ≡ None → lines ≡ lines_of text → IfErr answer (IsLinesFault lines) → IfErr answer (IsWplFault text)
told_text text lines (Ok items) sound same found = tt
told_text text lines (Err (Memory _)) sound same found = tt
told_text text lines (Err (Text fault)) sound same found = absurd found
told_text text lines (Err Header) sound same found = (sound, ap is_headed (sym same) ∙ found)
told_text text lines (Err (TooMany n)) sound same found = let here = told_same text lines (TooMany n) same found in (sound, here.0, here.1)
told_text text lines (Err (FieldCount n)) sound same found = let here = told_same text lines (FieldCount n) same found in (sound, here.0, here.1)
told_text text lines (Err (BadWhole n m)) sound same found = let here = told_same text lines (BadWhole n m) same found in (sound, here.0, here.1)
told_text text lines (Err (BadIndex n)) sound same found = let here = told_same text lines (BadIndex n) same found in (sound, here.0, here.1)
told_text text lines (Err (Num n m fault)) sound same found = let here = told_same text lines (Num n m fault) same found in (sound, here.0, here.1)

-- a faulty field is no row too many, and no other number of fields
no_many : (field : Field) (place line number many : ℕ) (word : List ℕ) → IsBad field place line number word (TooMany many) → ⊥
no_many Place place line number many word bad = bad
no_many (Whole _) place line number many word bad = bad
no_many Parameter place line number many word bad = bad
no_many (Number _) place line number many word bad = bad

no_count : (field : Field) (place line number many : ℕ) (word : List ℕ) → IsBad field place line number word (FieldCount many) → ⊥
no_count Place place line number many word bad = bad
no_count (Whole _) place line number many word bad = bad
no_count Parameter place line number many word bad = bad
no_count (Number _) place line number many word bad = bad

-- the fault of a row of twelve words
pub told_row : (words : List (List ℕ)) (place : ℕ) (answer : Result Item WplFault) → place < MAX_PLAN_ROWS → length words ≡ FIELDS → IfErr answer (FaultFrom words place (place + 2) 1) → IfErr answer (IsRowFault words place)
told_row words place (Ok item) small many found = tt
told_row words place (Err (Memory _)) small many found = tt
told_row words place (Err (Text fault)) small many found = (small, many, found)
told_row words place (Err Header) small many found = (small, many, found)
told_row words place (Err (TooMany n)) small many found = absurd (no_many (field_of found.0) place (place + 2) found.0 n (word_at words found.0) found.4)
told_row words place (Err (FieldCount n)) small many found = absurd (no_count (field_of found.0) place (place + 2) found.0 n (word_at words found.0) found.4)
told_row words place (Err (BadWhole n m)) small many found = (small, many, found)
told_row words place (Err (BadIndex n)) small many found = (small, many, found)
told_row words place (Err (Num n m fault)) small many found = (small, many, found)
