-- From row to row of a plan text.
use Rattle.std.proofs.Common.{◌≡◌, ℕ, ◌+◌, ◌<◌, ◌≤◌, List, [], ◌∷◌, ◌++◌, length, suc, refl, sym, subst, ap, ◌∙◌, arith, inl, inr, map, take, drop, get_or, Result, Ok, Err, Vec, Global, IfOk, IfErr, None, true}
use Rattle.std.proofs.lemmas.List.{take-append-drop, map-append, drop_more, take_more, map_push, length-map, length-take-le}
use Rattle.first_text.specs.declared.fault.TextFault.{TextFault}
use Rattle.first_text.specs.declared.lines.TheConstants.{MAX_TEXT_BYTES}
use Rattle.first_text.specs.Lines.{lines_of}
use Rattle.first_text.specs.Faults.{text_fault}
use Rattle.first_text.specs.Words.{words_in}
use Rattle.first_model.specs.declared.plan.Item.{Item}
use Rattle.first_model.specs.declared.limits.TheConstants.{MAX_PLAN_ROWS}
use Rattle.first_wpl.specs.declared.fault.WplFault.{WplFault}
use Rattle.first_wpl.specs.declared.fault.WplFault.TheVariants.{Text, Header, TooMany, FieldCount, BadWhole, BadIndex, Num, Memory}
use Rattle.first_wpl.specs.Rows.{RowIs, RowsAre}
use Rattle.first_wpl.specs.Fields.{word_at}
use Rattle.first_wpl.specs.Faults.{Field, Place, Whole, Parameter, Number, field_of, IsBad, FirstRowFault}
use Rattle.first_wpl.specs.Wpl.{Wpl, IsWplFault, is_headed, rows_of, without_blank_end}

-- one more row behind them
pub rows_more : (place : ℕ) (lines : List (List ℕ)) (items : List Item) (line : List ℕ) (item : Item) (at : ℕ)
    → at ≡ place + length lines → RowsAre place lines items → RowIs (words_in line) at item → RowsAre place (lines ++ line ∷ []) (items ++ item ∷ [])
rows_more place [] [] line item at e rows row = ((let P : ℕ → Type 0 = λ n. RowIs (words_in line) n item in let same : at ≡ place = omega arith in subst P same row), tt)
rows_more place [] (x ∷ xs) line item at e rows row = absurd rows
rows_more place (first ∷ lines) [] line item at e rows row = absurd rows
rows_more place (first ∷ lines) (x ∷ xs) line item at e rows row = (rows.0, rows_more (place + 1) lines xs line item at (omega arith) rows.1 row)

-- rows and a row behind them, taken apart
rows_split : (place : ℕ) (lines : List (List ℕ)) (line : List ℕ) (others : List Item) (at : ℕ) → at ≡ place + length lines → RowsAre place (lines ++ line ∷ []) others
    → (front : List Item) × (last : Item) × (others ≡ front ++ last ∷ []) × RowsAre place lines front × RowIs (words_in line) at last
rows_split place [] line [] at e rows = absurd rows
rows_split place [] line (x ∷ []) at e rows = ([], x, refl, tt, (let P : ℕ → Type 0 = λ n. RowIs (words_in line) n x in let same : place ≡ at = omega arith in subst P same rows.0))
rows_split place [] line (x ∷ y ∷ ys) at e rows = absurd rows.1
rows_split place (first ∷ lines) line [] at e rows = absurd rows
rows_split place (first ∷ lines) line (x ∷ xs) at e rows =
    let r = rows_split (place + 1) lines line xs at (omega arith) rows.1 in
    (x ∷ r.0, r.1, ap (λ found. x ∷ found) r.2, (rows.0, r.3), r.4)

-- no other items are those of the rows and of one behind them
pub rows_last : (place : ℕ) (lines : List (List ℕ)) (items others : List Item) (line : List ℕ) (item : Item) (at : ℕ)
    → at ≡ place + length lines
    → ((rest : List Item) → RowsAre place lines rest → rest ≡ items)
    → ((other : Item) → RowIs (words_in line) at other → item ≡ other)
    → RowsAre place (lines ++ line ∷ []) others → others ≡ items ++ item ∷ []
rows_last place lines items others line item at e only one rows =
    let r = rows_split place lines line others at e rows in
    r.2 ∙ ap (λ front. front ++ r.1 ∷ []) (only r.0 r.3) ∙ ap (λ x. items ++ x ∷ []) (sym (one r.1 r.4))

-- the item of a row in the midst
pub row_at : (place : ℕ) (lines : List (List ℕ)) (line : List ℕ) (more : List (List ℕ)) (items : List Item) (at : ℕ)
    → at ≡ place + length lines → RowsAre place (lines ++ line ∷ more) items → (item : Item) × RowIs (words_in line) at item
row_at place [] line more [] at e rows = absurd rows
row_at place [] line more (x ∷ xs) at e rows = (x, (let P : ℕ → Type 0 = λ n. RowIs (words_in line) n x in let same : place ≡ at = omega arith in subst P same rows.0))
row_at place (first ∷ lines) line more [] at e rows = absurd rows
row_at place (first ∷ lines) line more (x ∷ xs) at e rows = row_at (place + 1) lines line more xs at (omega arith) rows.1

-- as many items as rows
pub rows_length : (place : ℕ) (lines : List (List ℕ)) (items : List Item) → RowsAre place lines items → length lines ≡ length items
rows_length place [] [] rows = refl
rows_length place [] (x ∷ xs) rows = absurd rows
rows_length place (line ∷ lines) [] rows = absurd rows
rows_length place (line ∷ lines) (x ∷ xs) rows = ap suc (rows_length (place + 1) lines xs rows.1)

-- the first fault behind good rows
pub fault_behind_rows : (place : ℕ) (lines more : List (List ℕ)) (items : List Item) (fault : WplFault) (at : ℕ)
    → at ≡ place + length lines → at ≤ MAX_PLAN_ROWS → RowsAre place lines items → FirstRowFault at more fault → FirstRowFault place (lines ++ more) fault
fault_behind_rows place [] more items fault at e below rows found = (let P : ℕ → Type 0 = λ n. FirstRowFault n more fault in let same : at ≡ place = omega arith in subst P same found)
fault_behind_rows place (line ∷ lines) more [] fault at e below rows found = absurd rows
fault_behind_rows place (line ∷ lines) more (x ∷ xs) fault at e below rows found = inr (omega arith, (x, rows.0), fault_behind_rows (place + 1) lines more xs fault at (omega arith) below rows.1 found)

-- lines taken apart at one of them
pub named_split : {A B : Type 0} (f : A → B) (spans : List A) (i : ℕ) (d : A) → i < length spans
    → map f spans ≡ map f (take i spans) ++ (f (get_or spans i d) ∷ map f (drop (i + 1) spans))
named_split f spans i d h = ap (map f) (sym (take-append-drop i spans)) ∙ map-append f (take i spans) (drop i spans) ∙ ap (λ rest. map f (take i spans) ++ map f rest) (drop_more spans i d h)

pub named_more : {A B : Type 0} (f : A → B) (spans : List A) (i : ℕ) (d : A) → i < length spans
    → map f (take (i + 1) spans) ≡ map f (take i spans) ++ f (get_or spans i d) ∷ []
named_more f spans i d h = ap (map f) (take_more spans i d h) ∙ map_push f (take i spans) (get_or spans i d)

pub named_size : {A B : Type 0} (f : A → B) (spans : List A) (i : ℕ) → i ≤ length spans → length (map f (take i spans)) ≡ i
named_size f spans i h = length-map (take i spans) f ∙ length-take-le i spans h

-- no row has a fault of the text below, or of the header
no_text : (field : Field) (place line number : ℕ) (word : List ℕ) (fault : TextFault) → IsBad field place line number word (Text fault) → ⊥
no_text Place place line number word fault bad = bad
no_text (Whole _) place line number word fault bad = bad
no_text Parameter place line number word fault bad = bad
no_text (Number _) place line number word fault bad = bad

no_header : (field : Field) (place line number : ℕ) (word : List ℕ) → IsBad field place line number word Header → ⊥
no_header Place place line number word bad = bad
no_header (Whole _) place line number word bad = bad
no_header Parameter place line number word bad = bad
no_header (Number _) place line number word bad = bad

pub no_text_fault : (place : ℕ) (lines : List (List ℕ)) (fault : TextFault) → FirstRowFault place lines (Text fault) → ⊥
no_text_fault place [] fault found = found
no_text_fault place (line ∷ lines) fault (inl here) = no_text (field_of here.2.0) place (place + 2) here.2.0 (word_at (words_in line) here.2.0) fault here.2.4
no_text_fault place (line ∷ lines) fault (inr behind) = no_text_fault (place + 1) lines fault behind.2

pub no_header_fault : (place : ℕ) (lines : List (List ℕ)) → FirstRowFault place lines Header → ⊥
no_header_fault place [] found = found
no_header_fault place (line ∷ lines) (inl here) = no_header (field_of here.2.0) place (place + 2) here.2.0 (word_at (words_in line) here.2.0) here.2.4
no_header_fault place (line ∷ lines) (inr behind) = no_header_fault (place + 1) lines behind.2

-- what the rows of a text and the text itself say of each other
pub found_text : (text : List ℕ) (lines : List (List ℕ)) (answer : Result (Vec Item Global) WplFault)
    → length text ≤ MAX_TEXT_BYTES → text_fault text ≡ None → is_headed (lines_of text) ≡ true → lines ≡ rows_of text
    → IfOk answer (λ items. length items.items ≤ MAX_PLAN_ROWS) → IfOk answer (λ items. RowsAre 0 lines items.items) → IfOk answer (λ items. Wpl text items.items)
found_text text lines (Ok items) size sound header same limit rows = record {
  size = size;
  sound = sound;
  header = header;
  limit = limit;
  rows = (let P : List (List ℕ) → Type 0 = λ ls. RowsAre 0 ls items.items in subst P same rows);
}
found_text text lines (Err fault) size sound header same limit rows = tt

told_rows : (text : List ℕ) (lines : List (List ℕ)) (fault : WplFault) → text_fault text ≡ None → is_headed (lines_of text) ≡ true → lines ≡ rows_of text → FirstRowFault 0 lines fault → FirstRowFault 0 (rows_of text) fault
told_rows text lines fault sound header same found = let P : List (List ℕ) → Type 0 = λ ls. FirstRowFault 0 ls fault in subst P same found

pub told_text : (text : List ℕ) (lines : List (List ℕ)) (answer : Result (Vec Item Global) WplFault)
    → text_fault text ≡ None → is_headed (lines_of text) ≡ true → lines ≡ rows_of text → IfErr answer (FirstRowFault 0 lines) → IfErr answer (IsWplFault text)
told_text text lines (Ok items) sound header same found = tt
told_text text lines (Err (Memory _)) sound header same found = tt
told_text text lines (Err (Text fault)) sound header same found = absurd (no_text_fault 0 lines fault found)
told_text text lines (Err Header) sound header same found = absurd (no_header_fault 0 lines found)
told_text text lines (Err (TooMany n)) sound header same found = (sound, header, told_rows text lines (TooMany n) sound header same found)
told_text text lines (Err (FieldCount n)) sound header same found = (sound, header, told_rows text lines (FieldCount n) sound header same found)
told_text text lines (Err (BadWhole n m)) sound header same found = (sound, header, told_rows text lines (BadWhole n m) sound header same found)
told_text text lines (Err (BadIndex n)) sound header same found = (sound, header, told_rows text lines (BadIndex n) sound header same found)
told_text text lines (Err (Num n m fault)) sound header same found = (sound, header, told_rows text lines (Num n m fault) sound header same found)

-- the rows of a text by its lines
pub rows_same : (text : List ℕ) (lines : List (List ℕ)) → lines ≡ lines_of text → without_blank_end (drop 1 lines) ≡ rows_of text
unfolding rows_of
rows_same text lines same = ap (λ ls. without_blank_end (drop 1 ls)) same
