-- A written plan text is a plan text of its items.
use Rattle.std.proofs.Common.{◌≡◌, ℕ, ◌+◌, ◌*◌, ◌<◌, ◌≤◌, true, List, [], ◌∷◌, ◌++◌, length, get_or, map, drop, Vec, Global, Result, Ok, Err, IfOk, ⊎_elim, zero, suc, cond, refl, sym, subst, ap, ◌∙◌, arith, None, Some, lit<}
use Rattle.std.specs.Prelude.{All, codes, nat_lt, position, ◌&&◌}
use Rattle.std.specs.List.{position_from, list_all, position_or_len}
use Rattle.std.proofs.lemmas.List.Elements.{All-append}
use Rattle.std.proofs.lemmas.List.{length-append, length-map, get_or-map, get_or_default}
use Rattle.std.proofs.lemmas.List.Sums.{position_or_len_is}
use Rattle.std.proofs.lemmas.Bool.{le-ltb, ltb-true, and_parts, cases_lt}
use Rattle.nav_text.specs.declared.lines.TheConstants.{MAX_LINE_BYTES}
use Rattle.nav_text.specs.Lines.{lines_of}
use Rattle.nav_text.specs.Joined.{text_of_lines, IsPlainLine}
use Rattle.nav_text.specs.Faults.{is_high, is_long, fault_of, text_fault}
use Rattle.mission_model.specs.declared.plan.Item.{Item}
use Rattle.mission_model.specs.declared.limits.TheConstants.{MAX_PLAN_ROWS}
use Rattle.std.specs.declared.alloc.AllocError.{AllocError}
use Rattle.wpl_items.specs.declared.fields.TheConstants.{MAX_SMALL}
use Rattle.wpl_items.proofs.Writes.{text_made}
use Rattle.wpl_items.specs.Rows.{RowsAre}
use Rattle.wpl_items.specs.Printed.{ReadsBack}
use Rattle.wpl_items.specs.Writing.{row_text, row_texts, wpl_text}
use Rattle.wpl_items.specs.Wpl.{Wpl, is_blank_line, is_headed, rows_among, without_blank_end}

-- each item's row is read back
abbrev pub EachBack : ℕ → List Item → Type 0
EachBack place [] = Unit {0}
EachBack place (item ∷ items) = ReadsBack (row_text place item) place item × EachBack (place + 1) items

pub each_back : (place : ℕ) (items : List Item) → ((k at : ℕ) (d : Item) → at ≡ place + k → k < length items → ReadsBack (row_text at (get_or items k d)) at (get_or items k d)) → EachBack place items
each_back place [] back = tt
each_back place (item ∷ items) back = (back 0 place item (omega arith) (omega arith), each_back (place + 1) items (λ k at d e h. back (suc k) at d (omega arith) (omega arith)))

rows_are : (place : ℕ) (items : List Item) → EachBack place items → RowsAre place (row_texts place items) items
rows_are place [] back = tt
rows_are place (item ∷ items) back = (back.0.row, rows_are (place + 1) items back.1)

pub rows_plain : (place : ℕ) (items : List Item) → EachBack place items → All IsPlainLine (row_texts place items)
rows_plain place [] back k d h = absurd (omega arith)
rows_plain place (item ∷ items) back zero d h = back.0.plain
rows_plain place (item ∷ items) back (suc k) d h = rows_plain (place + 1) items back.1 k d (omega arith)

rows_short : (number place : ℕ) (items : List Item) → EachBack place items → position_from is_long number (row_texts place items) ≡ None
rows_short number place [] back = refl
rows_short number place (item ∷ items) back = ap (λ b. cond b (Some number) (position_from is_long (number + 1) (row_texts (place + 1) items))) (le-ltb MAX_LINE_BYTES (length (row_text place item)) back.0.short) ∙ rows_short (number + 1) (place + 1) items back.1

feed_ascii : All (λ (byte : ℕ). byte < 128) (10 ∷ [])
feed_ascii zero d h = lit< tt
feed_ascii (suc k) d h = absurd (omega arith)

rows_ascii : (place : ℕ) (items : List Item) → EachBack place items → All (λ (byte : ℕ). byte < 128) (text_of_lines (row_texts place items))
rows_ascii place [] back k d h = absurd (omega arith)
rows_ascii place (item ∷ items) back k d h = All-append (λ (byte : ℕ). byte < 128) (row_text place item) (10 ∷ text_of_lines (row_texts (place + 1) items)) back.0.ascii
    (All-append (λ (byte : ℕ). byte < 128) (10 ∷ []) (text_of_lines (row_texts (place + 1) items)) feed_ascii (rows_ascii (place + 1) items back.1)) k d h

rows_size : (place : ℕ) (items : List Item) → EachBack place items → length (text_of_lines (row_texts place items)) ≤ 513 * length items
rows_size place [] back = omega arith
rows_size place (item ∷ items) back =
    let rest = rows_size (place + 1) items back.1 in
    let size = length-append (row_text place item) (10 ∷ text_of_lines (row_texts (place + 1) items)) in
    omega (arith, rest, size, back.0.short)

rows_kept : (place : ℕ) (items : List Item) → EachBack place items → without_blank_end (row_texts place items) ≡ row_texts place items
rows_kept place [] back = refl
rows_kept place (item ∷ items) back =
    ap (λ b. cond (b && list_all is_blank_line (row_texts (place + 1) items)) [] (row_text place item ∷ without_blank_end (row_texts (place + 1) items))) back.0.holds
    ∙ ap (λ rows. row_text place item ∷ rows) (rows_kept (place + 1) items back.1)

-- bytes by a test of each
below_test : (bytes : List ℕ) → list_all (λ byte. nat_lt 10 byte && nat_lt byte 128) bytes ≡ true → All (λ (byte : ℕ). (10 < byte) × (byte < 128)) bytes
below_test [] e k d h = absurd (omega arith)
below_test (byte ∷ bytes) e zero d h = let here = and_parts (nat_lt 10 byte) (nat_lt byte 128) (and_parts (nat_lt 10 byte && nat_lt byte 128) _ e).0 in (ltb-true 10 byte here.0, ltb-true byte 128 here.1)
below_test (byte ∷ bytes) e (suc k) d h = below_test bytes (and_parts (nat_lt 10 byte && nat_lt byte 128) _ e).1 k d (omega arith)

header_ascii : All (λ (byte : ℕ). byte < 128) (codes "QGC WPL 110")
header_ascii k d h = (below_test (codes "QGC WPL 110") refl k d h).1

header_plain : IsPlainLine (codes "QGC WPL 110")
header_plain = ((λ k d h e. (let low = (below_test (codes "QGC WPL 110") refl k d h).0 in omega arith)), refl)

-- all lines of a written text are plain
lines_plain : (items : List Item) → EachBack 0 items → All IsPlainLine (codes "QGC WPL 110" ∷ row_texts 0 items)
lines_plain items back zero d h = header_plain
lines_plain items back (suc k) d h = rows_plain 0 items back k d (omega arith)

-- the lines as they are held
pub views_plain : (lines : List (Vec ℕ Global)) (items : List Item) → map (λ line. line.items) lines ≡ codes "QGC WPL 110" ∷ row_texts 0 items → EachBack 0 items → All (λ line. IsPlainLine line.items) lines
views_plain lines items same back k d h =
    let view : Vec ℕ Global → List ℕ = λ line. line.items in
    let P : List (List ℕ) → Type 0 = λ ls. All IsPlainLine ls in
    let all = subst P (sym same) (lines_plain items back) in
    subst IsPlainLine (get_or-map view lines k d (view d) h) (all k (view d) (omega (arith, length-map lines view)))

none_high : (text : List ℕ) → All (λ (byte : ℕ). byte < 128) text → position is_high text ≡ None
none_high text ascii =
    let past : position_or_len is_high text ≡ length text = position_or_len_is is_high text (length text) 0 (omega arith) (λ k h. le-ltb 127 (get_or text k 0) (omega (arith, ascii k 0 h))) (λ h. absurd (omega arith)) in
    ap (λ b. cond b (Some (position_or_len is_high text)) None) (le-ltb (position_or_len is_high text) (length text) (omega arith))

no_fault : (text : List ℕ) → position is_high text ≡ None → position_from is_long 1 (lines_of text) ≡ None → text_fault text ≡ None
unfolding text_fault
no_fault text ascii short = ap (λ high. fault_of high (position_from is_long 1 (lines_of text))) ascii ∙ ap (fault_of None) short

pub plan_back : (items : List Item) → length items ≤ MAX_PLAN_ROWS → EachBack 0 items → lines_of (wpl_text items) ≡ codes "QGC WPL 110" ∷ row_texts 0 items → Wpl (wpl_text items) items
unfolding wpl_text rows_among
plan_back items limit back lines =
    let size = rows_size 0 items back in
    let ascii : All (λ (byte : ℕ). byte < 128) (codes "QGC WPL 110" ++ 10 ∷ text_of_lines (row_texts 0 items)) =
    All-append (λ (byte : ℕ). byte < 128) (codes "QGC WPL 110") (10 ∷ text_of_lines (row_texts 0 items)) header_ascii
    (All-append (λ (byte : ℕ). byte < 128) (10 ∷ []) (text_of_lines (row_texts 0 items)) feed_ascii (rows_ascii 0 items back)) in
    let P : List (List ℕ) → Type 0 = λ rows. RowsAre 0 rows items in
    record {
      size = omega (arith, size, length-append (codes "QGC WPL 110") (10 ∷ text_of_lines (row_texts 0 items)));
      sound = no_fault (text_of_lines (codes "QGC WPL 110" ∷ row_texts 0 items)) (none_high (codes "QGC WPL 110" ++ 10 ∷ text_of_lines (row_texts 0 items)) ascii)
          (ap (position_from is_long 1) lines ∙ rows_short 2 0 items back);
      header = ap is_headed lines;
      limit = limit;
      rows = subst P (sym (ap (λ ls. without_blank_end (drop 1 ls)) lines ∙ rows_kept 0 items back)) (rows_are 0 items back);
    }

-- what joining the lines gives
pub made_back : (answer : Result (Vec ℕ Global) AllocError) (lines : List (List ℕ)) (items : List Item) → lines ≡ codes "QGC WPL 110" ∷ row_texts 0 items
    → length items ≤ MAX_PLAN_ROWS → EachBack 0 items → IfOk answer (λ text. text.items ≡ text_of_lines lines) → IfOk answer (λ text. lines_of text.items ≡ lines) → IfOk answer (λ text. Wpl text.items items)
made_back (Ok text) lines items same limit back made told =
    let whole : text.items ≡ wpl_text items = made ∙ text_made lines items same in
    let P : List ℕ → Type 0 = λ bytes. Wpl bytes items in
    subst P (sym whole) (plan_back items limit back (ap lines_of (sym whole) ∙ told ∙ same))
made_back (Err fault) lines items same limit back made told = tt

-- one more row that is read back
pub back_more : (items : List Item) (place : ℕ) (none : Item) → place < length items
    → ((k : ℕ) (d : Item) → k < place → k < MAX_PLAN_ROWS → (get_or items k d).frame ≤ MAX_SMALL → ReadsBack (row_text k (get_or items k d)) k (get_or items k d))
    → (place < MAX_PLAN_ROWS → (get_or items place none).frame ≤ MAX_SMALL → ReadsBack (row_text place (get_or items place none)) place (get_or items place none))
    → (k : ℕ) (d : Item) → k < place + 1 → k < MAX_PLAN_ROWS → (get_or items k d).frame ≤ MAX_SMALL → ReadsBack (row_text k (get_or items k d)) k (get_or items k d)
back_more items place none within before here k d below small frame = ⊎_elim
    (λ less. before k d less small frame)
    (λ more.
    let same : place ≡ k = omega arith in
    let P : ℕ → Type 0 = λ n. (get_or items n d).frame ≤ MAX_SMALL → ReadsBack (row_text n (get_or items n d)) n (get_or items n d) in
    let Q : Item → Type 0 = λ x. x.frame ≤ MAX_SMALL → ReadsBack (row_text place x) place x in
    subst P same (subst Q (get_or_default items place none d within) (here (omega arith))) frame)
    (cases_lt k place)
