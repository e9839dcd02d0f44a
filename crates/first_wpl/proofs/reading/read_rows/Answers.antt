use Rattle.std.proofs.Common.{◌≡◌, ◌+◌, ◌<◌, ◌++◌, ◌∷◌, [], ℕ, List, take, drop, map, get_or, ap, ◌∙◌, sym, subst, arith, inl, vec_len, alloc_error}
use Rattle.std.proofs.lemmas.Result.{err_from_is_err_and}
use Rattle.std.proofs.lemmas.List.{length-map}
use Rattle.first_text.specs.declared.span.Span.{Span}
use Rattle.first_text.specs.Spans.{text_of}
use Rattle.first_model.specs.declared.plan.Item.{Item}
use Rattle.first_model.specs.declared.limits.TheConstants.{MAX_PLAN_ROWS}
use Rattle.first_wpl.specs.declared.fault.WplFault.TheVariants.{Memory}
use Rattle.first_wpl.specs.Rows.{RowsAre}
use Rattle.first_wpl.specs.Faults.{FirstRowFault}
use Rattle.first_wpl.proofs.Results.{gives_fault}
use Rattle.first_wpl.proofs.RowSteps.{rows_more, rows_last, row_at, rows_length, fault_behind_rows, named_split, named_more, named_size}
use Rattle.first_wpl.proofs.reading.read_rows.Goals as goal

pub returns-in_err-item-clause-only : goal.returns-in_err-item-clause-only
returns-in_err-item-clause-only c items limit rows =
    let p = err_from_is_err_and c.from_residual.result c.from_residual.ensures.1 in
    let none : Span = record { from = 0; to = 0 } in
    let f = text_of c.args.text.now in
    let spans = c.args.rows.now in
    let i = c.loop-row.row-index in
    let split = named_split f spans i none c.loop-row-test.true in
    let P : List (List ℕ) → Type 0 = λ lines. RowsAre 0 lines items in
    let before = named_size f spans i (omega arith) in
    let all = length-map spans f in
    let many = rows_length 0 (map f spans) items rows in
    let row = row_at 0 (map f (take i spans)) (f (get_or spans i none)) (map f (drop (i + 1) spans)) items c.len.result (omega arith) (subst P split rows) in
    rw (p.1, p.2) (gives_fault c.in_err-item.field-0.0 row.0 items (c.in_err-item.ensures.only (omega arith) row.0 row.1))

pub returns-in_err-item-clause-bad : goal.returns-in_err-item-clause-bad
returns-in_err-item-clause-bad c =
    let p = err_from_is_err_and c.from_residual.result c.from_residual.ensures.1 in
    let none : Span = record { from = 0; to = 0 } in
    let f = text_of c.args.text.now in
    let spans = c.args.rows.now in
    let i = c.loop-row.row-index in
    let fault = c.in_err-item.field-0.0 in
    let split = named_split f spans i none c.loop-row-test.true in
    let P : List (List ℕ) → Type 0 = λ lines. FirstRowFault 0 lines fault in
    let before = named_size f spans i (omega arith) in
    rw (p.1, p.2) (subst P (sym split) (fault_behind_rows 0 (map f (take i spans)) (f (get_or spans i none) ∷ map f (drop (i + 1) spans)) c.loop-row.items.items fault c.len.result (omega arith) (omega arith) c.loop-row.invariant.good (inl c.in_err-item.ensures.bad)))

pub returns-in_err-push-clause-bad : goal.returns-in_err-push-clause-bad
returns-in_err-push-clause-bad c =
    let p = err_from_is_err_and c.from_residual-in_err-push.result c.from_residual-in_err-push.ensures.1 in
    let none : Span = record { from = 0; to = 0 } in
    let f = text_of c.args.text.now in
    let spans = c.args.rows.now in
    let i = c.loop-row.row-index in
    let split = named_split f spans i none c.loop-row-test.true in
    let P : List (List ℕ) → Type 0 = λ lines. FirstRowFault 0 lines (Memory alloc_error) in
    let before = named_size f spans i (omega arith) in
    rw (p.1, p.2) (subst P (sym split) (fault_behind_rows 0 (map f (take i spans)) (f (get_or spans i none) ∷ map f (drop (i + 1) spans)) c.loop-row.items.items (Memory alloc_error) c.len.result (omega arith) (omega arith) c.loop-row.invariant.good (inl tt)))

pub loop-row-preserved : goal.loop-row-preserved
loop-row-preserved c =
    let none : Span = record { from = 0; to = 0 } in
    let f = text_of c.args.text.now in
    let spans = c.args.rows.now in
    let i = c.loop-row.row-index in
    let line = f (get_or spans i none) in
    let before = map f (take i spans) in
    let items = c.loop-row.items.items in
    let item = c.in_ok-item.item in
    let size = named_size f spans i (omega arith) in
    let more = named_more f spans i none c.loop-row-test.true in
    let below : c.len.result < MAX_PLAN_ROWS = c.in_ok-item.ensures.below in
    let len : vec_len c.push.new.self ≡ vec_len c.loop-row.items + 1 = c.in_ok-push.ensures.len in
    let pushed = c.in_ok-push.ensures.items in
    let P : List (List ℕ) → Type 0 = λ lines. RowsAre 0 lines c.push.new.self.items in
    let Q : List Item → Type 0 = λ xs. RowsAre 0 (before ++ line ∷ []) xs in
    record {
      limit = omega (arith, below, c.len.ensures, c.loop-row.invariant.count);
      count = len ∙ ap (λ n. n + 1) c.loop-row.invariant.count;
      good = subst P (sym more) (subst Q (sym pushed) (rows_more 0 before items line item c.len.result (omega arith) c.loop-row.invariant.good c.in_ok-item.ensures.good));
      only = λ others rows.
          let R : List (List ℕ) → Type 0 = λ lines. RowsAre 0 lines others in
          rows_last 0 before items others line item c.len.result (omega arith) c.loop-row.invariant.only (c.in_ok-item.ensures.only c.in_ok-item.ensures.below) (subst R more rows) ∙ sym pushed;
    }
