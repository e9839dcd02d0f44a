use Rattle.std.proofs.Common.{◌≡◌, rules, sym, ap, ◌∙◌, subst, ℕ, ◌<◌, ◌++◌, length, arith, All}
use Rattle.std.specs.Prelude.{slice_get, slice_index_or, take, drop}
use Rattle.turn_cell.proofs.Seats.{there, here_or, came_back, all_among}
use Rattle.turn_cell.proofs.tests.raised.Goals as goal

pub close-requires-clause-same : goal.close-requires-clause-same
close-requires-clause-same g c κs =
    let new = c.run_all.new.passes in
    let items = c.in_ok-cell.passes.items in
    let kept : length new ≡ length items = search rules in
    let same : c.as_mut_slice.result.now ≡ items = search rules in
    let base = take c.in_ok-cell.passes.len (new ++ drop (length new) items) in
    let back : base ≡ new = ap (λ n. take n (new ++ drop (length new) items)) c.in_ok-cell.passes.ok.0 ∙ came_back items new kept in
    all_among (λ p. p.seat.table_id ≡ c.in_ok-cell.cell.table.shared.table_id) base c.in_ok-last_first.field-0.items
    (subst (λ xs. All (λ p. p.seat.table_id ≡ c.in_ok-cell.cell.table.shared.table_id) xs) (sym back) (λ i d lt. c.run_all.ensures.same i d (omega (arith, kept, ap length same, lt))))
    c.in_ok-last_first.ensures.only

pub close-requires-clause-every : goal.close-requires-clause-every
close-requires-clause-every g c κs k lt =
    let old = c.as_mut_slice.result.now in
    let new = c.run_all.new.passes in
    let items = c.in_ok-cell.passes.items in
    let opened = c.in_ok-cell.ensures in
    let kept : length new ≡ length items = search rules in
    let same : old ≡ items = search rules in
    let back = ap (λ n. take n (new ++ drop (length new) items)) c.in_ok-cell.passes.ok.0 ∙ came_back items new kept in
    let many = ap length opened.key.1 in
    let within : k < length items = omega (arith, opened.count, many, lt) in
    let short : k < length new = omega (arith, kept, within) in
    let long : k < length old = omega (arith, ap length same, within) in
    let q = there new k short in
    let o = there items k within in
    let number = ap (λ p. p.seat.me.0.number) (sym (here_or new k q.0 q.0 q.1)) ∙ c.run_all.ensures.numbers k q.0 long ∙ ap (λ xs. (slice_index_or xs k q.0).seat.me.0.number) same ∙ ap (λ p. p.seat.me.0.number) (here_or items k o.0 q.0 o.1) in
    let m = c.in_ok-last_first.ensures.all k q.0 (ap (λ xs. slice_get xs k) back ∙ q.1) in
    (m.0, q.0, m.1, number ∙ (opened.passes k o.0 o.1).1.0)
