use Rattle.std.proofs.Common.{◌≡◌, rules, sym, ap, ◌∙◌, ℕ, ◌<◌, ◌-◌, ◌∷◌, length, Some, arith}
use Rattle.std.specs.Prelude.{slice_get}
use Rattle.std.specs.List.{remove}
use Rattle.turn_cell.proofs.Seats.{got_at, back_in_front, front_was_in}
use Rattle.turn_cell.proofs.tests.last_first.Goals as goal

pub returns-clause-all : goal.returns-clause-all
returns-clause-all c k p here =
    let xs = c.args.passes.items in
    let out = c.remove-last.result in
    let lt : c.len.result - 1 < length xs = search rules in
    let at = got_at xs (c.len.result - 1) out out lt c.remove-last.ensures.value in
    let is = c.in_ok-insert.ensures.items ∙ ap (λ l. out ∷ l) c.remove-last.ensures.items in
    let b = back_in_front xs (c.len.result - 1) out at k p here in
    (b.0, ap (λ l. slice_get l b.0) is ∙ b.1)

pub returns-clause-only : goal.returns-clause-only
returns-clause-only c k p here =
    let xs = c.args.passes.items in
    let out = c.remove-last.result in
    let lt : c.len.result - 1 < length xs = search rules in
    let at = got_at xs (c.len.result - 1) out out lt c.remove-last.ensures.value in
    let is = c.in_ok-insert.ensures.items ∙ ap (λ l. out ∷ l) c.remove-last.ensures.items in
    front_was_in xs (c.len.result - 1) out at k p (ap (λ l. slice_get l k) (sym is) ∙ here)
