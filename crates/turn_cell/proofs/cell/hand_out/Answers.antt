use Rattle.std.proofs.Common.{sym, ap, ◌∙◌, Some, ◌≡◌}
use Rattle.std.specs.Prelude.{slice_get}
use Rattle.turn_cell.specs.Seats.{IsSeated}
use Rattle.turn_cell.proofs.Seats.{each_cons, first_sits, got_at}
use Rattle.turn_cell.proofs.cell.hand_out.Goals as goal

pub returns-clause-passes : goal.returns-clause-passes
returns-clause-passes g c = let key = c.args.table.now.key in let p = c.pass_with.result in let is = c.pass_with.ensures in let e = c.hand_out_rest.ensures in
    let at = got_at c.args.locals.items 0 c.remove-local.result c.remove-local.result c.requires.count.1 c.remove-local.ensures.value in
    each_cons (λ k q. (q.seat.table_id ≡ c.args.table.now.table_id) × IsSeated key.shared.value key.locals.value.items k q.seat.me.0 q.local) c.hand_out_rest.new.passes.items c.insert.new.self.items p c.in-Ok.ensures.items
    (ap (λ s. s.table_id) is.0 ∙ e.first.0, first_sits p.seat.me key.shared.value key.locals.value.items _ p.local (ap (λ s. s.me) is.0 ∙ e.first.1) (ap (λ ls. slice_get ls 0) (sym c.requires.count.0) ∙ at ∙ ap (λ l. Some l) (sym is.1)))
    e.passes
