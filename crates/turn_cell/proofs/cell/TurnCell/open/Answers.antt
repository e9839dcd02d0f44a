use Rattle.std.proofs.Common.{rules, sym, ap, ◌≡◌, List, subst}
use Rattle.turn_cell.specs.Legal.{EachFits}
use Rattle.turn_cell.specs.Seats.{IsSeated}
use Rattle.turn_cell.proofs.cell.TurnCell.open.Goals as goal

pub with_table-requires-clause-fit : goal.with_table-requires-clause-fit
with_table-requires-clause-fit g c κs out = let k = g.M.Machine in subst (λ (ls : List g.row.M-Local.Denot). EachFits k.number k.fits c.args.shared ls) (sym (ap (λ v. v.items) c.of-2.ensures)) c.requires.fit

pub returns-clause-passes : goal.returns-clause-passes
returns-clause-passes g c k p at = let e = c.hand_out.ensures.passes k p at in let l = c.in_ok-cell.ensures in
    let shared : c.in_ok-cell.cell.table.shared.key.shared.value ≡ c.args.shared = search rules in
    let locals : c.in_ok-cell.cell.table.shared.key.locals.value.items ≡ c.args.locals.items = search rules in
    (e.0, subst (λ (q : g.row.M-Shared.Denot × List g.row.M-Local.Denot). IsSeated q.0 q.1 k p.seat.me.0 p.local) (λ i. (shared i, locals i)) e.1)
