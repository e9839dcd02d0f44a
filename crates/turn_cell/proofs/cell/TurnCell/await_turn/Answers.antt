use Rattle.std.proofs.Common.{rules, sym, ap, ◌∙◌, [], ◌∷◌, Some, ◌≡◌}
use Rattle.atomic_table.specs.Table.{rest}
use Rattle.turn_cell.proofs.Moves.{draw_allowed, look_allowed}
use Rattle.turn_cell.proofs.Turns.{taken_out}
use Rattle.turn_cell.proofs.cell.TurnCell.await_turn.Goals as goal

pub fetch_add-ticket-requires : goal.fetch_add-ticket-requires
fetch_add-ticket-requires g c = (search rules, search rules, draw_allowed _ _ _ _ _ _ _ _ (search rules) (search rules))

pub load-serving-requires : goal.load-serving-requires
load-serving-requires g c = let is = c.loop.invariant.1 in
    (search rules, search rules, look_allowed _ _ _ _ _ _ _ _ (ap (λ m. m.0.waits) is) (ap (λ m. m.0.holds) is ∙ c.requires.2) (ap (λ m. m.0.spent) is ∙ c.requires.3))

pub exchange-requires : goal.exchange-requires
exchange-requires g c = let at : c.load-serving.result ≡ c.loop.seat.me.0.ticket = search rules in let t = c.load-serving.ensures.2.0 at in
    let carried : c.load-serving.new.seat.me.1 ≡ (0, Some t.0) ∷ [] = ap (λ m. m.1) t.2 ∙ ap (λ m. (0, Some t.0) ∷ m.1) c.loop.invariant.1 in
    (search rules, (Some t.0, carried ∙ ap (λ l. (0, Some t.0) ∷ rest l) (sym carried)))

pub returns-then-serving-ticket : goal.returns-then-serving-ticket
returns-then-serving-ticket g c = let at : c.load-serving.result ≡ c.loop.seat.me.0.ticket = search rules in let t = c.load-serving.ensures.2.0 at in
    let k = g.M.Machine in (
      search rules,
      taken_out k.number k.fits k.suits k.steps c.loop.seat.me c.load-serving.new.seat.me c.exchange.new.seat.me c.args.seat.now.me.0 c.fetch_add-ticket.result t.1 t.0 c.unwrap.result c.exchange.result
          c.loop.invariant.1 t.2 t.3 t.4 c.exchange.ensures.2 c.exchange.ensures.3 c.unwrap.ensures,
    )
