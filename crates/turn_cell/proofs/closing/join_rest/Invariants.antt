use Rattle.std.proofs.Common.{◌≡◌, ◌++◌, [], map, reverse, All}
use Rattle.turn_cell.specs.TableRuled.{with_accounts, account_of}
use Rattle.turn_cell.proofs.closing.join_rest.Given as goal

abbrev pub invariant-loop-pass : goal.invariant-loop-pass
invariant-loop-pass g l = (l.keeper.table_id ≡ l.fn.keeper.table_id) × (l.keeper.id ≡ l.fn.keeper.id) × (l.keeper.me.1 ≡ []) × (l.keeper.me.0 ≡ with_accounts l.fn.keeper.me.0 (reverse (map (λ p. account_of p.seat.me.0) l.yielded) ++ l.fn.keeper.me.0.joined))
    × All (λ p. p.seat.table_id ≡ l.table.table_id) l.pass-iterator.rest.items × (l.yielded ++ l.pass-iterator.rest.items ≡ l.fn.passes.items)
