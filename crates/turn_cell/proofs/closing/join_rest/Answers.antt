use Rattle.std.proofs.Common.{rules, sym, ap, ◌∙◌, ◌++◌, [], ◌∷◌, ◌≡◌, arith, subst, All, suc, append-nil, append_assoc, map, reverse}
use Rattle.turn_cell.specs.TableRuled.{account_of, with_accounts}
use Rattle.std.proofs.lemmas.Grind.{common_steps}
use Rattle.turn_cell.proofs.Seats.{none_left}
use Rattle.turn_cell.proofs.Moves.{joins_allowed}
use Rattle.turn_cell.proofs.closing.join_rest.Goals as goal

pub join_seat-requires : goal.join_seat-requires
join_seat-requires g c = let k = g.M.Machine in let i = c.loop-pass.invariant in let is = i.3 in let r = c.requires.rests in let p = c.in-Some.pass in (
  i.0 ∙ c.requires.table.0,
  ((subst (λ xs. All (λ p. p.seat.table_id ≡ c.args.table.now.table_id) xs) c.in-Some.ensures.steps.0 i.4) 0 p (omega arith)),
  p.rests.0,
  omega arith,
  joins_allowed k.number k.fits k.suits k.steps c.args.table.now.key c.loop-pass.keeper.id c.loop-pass.keeper.me.0 p.seat.id p.seat.me.0 (ap (λ v. v.waits) is ∙ r.1) (ap (λ v. v.holds) is ∙ r.2) (ap (λ v. v.spent) is ∙ r.3) p.rests.1 p.rests.2 p.rests.3,
)

pub loop-pass-preserved : goal.loop-pass-preserved
loop-pass-preserved g c = let i = c.loop-pass.invariant in let e = c.join_seat.ensures in (
  e.0 ∙ i.0,
  e.1 ∙ i.1,
  ap (λ m. m.1) e.2 ∙ i.2,
  first_of (search rules, grind (arith, common_steps)),
  λ k d lt. subst (λ xs. All (λ p. p.seat.table_id ≡ c.args.table.now.table_id) xs) c.in-Some.ensures.steps.0 i.4 (suc k) d (omega arith),
  append_assoc c.loop-pass.yielded (c.in-Some.pass ∷ []) c.next.new.self.rest.items ∙ ap (λ r. c.loop-pass.yielded ++ r) (sym c.in-Some.ensures.steps.0) ∙ i.5,
)

pub returns-clause-joined : goal.returns-clause-joined
returns-clause-joined g c = let i = c.loop-pass.invariant in
    let none : c.loop-pass.pass-iterator.rest.items ≡ [] = none_left c.loop-pass.pass-iterator.rest.items (sym c.loop-pass.pass-iterator.rest.ok.0 ∙ c.in-None.ensures.steps.0) in
    let whole : c.loop-pass.yielded ≡ c.args.passes.items = sym (append-nil c.loop-pass.yielded) ∙ ap (λ r. c.loop-pass.yielded ++ r) (sym none) ∙ i.5 in
    i.3 ∙ ap (λ ps. with_accounts c.args.keeper.now.me.0 (reverse (map (λ p. account_of p.seat.me.0) ps) ++ c.args.keeper.now.me.0.joined)) whole
