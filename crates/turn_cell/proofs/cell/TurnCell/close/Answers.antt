use Rattle.std.proofs.Common.{rules, sym, ap, ◌∙◌, Some, ◌≡◌, ◌<◌, length, arith, subst, inl, inr, All}
use lib.ListN.{get_elem?}
use Rattle.std.specs.Prelude.{slice_get}
use Rattle.turn_cell.specs.declared.seat_view.Chest.{Chest}
use Rattle.turn_cell.specs.Legal.{Legal, SawOwn}
use Rattle.turn_cell.proofs.Moves.{closes}
use Rattle.turn_cell.proofs.Accounts.{told_or_out}
use Rattle.turn_cell.proofs.Seats.{got_at, all_but}
use Rattle.std.specs.Slots.{slots_len}
use Rattle.turn_cell.specs.TableRuled.{account_of}
use Rattle.turn_cell.proofs.cell.TurnCell.close.Goals as goal

pub place_of_keeper-first-requires-after_bounds : goal.place_of_keeper-first-requires-after_bounds
place_of_keeper-first-requires-after_bounds g c κs out = let q = c.requires.every 0 c.requires.some in (q.0, q.1, ap (λ xs. slice_get xs q.0) c.as_slice.ensures.value ∙ q.2, q.3)

pub join_rest-requires-clause-same : goal.join_rest-requires-clause-same
join_rest-requires-clause-same g c κs out = subst (λ xs. All (λ p. p.seat.table_id ≡ c.args.self.table.shared.table_id) xs) (sym c.remove-keeper.ensures.items) (all_but (λ p. p.seat.table_id ≡ c.args.self.table.shared.table_id) c.args.passes.items c.place_of_keeper-first.result c.requires.same)

pub take-slot-requires : goal.take-slot-requires
take-slot-requires g c = let some : 0 < slots_len c.close_with-closed.result.slots = omega (arith, c.close_with-closed.ensures.counts.1, c.args.self.sized.1) in (some, c.close_with-closed.ensures.values.1 0 (omega arith) some)

pub unreachable-requires : goal.unreachable-requires
unreachable-requires g c = let k = g.M.Machine in let out = c.remove-keeper.result in let is = c.join_rest.ensures.joined in let F = c.close_with-closed.ensures.values.2 in
    let lt : c.place_of_keeper-first.result < length c.args.passes.items = search rules in
    let at = got_at c.args.passes.items c.place_of_keeper-first.result out out lt c.remove-keeper.ensures.value in
    let z = closes k.number k.fits k.suits k.steps c.args.self.table.shared.key F.0 c.join_rest.new.keeper.id c.join_rest.new.keeper.me.0 F.1.0 F.1.1 (ap (λ v. v.spent) is ∙ out.rests.3) (ap (λ v. v.holds) is ∙ out.rests.2)
    (λ n small. let q = c.requires.every n small in elim (told_or_out (λ p. account_of p.seat.me.0) c.args.passes.items c.remove-keeper.new.self.items c.place_of_keeper-first.result out out.seat.me.0.joined at c.remove-keeper.ensures.items q.0 q.1 q.2) [
      | inl e ↦ inl (ap (λ v. v.number) is ∙ ap (λ p. p.seat.me.0.number) e ∙ q.3)
      | inr t ↦ inr (t.0, account_of q.1.seat.me.0, ap (λ v. get_elem? v.joined t.0) is ∙ t.1, q.3)
    ]) in
    let there = F.4 0 (Some z.0) z.2 in cc (there, c.in_default.ensures.value)

pub returns : goal.returns
returns g c = let k = g.M.Machine in let out = c.remove-keeper.result in let is = c.join_rest.ensures.joined in let F = c.close_with-closed.ensures.values.2 in
    let lt : c.place_of_keeper-first.result < length c.args.passes.items = search rules in
    let at = got_at c.args.passes.items c.place_of_keeper-first.result out out lt c.remove-keeper.ensures.value in
    let z = closes k.number k.fits k.suits k.steps c.args.self.table.shared.key F.0 c.join_rest.new.keeper.id c.join_rest.new.keeper.me.0 F.1.0 F.1.1 (ap (λ v. v.spent) is ∙ out.rests.3) (ap (λ v. v.holds) is ∙ out.rests.2)
    (λ n small. let q = c.requires.every n small in elim (told_or_out (λ p. account_of p.seat.me.0) c.args.passes.items c.remove-keeper.new.self.items c.place_of_keeper-first.result out out.seat.me.0.joined at c.remove-keeper.ensures.items q.0 q.1 q.2) [
      | inl e ↦ inl (ap (λ v. v.number) is ∙ ap (λ p. p.seat.me.0.number) e ∙ q.3)
      | inr t ↦ inr (t.0, account_of q.1.seat.me.0, ap (λ v. get_elem? v.joined t.0) is ∙ t.1, q.3)
    ]) in
    let there = F.4 0 (Some z.0) z.2 in
    let found = c.in-Some.ensures.value in
    let same : z.0 ≡ c.in-Some.chest = cc (there, found) in (
      z.1,
      subst (λ (x : Chest g.row.M-Shared.Denot g.row.M-Local.Denot g.row.M-Input.Denot g.row.M-Line.Denot). Legal k.number k.fits k.suits k.steps c.args.self.table.shared.key.shared.value c.args.self.table.shared.key.locals.value.items z.1 x.shared) same z.3.0,
      ap (λ x. x.lines.items) (sym same) ∙ z.3.1,
      λ i p e. elim (told_or_out (λ p'. account_of p'.seat.me.0) c.args.passes.items c.remove-keeper.new.self.items c.place_of_keeper-first.result out out.seat.me.0.joined at c.remove-keeper.ensures.items i p e) [
        | inl e' ↦ subst (λ p'. SawOwn z.1 p'.seat.me.0.number p'.seat.me.0.seen) e' (subst (λ v. SawOwn z.1 v.number v.seen) is z.4)
        | inr t ↦ z.5 t.0 (account_of p.seat.me.0) (ap (λ v. get_elem? v.joined t.0) is ∙ t.1)
      ],
    )
