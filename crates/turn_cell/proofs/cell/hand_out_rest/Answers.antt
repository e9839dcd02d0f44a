use Rattle.std.proofs.Common.{sym, ap, ◌∙◌, [], ◌∷◌, Some, ◌≡◌, arith, length, length-append, ◌+◌, subst}
use Rattle.std.specs.Prelude.{slice_get}
use Rattle.turn_cell.specs.Legal.{locals_left}
use Rattle.turn_cell.specs.Seats.{IsSeated}
use Rattle.turn_cell.proofs.Moves.{splits_allowed}
use Rattle.turn_cell.proofs.Seats.{each_snoc, counted_first, fresh_next, fresh_sits, got_next, got_first}
use Rattle.turn_cell.proofs.cell.hand_out_rest.Goals as goal

pub split_seat-seat-requires : goal.split_seat-seat-requires
split_seat-seat-requires g c = let k = g.M.Machine in let i = c.loop-local.invariant in let is = i.2 in let v = c.loop-local.first.me.0 in let given : v.given ≡ c.loop-local.number + 1 = ap (λ m. m.0.given) is in
    let long = ap length c.in-Some.ensures.steps.0 in let all = i.4 in let small = c.requires.count.1 in let total = c.requires.count.0 in
    (i.0, omega arith, splits_allowed k.number k.fits k.suits k.steps c.args.table.now.key c.loop-local.first.id v i.1 (ap (λ m. m.0.waits) is) (ap (λ m. m.0.holds) is) (ap (λ m. m.0.spent) is) (omega arith) (omega arith))

pub pass_with-requires-clause-owns : goal.pass_with-requires-clause-owns
pass_with-requires-clause-owns g c κs out = let i = c.loop-local.invariant in let e = c.split_seat-seat.ensures in let key = c.args.table.now.key in
    let me = e.4 ∙ fresh_next c.loop-local.first.me key.shared.value key.locals.value.items (c.loop-local.number + 1) i.2 in
    let z : c.loop-local.number + 1 + 0 ≡ c.loop-local.number + 1 = omega arith in
    let at = ap (slice_get key.locals.value.items) (sym z) ∙ i.6 0 ∙ got_first _ _ _ c.in-Some.ensures.steps.0 in
    subst (λ m. slice_get (locals_left m.0.locals m.0.seen) m.0.number ≡ Some c.in-Some.local) (sym me) at

pub loop-local-preserved : goal.loop-local-preserved
loop-local-preserved g c = let i = c.loop-local.invariant in let e = c.split_seat-seat.ensures in let key = c.args.table.now.key in
    let me = e.4 ∙ fresh_next c.loop-local.first.me key.shared.value key.locals.value.items (c.loop-local.number + 1) i.2 in
    let z : c.loop-local.number + 1 + 0 ≡ c.loop-local.number + 1 = omega arith in
    let at = ap (slice_get key.locals.value.items) (sym z) ∙ i.6 0 ∙ got_first _ _ _ c.in-Some.ensures.steps.0 in
    let p = c.pass_with.result in let is = c.pass_with.ensures in
    let long = ap length c.in-Some.ensures.steps.0 in
    let pushed = c.push_reserved.ensures.items in (
      e.0 ∙ i.0,
      e.1 ∙ i.1,
      e.2 ∙ counted_first c.loop-local.first.me key.shared.value key.locals.value.items (c.loop-local.number + 1) i.2,
      omega (arith, i.3, ap length pushed, length-append c.loop-local.passes.items (p ∷ [])),
      omega (arith, i.4),
      omega (arith, c.push_reserved.ensures.capacity, i.5),
      (λ k. let n : c.loop-local.number + 1 + 1 + k ≡ c.loop-local.number + 1 + (k + 1) = omega arith in
          ap (slice_get key.locals.value.items) n ∙ i.6 (k + 1) ∙ got_next _ _ _ k c.in-Some.ensures.steps.0),
      each_snoc (λ k q. (q.seat.table_id ≡ c.args.table.now.table_id) × IsSeated key.shared.value key.locals.value.items (k + 1) q.seat.me.0 q.local) c.loop-local.passes.items c.push_reserved.new.self.items p c.loop-local.number pushed i.3 i.7
          (ap (λ s. s.table_id) is.0 ∙ e.3 ∙ i.0, fresh_sits p.seat.me key.shared.value key.locals.value.items (c.loop-local.number + 1) p.local (ap (λ s. s.me) is.0 ∙ me) (at ∙ ap (λ l. Some l) (sym is.1))),
    )
