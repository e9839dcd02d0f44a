use Rattle.std.proofs.Common.{refl, sym, ap, ◌∙◌, ◌++◌, [], ◌∷◌, Some, subst, length}
use Rattle.turn_cell.specs.declared.machine.StepOut.TheVariants.{Idle}
use Rattle.turn_cell.specs.declared.seat_view.Addition.{Addition}
use Rattle.turn_cell.proofs.Turns.{gives_same, gives_made, rests_same, rests_made, fits_now}
use Rattle.turn_cell.proofs.cell.TurnCell.turn.Goals as goal

pub put_back-requires-after_bounds : goal.put_back-requires-after_bounds
put_back-requires-after_bounds g c κs out = let k = g.M.Machine in let t = c.await_turn-chest.ensures in
    let e = gives_same k.number k.fits k.suits k.steps c.args.pass.now.seat.me.0 c.await_turn-chest.new.seat.me c.await_turn-chest.result c.await_turn-chest.result.shared c.reserve.new.self.items t.1 refl c.reserve.ensures.items in (t.0 ∙ c.requires.table, e.0, e.1)

pub invariant_of-pass : goal.invariant_of-pass
invariant_of-pass g c = let k = g.M.Machine in let t = c.await_turn-chest.ensures in let p = c.args.pass.now in
    let e = rests_same k.number k.fits k.suits k.steps c.args.pass.now.seat.me.0 c.await_turn-chest.new.seat.me c.put_back.new.seat.me c.await_turn-chest.result c.args.pass.now.local t.1 c.put_back.ensures.1 p.rests.3 p.owns in record { rests = e.0; owns = e.1; named = p.named ∙ sym e.2.0 }

pub returns-then-is_err-clause-err : goal.returns-then-is_err-clause-err
returns-then-is_err-clause-err g c = let k = g.M.Machine in let t = c.await_turn-chest.ensures in let p = c.args.pass.now in
    let e = rests_same k.number k.fits k.suits k.steps c.args.pass.now.seat.me.0 c.await_turn-chest.new.seat.me c.put_back.new.seat.me c.await_turn-chest.result c.args.pass.now.local t.1 c.put_back.ensures.1 p.rests.3 p.owns in ((e.2, (c.await_turn-chest.result.shared, e.3), e.4), refl)

pub step-requires-clause-fits : goal.step-requires-clause-fits
step-requires-clause-fits g c = let k = g.M.Machine in fits_now k.number k.fits k.suits k.steps c.args.pass.now.seat.me.0 c.await_turn-chest.new.seat.me c.await_turn-chest.result c.args.pass.now.local c.await_turn-chest.ensures.1 c.args.pass.now.owns

pub put_back-requires-in-Made-after_bounds : goal.put_back-requires-in-Made-after_bounds
put_back-requires-in-Made-after_bounds g c κs out = let k = g.M.Machine in let law = g.met.M.Machine in let t = c.await_turn-chest.ensures in let p = c.args.pass.now in
    let addition : Addition g.row.M-Shared.Denot g.row.M-Local.Denot g.row.M-Input.Denot g.row.M-Line.Denot = record { before = c.of-before.result; input = c.of-given.result; line = c.of.result; shared = c.of-in-Made.result; after = c.of-in-Made-2.result } in
    let e = gives_made k.number k.fits k.suits k.steps law.same_number law.still_fits law.others_fit c.args.pass.now.seat.me.0 c.await_turn-chest.new.seat.me c.await_turn-chest.result c.step.new.shared c.push_reserved.new.self.items addition c.args.pass.now.local c.step.new.local c.args.input c.in-Made.line t.1 p.owns c.requires.suits c.in-Made.ensures
    (c.push_reserved.ensures.items ∙ ap (λ ns. ns ++ c.in-Made.line ∷ []) c.reserve.ensures.items) (c.of-before.ensures, c.of-given.ensures, c.of.ensures, c.of-in-Made.ensures, c.of-in-Made-2.ensures) in (t.0 ∙ c.requires.table, e.0, e.1)

pub invariant_of-pass-in-Made : goal.invariant_of-pass-in-Made
invariant_of-pass-in-Made g c = let k = g.M.Machine in let law = g.met.M.Machine in let t = c.await_turn-chest.ensures in let p = c.args.pass.now in
    let addition : Addition g.row.M-Shared.Denot g.row.M-Local.Denot g.row.M-Input.Denot g.row.M-Line.Denot = record { before = c.of-before.result; input = c.of-given.result; line = c.of.result; shared = c.of-in-Made.result; after = c.of-in-Made-2.result } in
    let e = rests_made k.number k.fits k.suits k.steps law.same_number law.still_fits law.others_fit c.args.pass.now.seat.me.0 c.await_turn-chest.new.seat.me c.put_back-in-Made.new.seat.me c.await_turn-chest.result c.step.new.shared addition c.args.pass.now.local c.step.new.local c.args.input c.in-Made.line t.1 p.owns c.requires.suits c.in-Made.ensures
    (c.of-before.ensures, c.of-given.ensures, c.of.ensures, c.of-in-Made.ensures, c.of-in-Made-2.ensures) c.put_back-in-Made.ensures.1 p.rests.3 in record { rests = e.0; owns = e.1; named = p.named ∙ sym e.2.0.0 }

pub returns-in-Made-clause-turn : goal.returns-in-Made-clause-turn
returns-in-Made-clause-turn g c = let k = g.M.Machine in let law = g.met.M.Machine in let t = c.await_turn-chest.ensures in let p = c.args.pass.now in
    let addition : Addition g.row.M-Shared.Denot g.row.M-Local.Denot g.row.M-Input.Denot g.row.M-Line.Denot = record { before = c.of-before.result; input = c.of-given.result; line = c.of.result; shared = c.of-in-Made.result; after = c.of-in-Made-2.result } in
    let e = rests_made k.number k.fits k.suits k.steps law.same_number law.still_fits law.others_fit c.args.pass.now.seat.me.0 c.await_turn-chest.new.seat.me c.put_back-in-Made.new.seat.me c.await_turn-chest.result c.step.new.shared addition c.args.pass.now.local c.step.new.local c.args.input c.in-Made.line t.1 p.owns c.requires.suits c.in-Made.ensures
    (c.of-before.ensures, c.of-given.ensures, c.of.ensures, c.of-in-Made.ensures, c.of-in-Made-2.ensures) c.put_back-in-Made.ensures.1 p.rests.3 in e.2

pub invariant_of-pass-in-Idle : goal.invariant_of-pass-in-Idle
invariant_of-pass-in-Idle g c = let k = g.M.Machine in let law = g.met.M.Machine in let t = c.await_turn-chest.ensures in let p = c.args.pass.now in
    let same = law.idle_changes_nothing _ _ _ _ _ c.in-Idle.ensures in
    let e = rests_same k.number k.fits k.suits k.steps c.args.pass.now.seat.me.0 c.await_turn-chest.new.seat.me c.put_back-in-Idle.new.seat.me c.await_turn-chest.result c.step.new.local t.1 c.put_back-in-Idle.ensures.1 p.rests.3 (p.owns ∙ ap (λ l. Some l) (sym same.1)) in record { rests = e.0; owns = e.1; named = p.named ∙ sym e.2.0 }

pub returns-in-Idle-clause-turn : goal.returns-in-Idle-clause-turn
returns-in-Idle-clause-turn g c = let k = g.M.Machine in let law = g.met.M.Machine in let t = c.await_turn-chest.ensures in let p = c.args.pass.now in
    let same = law.idle_changes_nothing _ _ _ _ _ c.in-Idle.ensures in
    let e = rests_same k.number k.fits k.suits k.steps c.args.pass.now.seat.me.0 c.await_turn-chest.new.seat.me c.put_back-in-Idle.new.seat.me c.await_turn-chest.result c.step.new.local t.1 c.put_back-in-Idle.ensures.1 p.rests.3 (p.owns ∙ ap (λ l. Some l) (sym same.1)) in
    let idle = subst (λ (q : g.row.M-Shared.Denot × g.row.M-Local.Denot). k.steps c.await_turn-chest.result.shared c.args.pass.now.local c.args.input Idle q.0 q.1) (λ j. (same.0 j, same.1 j)) c.in-Idle.ensures in
    ((e.2, (c.await_turn-chest.result.shared, e.3, idle), e.4), same.1, c.entries-count.ensures ∙ ap (λ ns. length ns) c.as_slice.ensures.value ∙ ap (λ ns. length ns) c.reserve.ensures.items ∙ sym e.5)
