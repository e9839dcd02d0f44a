use Rattle.std.proofs.Common.{rules, ◌≡◌, ◌<◌, true, false, arith, sym, ◌∙◌, take, length, length-take, subst, ap}
use Rattle.std.proofs.Math.Seq.{take-set-lt}
use Rattle.first_model.specs.Pairs.{is_at, place_of}
use Rattle.first_model.proofs.Places.{with_pair-found, with_pair-new}
use Rattle.first_model.proofs.counts.put_in.Goals as goal

pub returns-in-Ok-clause-pairs : goal.returns-in-Ok-clause-pairs
returns-in-Ok-clause-pairs c =
    let h = c.in-Ok.ensures.found in
    let within : c.in-Ok.at < c.args.len = grind (arith, length-take, h.1) in
    let there : is_at (take c.args.len c.args.cells.now) (place_of (take c.args.len c.args.cells.now) c.args.seq) c.args.seq ≡ true = rw (← h.0) h.2 in
    rw (take-set-lt c.args.len c.args.cells.now c.in-Ok.at (c.args.seq, c.args.used) within, h.0) (sym (with_pair-found (take c.args.len c.args.cells.now) c.args.seq c.args.used there))

pub returns-in-Err-clause-pairs : goal.returns-in-Err-clause-pairs
returns-in-Err-clause-pairs c =
    let h = c.in-Err.ensures.missing in
    let there : is_at (take c.args.len c.args.cells.now) (place_of (take c.args.len c.args.cells.now) c.args.seq) c.args.seq ≡ false = rw (← h.0) h.2 in
    rw (c.insert_at.ensures.pairs, h.0) (sym (with_pair-new (take c.args.len c.args.cells.now) c.args.seq c.args.used there))
