use Rattle.std.proofs.Common.{◌≡◌, ◌<◌, true, false, arith, sym, take, length-take}
use Rattle.std.proofs.Math.Seq.{take-set-lt}
use Rattle.mission_model.specs.Pairs.{is_at, pair_place}
use Rattle.mission_model.proofs.Places.{with_pair-found, with_pair-new}
use Rattle.mission_model.proofs.counts.put_in.Goals as goal

pub returns-in-Ok-clause-pairs : goal.returns-in-Ok-clause-pairs
returns-in-Ok-clause-pairs c =
    let h = c.in-Ok.ensures.found in
    let within : c.in-Ok.at < c.args.len = grind (arith, length-take, h.1) in
    let there : is_at (take c.args.len c.args.cells.now) (pair_place (take c.args.len c.args.cells.now) c.args.seq) c.args.seq ≡ true = rw (← h.0) h.2 in
    rw (take-set-lt c.args.len c.args.cells.now c.in-Ok.at (c.args.seq, c.args.used) within, h.0) (sym (with_pair-found (take c.args.len c.args.cells.now) c.args.seq c.args.used there))

pub returns-in-Err-clause-pairs : goal.returns-in-Err-clause-pairs
returns-in-Err-clause-pairs c =
    let h = c.in-Err.ensures.missing in
    let there : is_at (take c.args.len c.args.cells.now) (pair_place (take c.args.len c.args.cells.now) c.args.seq) c.args.seq ≡ false = rw (← h.0) h.2 in
    rw (c.insert_at.ensures.pairs, h.0) (sym (with_pair-new (take c.args.len c.args.cells.now) c.args.seq c.args.used there))
