use Rattle.std.proofs.Common.{◌+◌, ◌-◌, ◌∷◌, take, drop, arith, take-take, length-take, length-drop, length-set}
use Rattle.std.proofs.lemmas.Grind.{common_steps}
use Rattle.mission_model.proofs.Moved.{moved}
use Rattle.std.proofs.lemmas.Slice.{take-put_mid, drop-put_mid}
use Rattle.mission_model.proofs.counts.insert_at.Goals as goal

pub returns-clause-pairs : goal.returns-clause-pairs
returns-clause-pairs c =
    let m = moved c.args.cells.now c.args.at c.args.len c.args.pair (0, 0) c.requires.place c.requires.room in
    rw (c.rotate_right.ensures.after, m, take-put_mid c.args.at (c.args.len + 1 - c.args.at) c.args.cells.now (c.args.pair ∷ drop c.args.at (take c.args.len c.args.cells.now)) (c.args.len + 1) (grind (arith, length-drop, length-take, c.requires)) (omega (arith, c.requires.place, c.requires.room))) (grind (arith, take-take, c.requires))

pub returns-clause-rest : goal.returns-clause-rest
returns-clause-rest c = drop-put_mid c.args.at (c.args.len + 1 - c.args.at) c.args.cells.now _ (c.args.len + 1) (omega (arith, c.requires.place)) (omega (arith, c.requires.place, c.requires.room)) (grind (arith, common_steps, c.rotate_right.ensures.len, length-set, length-take, length-drop, c.requires))
