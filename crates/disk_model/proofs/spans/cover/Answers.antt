use Rattle.std.proofs.Common.{◌≤◌, zero, suc, arith}
use Rattle.std.proofs.lemmas.List.Elements.{All-set}
use Rattle.disk_model.specs.Spans.{Beside}
use Rattle.disk_model.proofs.Covers.{all_but_one, at_place}
use Rattle.disk_model.proofs.spans.cover.Goals as goal

pub returns-in-Some-clause-covers : goal.returns-in-Some-clause-covers
returns-in-Some-clause-covers c k out = c.take_near-near.ensures.covers k
    (all_but_one (Beside k) c.take_near-near.new.spans c.in-Some.i _ c.take_near-near.result (omega (arith, c.in-Some.ensures.0)) (c.in-Some.ensures.1 k) out)
    (at_place (Beside k) c.take_near-near.new.spans c.in-Some.i c.take_near-near.result (omega (arith, c.in-Some.ensures.0)) out)

pub returns-in-Some-clause-span : goal.returns-in-Some-clause-span
returns-in-Some-clause-span c k out = c.take_near-near.ensures.around k
    (at_place (Beside k) c.take_near-near.new.spans c.in-Some.i c.take_near-near.result (omega (arith, c.in-Some.ensures.0)) out)

pub returns-in-Some-clause-end : goal.returns-in-Some-clause-end
returns-in-Some-clause-end c n ends low = All-set (λ (span : _). span.to ≤ n) c.take_near-near.new.spans c.in-Some.i c.take_near-near.result (c.take_near-near.ensures.low n ends low) (c.take_near-near.ensures.end n ends low)

pub returns-in-None-clause-covers : goal.returns-in-None-clause-covers
returns-in-None-clause-covers c k out =
    let all = out 0 c.hull_of_all-all.result (omega arith) in
    c.take_near-near.ensures.covers k (c.hull_of_all-all.ensures.covers k all) (c.hull_of_all-all.ensures.span k all)

pub returns-in-None-clause-span : goal.returns-in-None-clause-span
returns-in-None-clause-span c k out =
    let all = out 0 c.hull_of_all-all.result (omega arith) in
    c.take_near-near.ensures.around k (c.hull_of_all-all.ensures.span k all)

pub returns-in-None-clause-end : goal.returns-in-None-clause-end
returns-in-None-clause-end c n ends low zero d below = c.hull_of_all-all.ensures.end n (c.take_near-near.ensures.end n ends low) (c.take_near-near.ensures.low n ends low)
returns-in-None-clause-end c n ends low (suc zero) d below = omega arith
returns-in-None-clause-end c n ends low (suc (suc zero)) d below = omega arith
returns-in-None-clause-end c n ends low (suc (suc (suc zero))) d below = omega arith
returns-in-None-clause-end c n ends low (suc (suc (suc (suc k)))) d below = absurd (omega (arith, below))
