use Rattle.std.proofs.Common.{rules, sym}
use Rattle.leg_survey.proofs.Along.{loop-counts, loop-next, loop-end, empty, seen_at}
use Rattle.leg_survey.proofs.legs.push_legs.Goals as goal

pub loop-item-preserved : goal.loop-item-preserved
loop-item-preserved c =
    loop-counts _ _ _ _ _ _ c.loop-item.clear _ _ _ _ (sym c.number_clear-clear.ensures)
    (loop-next c.args.vertices.now c.args.items.now c.loop-item.last c.loop-item.seq c.loop-item.rest.now c.loop-item.count c.loop-item.clear c.args.out.now.items c.loop-item.out.items c.push_sight.new.out.items
    (c.in-Some-before.from, c.in-Some-before.start) c.in-Some.item.now c.in-Some.more.now c.leg_of-sight.result
    c.in-Some-before.is c.in-Some.ensures.cases.0 (search rules) (seen_at c.args.vertices.now c.place_of.result c.place_of-in-Some.result _ _ c.leg_of-sight.result c.place_of.ensures c.place_of-in-Some.ensures c.leg_of-sight.ensures) c.in_ok-push_sight.ensures c.loop-item.invariant)

pub returns : goal.returns
returns c = loop-end c.args.vertices.now c.args.items.now c.loop-item.last c.loop-item.seq c.loop-item.rest.now c.loop-item.count c.loop-item.clear c.args.out.now.items c.loop-item.out.items (empty c.loop-item.rest.now c.in_default.ensures.cases) c.loop-item.invariant
