use Rattle.std.proofs.Common.{◌<◌, length, take, subst, arith, rules}
use Rattle.std.proofs.lemmas.Option.{slice_get-get_or}
use Rattle.mission_model.specs.declared.plan.PlanType.TheVariants.{Mission}
use Rattle.mission_model.specs.PlanCode.{PlanValid}
use Rattle.feasibility.specs.Judged.{Judged}
use Rattle.feasibility.specs.AtPlace.{CanFeed-at, Judged-at}
use Rattle.plan_vehicle.proofs.found.judged.Goals as goal

pub feed-requires : goal.feed-requires
feed-requires c =
    let valid : PlanValid Mission c.args.mission.now = search rules in
    let within : c.loop-item.item-index < length c.args.mission.now = omega arith in
    CanFeed-at c.loop-item.judge c.args.params c.args.home c.args.fence.now c.args.mission.now c.loop-item.item-index _ valid (slice_get-get_or c.args.mission.now c.loop-item.item-index _ within) c.loop-item.invariant

pub loop-item-init : goal.loop-item-init
loop-item-init c = subst (λ fence. Judged c.begin-judge.result c.args.params c.args.home fence (length c.args.mission.now) (take 0 c.args.mission.now)) c.from_items-polygons.ensures c.begin-judge.ensures

pub loop-item-preserved : goal.loop-item-preserved
loop-item-preserved c =
    let within : c.loop-item.item-index < length c.args.mission.now = omega arith in
    Judged-at c.loop-item.judge _ c.feed.new.self c.args.params c.args.home c.args.fence.now c.args.mission.now c.loop-item.item-index c.feed.ensures (slice_get-get_or c.args.mission.now c.loop-item.item-index _ within) c.loop-item.invariant
