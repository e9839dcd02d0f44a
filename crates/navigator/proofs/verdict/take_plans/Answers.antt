use Rattle.std.proofs.Common.{◌≡◌, List, length}
use Rattle.mission_model.specs.declared.plan.Item.{Item}
use Rattle.mission_model.specs.declared.plan.PlanType.TheVariants.{Mission}
use Rattle.client_cache.specs.CacheState.{count_of}
use Rattle.navigator.specs.Taking.{whole_taking}
use Rattle.navigator.specs.Judging.{FedBy}
use Rattle.navigator.proofs.Verdicts.{takes_no_mission, takes_mission, lacks_none, lacks_next}
use Rattle.navigator.proofs.verdict.take_plans.Goals as goal

pub returns-then-not-is_whole-clause-mission : goal.returns-then-not-is_whole-clause-mission
returns-then-not-is_whole-clause-mission c = λ (items : List Item) (h : FedBy c.args.params c.args.home c.args.fence.now c.args.mission.now items).
    takes_no_mission c.args.params c.args.home c.args.uses.now c.take_fence.new.fence c.args.mission.now c.take_fence.new.mission items c.next_seq.result
    (λ e. cc (c.is_whole.ensures.whole.1 e, c.if-not-is_whole.true)) c.take_fence.ensures.cache (c.take_fence.ensures.fed items h) c.next_seq.ensures

pub returns-then-is_whole-clause-mission : goal.returns-then-is_whole-clause-mission
returns-then-is_whole-clause-mission c = λ (items : List Item) (h : FedBy c.args.params c.args.home c.args.fence.now c.args.mission.now items).
    let whole : length c.take_fence.new.fence.taken ≡ count_of c.take_fence.new.fence.cache.head = c.is_whole.ensures.whole.0 c.if-not-is_whole.false in
    let took = c.take_on.ensures.taken c.args.params c.args.home c.take_fence.new.fence.taken items ((c.take_fence.ensures.fed items h).whole whole) in
    takes_mission c.args.params c.args.home c.args.uses.now c.take_fence.new.fence c.args.mission.now c.take_fence.new.mission c.take_on.new.self items _
    whole c.take_fence.ensures.cache took
    (lacks_none Mission (record { kind = Mission; cache = c.take_on.new.self.cache; taken = whole_taking Mission c.args.uses.now c.take_fence.new.mission.cache items }) ((c.is_whole-2.ensures.whole c.args.params c.args.home c.take_fence.new.fence.taken _ took.1).0 c.if-is_whole.true))

pub returns-clause-mission : goal.returns-clause-mission
returns-clause-mission c = λ (items : List Item) (h : FedBy c.args.params c.args.home c.args.fence.now c.args.mission.now items).
    let whole : length c.take_fence.new.fence.taken ≡ count_of c.take_fence.new.fence.cache.head = c.is_whole.ensures.whole.0 c.if-not-is_whole.false in
    let took = c.take_on.ensures.taken c.args.params c.args.home c.take_fence.new.fence.taken items ((c.take_fence.ensures.fed items h).whole whole) in
    takes_mission c.args.params c.args.home c.args.uses.now c.take_fence.new.fence c.args.mission.now c.take_fence.new.mission c.take_on.new.self items _
    whole c.take_fence.ensures.cache took
    (lacks_next Mission (record { kind = Mission; cache = c.take_on.new.self.cache; taken = whole_taking Mission c.args.uses.now c.take_fence.new.mission.cache items }) c.next_seq-2.result
    (λ e. cc ((c.is_whole-2.ensures.whole c.args.params c.args.home c.take_fence.new.fence.taken _ took.1).1 e, c.if-is_whole.false))
    (c.next_seq-2.ensures.next c.args.params c.args.home c.take_fence.new.fence.taken _ took.1))
