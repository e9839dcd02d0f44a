use Rattle.std.proofs.Common.{◌≡◌, ◌<◌, List, Option, arith, sym, ap, ◌∙◌, subst}
use Rattle.mission_model.specs.declared.plan.Home.{Home}
use Rattle.mission_model.specs.declared.plan.Item.{Item}
use Rattle.mission_model.specs.declared.plan.Params.{Params}
use Rattle.mission_model.specs.declared.plan.PlanType.TheVariants.{Mission}
use Rattle.mission_model.specs.declared.request.Client.TheVariants.{Nav}
use Rattle.client_cache.specs.CacheState.{CacheState, count_of}
use Rattle.navigator.specs.Caches.{SamePlan-behind}
use Rattle.navigator.specs.Judging.{MissionTaken, ShownTo, WasShown}
use Rattle.navigator.proofs.Takings.{count-stopped, Feeding-more, Feeding-CanFeed}
use Rattle.navigator.proofs.Feeds.{Feeding-begun, WasShown-now, WasShown-stopped, FedBy-stopped, FedBy-whole, has_room, next_cache}
use Rattle.navigator.proofs.taken_mission.TakenMission.take_on.Goals as goal

pub loop-init : goal.loop-init
loop-init c =
    let same : c.self.inside.cache ≡ c.args.self.now.cache = ap (λ (m : MissionTaken). m.cache) c.self.view_is in
    record {
      cache = same;
      begun = subst WasShown c.self.view_is c.self.invariant.0;
      fed = λ (params : Params) (home : Option Home) (fence items : List Item) (h : ShownTo c.args.self.now params home fence items).
          Feeding-begun c.args.uses.now c.args.self.now c.self.inside.check c.self.inside.judge params home fence items c.taken-counter.result (ap (λ (m : MissionTaken). m.check) c.self.view_is) (ap (λ (m : MissionTaken). m.judge) c.self.view_is) c.taken-counter.ensures h;
    }

pub invariant_of-self : goal.invariant_of-self
invariant_of-self c =
    let client : c.loop.self-inside.cache.client ≡ Nav = ap (λ (k : CacheState). k.client) c.loop.invariant.cache ∙ sym (ap (λ (m : MissionTaken). m.cache.client) c.self.view_is) ∙ c.self.invariant.1 in
    (WasShown-now c.args.uses.now c.args.self.now c.loop.counter c.loop.self-inside.cache c.loop.self-inside.check c.loop.self-inside.judge c.loop.invariant.cache c.loop.invariant.begun c.loop.invariant.fed, client)

pub take_next-requires : goal.take_next-requires
take_next-requires c =
    let same : (count_of c.self.inside.cache.head) ≡ (count_of c.args.self.now.cache.head) = ap (λ (m : MissionTaken). (count_of m.cache.head)) c.self.view_is in
    let below : c.loop.counter < (count_of c.args.self.now.cache.head) = omega (arith, c.loop-test.true, c.count-end.ensures, same) in
    has_room c.args.uses.now c.args.self.now c.loop.counter c.loop.self-inside.check c.loop.self-inside.judge c.loop.invariant.begun c.loop.invariant.fed below

pub feed-requires : goal.feed-requires
feed-requires c =
    let same : (count_of c.self.inside.cache.head) ≡ (count_of c.args.self.now.cache.head) = ap (λ (m : MissionTaken). (count_of m.cache.head)) c.self.view_is in
    let below : c.loop.counter < (count_of c.args.self.now.cache.head) = omega (arith, c.loop-test.true, c.count-end.ensures, same) in
    let w = c.loop.invariant.begun in
    Feeding-CanFeed c.args.uses.now c.args.self.now.cache w.items c.loop.counter c.loop.self-inside.cache c.loop.self-inside.check c.loop.self-inside.judge w.params w.home w.fence c.in-Some.item c.take_next.new.cache c.take_next.new.check c.loop.invariant.cache (c.loop.invariant.fed w.params w.home w.fence w.items w.taken) c.in-Some.ensures below w.within

pub invariant_of-self-in-None : goal.invariant_of-self-in-None
invariant_of-self-in-None c =
    let same : (count_of c.self.inside.cache.head) ≡ (count_of c.args.self.now.cache.head) = ap (λ (m : MissionTaken). (count_of m.cache.head)) c.self.view_is in
    let below : c.loop.counter < (count_of c.args.self.now.cache.head) = omega (arith, c.loop-test.true, c.count-end.ensures, same) in
    let w = c.loop.invariant.begun in
    let st = FedBy-stopped c.args.uses.now c.args.self.now.cache c.loop.counter c.loop.self-inside.cache c.loop.self-inside.check c.loop.self-inside.judge c.take_next.new.cache c.take_next.new.check w.params w.home w.fence w.items c.loop.invariant.cache (c.loop.invariant.fed w.params w.home w.fence w.items w.taken) c.in-None.ensures below in
    let client : c.take_next.new.cache.client ≡ Nav = ap (λ (k : CacheState). k.client) st.0 ∙ (SamePlan-behind c.args.self.now.cache _).client ∙ sym (ap (λ (m : MissionTaken). m.cache.client) c.self.view_is) ∙ c.self.invariant.1 in
    (WasShown-stopped c.args.uses.now c.args.self.now c.loop.counter c.loop.self-inside.cache c.loop.self-inside.check c.loop.self-inside.judge c.take_next.new.cache c.take_next.new.check c.loop.invariant.cache c.loop.invariant.begun c.loop.invariant.fed c.in-None.ensures below, client)

pub returns-in-None-clause-taken : goal.returns-in-None-clause-taken
returns-in-None-clause-taken c =
    let same : (count_of c.self.inside.cache.head) ≡ (count_of c.args.self.now.cache.head) = ap (λ (m : MissionTaken). (count_of m.cache.head)) c.self.view_is in
    let below : c.loop.counter < (count_of c.args.self.now.cache.head) = omega (arith, c.loop-test.true, c.count-end.ensures, same) in
    λ (params : Params) (home : Option Home) (fence items : List Item) (h : ShownTo c.args.self.now params home fence items).
    FedBy-stopped c.args.uses.now c.args.self.now.cache c.loop.counter c.loop.self-inside.cache c.loop.self-inside.check c.loop.self-inside.judge c.take_next.new.cache c.take_next.new.check params home fence items c.loop.invariant.cache (c.loop.invariant.fed params home fence items h) c.in-None.ensures below

pub loop-preserved : goal.loop-preserved
loop-preserved c = record {
  cache =
      let w = c.loop.invariant.begun in
      next_cache c.args.uses.now c.args.self.now.cache w.items c.loop.counter c.loop.self-inside.cache c.loop.self-inside.check c.loop.self-inside.judge w.params w.home w.fence c.in-Some.item c.take_next.new.cache c.take_next.new.check c.loop.invariant.cache (c.loop.invariant.fed w.params w.home w.fence w.items w.taken) c.in-Some.ensures;
  begun = c.loop.invariant.begun;
  fed = λ (params : Params) (home : Option Home) (fence items : List Item) (h : ShownTo c.args.self.now params home fence items).
      Feeding-more c.args.uses.now c.args.self.now.cache items c.loop.counter c.loop.self-inside.cache c.loop.self-inside.check c.loop.self-inside.judge params home fence c.in-Some.item c.take_next.new.cache c.take_next.new.check c.feed.new.self c.loop.invariant.cache (c.loop.invariant.fed params home fence items h) c.in-Some.ensures c.feed.ensures;
}

pub returns-clause-taken : goal.returns-clause-taken
returns-clause-taken c =
    let same : (count_of c.self.inside.cache.head) ≡ (count_of c.args.self.now.cache.head) = ap (λ (m : MissionTaken). (count_of m.cache.head)) c.self.view_is in
    λ (params : Params) (home : Option Home) (fence items : List Item) (h : ShownTo c.args.self.now params home fence items).
    let is : ShownTo (record { cache = c.self.inside.cache; check = c.self.inside.check; judge = c.self.inside.judge }) params home fence items = subst (λ (m : MissionTaken). ShownTo m params home fence items) (sym c.self.view_is) h in
    let end : c.loop.counter ≡ (count_of c.args.self.now.cache.head) = omega (arith, c.loop-test.false, c.count-end.ensures, same, c.loop.auto.counter-end, c.taken-counter.ensures Mission (count_of c.self.inside.cache.head) items is.checked, is.judged.shown.within) in
    FedBy-whole c.args.uses.now c.args.self.now.cache c.loop.counter c.loop.self-inside.cache c.loop.self-inside.check c.loop.self-inside.judge params home fence items c.loop.invariant.cache (c.loop.invariant.fed params home fence items h) end

pub returns-in-None-clause-count : goal.returns-in-None-clause-count
returns-in-None-clause-count c =
    let same : (count_of c.self.inside.cache.head) ≡ (count_of c.args.self.now.cache.head) = ap (λ (m : MissionTaken). (count_of m.cache.head)) c.self.view_is in
    let below : c.loop.counter < (count_of c.args.self.now.cache.head) = omega (arith, c.loop-test.true, c.count-end.ensures, same) in
    let w = c.loop.invariant.begun in
    let st = FedBy-stopped c.args.uses.now c.args.self.now.cache c.loop.counter c.loop.self-inside.cache c.loop.self-inside.check c.loop.self-inside.judge c.take_next.new.cache c.take_next.new.check w.params w.home w.fence w.items c.loop.invariant.cache (c.loop.invariant.fed w.params w.home w.fence w.items w.taken) c.in-None.ensures below in
    ap (λ (k : CacheState). (count_of k.head)) st.0 ∙ count-stopped c.args.self.now.cache _
