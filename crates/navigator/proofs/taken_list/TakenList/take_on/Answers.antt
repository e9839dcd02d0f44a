use Rattle.std.proofs.Common.{◌≡◌, ◌<◌, List, Some, None, arith, ap, sym, subst}
use Rattle.mission_model.specs.declared.plan.Item.{Item}
use Rattle.mission_model.specs.declared.plan.PlanType.{PlanType}
use Rattle.mission_model.specs.PlanCheck.{Checked}
use Rattle.client_cache.specs.CacheState.{count_of}
use Rattle.navigator.specs.Uses.{JumpUses}
use Rattle.navigator.specs.Taking.{TakesNext, PlanTaken}
use Rattle.navigator.specs.Judging.{no_uses}
use Rattle.navigator.proofs.Takings.{Going-more}
use Rattle.navigator.proofs.Lists.{Fits, Fits-going, Fits-stopped, taking-stopped, taking-ended}
use Rattle.navigator.proofs.taken_list.TakenList.take_on.Goals as goal

-- the struct's claim of what `self` was, and where the loop ended
first_fits : (c : goal.After-loop) → Fits c.args.self.now.kind c.self.inside.check c.args.self.now.cache c.args.self.now.taken
first_fits c = subst (λ (p : PlanTaken). Fits p.kind c.self.inside.check p.cache p.taken) c.self.view_is c.self.invariant

at_end : (c : goal.After-loop) → c.loop.counter ≡ count_of c.args.self.now.cache.head
at_end c =
    let same : count_of c.self.inside.cache.head ≡ count_of c.args.self.now.cache.head = ap (λ (p : PlanTaken). count_of p.cache.head) c.self.view_is in
    omega (arith, c.loop-test.false, c.count-end.ensures, same, c.loop.auto.counter-end, c.taken-counter.ensures c.self.inside.kind (count_of c.self.inside.cache.head) c.self.inside.items c.self.invariant.0, c.self.invariant.1)

pub invariant_of-self : goal.invariant_of-self
invariant_of-self c =
    subst (λ (k : PlanType). Fits k c.loop.self-inside.check c.loop.self-inside.cache c.loop.self-inside.items) (sym c.loop.invariant.kind)
    (Fits-going c.args.self.now.kind no_uses c.args.self.now.cache c.loop.self-inside.cache c.args.self.now.taken c.loop.self-inside.items c.loop.counter c.self.inside.check c.loop.self-inside.check (first_fits c) c.loop.invariant.going (omega (arith, at_end c)))

pub returns : goal.returns
returns c = taking-ended no_uses c.args.self.now c.loop.self-inside.kind c.loop.self-inside.cache c.loop.self-inside.items c.loop.counter c.loop.self-inside.check c.loop.invariant.kind c.loop.invariant.going (at_end c)

-- the same where an item is looked for
below : (c : goal.In-None) → c.loop.counter < count_of c.args.self.now.cache.head
below c =
    let same : count_of c.self.inside.cache.head ≡ count_of c.args.self.now.cache.head = ap (λ (p : PlanTaken). count_of p.cache.head) c.self.view_is in
    omega (arith, c.loop-test.true, c.count-end.ensures, same)

none_next : (c : goal.In-None) → (xs : List Item) → Checked c.loop.self-inside.check c.args.self.now.kind (count_of c.loop.self-inside.cache.head) xs → TakesNext c.args.self.now.kind no_uses c.loop.self-inside.cache xs None c.take_next.new.cache c.take_next.new.check
none_next c =
    subst (λ (u : JumpUses). (xs : List Item) → Checked c.loop.self-inside.check c.args.self.now.kind (count_of c.loop.self-inside.cache.head) xs → TakesNext c.args.self.now.kind u c.loop.self-inside.cache xs None c.take_next.new.cache c.take_next.new.check) c.none-uses.ensures
    (subst (λ (k : PlanType). (xs : List Item) → Checked c.loop.self-inside.check k (count_of c.loop.self-inside.cache.head) xs → TakesNext k c.none-uses.result c.loop.self-inside.cache xs None c.take_next.new.cache c.take_next.new.check) c.loop.invariant.kind c.in-None.ensures)

pub invariant_of-self-in-None : goal.invariant_of-self-in-None
invariant_of-self-in-None c =
    let fits : Fits c.args.self.now.kind c.self.inside.check c.args.self.now.cache c.args.self.now.taken = subst (λ (p : PlanTaken). Fits p.kind c.self.inside.check p.cache p.taken) c.self.view_is c.self.invariant in
    subst (λ (k : PlanType). Fits k c.take_next.new.check c.take_next.new.cache c.loop.self-inside.items) (sym c.loop.invariant.kind)
    (Fits-stopped c.args.self.now.kind no_uses c.args.self.now.cache c.loop.self-inside.cache c.take_next.new.cache c.args.self.now.taken c.loop.self-inside.items c.loop.counter c.self.inside.check c.loop.self-inside.check c.take_next.new.check fits c.loop.invariant.going (none_next c) (below c))

pub returns-in-None : goal.returns-in-None
returns-in-None c = taking-stopped no_uses c.args.self.now c.loop.self-inside.kind c.loop.self-inside.cache c.take_next.new.cache c.loop.self-inside.items c.loop.counter c.loop.self-inside.check c.take_next.new.check c.loop.invariant.kind c.loop.invariant.going (none_next c) (below c)

pub loop-preserved : goal.loop-preserved
loop-preserved c =
    let next =
    subst (λ (u : JumpUses). (xs : List Item) → Checked c.loop.self-inside.check c.args.self.now.kind (count_of c.loop.self-inside.cache.head) xs → TakesNext c.args.self.now.kind u c.loop.self-inside.cache xs (Some c.in-Some.item) c.take_next.new.cache c.take_next.new.check) c.none-uses.ensures
    (subst (λ (k : PlanType). (xs : List Item) → Checked c.loop.self-inside.check k (count_of c.loop.self-inside.cache.head) xs → TakesNext k c.none-uses.result c.loop.self-inside.cache xs (Some c.in-Some.item) c.take_next.new.cache c.take_next.new.check) c.loop.invariant.kind c.in-Some.ensures) in
    record {
      kind = c.loop.invariant.kind;
      going = rw c.push.ensures (Going-more c.args.self.now.kind no_uses c.args.self.now.cache c.args.self.now.taken c.loop.counter c.loop.self-inside.cache c.loop.self-inside.check c.loop.self-inside.items c.in-Some.item c.take_next.new.cache c.take_next.new.check c.loop.invariant.going next);
    }
