-- Each actor is seated with the next schedule.
use Rattle.std.proofs.Common.{◌≡◌, ◌+◌, ℕ, List, [], ◌∷◌, ◌++◌, length, sym, subst, ap, ◌∙◌, arith}
use Rattle.vehicle_core.specs.ScheduleState.{ScheduleState}
use Rattle.vehicle_core.specs.Crew.{crew_of, worker_local, link_local, nav_local, watch_local, link_crew}
use Rattle.vehicle_core.proofs.Seating.{LinksLeft, WatchersLeft, link_seated, nav_seated, watch_seated, all_seated}
use Rattle.vehicle_core.proofs.crew.crew.Goals as goal

pub loop-number-init : goal.loop-number-init
loop-number-init g c =
    let links = c.args.links in
    let rest : c.into_iter-schedules.result.rest.items ≡ c.args.schedules.items = c.into_iter-schedules.ensures.rest in
    let first : c.push_reserved.new.self.items ≡ worker_local ∷ [] = c.push_reserved.ensures.items ∙ ap (λ xs. xs ++ worker_local ∷ []) c.in_ok-locals.ensures.items in (
      record {
        left = links;
        sum = omega arith;
        count = ap length rest ∙ c.requires.count;
        items = ap (λ xs. xs ++ link_crew 0 links c.args.navigator c.into_iter-schedules.result.rest.items c.args.watchers.items) first ∙ ap (λ (ss : List ScheduleState). worker_local ∷ link_crew 0 links c.args.navigator ss c.args.watchers.items) rest;
      },
      omega (arith, c.push_reserved.ensures.len, c.push_reserved.ensures.capacity, c.in_ok-locals.ensures.len, c.in_ok-locals.ensures.capacity, c.len.ensures, c.args.schedules.ok.0, ap length rest),
    )

pub unreachable-requires : goal.unreachable-requires
unreachable-requires g c = omega (arith, c.loop-number.invariant.0.count, c.in_default.ensures.cases.0, c.loop-number.schedules.rest.ok.0)

pub push_reserved-requires-in-loop-number : goal.push_reserved-requires-in-loop-number
push_reserved-requires-in-loop-number g c = omega (arith, c.loop-number.invariant.0.count, c.loop-number.invariant.1)

pub loop-number-preserved : goal.loop-number-preserved
loop-number-preserved g c =
    let new : c.push_reserved-in-loop-number.new.self.items ≡ c.loop-number.locals.items ++ link_local c.loop-number.number c.in-Some.schedule ∷ [] =
    c.push_reserved-in-loop-number.ensures.items ∙ ap (λ session. c.loop-number.locals.items ++ record { number = 1 + c.loop-number.number; role = Rattle.vehicle_core.specs.declared.local.Role.TheVariants.Link (record { number = c.loop-number.number; session = session; schedule = c.in-Some.schedule }) } ∷ []) c.new.ensures in
    let seated = link_seated c.loop-number.number c.args.links c.loop-number.locals.items c.args.navigator c.loop-number.schedules.rest.items c.in-Some.schedule c.next.new.self.rest.items c.args.watchers.items
    (crew_of c.args.links c.args.navigator c.args.schedules.items c.args.watchers.items) c.in-Some.ensures.items c.loop-number.invariant.0 c.loop-number-test.true in (
      subst (λ ls. LinksLeft (c.loop-number.number + 1) c.args.links ls c.args.navigator c.next.new.self.rest.items c.args.watchers.items (crew_of c.args.links c.args.navigator c.args.schedules.items c.args.watchers.items)) (sym new) seated,
      omega (arith, c.push_reserved-in-loop-number.ensures.len, c.push_reserved-in-loop-number.ensures.capacity, c.loop-number.invariant.1, ap length c.in-Some.ensures.items),
    )

pub unreachable-requires-in_default-next : goal.unreachable-requires-in_default-next
unreachable-requires-in_default-next g c = omega (arith, c.loop-number.invariant.0.count, c.in_default-next.ensures.cases.0, c.loop-number.schedules.rest.ok.0)

pub push_reserved-requires-2 : goal.push_reserved-requires-2
push_reserved-requires-2 g c = omega (arith, c.loop-number.invariant.0.count, c.loop-number.invariant.1)

pub loop-watcher-init : goal.loop-watcher-init
loop-watcher-init g c =
    let last : c.loop-number.number ≡ c.args.links = omega (arith, c.loop-number-test.false, c.loop-number.invariant.0.sum) in
    let rest : c.into_iter-watcher-iterator.result.rest.items ≡ c.args.watchers.items = c.into_iter-watcher-iterator.ensures.into_iter_gives.0 in
    let whole = crew_of c.args.links c.args.navigator c.args.schedules.items c.args.watchers.items in
    let left : LinksLeft c.args.links c.args.links c.loop-number.locals.items c.args.navigator c.loop-number.schedules.rest.items c.args.watchers.items whole =
    subst (λ (n : ℕ). LinksLeft n c.args.links c.loop-number.locals.items c.args.navigator c.loop-number.schedules.rest.items c.args.watchers.items whole) last c.loop-number.invariant.0 in
    let seated = nav_seated c.args.links c.loop-number.locals.items c.args.navigator c.loop-number.schedules.rest.items c.in-Some-next.schedule c.next-2.new.self.rest.items c.args.watchers.items whole c.in-Some-next.ensures.items left in
    let new : c.push_reserved-2.new.self.items ≡ c.loop-number.locals.items ++ nav_local c.args.links c.args.navigator c.in-Some-next.schedule ∷ [] = c.push_reserved-2.ensures.items in (
      subst (λ ls. WatchersLeft 0 c.args.links ls c.next-2.new.self.rest.items c.into_iter-watcher-iterator.result.rest.items whole) (sym new)
          (subst (λ ws. WatchersLeft 0 c.args.links (c.loop-number.locals.items ++ nav_local c.args.links c.args.navigator c.in-Some-next.schedule ∷ []) c.next-2.new.self.rest.items ws whole) (sym rest) seated),
      omega (arith, c.push_reserved-2.ensures.len, c.push_reserved-2.ensures.capacity, c.loop-number.invariant.1, ap length c.in-Some-next.ensures.items),
      omega (arith, ap length rest),
    )

pub unreachable-requires-in_default-next-2 : goal.unreachable-requires-in_default-next-2
unreachable-requires-in_default-next-2 g c = omega (arith, c.loop-watcher.invariant.0.count, c.in_default-next-2.ensures.cases.0, c.loop-watcher.schedules.rest.ok.0, ap length c.in-Some-watcher.ensures.steps.0)

pub overflow_add-links-in-loop-watcher-2 : goal.overflow_add-links-in-loop-watcher-2
overflow_add-links-in-loop-watcher-2 g c = omega (arith, c.requires.few.0, c.requires.few.1, c.loop-watcher.invariant.2)

pub push_reserved-requires-in-loop-watcher : goal.push_reserved-requires-in-loop-watcher
push_reserved-requires-in-loop-watcher g c = omega (arith, c.loop-watcher.invariant.0.count, c.loop-watcher.invariant.1, ap length c.in-Some-watcher.ensures.steps.0)

pub overflow_add-number-in-loop-watcher : goal.overflow_add-number-in-loop-watcher
overflow_add-number-in-loop-watcher g c = omega (arith, c.requires.few.1, c.loop-watcher.invariant.2)

pub loop-watcher-preserved : goal.loop-watcher-preserved
loop-watcher-preserved g c =
    let whole = crew_of c.args.links c.args.navigator c.args.schedules.items c.args.watchers.items in
    let new : c.push_reserved-in-loop-watcher.new.self.items ≡ c.loop-watcher.locals.items ++ watch_local c.args.links c.loop-watcher.number c.in-Some-watcher.watcher c.in-Some-next-2.schedule ∷ [] = c.push_reserved-in-loop-watcher.ensures.items in
    let seated = watch_seated c.loop-watcher.number c.args.links c.loop-watcher.locals.items c.loop-watcher.schedules.rest.items c.in-Some-next-2.schedule c.next-in-loop-watcher-2.new.self.rest.items
    c.loop-watcher.watcher-iterator.rest.items c.in-Some-watcher.watcher c.next-in-loop-watcher.new.self.rest.items whole c.in-Some-next-2.ensures.items c.in-Some-watcher.ensures.steps.0 c.loop-watcher.invariant.0 in (
      subst (λ ls. WatchersLeft (c.loop-watcher.number + 1) c.args.links ls c.next-in-loop-watcher-2.new.self.rest.items c.next-in-loop-watcher.new.self.rest.items whole) (sym new) seated,
      omega (arith, c.push_reserved-in-loop-watcher.ensures.len, c.push_reserved-in-loop-watcher.ensures.capacity, c.loop-watcher.invariant.1, ap length c.in-Some-next-2.ensures.items),
      omega (arith, c.loop-watcher.invariant.2, ap length c.in-Some-watcher.ensures.steps.0),
    )

pub returns : goal.returns
returns g c =
    all_seated c.loop-watcher.number c.args.links c.loop-watcher.locals.items c.loop-watcher.schedules.rest.items c.loop-watcher.watcher-iterator.rest.items
    (crew_of c.args.links c.args.navigator c.args.schedules.items c.args.watchers.items) (omega (arith, c.in-None.ensures.steps.0, c.loop-watcher.watcher-iterator.rest.ok.0)) c.loop-watcher.invariant.0
