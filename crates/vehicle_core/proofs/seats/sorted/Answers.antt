-- Each input is put behind those of its actor.
use Rattle.std.proofs.Common.{◌≡◌, ℕ, [], ◌∷◌, List, refl, sym, subst, ap, ◌∙◌, arith}
use Rattle.std.specs.Prelude.{slice_set}
use Rattle.std.specs.List.{All}
use Rattle.mission_model.specs.declared.flight_line.Actor.{Actor}
use Rattle.mission_model.specs.declared.schedule.InputLine.{InputLine}
use Rattle.mission_model.specs.BootScripts.{ActorInput}
use Rattle.vehicle_core.specs.ScheduleState.{ScheduleState, fresh}
use Rattle.vehicle_core.specs.Seats.{HasSeat, Sorted, seat_of, schedule_at, pushed}
use Rattle.vehicle_core.proofs.Lists.{first_of, rest_of, at_any}
use Rattle.vehicle_core.proofs.Sorting.{sort_none, sort_one, input_seat, seat_within}
use Rattle.vehicle_core.proofs.seats.sorted.Goals as goal

pub loop-actor-init : goal.loop-actor-init
loop-actor-init c =
    subst (λ (m : List (Actor × InputLine)). Sorted c.args.links c.args.watchers c.args.inputs.items m c.in_ok-schedules.schedules.items × All (ActorInput c.args.links c.args.watchers) m × (c.args.links ≡ c.args.links)) (sym c.into_iter-actor-iterator.ensures.into_iter_gives.0)
    (sort_none c.args.links c.args.watchers c.args.inputs.items c.in_ok-schedules.schedules.items c.in_ok-schedules.ensures, c.requires, refl)

-- the actor of the first of these has a seat
seat_first : (links watchers : ℕ) (a : Actor) (input : InputLine) (rest items : List (Actor × InputLine)) → items ≡ (a, input) ∷ rest → All (ActorInput links watchers) items → HasSeat links watchers a
seat_first links watchers a input rest items is fit = input_seat links watchers a input (first_of (ActorInput links watchers) (a, input) rest (subst (All (ActorInput links watchers)) is fit))

pub index_mut-requires : goal.index_mut-requires
index_mut-requires c =
    let has = seat_first c.args.links c.args.watchers c.in-Some.actor c.in-Some.input c.next.new.self.rest.items c.loop-actor.actor-iterator.rest.items c.in-Some.ensures.steps.0 c.loop-actor.invariant.1 in
    let within = seat_within c.args.links c.args.watchers c.in-Some.actor has in
    omega (arith, within, c.seat_of-seat.ensures, c.loop-actor.invariant.0.count, c.loop-actor.schedules.ok.0)

pub loop-actor-preserved : goal.loop-actor-preserved
loop-actor-preserved c =
    let items : List (Actor × InputLine) = c.loop-actor.actor-iterator.rest.items in
    let rest : List (Actor × InputLine) = c.next.new.self.rest.items in
    let is : items ≡ (c.in-Some.actor, c.in-Some.input) ∷ rest = c.in-Some.ensures.steps.0 in
    let fit : All (ActorInput c.args.links c.args.watchers) ((c.in-Some.actor, c.in-Some.input) ∷ rest) = subst (All (ActorInput c.args.links c.args.watchers)) is c.loop-actor.invariant.1 in
    let has = seat_first c.args.links c.args.watchers c.in-Some.actor c.in-Some.input rest items is c.loop-actor.invariant.1 in
    let was : Sorted c.args.links c.args.watchers c.args.inputs.items ((c.in-Some.actor, c.in-Some.input) ∷ rest) c.loop-actor.schedules.items = subst (λ (m : List (Actor × InputLine)). Sorted c.args.links c.args.watchers c.args.inputs.items m c.loop-actor.schedules.items) is c.loop-actor.invariant.0 in
    let new : c.push.new.self ≡ pushed (schedule_at c.loop-actor.schedules.items (seat_of c.args.links c.in-Some.actor)) c.in-Some.input =
    let value : c.index_mut.result.now ≡ schedule_at c.loop-actor.schedules.items c.seat_of-seat.result = c.index_mut.ensures.value ∙ at_any c.loop-actor.schedules.items c.seat_of-seat.result c.index_mut.result.now (fresh []) (omega (arith, seat_within c.args.links c.args.watchers c.in-Some.actor has, c.seat_of-seat.ensures, c.loop-actor.invariant.0.count)) in
    c.in_ok-push.ensures ∙ ap (λ (s : ScheduleState). pushed s c.in-Some.input) (value ∙ ap (schedule_at c.loop-actor.schedules.items) c.seat_of-seat.ensures) in (
      subst (λ (x : ℕ × ScheduleState). Sorted c.args.links c.args.watchers c.args.inputs.items rest (slice_set c.loop-actor.schedules.items x.0 x.1)) (λ k. (sym c.seat_of-seat.ensures k, sym new k))
          (sort_one c.args.links c.args.watchers c.args.inputs.items rest c.in-Some.actor c.in-Some.input c.loop-actor.schedules.items has was),
      rest_of (ActorInput c.args.links c.args.watchers) (c.in-Some.actor, c.in-Some.input) rest fit,
      refl,
    )
