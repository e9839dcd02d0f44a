-- The record of a boot, whole or stopped within it, is a run of its actors in the stated order.
use Rattle.std.proofs.Common.{◌≡◌, inl, inr, ℕ, zero, suc, ◌<◌, List, [], ◌∷◌, ◌++◌, Some, take, drop, refl, sym, ap, ◌∙◌, subst, append_assoc, append-nil}
use Rattle.std.proofs.lemmas.List.{take-append-drop}
use Rattle.first_model.specs.declared.flight_line.Actor.{Actor}
use Rattle.first_model.specs.declared.flight_line.Line.{Line}
use Rattle.first_model.specs.declared.flight_line.Line.TheVariants.{Boot, End, Stuck}
use Rattle.first_model.specs.declared.schedule.BootScript.{BootScript}
use Rattle.first_model.specs.declared.vehicle.BootState.{BootState}
use Rattle.first_vehicle.specs.VehicleState.{VehicleState, index_taken, booted, head_at}
use Rattle.first_core.specs.CoreState.{CoreState}
use Rattle.first_core.specs.NewCore.{InLimits, new_core}
use Rattle.first_core.specs.PartsLaw.{PartsBegin, PartsStay}
use Rattle.first_store.specs.StoreState as store
use Rattle.first_runner.specs.Turn.{StopsAmong, StopsInRound, Stops}
use Rattle.first_runner.specs.Round.{round_of}
use Rattle.first_runner.specs.Flight.{IsNewVehicle, IsEnding, IsFlight, IsFlightSoFar}
use Rattle.first_runner.specs.BootTold.{BootTold, told_after, begun}
use Rattle.first_runner.specs.BootReady.{maker_of}
use Rattle.first_runner.specs.ActorsRun.{WholeIsOfActors, SoFarIsOfActors}
use Rattle.first_runner.specs.CoreRun.{Goes, Partly, CoreRun, CoreSoFar}
use Rattle.first_runner.specs.Order.{ByTurns, rounds, InOrder, before_end, Order}
use Rattle.first_runner.proofs.TiedBoot.{new_tied, new_fits, boots}
use Rattle.first_runner.proofs.CoreTurns.{Walked, acts_walk, walks_join, rounds_walk, acts_still}
use Rattle.first_runner.proofs.CoreBegin.{new_told, ends_told}

-- the vehicle and what is told once the first line of a boot stands
abbrev first_vehicle : BootState → VehicleState
first_vehicle state = booted state.heads state.mark

abbrev first_told : BootScript → BootState → BootTold
first_told boot state = begun boot (head_at state.heads 0).id

-- one more round behind some is one more before them
rounds-last : (n : ℕ) (round : List Actor) → rounds n round ++ round ≡ rounds (suc n) round
rounds-last zero round = sym (append-nil round)
rounds-last (suc n) round = append_assoc round (rounds n round) round ∙ ap (λ xs. round ++ xs) (rounds-last n round)

-- the lines that were walked are made by more actors, too
walked_order : (v : VehicleState) (t : BootTold) (actors more all : List Actor) (lines : List Line) (c : CoreState) (st : store.StoreState) → Walked v t actors lines c st → actors ++ more ≡ all → ByTurns t v all lines
walked_order v t actors more all lines c st walk is = subst (λ xs. ByTurns t v xs lines) is (subst (ByTurns t v (actors ++ more)) (append-nil lines) (walk.order more [] tt))

-- the first part of a record
abbrev begun_part : (boot : BootScript) (state : BootState) (new : IsNewVehicle state) (actors : List Actor) (made : List Line) (c : CoreState) (st : store.StoreState) → Walked (first_vehicle state) (first_told boot state) actors made c st → Partly boot (Boot 1 state.heads state.mark ∷ made)
begun_part boot state new actors made c st walk =
    let first = boots state new in
    record { heads = state.heads; mark = state.mark; body = made; lines_are = refl; mission = first.mission; index = first.index; told = walk.told; vehicle = walk.vehicle; goes = walk.goes }

-- a line of an actor does not end the boot
goes_on : (line : Line) (lines : List Line) (maker : Actor) → maker_of line ≡ Some maker → before_end (line ∷ lines) ≡ line ∷ before_end lines
goes_on End lines maker made = cc
goes_on Stuck lines maker made = cc
goes_on line lines maker made = refl

before_tail : (t t' : BootTold) (v v' : VehicleState) (lines tail : List Line) → Goes t v lines t' v' → before_end tail ≡ [] → before_end (lines ++ tail) ≡ lines
before_tail t t' v v' [] tail goes none = none
before_tail t t' v v' (line ∷ lines) tail (mid, law, moves, goes) none =
    goes_on line (lines ++ tail) law.maker law.made_by ∙ ap (λ l. line ∷ l) (before_tail (told_after t (index_taken v v.wanted) line) t' mid v' lines tail goes none)

end_is_none : (c : CoreState) (last : Line) → IsEnding c last → before_end (last ∷ []) ≡ []
end_is_none c End ending = refl
end_is_none c Stuck ending = refl
end_is_none c last ending = absurd ending

-- the stated turns, and then rounds
stated_rounds : (begin : PartsBegin) (stay : PartsStay) (boot : BootScript) (lines : List Line) (limits : InLimits boot) (flight : IsFlight boot lines) → Walked (first_vehicle flight.state) (first_told boot flight.state) (boot.turns ++ rounds flight.count (round_of boot.links)) (flight.stated_lines ++ flight.round_lines) flight.rounded flight.rounded_store
stated_rounds begin stay boot lines limits flight =
    let state = flight.state in
    let stated = acts_walk stay boot.turns (first_vehicle state) (first_told boot state) (new_core boot state) store.new_store flight.stated_lines flight.turned flight.turned_store (new_fits begin boot state limits flight.new) (new_tied boot state limits flight.new) (new_told boot state) flight.stated in
    let went = rounds_walk stay (round_of boot.links) flight.count stated.vehicle stated.told flight.turned flight.turned_store flight.round_lines flight.rounded flight.rounded_store stated.fits stated.tied stated.core flight.rounds in
    walks_join (first_vehicle state) (first_told boot state) boot.turns (rounds flight.count (round_of boot.links)) flight.stated_lines flight.round_lines flight.turned flight.turned_store flight.rounded flight.rounded_store stated went

-- the record of a whole boot
whole_core : (begin : PartsBegin) (stay : PartsStay) (boot : BootScript) (lines : List Line) → InLimits boot → IsFlight boot lines → CoreRun boot lines
whole_core begin stay boot lines limits flight =
    let state = flight.state in
    let walk = stated_rounds begin stay boot lines limits flight in
    let still = acts_still stay (round_of boot.links) walk.vehicle walk.told flight.rounded flight.rounded_store [] flight.last flight.last_store walk.fits walk.tied walk.core refl flight.still in
    let front : List Line = Boot 1 state.heads state.mark ∷ (flight.stated_lines ++ flight.round_lines) in
    record {
      front = front;
      last = flight.ending_line;
      lines_are = flight.whole;
      part = begun_part boot state flight.new (boot.turns ++ rounds flight.count (round_of boot.links)) (flight.stated_lines ++ flight.round_lines) flight.rounded flight.rounded_store walk;
      ends = ends_told walk.told flight.last (round_of boot.links) flight.ending_line still.core still.none flight.ending;
    }

-- its actors come in the stated order
in_order : (boot : BootScript) (state : BootState) (made tail : List Line) (last : VehicleState) (told : BootTold) → Goes (first_told boot state) (first_vehicle state) made told last → before_end tail ≡ [] → InOrder boot (first_told boot state) (first_vehicle state) made → Order boot (Boot 1 state.heads state.mark ∷ (made ++ tail))
in_order boot state made tail last told goes none order = subst (InOrder boot (first_told boot state) (first_vehicle state)) (sym (before_tail (first_told boot state) told (first_vehicle state) last made tail goes none)) order

whole_order : (begin : PartsBegin) (stay : PartsStay) (boot : BootScript) (lines : List Line) → InLimits boot → IsFlight boot lines → Order boot lines
whole_order begin stay boot lines limits flight =
    let state = flight.state in
    let actors : List Actor = boot.turns ++ rounds flight.count (round_of boot.links) in
    let made : List Line = flight.stated_lines ++ flight.round_lines in
    let walk = stated_rounds begin stay boot lines limits flight in
    let order : InOrder boot (first_told boot state) (first_vehicle state) made = (flight.count, walked_order (first_vehicle state) (first_told boot state) actors [] actors made flight.rounded flight.rounded_store walk (append-nil actors)) in
    subst (Order boot) (sym flight.whole) (in_order boot state made (flight.ending_line ∷ []) walk.vehicle walk.told walk.goes (end_is_none flight.last flight.ending_line flight.ending) order)

pub whole_of_actors : (begin : PartsBegin) (stay : PartsStay) → WholeIsOfActors
whole_of_actors begin stay boot lines limits flight = (whole_core begin stay boot lines limits flight, whole_order begin stay boot lines limits flight)

-- what a record that stopped says
record SoFarWalked (boot : BootScript) (state : BootState) (made : List Line) (c : CoreState) (st : store.StoreState) : Type 0 where
  pub actors : List Actor
  pub walk : Walked (first_vehicle state) (first_told boot state) actors made c st
  pub order : InOrder boot (first_told boot state) (first_vehicle state) made

-- some first turns of the stated ones
among_walked : (begin : PartsBegin) (stay : PartsStay) (boot : BootScript) (state : BootState) (made : List Line) (c : CoreState) (st : store.StoreState) → InLimits boot → IsNewVehicle state → StopsAmong boot.turns (new_core boot state) store.new_store made c st → SoFarWalked boot state made c st
among_walked begin stay boot state made c st limits new among =
    let n : ℕ = among.taken in
    let walk = acts_walk stay (take n boot.turns) (first_vehicle state) (first_told boot state) (new_core boot state) store.new_store made c st (new_fits begin boot state limits new) (new_tied boot state limits new) (new_told boot state) among.turns in
    let rest : List Actor = drop n boot.turns ++ rounds 0 (round_of boot.links) in
    let all : take n boot.turns ++ rest ≡ boot.turns ++ rounds 0 (round_of boot.links) = sym (append_assoc (take n boot.turns) (drop n boot.turns) (rounds 0 (round_of boot.links))) ∙ ap (λ xs. xs ++ rounds 0 (round_of boot.links)) (take-append-drop n boot.turns) in
    record {
      actors = take n boot.turns;
      walk = walk;
      order = (0, walked_order (first_vehicle state) (first_told boot state) (take n boot.turns) rest (boot.turns ++ rounds 0 (round_of boot.links)) made c st walk all);
    }

-- all of them, rounds, and some first turns of the next round
round_walked : (begin : PartsBegin) (stay : PartsStay) (boot : BootScript) (state : BootState) (made : List Line) (c : CoreState) (st : store.StoreState) → InLimits boot → IsNewVehicle state → StopsInRound boot.turns (round_of boot.links) (new_core boot state) store.new_store made c st → SoFarWalked boot state made c st
round_walked begin stay boot state made c st limits new stops =
    let v : VehicleState = first_vehicle state in
    let t : BootTold = first_told boot state in
    let round : List Actor = round_of boot.links in
    let went : List Actor = rounds stops.count round in
    let n : ℕ = stops.stops.taken in
    let stated = acts_walk stay boot.turns v t (new_core boot state) store.new_store stops.first_lines stops.turned stops.turned_store (new_fits begin boot state limits new) (new_tied boot state limits new) (new_told boot state) stops.first in
    let turned = rounds_walk stay round stops.count stated.vehicle stated.told stops.turned stops.turned_store stops.round_lines stops.rounded stops.rounded_store stated.fits stated.tied stated.core stops.rounds in
    let both = walks_join v t boot.turns went stops.first_lines stops.round_lines stops.turned stops.turned_store stops.rounded stops.rounded_store stated turned in
    let last = acts_walk stay (take n round) both.vehicle both.told stops.rounded stops.rounded_store stops.last_lines c st both.fits both.tied both.core stops.stops.turns in
    let joined = walks_join v t (boot.turns ++ went) (take n round) (stops.first_lines ++ stops.round_lines) stops.last_lines stops.rounded stops.rounded_store c st both last in
    let walk : Walked v t ((boot.turns ++ went) ++ take n round) made c st = subst (λ l. Walked v t ((boot.turns ++ went) ++ take n round) l c st) (sym stops.all) joined in
    let all : ((boot.turns ++ went) ++ take n round) ++ drop n round ≡ boot.turns ++ rounds (suc stops.count) round =
    append_assoc (boot.turns ++ went) (take n round) (drop n round) ∙ (ap (λ xs. (boot.turns ++ went) ++ xs) (take-append-drop n round) ∙ (append_assoc boot.turns went round ∙ ap (λ xs. boot.turns ++ xs) (rounds-last stops.count round))) in
    record {
      actors = (boot.turns ++ went) ++ take n round;
      walk = walk;
      order = (suc stops.count, walked_order v t ((boot.turns ++ went) ++ take n round) (drop n round) (boot.turns ++ rounds (suc stops.count) round) made c st walk all);
    }

stops_walked : (begin : PartsBegin) (stay : PartsStay) (boot : BootScript) (state : BootState) (made : List Line) (c : CoreState) (st : store.StoreState) → InLimits boot → IsNewVehicle state → Stops boot.turns (round_of boot.links) (new_core boot state) store.new_store made c st → SoFarWalked boot state made c st
stops_walked begin stay boot state made c st limits new (inl among) = among_walked begin stay boot state made c st limits new among
stops_walked begin stay boot state made c st limits new (inr stops) = round_walked begin stay boot state made c st limits new stops

pub so_far_of_actors : (begin : PartsBegin) (stay : PartsStay) → SoFarIsOfActors
so_far_of_actors begin stay boot lines limits flight =
    let state = flight.state in
    let walked = stops_walked begin stay boot state flight.made flight.last flight.last_store limits flight.new flight.stops in
    let part : Partly boot (Boot 1 state.heads state.mark ∷ flight.made) = begun_part boot state flight.new walked.actors flight.made flight.last flight.last_store walked.walk in
    let order : Order boot (Boot 1 state.heads state.mark ∷ (flight.made ++ [])) = in_order boot state flight.made [] walked.walk.vehicle walked.walk.told walked.walk.goes refl walked.order in (
      inr (inl (subst (Partly boot) (sym flight.whole) part)),
      subst (Order boot) (sym flight.whole) (subst (λ l. Order boot (Boot 1 state.heads state.mark ∷ l)) (append-nil flight.made) order),
    )
