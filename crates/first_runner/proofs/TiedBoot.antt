-- A new vehicle is tied to a new core and an empty store, so a record of its boot is a run of one vehicle.
use Rattle.std.proofs.Common.{◌≡◌, inl, inr, ℕ, ◌<◌, ◌≤◌, false, List, [], ◌∷◌, ◌++◌, length, Some, refl, sym, ap, ◌∙◌, subst, arith, zero, suc, take, get_or, replicate}
use Rattle.std.proofs.lemmas.List.Elements.{All-nil}
use Rattle.first_model.specs.declared.limits.TheConstants.{MAX_MISSION_ITEMS}
use Rattle.first_model.specs.declared.plan.PlanHead.{PlanHead}
use Rattle.first_model.specs.declared.request.Asked.{Asked}
use Rattle.first_model.specs.declared.request.Reply.{Reply}
use Rattle.first_model.specs.declared.flight_line.Actor.{Actor}
use Rattle.first_model.specs.declared.flight_line.Actor.TheVariants as actor
use Rattle.first_model.specs.declared.flight_line.Line.{Line}
use Rattle.first_model.specs.declared.flight_line.Line.TheVariants.{Boot, End, Stuck}
use Rattle.first_model.specs.declared.schedule.BootScript.{BootScript}
use Rattle.first_model.specs.declared.schedule.InputLine.{InputLine}
use Rattle.first_model.specs.declared.vehicle.BootState.{BootState}
use Rattle.first_model.specs.declared.vehicle.Mode.TheVariants as mode
use Rattle.first_vehicle.specs.PlanState.{untold}
use Rattle.first_vehicle.specs.VehicleState.{VehicleState, booted, head_at}
use Rattle.first_vehicle.specs.VehicleStep.{Boots}
use Rattle.first_vehicle.specs.VehicleRun.{Lines, VehicleRun, Lines-join}
use Rattle.first_core.specs.ScheduleState.{inputs_of}
use Rattle.first_core.specs.LinkState.{LinkState, new_link}
use Rattle.first_core.specs.NavState.{HeadFits, new_nav}
use Rattle.first_core.specs.CoreState.{CoreState, CoreFits}
use Rattle.first_core.specs.NewCore.{InLimits, new_core, new_links}
use Rattle.first_core.specs.PartsLaw.{PartsBegin, PartsStay}
use Rattle.first_store.specs.StoreState as store
use Rattle.first_runner.specs.Turn.{Stops}
use Rattle.first_runner.specs.Round.{round_of}
use Rattle.first_runner.specs.Flight.{IsNewVehicle, IsEnding, IsFlight, IsFlightSoFar, empty_head}
use Rattle.first_runner.specs.Tied.{PlanTied, ReplyFits, NavTied, LinkTied, IsLast, Tied, IsSound}
use Rattle.first_runner.proofs.TiedNav.{nothing_known}
use Rattle.first_runner.proofs.TiedTurns.{Reached, acts_reach, rounds_reach}

-- the empty plan is tied to the empty store
empty_tied : PlanTied (untold empty_head) store.new_store.mission.plan empty_head
empty_tied = record { id = refl; count = refl; told = λ seq item e. cc e; waypoints = λ seq item e. cc e; head_id = refl; head_count = refl }

new_nav_tied : (head : PlanHead) (index : ℕ) (inputs : List InputLine) → NavTied (untold head) mode.Hold index false (new_nav head index inputs)
new_nav_tied head index inputs = record {
  mode_is = refl;
  earlier = omega arith;
  cache = λ seq item e. absurd (nothing_known MAX_MISSION_ITEMS seq item e);
  index_is = λ _. refl;
  leg_is = λ _. refl;
  fresh = λ lt. absurd (omega (arith, lt));
}

none_posted : (n k : ℕ) → get_or (replicate n (let none : List (Asked × Reply) = [] in none)) k [] ≡ []
none_posted zero k = refl
none_posted (suc n) zero = refl
none_posted (suc n) (suc k) = none_posted n k

new_link_tied : (current k : ℕ) (drafts : store.Drafts) (inputs : List InputLine) → LinkTied current [] [] drafts [] (new_link k inputs)
new_link_tied current k drafts inputs = record { last = All-nil (IsLast [] k); session = tt }

-- the link at a place of a boot in limits
links_new : (count : ℕ) (inputs : List (Actor × InputLine)) (k : ℕ) (d : LinkState) → count ≤ 1 → k < length (new_links count inputs) → get_or (new_links count inputs) k d ≡ new_link k (inputs_of (actor.Link k) inputs)
links_new zero inputs k d one below = absurd (omega (arith, below))
links_new (suc zero) inputs zero d one below = refl
links_new (suc zero) inputs (suc k) d one below = absurd (omega (arith, below))
links_new (suc (suc count)) inputs k d one below = absurd (omega (arith, one))

-- a new vehicle is tied to a new core and an empty store
pub new_tied : (boot : BootScript) (state : BootState) → InLimits boot → IsNewVehicle state → Tied (booted state.heads state.mark) store.new_store (new_core boot state)
new_tied boot state limits new = record {
  service = refl;
  mission = subst (λ heads. PlanTied (untold (head_at heads 0)) store.new_store.mission.plan (head_at heads 0)) (sym new.heads) empty_tied;
  fence = refl;
  wanted = refl;
  replies = All-nil (ReplyFits (untold (head_at state.heads 0)));
  nav = new_nav_tied (head_at state.heads 0) state.mark.index (inputs_of actor.Nav boot.inputs);
  unused = λ id above. refl;
  links = λ k d within.
      let v : VehicleState = booted state.heads state.mark in
      let c : CoreState = new_core boot state in
      let here : get_or c.links k d ≡ new_link k (inputs_of (actor.Link k) boot.inputs) = links_new boot.links boot.inputs k d limits.links within in
      subst (λ xs. LinkTied v.mission.id [] [] store.no_drafts xs (get_or c.links k d)) (sym (none_posted boot.links k)) (subst (LinkTied v.mission.id [] [] store.no_drafts []) (sym here) (new_link_tied v.mission.id k store.no_drafts (inputs_of (actor.Link k) boot.inputs)));
}

-- its first line is a boot of it
pub boots : (state : BootState) → IsNewVehicle state → Boots 1 state.heads state.mark (booted state.heads state.mark)
boots state new = record {
  first = refl;
  mission = new.id ∙ sym (ap (λ heads. (head_at heads 0).id) new.heads);
  index = omega (arith, new.index);
  after = refl;
}

-- and the parts of the core fit
pub new_fits : (begin : PartsBegin) (boot : BootScript) (state : BootState) → InLimits boot → IsNewVehicle state → CoreFits (new_core boot state)
new_fits begin boot state limits new = begin boot state limits (record {
  mission = subst (λ heads. HeadFits (head_at heads 0)) (sym new.heads) (omega arith);
  index = omega (arith, new.index);
}) (ap length new.heads)

-- behind the first line
from_boot : (state : BootState) (lines : List Line) (last : VehicleState) → IsNewVehicle state → Lines (Some (booted state.heads state.mark)) lines (Some last) → VehicleRun (Boot 1 state.heads state.mark ∷ lines)
from_boot state lines last new led = (Some last, (Some (booted state.heads state.mark), boots state new, led))

-- the line that ends a boot says nothing of the vehicle
ends : (c : CoreState) (line : Line) (v : VehicleState) → IsEnding c line → Lines (Some v) (line ∷ []) (Some v)
ends c End v ending = (Some v, refl, refl)
ends c Stuck v ending = (Some v, refl, refl)
ends c line v ending = absurd ending

-- a record that stopped within the boot
stops_led : (begin : PartsBegin) (stay : PartsStay) (boot : BootScript) (state : BootState) (made : List Line) (last : CoreState) (last_store : store.StoreState) → InLimits boot → IsNewVehicle state → Stops boot.turns (round_of boot.links) (new_core boot state) store.new_store made last last_store → Reached (booted state.heads state.mark) made last last_store
stops_led begin stay boot state made last last_store limits new (inl among) =
    acts_reach stay (take among.taken boot.turns) (booted state.heads state.mark) (new_core boot state) store.new_store made last last_store (new_fits begin boot state limits new) (new_tied boot state limits new) among.turns
stops_led begin stay boot state made last last_store limits new (inr within) =
    let first : VehicleState = booted state.heads state.mark in
    let round : List Actor = round_of boot.links in
    let stated = acts_reach stay boot.turns first (new_core boot state) store.new_store within.first_lines within.turned within.turned_store (new_fits begin boot state limits new) (new_tied boot state limits new) within.first in
    let rounds = rounds_reach stay round within.count stated.last within.turned within.turned_store within.round_lines within.rounded within.rounded_store stated.fits stated.tied within.rounds in
    let rest = acts_reach stay (take within.stops.taken round) rounds.last within.rounded within.rounded_store within.last_lines last last_store rounds.fits rounds.tied within.stops.turns in
    let front : Lines (Some first) (within.first_lines ++ within.round_lines) (Some rounds.last) = Lines-join within.first_lines within.round_lines (Some first) (Some stated.last) (Some rounds.last) stated.led rounds.led in
    let led : Lines (Some first) (within.first_lines ++ within.round_lines ++ within.last_lines) (Some rest.last) = Lines-join (within.first_lines ++ within.round_lines) within.last_lines (Some first) (Some rounds.last) (Some rest.last) front rest.led in
    record { last = rest.last; led = subst (λ l. Lines (Some first) l (Some rest.last)) (sym within.all) led; fits = rest.fits; tied = rest.tied }

pub so_far_run : (begin : PartsBegin) (stay : PartsStay) (boot : BootScript) (lines : List Line) → InLimits boot → IsFlightSoFar boot lines → VehicleRun lines
so_far_run begin stay boot lines limits flight =
    let state = flight.state in
    let end = stops_led begin stay boot state flight.made flight.last flight.last_store limits flight.new flight.stops in
    subst VehicleRun (sym flight.whole) (from_boot state flight.made end.last flight.new end.led)

-- the record of a whole boot
pub flight_run : (begin : PartsBegin) (stay : PartsStay) (boot : BootScript) (lines : List Line) → InLimits boot → IsFlight boot lines → VehicleRun lines
flight_run begin stay boot lines limits flight =
    let state = flight.state in
    let first : VehicleState = booted state.heads state.mark in
    let stated = acts_reach stay boot.turns first (new_core boot state) store.new_store flight.stated_lines flight.turned flight.turned_store (new_fits begin boot state limits flight.new) (new_tied boot state limits flight.new) flight.stated in
    let rounds = rounds_reach stay (round_of boot.links) flight.count stated.last flight.turned flight.turned_store flight.round_lines flight.rounded flight.rounded_store stated.fits stated.tied flight.rounds in
    let front : Lines (Some first) (flight.stated_lines ++ flight.round_lines) (Some rounds.last) = Lines-join flight.stated_lines flight.round_lines (Some first) (Some stated.last) (Some rounds.last) stated.led rounds.led in
    let all : Lines (Some first) ((flight.stated_lines ++ flight.round_lines) ++ flight.ending_line ∷ []) (Some rounds.last) = Lines-join (flight.stated_lines ++ flight.round_lines) (flight.ending_line ∷ []) (Some first) (Some rounds.last) (Some rounds.last) front (ends flight.last flight.ending_line rounds.last flight.ending) in
    subst VehicleRun (sym flight.whole) (from_boot state ((flight.stated_lines ++ flight.round_lines) ++ flight.ending_line ∷ []) rounds.last flight.new all)

-- a new core and a new store are tied to a new vehicle
pub new_sound : (begin : PartsBegin) (boot : BootScript) (state : BootState) → InLimits boot → IsNewVehicle state → IsSound (new_core boot state) store.new_store
new_sound begin boot state limits new = record { vehicle = booted state.heads state.mark; fits = new_fits begin boot state limits new; tied = new_tied boot state limits new }
