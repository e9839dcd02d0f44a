-- What the Navigator does at an event is what the vehicle does, once the published mission was met.
use Rattle.std.proofs.Common.{◌≡◌, ◌≢◌, inl, inr, ℕ, ◌+◌, ◌-◌, ◌<◌, ◌==◌, Bool, true, false, List, [], Option, Some, None, refl, sym, ap, ◌∙◌, subst, arith}
use Rattle.std.specs.Prelude.{slice_index_or, if◌then◌else◌, nat_le}
use Rattle.std.specs.List.{All}
use Rattle.std.proofs.lemmas.Bool.{le-leb}
use Rattle.std.proofs.lemmas.List.Elements.{All-head}
use Rattle.first_model.specs.declared.command.TheConstants.{NAV_WAYPOINT, NAV_LOITER_UNLIM}
use Rattle.first_model.specs.declared.plan.Item.{Item}
use Rattle.first_model.specs.declared.plan.PlanHead.{PlanHead}
use Rattle.first_model.specs.declared.schedule.InputLine.TheVariants as input
use Rattle.first_model.specs.declared.vehicle.Mode.{Mode}
use Rattle.first_model.specs.declared.vehicle.Mode.TheVariants as mode
use Rattle.first_model.specs.declared.vehicle.VehicleLine.{VehicleLine}
use Rattle.first_model.specs.declared.vehicle.VehicleLine.TheVariants as event
use Rattle.first_model.specs.declared.vehicle.NavWhat.{NavWhat}
use Rattle.first_model.specs.declared.vehicle.NavWhat.TheVariants as what
use Rattle.first_model.specs.declared.vehicle.NavEntry.{NavEntry}
use Rattle.first_model.specs.declared.flight_line.Line.{Line}
use Rattle.first_model.specs.declared.flight_line.Line.TheVariants as line
use Rattle.first_model.specs.Legs.{is_leg}
use Rattle.first_cache.specs.CacheState.{known_at}
use Rattle.first_cache.specs.Wants.{wanted, asking, flying}
use Rattle.first_vehicle.specs.PlanState.{PlanState, told_at}
use Rattle.first_vehicle.specs.VehicleState.{VehicleState, mission_count, index_taken, in_mission_mode}
use Rattle.first_vehicle.specs.VehicleStep as vehicle
use Rattle.first_core.specs.declared.StepOut.{StepOut}
use Rattle.first_core.specs.declared.StepOut.TheVariants.{Made, Idle}
use Rattle.first_core.specs.ScheduleState.{ScheduleState, begun_on, advanced}
use Rattle.first_core.specs.SharedState.{SharedState, with_board, arrived_at, mission_head}
use Rattle.first_core.specs.NavState.{NavState, IsForMission, IsForNav, met, in_mode}
use Rattle.first_core.specs.NavLaw as law
use Rattle.first_core.specs.CoreState.{CoreState, CoreFits}
use Rattle.first_store.specs.StoreState as store
use Rattle.first_runner.specs.Tied.{NavTied, Tied}
use Rattle.first_runner.proofs.TiedSteps.{Next, navigated}
use Rattle.first_runner.proofs.TiedNav.{nav_moved, nav_schedule, nav_still, of_nav, gets_next, InForce, met_in_force}

-- there is a vehicle that the event and what it shows lead to, and that is tied to the core after it
abbrev pub Happened : VehicleState → VehicleLine → NavWhat → store.StoreState → CoreState → Type 0
Happened v given shown st c = (v' : VehicleState) × vehicle.Acts v given shown v' × Tied v' st c

-- a look, as a tick or a go
abbrev Looked : VehicleState → NavWhat → store.StoreState → CoreState → Type 0
Looked v shown st c = (v' : VehicleState) × vehicle.Looks v v.mode shown v' × Tied v' st c

-- only the Navigator moved
nav_only : (v : VehicleState) (mode : Mode) (index : ℕ) (counts : List (ℕ × ℕ)) (at_leg : Bool) (st : store.StoreState) (c : CoreState) (n : NavState) → Tied v st c → NavTied v.mission mode index at_leg n → Tied (record v { mode = mode; index = index; counts = counts; at_leg = at_leg }) st (navigated c c.shared n)
nav_only v mode index counts at_leg st c n tied nav = nav_moved v mode index counts at_leg st c c.shared n tied refl refl refl tied.replies nav

-- a mode that is neither Mission nor Return is Hold
idle_looks : (v : VehicleState) (current : Mode) → current ≢ mode.Mission → current ≢ mode.Return → vehicle.Looks v current what.Idle v
idle_looks v mode.Hold other still = refl
idle_looks v mode.Mission other still = absurd (other refl)
idle_looks v mode.Return other still = absurd (still refl)

-- the vehicle's mode is Mission where the Navigator's is
mission_looks : (v : VehicleState) (n : NavState) (shown : NavWhat) (v' : VehicleState) → v.mode ≡ n.mode → n.mode ≡ mode.Mission → vehicle.LooksOn v shown v' → vehicle.Looks v v.mode shown v'
mission_looks v n shown v' same is looks = subst (λ m. vehicle.Looks v m shown v') (sym (same ∙ is)) looks

looks_away : (v : VehicleState) (st : store.StoreState) (c : CoreState) (n : NavState) (shown : NavWhat) → Tied v st c → v.mode ≢ mode.Return → InForce v.mission v.mode v.index v.at_leg n → law.LooksAway c.shared n shown → vehicle.Looks v v.mode shown v
looks_away v st c n what.Idle tied still here away = idle_looks v v.mode (λ e. away (sym here.tied.mode_is ∙ e)) still
looks_away v st c n what.HoldEmpty tied still here away = mission_looks v n what.HoldEmpty v here.tied.mode_is away.0 (sym here.count ∙ away.1, refl)
looks_away v st c n (what.Done mission fence) tied still here (in_mission, some, end, mission_is, fence_is) =
    mission_looks v n (what.Done mission fence) v here.tied.mode_is in_mission (record {
      some = omega (arith, some, here.count);
      end = here.tied.index_is here.id ∙ end ∙ here.count;
      mission_is = mission_is ∙ here.id;
      fence_is = fence_is ∙ sym tied.fence;
      after = refl;
    })
looks_away v st c n shown tied still here away = absurd away

-- what a cache from seq 0 on knows
known_from : (known : List (Option Item)) (from seq : ℕ) → from ≡ 0 → (if nat_le from seq then slice_index_or known (seq - from) None else None) ≡ slice_index_or known seq None
known_from known from seq zero =
    let le : nat_le from seq ≡ true = le-leb from seq (omega (arith, zero)) in
    let place : seq - from ≡ seq = omega (arith, zero) in
    rw (le, place) refl

waypoint_is_leg : (command : ℕ) → command ≡ NAV_WAYPOINT → is_leg command ≡ true
waypoint_is_leg command is = subst (λ x. is_leg x ≡ true) (sym is) refl

-- what an item that the cache knows shows: it is the mission's, and a waypoint
known_told : (v : VehicleState) (st : store.StoreState) (c : CoreState) (n : NavState) (item : Item) → Tied v st c → InForce v.mission v.mode v.index v.at_leg n → known_at n.cache n.index ≡ Some item → (told_at v.mission v.index ≡ Some item) × (item.command ≡ NAV_WAYPOINT)
known_told v st c n item tied here is =
    let there : slice_index_or n.cache.known n.index None ≡ Some item = sym (known_from n.cache.known n.cache.from n.index here.from) ∙ is in
    let told : told_at v.mission n.index ≡ Some item = (here.tied.cache n.index item there).is here.id in
    (subst (λ i. told_at v.mission i ≡ Some item) (sym (here.tied.index_is here.id)) told, tied.mission.waypoints n.index item (tied.mission.told n.index item told))

-- the Navigator after a look: its reads are in flight
abbrev looked : NavState → SharedState → Bool → NavState
looked n s shown = record n { cache = flying n.cache (wanted n.cache s.board n.index); at_leg = shown }

looked_tied : (p : PlanState) (mode : Mode) (index : ℕ) (at_leg : Bool) (n : NavState) (s : SharedState) (shown : Bool) → InForce p mode index at_leg n → NavTied p mode index shown (looked n s shown)
looked_tied p mode index at_leg n s shown here = record {
  mode_is = here.tied.mode_is;
  earlier = here.tied.earlier;
  cache = here.tied.cache;
  index_is = here.tied.index_is;
  leg_is = λ _. refl;
  fresh = λ lt. absurd (omega (arith, lt, here.id));
}

abbrev asked_on : SharedState → NavState → SharedState
asked_on s n = with_board s (asking n.cache s.board (wanted n.cache s.board n.index))

looks_at : (v : VehicleState) (st : store.StoreState) (c : CoreState) (n : NavState) (shown : NavWhat) (leg : Bool) → Tied v st c → InForce v.mission v.mode v.index v.at_leg n → n.mode ≡ mode.Mission → n.index < n.cache.count → law.LooksAt c.shared n shown leg → Looked v shown st (navigated c (asked_on c.shared n) (looked n c.shared leg))
looks_at v st c n (what.Leg seq mission fence item) leg tied here in_mission within (seq_is, mission_is, fence_is, known, is) =
    let after : VehicleState = record v { at_leg = true } in
    let told = known_told v st c n item tied here known in
    let flies : vehicle.LooksOn v (what.Leg seq mission fence item) after = record {
      seq_is = seq_is ∙ sym (here.tied.index_is here.id);
      mission_is = mission_is ∙ here.id;
      fence_is = fence_is ∙ sym tied.fence;
      item_is = told.0;
      leg = waypoint_is_leg item.command told.1;
      after = refl;
    } in
    let nav = looked_tied v.mission v.mode v.index v.at_leg n c.shared true here in (
      after,
      mission_looks v n (what.Leg seq mission fence item) after here.tied.mode_is in_mission flies,
      subst (λ b. Tied after st (navigated c (asked_on c.shared n) (looked n c.shared b))) (sym is) (nav_moved v v.mode v.index v.counts true st c (asked_on c.shared n) (looked n c.shared true) tied refl refl refl tied.replies nav),
    )
looks_at v st c n (what.Pending kind seq) leg tied here in_mission within (kind_is, seq_is, unknown, is) =
    let same : leg ≡ v.at_leg = is ∙ sym (here.tied.leg_is here.id) in
    let nav = looked_tied v.mission v.mode v.index v.at_leg n c.shared v.at_leg here in (
      v,
      mission_looks v n (what.Pending kind seq) v here.tied.mode_is in_mission (omega (arith, within, here.count), refl),
      subst (λ b. Tied v st (navigated c (asked_on c.shared n) (looked n c.shared b))) (sym same) (nav_moved v v.mode v.index v.counts v.at_leg st c (asked_on c.shared n) (looked n c.shared v.at_leg) tied refl refl refl tied.replies nav),
    )
looks_at v st c n shown leg tied here in_mission within looks = absurd looks

ticks_next : (v : VehicleState) (st : store.StoreState) (c : CoreState) (n : NavState) (entry : NavEntry) (s' : SharedState) (n' : NavState) → Tied v st c → v.mode ≢ mode.Return → InForce v.mission v.mode v.index v.at_leg n → law.Ticks c.shared n entry s' n' → Looked v entry.what st (navigated c s' n')
ticks_next v st c n entry s' n' tied still here (inl (away, none, stays, is)) =
    (v, looks_away v st c n entry.what tied still here away, of_nav (λ s x. Tied v st (navigated c s x)) s' c.shared n' n stays is (nav_only v v.mode v.index v.counts v.at_leg st c n tied here.tied))
ticks_next v st c n entry s' n' tied still here (inr looks) =
    of_nav (λ s x. Looked v entry.what st (navigated c s x)) s' (asked_on c.shared n) n' (looked n c.shared n'.at_leg) looks.shared looks.nav (looks_at v st c n entry.what n'.at_leg tied here looks.mode looks.within looks.shows)

-- no waypoint is endless
not_endless : (t : Option Item) → ((item : Item) → t ≡ Some item → item.command ≡ NAV_WAYPOINT) → vehicle.is_endless t ≡ false
not_endless None each = refl
not_endless (Some item) each = subst (λ x. (x == NAV_LOITER_UNLIM) ≡ false) (sym (each item refl)) refl

goes_on : (v : VehicleState) (st : store.StoreState) (c : CoreState) → Tied v st c → v.at_leg ≡ true → vehicle.can_go_on v ≡ true
goes_on v st c tied shown =
    let reached : vehicle.is_endless (told_at v.mission v.index) ≡ false = not_endless (told_at v.mission v.index) (λ item is. tied.mission.waypoints v.index item (tied.mission.told v.index item is)) in
    rw (shown, reached) refl

reaches_next : (v : VehicleState) (st : store.StoreState) (c : CoreState) (n : NavState) (shown : NavWhat) (n' : NavState) → Tied v st c → v.mode ≢ mode.Return → InForce v.mission v.mode v.index v.at_leg n → law.Shows n event.Reached shown n' → Happened v event.Reached shown st (navigated c c.shared n')
reaches_next v st c n (what.Next index) n' tied still here (leg, index_is, is) =
    let new : NavState = record n { index = n.index + 1; at_leg = false } in
    let after : VehicleState = record v { index = index; at_leg = false } in
    let own = here.tied.index_is here.id in
    let nav : NavTied v.mission v.mode index false new = record {
      mode_is = here.tied.mode_is;
      earlier = here.tied.earlier;
      cache = here.tied.cache;
      index_is = λ _. index_is;
      leg_is = λ _. refl;
      fresh = λ lt. absurd (omega (arith, lt, here.id));
    } in (
      after,
      (still, (goes_on v st c tied (here.tied.leg_is here.id ∙ leg), index_is ∙ ap (λ i. i + 1) (sym own), refl)),
      subst (λ x. Tied after st (navigated c c.shared x)) (sym is) (nav_only v v.mode index v.counts false st c new tied nav),
    )
reaches_next v st c n what.Ignored n' tied still here (leg, is) =
    let none : v.at_leg ≡ false = here.tied.leg_is here.id ∙ leg in (
      v,
      (still, (rw none refl, refl)),
      subst (λ x. Tied v st (navigated c c.shared x)) (sym is) (nav_only v v.mode v.index v.counts v.at_leg st c n tied here.tied),
    )
reaches_next v st c n shown n' tied still here shows = absurd shows

-- vehicle and Navigator in Mission mode, at the mission's end and before it
abbrev vehicle_if : VehicleState → Bool → VehicleState
vehicle_if v end = if end then record v { mode = mode.Mission; index = 0; counts = []; at_leg = false } else record v { mode = mode.Mission }

abbrev nav_if : NavState → Bool → NavState
nav_if n end = if end then record n { mode = mode.Mission; index = 0; at_leg = false } else record n { mode = mode.Mission }

mission_if : (v : VehicleState) (st : store.StoreState) (c : CoreState) (n : NavState) (end : Bool) → Tied v st c → InForce v.mission v.mode v.index v.at_leg n → Tied (vehicle_if v end) st (navigated c c.shared (nav_if n end))
mission_if v st c n true tied here =
    nav_only v mode.Mission 0 [] false st c (record n { mode = mode.Mission; index = 0; at_leg = false }) tied (record { mode_is = refl; earlier = here.tied.earlier; cache = here.tied.cache; index_is = λ _. refl; leg_is = λ _. refl; fresh = λ _. (refl, refl) })
mission_if v st c n false tied here =
    nav_only v mode.Mission v.index v.counts v.at_leg st c (record n { mode = mode.Mission }) tied (record { mode_is = refl; earlier = here.tied.earlier; cache = here.tied.cache; index_is = here.tied.index_is; leg_is = here.tied.leg_is; fresh = here.tied.fresh })

mission_mode : (v : VehicleState) (st : store.StoreState) (c : CoreState) (n : NavState) → Tied v st c → InForce v.mission v.mode v.index v.at_leg n → Tied (in_mission_mode v) st (navigated c c.shared (in_mode n mode.Mission))
mission_mode v st c n tied here =
    let same : (n.index == n.cache.count) ≡ (v.index == mission_count v) = sym (λ k. here.tied.index_is here.id k == sym here.count k) in
    subst (λ end. Tied (in_mission_mode v) st (navigated c c.shared (nav_if n end))) (sym same) (mission_if v st c n (v.index == mission_count v) tied here)

modes_next : (v : VehicleState) (st : store.StoreState) (c : CoreState) (n : NavState) (taken : Mode) (n' : NavState) → Tied v st c → InForce v.mission v.mode v.index v.at_leg n → IsForMission (event.Mode taken) → n' ≡ in_mode n taken → Happened v (event.Mode taken) what.Taken st (navigated c c.shared n')
modes_next v st c n mode.Hold n' tied here fit is =
    let after : VehicleState = record v { mode = mode.Hold } in
    let nav : NavTied v.mission mode.Hold v.index v.at_leg (record n { mode = mode.Hold }) = record { mode_is = refl; earlier = here.tied.earlier; cache = here.tied.cache; index_is = here.tied.index_is; leg_is = here.tied.leg_is; fresh = here.tied.fresh } in
    (after, refl, subst (λ x. Tied after st (navigated c c.shared x)) (sym is) (nav_only v mode.Hold v.index v.counts v.at_leg st c (record n { mode = mode.Hold }) tied nav))
modes_next v st c n mode.Mission n' tied here fit is = (in_mission_mode v, refl, subst (λ x. Tied (in_mission_mode v) st (navigated c c.shared x)) (sym is) (mission_mode v st c n tied here))
modes_next v st c n mode.Return n' tied here fit is = absurd fit

-- an event is acted on
acts_next : (v : VehicleState) (st : store.StoreState) (c : CoreState) (n : NavState) (given : VehicleLine) (entry : NavEntry) (s' : SharedState) (n' : NavState) → Tied v st c → v.mode ≢ mode.Return → InForce v.mission v.mode v.index v.at_leg n → IsForMission given → law.Acts c.shared n given entry s' n' → Happened v given entry.what st (navigated c s' n')
acts_next v st c n event.Tick entry s' n' tied still here fit acts = ticks_next v st c n entry s' n' tied still here acts
acts_next v st c n event.Go entry s' n' tied still here fit acts = ticks_next v st c n entry s' n' tied still here acts
acts_next v st c n event.Reached entry s' n' tied still here fit (shows, none, stays) =
    subst (λ s. Happened v event.Reached entry.what st (navigated c s n')) (sym stays) (reaches_next v st c n entry.what n' tied still here shows)
acts_next v st c n (event.Mode taken) entry s' n' tied still here fit (shows, none, stays) =
    subst (λ s. Happened v (event.Mode taken) entry.what st (navigated c s n')) (sym stays) (subst (λ shown. Happened v (event.Mode taken) shown st (navigated c c.shared n')) (sym shows.0) (modes_next v st c n taken n' tied here fit shows.1))
acts_next v st c n (event.Position x y) entry s' n' tied still here fit acts = absurd fit

-- an event happens
happens_next : (v : VehicleState) (st : store.StoreState) (c : CoreState) (given : VehicleLine) (entry : NavEntry) (s' : SharedState) (n' : NavState) → CoreFits c → Tied v st c → law.Happens c.shared c.nav given entry s' n' → Next v (Made (line.Nav given entry)) st (navigated c s' n')
happens_next v st c given entry s' n' fits tied happens =
    let plan = tied.mission in
    let head : PlanHead = mission_head c.shared in
    let found = met_in_force v.mission v.mode v.index v.at_leg c.nav head tied.nav plan.head_id plan.head_count fits.plans.same fits.nav.window in
    let schedule : ScheduleState = law.schedule_after c.nav.schedule given entry.what in
    let n : NavState = record (met c.nav head) { schedule = schedule } in
    let here : InForce v.mission v.mode v.index v.at_leg n = record { tied = nav_schedule v.mission v.mode v.index v.at_leg (met c.nav head) schedule found.tied; id = found.id; count = found.count; from = found.from } in
    let fit : IsForMission given = All-head IsForNav (input.Vehicle given) happens.rest (subst (All IsForNav) happens.input fits.nav.inputs) in
    let still : v.mode ≢ mode.Return = λ e. fits.nav.mode (sym tied.nav.mode_is ∙ e) in
    let acted = acts_next v st c n given entry s' n' tied still here fit happens.acts in
    (acted.0, subst (λ w. vehicle.Acts (index_taken v w) given entry.what acted.0) (sym tied.wanted) acted.1, acted.2)

-- a step of the Navigator
pub nav_next : (v : VehicleState) (st : store.StoreState) (c : CoreState) (out : StepOut Line) (s' : SharedState) (n' : NavState) → CoreFits c → Tied v st c → law.NavStep c.shared c.nav out s' n' → Next v out st (navigated c s' n')
nav_next v st c (Made (line.Got asked given)) s' n' fits tied step = gets_next v st c asked given s' n' fits tied step
nav_next v st c (Made (line.Nav given entry)) s' n' fits tied step = happens_next v st c given entry s' n' fits tied step
nav_next v st c (Made (line.Arrived client place)) s' n' fits tied step =
    (v, refl, of_nav (λ s x. Tied v st (navigated c s x)) s' (arrived_at c.shared place) n' (record c.nav { schedule = begun_on c.nav.schedule }) step.shared step.nav (nav_still v st c (arrived_at c.shared place) (begun_on c.nav.schedule) tied refl refl))
nav_next v st c (Made (line.Met client place)) s' n' fits tied step =
    (v, refl, of_nav (λ s x. Tied v st (navigated c s x)) s' c.shared n' (record c.nav { schedule = advanced c.nav.schedule }) step.shared step.nav (nav_still v st c c.shared (advanced c.nav.schedule) tied refl refl))
nav_next v st c (Made (line.Waited client)) s' n' fits tied step =
    (v, refl, of_nav (λ s x. Tied v st (navigated c s x)) s' c.shared n' (record c.nav { schedule = advanced c.nav.schedule }) step.shared step.nav (nav_still v st c c.shared (advanced c.nav.schedule) tied refl refl))
nav_next v st c Idle s' n' fits tied step = of_nav (λ s x. Tied v st (navigated c s x)) s' c.shared n' c.nav step.shared step.nav tied
nav_next v st c out s' n' fits tied step = absurd step
