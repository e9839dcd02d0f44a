-- The Navigator's steps and what their lines tell.
use Rattle.std.proofs.Common.{◌≡◌, ◌≢◌, inl, inr, ℕ, zero, suc, ◌+◌, ◌-◌, ◌<◌, ◌≤◌, ◌==◌, min, Bool, true, false, List, [], ◌∷◌, ◌++◌, length, take, drop, replicate, Option, Some, None, refl, sym, ap, ◌∙◌, subst, arith, append-nil, length-append}
use Rattle.std.specs.Prelude.{slice_get, slice_index_or, is_some, if◌then◌else◌}
use Rattle.std.specs.List.{All}
use Rattle.std.proofs.lemmas.Bool.Decides.{eqb_tells}
use Rattle.std.proofs.lemmas.List.Elements.{All-head}
use Rattle.std.proofs.lemmas.List.{length-replicate}
use Rattle.first_model.specs.declared.limits.TheConstants.{MAX_PLACES, MAX_MISSION_ITEMS, NAV_ROOM}
use Rattle.first_model.specs.declared.plan.Item.{Item}
use Rattle.first_model.specs.declared.plan.PlanHead.{PlanHead}
use Rattle.first_model.specs.declared.plan.PlanType.{PlanType}
use Rattle.first_model.specs.declared.plan.PlanType.TheVariants.{Mission}
use Rattle.first_model.specs.declared.request.Client.{Client}
use Rattle.first_model.specs.declared.request.Client.TheVariants as client
use Rattle.first_model.specs.declared.request.Request.{Request}
use Rattle.first_model.specs.declared.request.Asked.{Asked}
use Rattle.first_model.specs.declared.request.Reply.{Reply}
use Rattle.first_model.specs.declared.schedule.InputLine.{InputLine}
use Rattle.first_model.specs.declared.schedule.InputLine.TheVariants as input
use Rattle.first_model.specs.declared.vehicle.Mode.{Mode}
use Rattle.first_model.specs.declared.vehicle.Mode.TheVariants as mode
use Rattle.first_model.specs.declared.vehicle.VehicleLine.{VehicleLine}
use Rattle.first_model.specs.declared.vehicle.VehicleLine.TheVariants as event
use Rattle.first_model.specs.declared.vehicle.NavWhat.{NavWhat}
use Rattle.first_model.specs.declared.vehicle.NavWhat.TheVariants as what
use Rattle.first_model.specs.declared.vehicle.NavEntry.{NavEntry}
use Rattle.first_model.specs.declared.flight_line.Actor.TheVariants as actor
use Rattle.first_model.specs.declared.flight_line.Line.{Line}
use Rattle.first_model.specs.declared.flight_line.Line.TheVariants as line
use Rattle.first_board.specs.BoardState.{BoardState, posted, outstanding, limit}
use Rattle.first_board.specs.BoardCalls.{heard}
use Rattle.first_board.specs.BoardLaw.{abouts}
use Rattle.first_cache.specs.CacheState.{CacheState, known_at, got, adopted, window_end}
use Rattle.first_cache.specs.Wants as cache
use Rattle.first_vehicle.specs.VehicleState.{VehicleState, mission_count}
use Rattle.first_core.specs.declared.StepOut.{StepOut}
use Rattle.first_core.specs.declared.StepOut.TheVariants.{Made, Idle}
use Rattle.first_core.specs.ScheduleState.{ScheduleState, begun_on, advanced}
use Rattle.first_core.specs.SharedState.{SharedState, with_board, arrived_at, mission_head}
use Rattle.first_core.specs.NavState.{NavState, NavFits, IsForMission, IsForNav, met, in_mode}
use Rattle.first_core.specs.NavLaw as law
use Rattle.first_core.specs.Ready.{InputReady}
use Rattle.first_core.specs.CoreState.{CoreState, CoreFits}
use Rattle.first_runner.specs.BootTold.{BootTold, own, times, replies_to, open_asks, replies_taken, next_reply, is_known, tells, asks_for, missing, wanted, reads, nav_asks, acted_schedule, told_after}
use Rattle.first_runner.specs.BootReady.{gives_step, is_ready}
use Rattle.first_runner.specs.CoreRun.{IsCurrent, ShowsLaw, LineLaw, IsWithin}
use Rattle.first_runner.specs.CoreTold.{BoardTold, CacheTold, PlacesTold, CoreTold}
use Rattle.first_runner.proofs.CoreBoard.{board_asks, board_hears, next_is, next_none, open_count}
use Rattle.first_runner.proofs.CoreCache.{IsWhole, cache_gets, cache_adopts}
use Rattle.first_runner.proofs.CoreLooks.{read_asks, own_reads, length-read_asks, other_reads, abouts_reads, cache_flies, missing_same}
use Rattle.first_runner.proofs.CoreClients.{open_more, cache_more, hears_within, open_hears, taken_hears, nothing_asked}
use Rattle.first_runner.proofs.CoreReady.{PlaceFits, nav_place, gives_ready, gives_none, nav_hears, nav_steps, nav_rests}
use Rattle.first_runner.proofs.CoreHears.{places_arrive}
use Rattle.first_runner.proofs.CoreWorker.{Follows}
use Rattle.first_runner.proofs.TiedSteps.{navigated}
use Rattle.first_store.specs.StoreState as store
use Rattle.first_runner.specs.Tied.{Tied}
use Rattle.first_runner.proofs.TiedNav.{nav_schedule, of_nav, InForce, met_in_force}

-- the replies that the Navigator took, its requests that are open, and all of them
abbrev nav_taken : BootTold → List (Asked × Reply)
nav_taken t = replies_taken t client.Nav

abbrev nav_unheard : BootTold → List Asked
nav_unheard t = open_asks t client.Nav

abbrev nav_own : BootTold → List Asked
nav_own t = own client.Nav t.asked

-- a cache of the Navigator that is told
record NavCache (t : BootTold) (c : CacheState) : Type 0 where
  pub told : CacheTold (nav_taken t) (nav_unheard t) (nav_own t) c
  pub whole : IsWhole c
  pub client : c.client ≡ client.Nav

-- only the Navigator moved, and it asked nothing
quiet_told : (t : BootTold) (c : CoreState) (n : NavState) (asks : List (Client × Asked)) (schedule : ScheduleState) → CoreTold t c → t.asked ≡ asks → schedule ≡ n.schedule → CacheTold (nav_taken t) (nav_unheard t) (nav_own t) n.cache → CoreTold (record t { asked = asks; nav = schedule }) (navigated c c.shared n)
quiet_told t c n asks schedule told same is cache =
    let base : CoreTold (record t { nav = schedule }) (navigated c c.shared n) = record {
      board = told.board;
      within = told.within;
      cache = cache;
      nav = is;
      links = told.links;
      last_id = told.last_id;
      places = told.places;
    } in
    subst (λ (a : List (Client × Asked)). CoreTold (record t { asked = a; nav = schedule }) (navigated c c.shared n)) same base

-- a reply is taken
gets_told : (v : VehicleState) (t : BootTold) (c : CoreState) (asked : Asked) (given : Reply) (s' : SharedState) (n' : NavState) → CoreFits c → CoreTold t c → law.Gets c.shared c.nav asked given s' n' → Follows v t actor.Nav (Made (line.Got asked given)) (navigated c s' n')
gets_told v t c asked given s' n' fits told gets =
    let rest : List (Asked × Reply) = s'.board.nav_posted in
    let next : SharedState = with_board c.shared (heard c.shared.board client.Nav rest) in
    let new : NavState = record c.nav { cache = got c.nav.cache asked given } in
    let whole : IsWhole c.nav.cache = record { from = fits.nav.window; kind = fits.nav.kind; whole = fits.nav.whole; count = fits.nav.count } in
    let unheard = open_hears t.asked t.taken t.replies t.heard c.shared.board client.Nav asked given rest told.board gets.first in
    let taken = taken_hears t.asked t.taken t.replies t.heard c.shared.board client.Nav (asked, given) rest told.board gets.first in
    let after : BootTold = record t { heard = t.heard ++ client.Nav ∷ [] } in
    let was : CacheTold (nav_taken t) (asked ∷ nav_unheard after) (nav_own t) c.nav.cache = subst (λ (xs : List Asked). CacheTold (nav_taken t) xs (nav_own t) c.nav.cache) unheard told.cache in
    let cache = cache_gets (nav_taken t) (nav_unheard after) (nav_own t) c.nav.cache asked given whole was in
    let reply = next_is t.asked t.taken t.replies t.heard c.shared.board client.Nav (asked, given) rest told.board gets.first in
    of_nav (λ s x. Follows v t actor.Nav (Made (line.Got asked given)) (navigated c s x)) s' next n' new gets.shared gets.nav (
      refl,
      nav_hears t (asked, given) reply,
      reply,
      record {
        board = board_hears t.asked t.taken t.replies t.heard c.shared.board client.Nav (asked, given) rest told.board tt gets.first;
        within = λ other. omega (arith, hears_within t.asked t.taken t.replies t.heard c.shared.board client.Nav other asked given rest told.board gets.first, told.within other);
        cache = subst (λ (xs : List (Asked × Reply)). CacheTold xs (nav_unheard after) (nav_own t) (got c.nav.cache asked given)) (sym taken) cache;
        nav = told.nav;
        links = told.links;
        last_id = told.last_id;
        places = told.places;
      },
    )

-- the cache once the published mission was met
abbrev met_cache : CacheState → PlanHead → Bool → CacheState
met_cache c head same = if same then c else record { client = c.client; kind = c.kind; id = head.id; count = head.count; from = 0; known = replicate (length c.known) None; in_flight = replicate (length c.in_flight) false }

abbrev met_if : NavState → PlanHead → Bool → NavState
met_if n head same = if same then n else record n { cache = met_cache n.cache head same; index = 0; at_leg = false }

met_told : (t : BootTold) (c : CoreState) → CoreFits c → CoreTold t c → NavCache t (met c.nav (mission_head c.shared)).cache
met_told t c fits told =
    let n : NavState = c.nav in
    let head : PlanHead = mission_head c.shared in
    elim (eqb_tells n.cache.id head.id) [
      | inl same ↦ subst (λ b. NavCache t (met_if n head b).cache) (sym same.0) (record {
        told = told.cache;
        whole = record { from = fits.nav.window; kind = fits.nav.kind; whole = fits.nav.whole; count = fits.nav.count };
        client = fits.nav.client;
      })
      | inr other ↦ subst (λ b. NavCache t (met_if n head b).cache) (sym other.0) (
          let newer : n.cache.id < head.id = omega (arith, other.1, fits.plans.flown) in
          record {
            told = cache_adopts (nav_taken t) (nav_unheard t) (nav_own t) n.cache head newer (λ id seq none. nothing_asked t.asked t.replies t.heard client.Nav id seq none) told.cache;
            whole = record { from = refl; kind = fits.nav.kind; whole = length-replicate (length n.cache.known) (let none : Option Item = None in none) ∙ fits.nav.whole; count = fits.plans.head };
            client = fits.nav.client;
          }
          )
    ]

-- the schedule after an event
acted_same : (schedule : ScheduleState) (given : VehicleLine) (shown : NavWhat) → acted_schedule schedule given shown ≡ law.schedule_after schedule given shown
acted_same schedule event.Go (what.Pending kind seq) = refl
acted_same schedule event.Go shown = refl
acted_same schedule given shown = refl

-- what is shown is no look at an item, and asks nothing
abbrev Quiet : BootTold → VehicleState → NavWhat → ℕ → Type 0
Quiet t v shown asks = (nav_asks t v shown ≡ []) × ShowsLaw t v shown asks

quiet_away : (t : BootTold) (v : VehicleState) (s : SharedState) (n : NavState) (shown : NavWhat) (asks : ℕ) → asks ≡ 0 → law.LooksAway s n shown → Quiet t v shown asks
quiet_away t v s n what.Idle asks none away = (refl, none)
quiet_away t v s n what.HoldEmpty asks none away = (refl, none)
quiet_away t v s n (what.Done mission fence) asks none away = (refl, none)
quiet_away t v s n shown asks none away = absurd away

quiet_reached : (t : BootTold) (v : VehicleState) (n : NavState) (shown : NavWhat) (asks : ℕ) (n' : NavState) → asks ≡ 0 → law.Shows n event.Reached shown n' → Quiet t v shown asks × (n'.cache ≡ n.cache) × (n'.schedule ≡ n.schedule)
quiet_reached t v n (what.Next index) asks n' none shows = ((refl, none), ap (λ (x : NavState). x.cache) shows.2, ap (λ (x : NavState). x.schedule) shows.2)
quiet_reached t v n what.Ignored asks n' none shows = ((refl, none), ap (λ (x : NavState). x.cache) shows.1, ap (λ (x : NavState). x.schedule) shows.1)
quiet_reached t v n shown asks n' none shows = absurd shows

-- a mode changes neither cache nor schedule
mode_keeps_if : (n : NavState) (end : Bool) → ((if end then record n { mode = mode.Mission; index = 0; at_leg = false } else record n { mode = mode.Mission }).cache ≡ n.cache) × ((if end then record n { mode = mode.Mission; index = 0; at_leg = false } else record n { mode = mode.Mission }).schedule ≡ n.schedule)
mode_keeps_if n true = (refl, refl)
mode_keeps_if n false = (refl, refl)

mode_keeps : (n : NavState) (taken : Mode) → ((in_mode n taken).cache ≡ n.cache) × ((in_mode n taken).schedule ≡ n.schedule)
mode_keeps n mode.Hold = (refl, refl)
mode_keeps n mode.Mission = mode_keeps_if n (n.index == n.cache.count)
mode_keeps n mode.Return = (refl, refl)

-- an event, its law and the core after it
abbrev Happened : VehicleState → BootTold → VehicleLine → NavEntry → CoreState → Type 0
Happened v t given entry c = ShowsLaw t v entry.what entry.asked × CoreTold (told_after t v (line.Nav given entry)) c

-- one that asks nothing
quiet_happens : (v : VehicleState) (t : BootTold) (c : CoreState) (n : NavState) (given : VehicleLine) (entry : NavEntry) (s' : SharedState) (n' : NavState) → CoreTold t c → NavCache t n.cache → n.schedule ≡ law.schedule_after c.nav.schedule given entry.what → Quiet t v entry.what entry.asked → s' ≡ c.shared → n'.cache ≡ n.cache → n'.schedule ≡ n.schedule → Happened v t given entry (navigated c s' n')
quiet_happens v t c n given entry s' n' told cache is quiet stays same schedule = (
  quiet.1,
  subst (λ s. CoreTold (told_after t v (line.Nav given entry)) (navigated c s n')) (sym stays) (quiet_told t c n' (t.asked ++ nav_asks t v entry.what) (acted_schedule t.nav given entry.what) told
      (sym (append-nil t.asked) ∙ ap (λ xs. t.asked ++ xs) (sym quiet.0))
      (ap (λ x. acted_schedule x given entry.what) told.nav ∙ (acted_same c.nav.schedule given entry.what ∙ (sym is ∙ sym schedule)))
      (subst (CacheTold (nav_taken t) (nav_unheard t) (nav_own t)) (sym same) cache.told)),
)

-- a look asks what the lines tell is missing
room_same : (t : BootTold) (c : CoreState) (own_client : Client) → CoreTold t c → own_client ≡ client.Nav → limit own_client - outstanding c.shared.board own_client - 1 ≡ NAV_ROOM - length (nav_unheard t) - 1
room_same t c own_client told is =
    ap (λ x. limit x - outstanding c.shared.board x - 1) is ∙ ap (λ n. NAV_ROOM - n - 1) (sym (open_count t.asked t.taken t.replies t.heard c.shared.board client.Nav told.board))

want_same : (v : VehicleState) (t : BootTold) (c : CoreState) (m : CacheState) (index : ℕ) → CoreTold t c → NavCache t m → m.id ≡ v.mission.id → m.count ≡ mission_count v → v.index ≡ index → index < m.count → cache.wanted m c.shared.board index ≡ wanted t v
want_same v t c m index told nav id count at below =
    let long : min m.count (window_end m) - index ≡ mission_count v - v.index = omega (arith, count, at, nav.whole.from, nav.whole.whole, nav.whole.count) in
    let same : cache.missing m index (min m.count (window_end m) - index) ≡ missing t m.id index (min m.count (window_end m) - index) = missing_same t (nav_own t) m index (min m.count (window_end m) - index) (omega (arith, below)) nav.told in
    let there : missing t m.id index (min m.count (window_end m) - index) ≡ missing t v.mission.id v.index (mission_count v - v.index) = λ k. missing t (id k) (sym at k) (long k) in
    λ k. take (room_same t c m.client told nav.client k) ((same ∙ there) k)

length_take : {A : Type 0} → (n : ℕ) (xs : List A) → length (take n xs) ≤ n
length_take zero xs = omega arith
length_take (suc n) [] = omega arith
length_take (suc n) (x ∷ xs) = omega (arith, length_take n xs)

-- nobody has more open requests than its limit after a look
look_within : (v : VehicleState) (t : BootTold) (c : CoreState) (other : Client) → CoreTold t c → length (drop (times other t.heard) (own other (t.asked ++ reads v.mission.id (wanted t v)))) ≤ limit other
look_within v t c client.Nav told =
    let new : List (Client × Asked) = reads v.mission.id (wanted t v) in
    let more = open_more t.asked new t.taken t.replies t.heard c.shared.board client.Nav told.board in
    let asks : length (own client.Nav new) ≡ length (wanted t v) = ap length (own_reads v.mission.id (wanted t v)) ∙ length-read_asks v.mission.id (wanted t v) in
    let few = length_take (NAV_ROOM - length (nav_unheard t) - 1) (missing t v.mission.id v.index (mission_count v - v.index)) in
    omega (arith, more, asks, few, open_count t.asked t.taken t.replies t.heard c.shared.board client.Nav told.board, told.within client.Nav)
look_within v t c (client.Link number) told =
    let new : List (Client × Asked) = reads v.mission.id (wanted t v) in
    let more = open_more t.asked new t.taken t.replies t.heard c.shared.board (client.Link number) told.board in
    let none = ap length (other_reads v.mission.id (wanted t v) (client.Link number) (λ e. cc e)) in
    omega (arith, more, none, open_count t.asked t.taken t.replies t.heard c.shared.board (client.Link number) told.board, told.within (client.Link number))
look_within v t c (client.Watch number) told =
    let new : List (Client × Asked) = reads v.mission.id (wanted t v) in
    let more = open_more t.asked new t.taken t.replies t.heard c.shared.board (client.Watch number) told.board in
    let none = ap length (other_reads v.mission.id (wanted t v) (client.Watch number) (λ e. cc e)) in
    omega (arith, more, none, open_count t.asked t.taken t.replies t.heard c.shared.board (client.Watch number) told.board, told.within (client.Watch number))

-- the core after a look
abbrev looked : NavState → SharedState → Bool → NavState
looked n s shown = record n { cache = cache.flying n.cache (cache.wanted n.cache s.board n.index); at_leg = shown }

abbrev asked_on : SharedState → NavState → SharedState
asked_on s n = with_board s (cache.asking n.cache s.board (cache.wanted n.cache s.board n.index))

look_core : (v : VehicleState) (t : BootTold) (c : CoreState) (n : NavState) (shown : Bool) (schedule : ScheduleState) → CoreTold t c → NavCache t n.cache → n.cache.id ≡ v.mission.id → n.cache.count ≡ mission_count v → v.index ≡ n.index → n.index < n.cache.count → schedule ≡ n.schedule →
    CoreTold (record t { asked = t.asked ++ reads v.mission.id (wanted t v); nav = schedule }) (navigated c (asked_on c.shared n) (looked n c.shared shown))
look_core v t c n shown schedule told nav id count at below is =
    let m : CacheState = n.cache in
    let b : BoardState = c.shared.board in
    let seqs : List ℕ = cache.wanted m b n.index in
    let new : List (Client × Asked) = reads v.mission.id (wanted t v) in
    let want : seqs ≡ wanted t v = want_same v t c m n.index told nav id count at below in
    let asks : abouts (cache.reads m.client m.kind m.id seqs) ≡ new = (λ k. abouts (cache.reads (nav.client k) (nav.whole.kind k) (id k) (want k))) ∙ abouts_reads v.mission.id (wanted t v) in
    let mine : own client.Nav new ≡ read_asks m.id seqs = own_reads v.mission.id (wanted t v) ∙ (λ k. read_asks (sym id k) (sym want k)) in
    let room : ℕ = limit m.client - outstanding b m.client - 1 in
    let places : ℕ = min m.count (window_end m) - n.index in
    let flies = cache_flies (nav_taken t) (nav_unheard t) (nav_own t) m n.index places room (omega (arith, below, nav.whole.count, nav.told.flags)) nav.told in
    let flown : CacheTold (nav_taken t) (nav_unheard t ++ own client.Nav new) (nav_own t ++ own client.Nav new) (cache.flying m seqs) = subst (λ (xs : List Asked). CacheTold (nav_taken t) (nav_unheard t ++ xs) (nav_own t ++ xs) (cache.flying m seqs)) (sym mine) flies in
    record {
      board = board_asks t.asked t.taken t.replies t.heard b (cache.reads m.client m.kind m.id seqs) new told.board asks;
      within = λ other. look_within v t c other told;
      cache = cache_more t.asked new t.taken t.replies t.heard b (cache.flying m seqs) told.board flown;
      nav = is;
      links = told.links;
      last_id = told.last_id;
      places = told.places;
    }

-- whether the item at the index is known
knows : (v : VehicleState) (t : BootTold) (n : NavState) → NavCache t n.cache → n.cache.id ≡ v.mission.id → v.index ≡ n.index → n.index < n.cache.count → is_known t v.mission.id v.index ≡ is_some (known_at n.cache n.index)
knows v t n nav id at below = (λ k. tells (sym id k) (at k) (nav_taken t)) ∙ sym (nav.told.known n.index below)

-- what a look shows
look_shows : (v : VehicleState) (t : BootTold) (s : SharedState) (n : NavState) (shown : NavWhat) (leg : Bool) (asks : ℕ) → NavCache t n.cache → n.cache.id ≡ v.mission.id → n.cache.count ≡ mission_count v → v.index ≡ n.index → n.index < n.cache.count → asks ≡ length (wanted t v) → law.LooksAt s n shown leg → ShowsLaw t v shown asks × (nav_asks t v shown ≡ reads v.mission.id (wanted t v))
look_shows v t s n (what.Leg seq mission fence item) leg asks nav id count at below many (seq_is, mission_is, fence_is, known, is) =
    ((knows v t n nav id at below ∙ ap is_some known, many), refl)
look_shows v t s n (what.Pending kind seq) leg asks nav id count at below many (kind_is, seq_is, unknown, is) =
    ((kind_is, seq_is ∙ sym at, omega (arith, below, at, count), knows v t n nav id at below ∙ ap is_some unknown, many), refl)
look_shows v t s n shown leg asks nav id count at below many looks = absurd looks

looks_told : (v : VehicleState) (t : BootTold) (c : CoreState) (n : NavState) (given : VehicleLine) (entry : NavEntry) (s' : SharedState) (n' : NavState) → CoreTold t c → NavCache t n.cache → InForce v.mission v.mode v.index v.at_leg n → n.schedule ≡ law.schedule_after c.nav.schedule given entry.what → law.Looks c.shared n entry s' n' → Happened v t given entry (navigated c s' n')
looks_told v t c n given entry s' n' told nav here is looks =
    let at = here.tied.index_is here.id in
    let want = want_same v t c n.cache n.index told nav here.id here.count at looks.within in
    let many : entry.asked ≡ length (wanted t v) = looks.asked ∙ ap length want in
    let shows = look_shows v t c.shared n entry.what n'.at_leg entry.asked nav here.id here.count at looks.within many looks.shows in
    let schedule : acted_schedule t.nav given entry.what ≡ n.schedule = ap (λ x. acted_schedule x given entry.what) told.nav ∙ (acted_same c.nav.schedule given entry.what ∙ sym is) in
    let core = look_core v t c n n'.at_leg (acted_schedule t.nav given entry.what) told nav here.id here.count at looks.within schedule in (
      shows.0,
      subst (λ (a : List (Client × Asked)). CoreTold (record t { asked = t.asked ++ a; nav = acted_schedule t.nav given entry.what }) (navigated c s' n')) (sym shows.1)
          (of_nav (λ s x. CoreTold (record t { asked = t.asked ++ reads v.mission.id (wanted t v); nav = acted_schedule t.nav given entry.what }) (navigated c s x)) s' (asked_on c.shared n) n' (looked n c.shared n'.at_leg) looks.shared looks.nav core),
    )

ticks_told : (v : VehicleState) (t : BootTold) (c : CoreState) (n : NavState) (given : VehicleLine) (entry : NavEntry) (s' : SharedState) (n' : NavState) → CoreTold t c → NavCache t n.cache → InForce v.mission v.mode v.index v.at_leg n → n.schedule ≡ law.schedule_after c.nav.schedule given entry.what → law.Ticks c.shared n entry s' n' → Happened v t given entry (navigated c s' n')
ticks_told v t c n given entry s' n' told nav here is (inl (away, none, stays, same)) =
    quiet_happens v t c n given entry s' n' told nav is (quiet_away t v c.shared n entry.what entry.asked none away) stays (ap (λ (x : NavState). x.cache) same) (ap (λ (x : NavState). x.schedule) same)
ticks_told v t c n given entry s' n' told nav here is (inr looks) = looks_told v t c n given entry s' n' told nav here is looks

acts_told : (v : VehicleState) (t : BootTold) (c : CoreState) (n : NavState) (given : VehicleLine) (entry : NavEntry) (s' : SharedState) (n' : NavState) → CoreTold t c → NavCache t n.cache → InForce v.mission v.mode v.index v.at_leg n → IsForMission given → n.schedule ≡ law.schedule_after c.nav.schedule given entry.what → law.Acts c.shared n given entry s' n' → Happened v t given entry (navigated c s' n')
acts_told v t c n event.Tick entry s' n' told nav here fit is acts = ticks_told v t c n event.Tick entry s' n' told nav here is acts
acts_told v t c n event.Go entry s' n' told nav here fit is acts = ticks_told v t c n event.Go entry s' n' told nav here is acts
acts_told v t c n event.Reached entry s' n' told nav here fit is (shows, none, stays) =
    let quiet = quiet_reached t v n entry.what entry.asked n' none shows in
    quiet_happens v t c n event.Reached entry s' n' told nav is quiet.0 stays quiet.1 quiet.2
acts_told v t c n (event.Mode taken) entry s' n' told nav here fit is (shows, none, stays) =
    let keeps = mode_keeps n taken in
    let quiet : Quiet t v entry.what entry.asked = subst (λ (x : NavWhat). Quiet t v x entry.asked) (sym shows.0) (refl, none) in
    quiet_happens v t c n (event.Mode taken) entry s' n' told nav is quiet stays (ap (λ (x : NavState). x.cache) shows.1 ∙ keeps.0) (ap (λ (x : NavState). x.schedule) shows.1 ∙ keeps.1)
acts_told v t c n (event.Position x y) entry s' n' told nav here fit is acts = absurd fit

-- an event
happens_told : (v : VehicleState) (st : store.StoreState) (t : BootTold) (c : CoreState) (given : VehicleLine) (entry : NavEntry) (s' : SharedState) (n' : NavState) → CoreFits c → Tied v st c → CoreTold t c → law.Happens c.shared c.nav given entry s' n' → Follows v t actor.Nav (Made (line.Nav given entry)) (navigated c s' n')
happens_told v st t c given entry s' n' fits tied told happens =
    let plan = tied.mission in
    let head : PlanHead = mission_head c.shared in
    let found = met_in_force v.mission v.mode v.index v.at_leg c.nav head tied.nav plan.head_id plan.head_count fits.plans.same fits.nav.window in
    let schedule : ScheduleState = law.schedule_after c.nav.schedule given entry.what in
    let n : NavState = record (met c.nav head) { schedule = schedule } in
    let here : InForce v.mission v.mode v.index v.at_leg n = record { tied = nav_schedule v.mission v.mode v.index v.at_leg (met c.nav head) schedule found.tied; id = found.id; count = found.count; from = found.from } in
    let fit : IsForMission given = All-head IsForNav (input.Vehicle given) happens.rest (subst (All IsForNav) happens.input fits.nav.inputs) in
    let next = next_none t.asked t.taken t.replies t.heard c.shared.board client.Nav told.board happens.posted in
    let unheard = open_count t.asked t.taken t.replies t.heard c.shared.board client.Nav told.board in
    let gives = gives_ready t c.shared client.Nav c.nav.schedule.inputs c.nav.schedule.begun unheard told.places (nav_place c.nav.schedule.inputs fits.nav.inputs) happens.ready in
    let acted = acts_told v t c n given entry s' n' told (met_told t c fits told) here fit refl happens.acts in (
      refl,
      nav_steps t c.nav.schedule next told.nav gives,
      (next, (happens.rest, ap (λ (x : ScheduleState). x.inputs) told.nav ∙ happens.input), acted.0),
      acted.1,
    )

-- only its schedule moved
schedule_moved : (t : BootTold) (c : CoreState) (s : SharedState) (step : ScheduleState → ScheduleState) (arrived : List ℕ) → CoreTold t c → s.board ≡ c.shared.board → s.ids ≡ c.shared.ids → PlacesTold s.arrivals arrived → CoreTold (record t { nav = step t.nav; arrived = arrived }) (navigated c s (record c.nav { schedule = step c.nav.schedule }))
schedule_moved t c s step arrived told board ids places = record {
  board = subst (BoardTold t.asked t.taken t.replies t.heard) (sym board) told.board;
  within = told.within;
  cache = told.cache;
  nav = ap step told.nav;
  links = told.links;
  last_id = told.last_id ∙ sym (ap (λ xs. slice_index_or xs 0 0) ids);
  places = places;
}

input_gives : (t : BootTold) (c : CoreState) (current : InputLine) (rest : List InputLine) (begun : Bool) → CoreFits c → CoreTold t c → c.nav.schedule.inputs ≡ current ∷ rest → c.nav.schedule.begun ≡ begun → InputReady c.shared client.Nav (current ∷ rest) begun → gives_step t client.Nav c.nav.schedule.inputs c.nav.schedule.begun ≡ true
input_gives t c current rest begun fits told is same ready =
    gives_ready t c.shared client.Nav c.nav.schedule.inputs c.nav.schedule.begun (open_count t.asked t.taken t.replies t.heard c.shared.board client.Nav told.board) told.places (nav_place c.nav.schedule.inputs fits.nav.inputs)
    (subst (λ xs. InputReady c.shared client.Nav xs c.nav.schedule.begun) (sym is) (subst (InputReady c.shared client.Nav (current ∷ rest)) (sym same) ready))

arrives_told : (v : VehicleState) (t : BootTold) (c : CoreState) (who : Client) (place : ℕ) (s' : SharedState) (n' : NavState) → CoreFits c → CoreTold t c → law.Arrives c.shared c.nav who place s' n' → Follows v t actor.Nav (Made (line.Arrived who place)) (navigated c s' n')
arrives_told v t c who place s' n' fits told step =
    let within : place < MAX_PLACES = subst PlaceFits step.input (nav_place c.nav.schedule.inputs fits.nav.inputs) in
    let next = next_none t.asked t.taken t.replies t.heard c.shared.board client.Nav told.board step.posted in
    let gives = input_gives t c (input.Meet place step.count) step.rest false fits told step.input step.fresh tt in
    let core = schedule_moved t c (arrived_at c.shared place) begun_on (t.arrived ++ place ∷ []) told refl refl (places_arrive c.shared.arrivals t.arrived place told.places within) in
    subst (λ (x : Client). Follows v t actor.Nav (Made (line.Arrived x place)) (navigated c s' n')) (sym step.client_is)
    (of_nav (λ s x. Follows v t actor.Nav (Made (line.Arrived client.Nav place)) (navigated c s x)) s' (arrived_at c.shared place) n' (record c.nav { schedule = begun_on c.nav.schedule }) step.shared step.nav (
      refl,
      nav_steps t c.nav.schedule next told.nav gives,
      (next, step.count, (step.rest, ap (λ (x : ScheduleState). x.inputs) told.nav ∙ step.input), ap (λ (x : ScheduleState). x.begun) told.nav ∙ step.fresh),
      core,
    ))

meets_told : (v : VehicleState) (t : BootTold) (c : CoreState) (who : Client) (place : ℕ) (s' : SharedState) (n' : NavState) → CoreFits c → CoreTold t c → law.Meets c.shared c.nav who place s' n' → Follows v t actor.Nav (Made (line.Met who place)) (navigated c s' n')
meets_told v t c who place s' n' fits told step =
    let next = next_none t.asked t.taken t.replies t.heard c.shared.board client.Nav told.board step.posted in
    let gives = input_gives t c (input.Meet place step.count) step.rest true fits told step.input step.begun step.enough in
    let core = schedule_moved t c c.shared advanced t.arrived told refl refl told.places in
    subst (λ (x : Client). Follows v t actor.Nav (Made (line.Met x place)) (navigated c s' n')) (sym step.client_is)
    (of_nav (λ s x. Follows v t actor.Nav (Made (line.Met client.Nav place)) (navigated c s x)) s' c.shared n' (record c.nav { schedule = advanced c.nav.schedule }) step.shared step.nav (
      refl,
      nav_steps t c.nav.schedule next told.nav gives,
      (next, step.count, (step.rest, ap (λ (x : ScheduleState). x.inputs) told.nav ∙ step.input), ap (λ (x : ScheduleState). x.begun) told.nav ∙ step.begun),
      core,
    ))

waits_told : (v : VehicleState) (t : BootTold) (c : CoreState) (who : Client) (s' : SharedState) (n' : NavState) → CoreFits c → CoreTold t c → law.Waits c.shared c.nav who s' n' → Follows v t actor.Nav (Made (line.Waited who)) (navigated c s' n')
waits_told v t c who s' n' fits told step =
    let next = next_none t.asked t.taken t.replies t.heard c.shared.board client.Nav told.board step.posted in
    let gives = input_gives t c input.Wait step.rest c.nav.schedule.begun fits told step.input refl step.free in
    let core = schedule_moved t c c.shared advanced t.arrived told refl refl told.places in
    subst (λ (x : Client). Follows v t actor.Nav (Made (line.Waited x)) (navigated c s' n')) (sym step.client_is)
    (of_nav (λ s x. Follows v t actor.Nav (Made (line.Waited client.Nav)) (navigated c s x)) s' c.shared n' (record c.nav { schedule = advanced c.nav.schedule }) step.shared step.nav (
      refl,
      nav_steps t c.nav.schedule next told.nav gives,
      (next, (step.rest, ap (λ (x : ScheduleState). x.inputs) told.nav ∙ step.input)),
      core,
    ))

rests_told : (v : VehicleState) (t : BootTold) (c : CoreState) (s' : SharedState) (n' : NavState) → CoreFits c → CoreTold t c → law.Rests c.shared c.nav s' n' → Follows v t actor.Nav Idle (navigated c s' n')
rests_told v t c s' n' fits told step =
    let next = next_none t.asked t.taken t.replies t.heard c.shared.board client.Nav told.board step.posted in
    let unheard = open_count t.asked t.taken t.replies t.heard c.shared.board client.Nav told.board in
    let none = gives_none t c.shared client.Nav c.nav.schedule.inputs c.nav.schedule.begun unheard told.places (nav_place c.nav.schedule.inputs fits.nav.inputs) step.idle in
    of_nav (λ s x. Follows v t actor.Nav Idle (navigated c s x)) s' c.shared n' c.nav step.shared step.nav (nav_rests t c.nav.schedule next told.nav none, told)

-- a step of the Navigator
pub nav_follows : (v : VehicleState) (st : store.StoreState) (t : BootTold) (c : CoreState) (out : StepOut Line) (s' : SharedState) (n' : NavState) → CoreFits c → Tied v st c → CoreTold t c → law.NavStep c.shared c.nav out s' n' → Follows v t actor.Nav out (navigated c s' n')
nav_follows v st t c (Made (line.Got asked given)) s' n' fits tied told step = gets_told v t c asked given s' n' fits told step
nav_follows v st t c (Made (line.Nav given entry)) s' n' fits tied told step = happens_told v st t c given entry s' n' fits tied told step
nav_follows v st t c (Made (line.Arrived who place)) s' n' fits tied told step = arrives_told v t c who place s' n' fits told step
nav_follows v st t c (Made (line.Met who place)) s' n' fits tied told step = meets_told v t c who place s' n' fits told step
nav_follows v st t c (Made (line.Waited who)) s' n' fits tied told step = waits_told v t c who s' n' fits told step
nav_follows v st t c Idle s' n' fits tied told step = rests_told v t c s' n' fits told step
nav_follows v st t c out s' n' fits tied told step = absurd step
