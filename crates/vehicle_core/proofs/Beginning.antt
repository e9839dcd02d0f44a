-- The core at the beginning of a boot: what is told of it, and that it is sound.
use Rattle.std.proofs.Common.{◌≡◌, ◌≢◌, inl, inr, ℕ, zero, suc, ◌+◌, ◌<◌, ◌≤◌, Bool, true, false, List, [], ◌∷◌, ◌++◌, length, cond, Option, Some, None, map, refl, sym, subst, ap, ◌∙◌, arith, append-nil}
use Rattle.std.specs.Prelude.{slice_get, slice_index_or}
use Rattle.std.specs.List.{All}
use Rattle.std.proofs.lemmas.List.{length-replicate}
use Rattle.std.proofs.lemmas.List.Elements.{All-nil, All-cons, All-head, All-tail}
use Rattle.mission_model.specs.declared.flight_line.Actor.{Actor}
use Rattle.mission_model.specs.declared.flight_line.Actor.TheVariants as actor
use Rattle.mission_model.specs.declared.plan.Home.{Home}
use Rattle.mission_model.specs.declared.plan.Params.{Params}
use Rattle.mission_model.specs.declared.plan.PlanHead.{PlanHead}
use Rattle.mission_model.specs.declared.plan.PlanType.TheVariants.{Mission}
use Rattle.mission_model.specs.declared.request.Asked.{Asked}
use Rattle.mission_model.specs.declared.request.Client.{Client}
use Rattle.mission_model.specs.declared.request.Client.TheVariants as client
use Rattle.mission_model.specs.declared.request.Reply.{Reply}
use Rattle.mission_model.specs.declared.schedule.BootScript.{BootScript}
use Rattle.mission_model.specs.declared.schedule.InputLine.{InputLine}
use Rattle.mission_model.specs.declared.vehicle.BootState.{BootState}
use Rattle.mission_model.specs.BootScripts.{LinkInput, NavInput, WatcherInput, ActorInput, BootInLimits}
use Rattle.mission_model.specs.BootStates.{StateInLimits}
use Rattle.mission_model.specs.PlanTypes.{head_of, place_of}
use Rattle.mission_model.specs.Replies.{CanHear}
use Rattle.request_board.specs.BoardState.{BoardState, HasClient, IsAmong, posted, open_asks}
use Rattle.request_board.specs.BoardCalls.{opened}
use Rattle.request_board.specs.Frames.{opened_clients, opened_quiet}
use Rattle.request_board.specs.Watching.{Awaited, HeadsFit}
use Rattle.transfer_lock.specs.TransferState.{TransferState, last_id}
use Rattle.transfer_lock.specs.TransferState as transfer
use Rattle.upload_session.specs.declared.session.Stage.TheVariants as stage
use Rattle.upload_session.specs.SessionState.{AwaitsOnly}
use Rattle.navigator.specs.NavState.{NavState, NavTaken, with_taken, HasShown}
use Rattle.navigator.specs.EventLaw.{nav_at_boot}
use Rattle.navigator.specs.Outstanding.{asked_at_boot}
use Rattle.vehicle_core.specs.declared.shared.Shared.{Shared}
use Rattle.vehicle_core.specs.declared.local.Local.{Local}
use Rattle.vehicle_core.specs.ScheduleState.{ScheduleState, fresh, same_actor, inputs_of}
use Rattle.vehicle_core.specs.Seats.{HasSeat, seat_of, schedule_at, Sorted}
use Rattle.vehicle_core.specs.SharedState.{SharedBegun}
use Rattle.vehicle_core.specs.Told.{SharedTold, Link, Nav, Watch, link_begun, watch_begun, links_begun, watches_begun, begun}
use Rattle.vehicle_core.specs.LinkActs.{CanHearAll}
use Rattle.vehicle_core.specs.Steps.{number_of}
use Rattle.vehicle_core.specs.UploadFits.{BoardFits}
use Rattle.vehicle_core.specs.NavKept.{may_tick}
use Rattle.vehicle_core.specs.Fits.{SharedFits, NavAdopts, LocalFits}
use Rattle.vehicle_core.specs.Crew.{worker_local, link_local, nav_local, watch_local, watch_crew, link_crew, crew_of}
use Rattle.vehicle_core.specs.CoreState.{AreTold, Tells, CoreFits}
use Rattle.vehicle_core.proofs.Sorting.{same_is}

-- Schedules.

fresh_all : (all : List InputLine) (s : ScheduleState) → s ≡ fresh s.inputs → s.inputs ++ [] ≡ all → s ≡ fresh all
fresh_all all s new whole = new ∙ ap fresh (sym (append-nil s.inputs) ∙ whole)

pub sorted_at : (links watchers : ℕ) (all : List (Actor × InputLine)) (ss : List ScheduleState) (who : Actor) → Sorted links watchers all [] ss → HasSeat links watchers who → schedule_at ss (seat_of links who) ≡ fresh (inputs_of who all)
sorted_at links watchers all ss who sorted has = let f = sorted.each who has in fresh_all (inputs_of who all) (schedule_at ss (seat_of links who)) f.new f.whole

inputs_if : (P : InputLine → Type 0) (b : Bool) (input : InputLine) (rest : List InputLine) → (b ≡ true → P input) → All P rest → All P (cond b (input ∷ rest) rest)
inputs_if P true input rest one all = All-cons P input rest (one refl) all
inputs_if P false input rest one all = all

pub inputs_fit : (P : InputLine → Type 0) (links watchers : ℕ) (who : Actor) (all : List (Actor × InputLine)) → ((input : InputLine) → ActorInput links watchers (who, input) → P input) → All (ActorInput links watchers) all → All P (inputs_of who all)
inputs_fit P links watchers who [] one fit = All-nil P
inputs_fit P links watchers who ((other, input) ∷ all) one fit =
    inputs_if P (same_actor who other) input (inputs_of who all)
    (λ same. one input (subst (λ (a : Actor). ActorInput links watchers (a, input)) (sym (same_is who other same)) (All-head (ActorInput links watchers) (other, input) all fit)))
    (inputs_fit P links watchers who all one (All-tail (ActorInput links watchers) (other, input) all fit))

-- The schedules that are left to be seated, from a link on.

-- of so many links from a number on, the Navigator and so many watchers, the schedules are those of the boot
pub record Ready (number count watchers : ℕ) (all : List (Actor × InputLine)) (ss : List ScheduleState) : Type 0 where
  pub length_is : length ss ≡ count + 1 + watchers
  pub links : (k : ℕ) → k < count → schedule_at ss k ≡ fresh (inputs_of (actor.Link (number + k)) all)
  pub nav : schedule_at ss count ≡ fresh (inputs_of actor.Nav all)
  pub watches : (k : ℕ) → k < watchers → schedule_at ss (count + 1 + k) ≡ fresh (inputs_of (actor.Watch k) all)

pub ready_all : (links watchers : ℕ) (all : List (Actor × InputLine)) (ss : List ScheduleState) → Sorted links watchers all [] ss → Ready 0 links watchers all ss
ready_all links watchers all ss sorted = record {
  length_is = sorted.count;
  links = λ k less. sorted_at links watchers all ss (actor.Link k) sorted less ∙ ap (λ (n : ℕ). fresh (inputs_of (actor.Link n) all)) (omega arith);
  nav = sorted_at links watchers all ss actor.Nav sorted tt;
  watches = λ k less. sorted_at links watchers all ss (actor.Watch k) sorted less;
}

ready_next : (number count watchers : ℕ) (all : List (Actor × InputLine)) (s : ScheduleState) (ss : List ScheduleState) → Ready number (suc count) watchers all (s ∷ ss) → Ready (suc number) count watchers all ss
ready_next number count watchers all s ss ready = record {
  length_is = omega (arith, ready.length_is);
  links = λ k less. ready.links (suc k) (omega (arith, less)) ∙ ap (λ (n : ℕ). fresh (inputs_of (actor.Link n) all)) (omega arith);
  nav = ready.nav;
  watches = λ k less. let e : suc count + 1 + k ≡ suc (count + 1 + k) = omega arith in ap (schedule_at (s ∷ ss)) (sym e) ∙ ready.watches k less;
}

-- the watchers' schedules alone, from a number on
pub record WatchesReady (number watchers : ℕ) (all : List (Actor × InputLine)) (ss : List ScheduleState) : Type 0 where
  pub length_is : length ss ≡ watchers
  pub watches : (k : ℕ) → k < watchers → schedule_at ss k ≡ fresh (inputs_of (actor.Watch (number + k)) all)

watches_ready : (number watchers : ℕ) (all : List (Actor × InputLine)) (s : ScheduleState) (ss : List ScheduleState) → Ready number 0 watchers all (s ∷ ss) → WatchesReady 0 watchers all ss
watches_ready number watchers all s ss ready = record {
  length_is = omega (arith, ready.length_is);
  watches = λ k less. let e : 0 + 1 + k ≡ suc k = omega arith in ap (schedule_at (s ∷ ss)) (sym e) ∙ ready.watches k less ∙ ap (λ (n : ℕ). fresh (inputs_of (actor.Watch n) all)) (omega arith);
}

watches_next : (number watchers : ℕ) (all : List (Actor × InputLine)) (s : ScheduleState) (ss : List ScheduleState) → WatchesReady number (suc watchers) all (s ∷ ss) → WatchesReady (suc number) watchers all ss
watches_next number watchers all s ss ready = record {
  length_is = omega (arith, ready.length_is);
  watches = λ k less. ready.watches (suc k) (omega (arith, less)) ∙ ap (λ (n : ℕ). fresh (inputs_of (actor.Watch n) all)) (omega arith);
}

-- What is told.

module _ {W : Type 0} where
  watches_told : (links number : ℕ) (ss : List ScheduleState) (watchers : List W) (all : List (Actor × InputLine)) → WatchesReady number (length watchers) all ss → AreTold (watch_crew links number ss watchers) (watches_begun number watchers all)
  watches_told links number [] [] all ready = tt
  watches_told links number [] (w ∷ watchers) all ready = absurd (omega (arith, ready.length_is))
  watches_told links number (s ∷ ss) [] all ready = tt
  watches_told links number (s ∷ ss) (w ∷ watchers) all ready =
      let own : s ≡ fresh (inputs_of (actor.Watch number) all) = ready.watches 0 (omega arith) ∙ ap (λ (n : ℕ). fresh (inputs_of (actor.Watch n) all)) (omega arith) in (
        record { items = []; holds = tt; told = ap (λ (x : ScheduleState). Watch (record (watch_begun number w all) { schedule = x })) (sym own) },
        watches_told links (suc number) ss watchers all (watches_next number (length watchers) all s ss ready),
      )

  links_told : (number count : ℕ) (navigator : NavState) (ss : List ScheduleState) (watchers : List W) (all : List (Actor × InputLine)) (v : NavTaken) → with_taken navigator [] ≡ v → HasShown navigator [] → Ready number count (length watchers) all ss
      → AreTold (link_crew number count navigator ss watchers) (links_begun number count all ++ Nav (record { nav = v; schedule = fresh (inputs_of actor.Nav all) }) ∷ watches_begun 0 watchers all)
  links_told number zero navigator [] watchers all v is shown ready = absurd (omega (arith, ready.length_is))
  links_told number (suc count) navigator [] watchers all v is shown ready = absurd (omega (arith, ready.length_is))
  links_told number zero navigator (s ∷ ss) watchers all v is shown ready = (
    record { items = []; holds = shown; told = λ i. Nav (record { nav = sym is i; schedule = sym ready.nav i }) },
    watches_told number 0 ss watchers all (watches_ready number (length watchers) all s ss ready),
  )
  links_told number (suc count) navigator (s ∷ ss) watchers all v is shown ready =
      let own : s ≡ fresh (inputs_of (actor.Link number) all) = ready.links 0 (omega arith) ∙ ap (λ (n : ℕ). fresh (inputs_of (actor.Link n) all)) (omega arith) in (
        record { items = []; holds = tt; told = ap (λ (x : ScheduleState). Link (record (link_begun number all) { schedule = x })) (sym own) },
        links_told (suc number) count navigator ss watchers all v is shown (ready_next number count (length watchers) all s ss ready),
      )

  pub crew_told : (boot : BootScript) (state : BootState) (s : Shared) (navigator : NavState) (ss : List ScheduleState) (watchers : List W) → length watchers ≡ boot.watchers → SharedBegun boot.links boot.watchers state.heads s → with_taken navigator [] ≡ nav_at_boot boot.params boot.home state → HasShown navigator []
      → Sorted boot.links boot.watchers boot.inputs [] ss → Tells s (crew_of boot.links navigator ss watchers) (begun boot state watchers)
  crew_told boot state s navigator ss watchers many shared is shown sorted = record {
    shared = sym shared.told;
    counted = shared.counted;
    actors = (
      record { items = []; holds = tt; told = refl },
      links_told 0 boot.links navigator ss watchers boot.inputs (nav_at_boot boot.params boot.home state) is shown
          (subst (λ (n : ℕ). Ready 0 boot.links n boot.inputs ss) (sym many) (ready_all boot.links boot.watchers boot.inputs ss sorted)),
    );
  }

-- The shared part.

index_map : (heads : List PlanHead) (k : ℕ) → slice_index_or (map (λ (head : PlanHead). head.id) heads) k 0 ≡ (slice_index_or heads k (record { id = 0; count = 0 })).id
index_map [] k = refl
index_map (head ∷ heads) zero = refl
index_map (head ∷ heads) (suc k) = index_map heads k

map_length : (heads : List PlanHead) → length (map (λ (head : PlanHead). head.id) heads) ≡ length heads
map_length [] = refl
map_length (head ∷ heads) = ap suc (map_length heads)

board_begun : (links watchers : ℕ) (heads : List PlanHead) → length heads ≡ 3 → HeadsFit heads → BoardFits (transfer.opened heads) (opened links watchers heads)
board_begun links watchers heads three fit = record {
  three = (three, map_length heads ∙ three);
  heads = fit;
  last = λ kind. omega (arith, index_map heads (place_of kind));
  uploads = tt;
  index = tt;
}

pub shared_fits : (links watchers : ℕ) (state : BootState) (s : Shared) → StateInLimits state → SharedBegun links watchers state.heads s → SharedFits s
shared_fits links watchers state s limits shared = record {
  arrived = [];
  counted = shared.counted;
  board = subst (λ (x : SharedTold). BoardFits x.transfer x.board) (sym shared.told) (board_begun links watchers state.heads shared.three limits.counts);
}

-- The locals.

-- each element has this, with its place
abbrev AllFrom : {X : Type 0} → (ℕ → X → Type 0) → ℕ → List X → Type 0
AllFrom P k [] = Unit {0}
AllFrom P k (x ∷ xs) = P k x × AllFrom P (suc k) xs

some_one : {X : Type 0} (x y : X) → Some x ≡ Some y → x ≡ y
some_one x y h = cc

from_at : {X : Type 0} (P : ℕ → X → Type 0) (k : ℕ) (xs : List X) (j : ℕ) (x : X) → AllFrom P k xs → slice_get xs j ≡ Some x → P (k + j) x
from_at P k [] zero x all at = absurd cc
from_at P k [] (suc j) x all at = absurd cc
from_at P k (y ∷ xs) zero x all at = subst (λ (z : _). P (k + 0) z) (some_one y x at) (subst (λ (n : ℕ). P n y) (omega arith) all.0)
from_at P k (y ∷ xs) (suc j) x all at = subst (λ (n : ℕ). P n x) (omega arith) (from_at P (suc k) xs j x all.1 at)

adopts_begun : (params : Params) (home : Option Home) (state : BootState) (b : BoardState) → b.published ≡ state.heads → NavAdopts (nav_at_boot params home state) b
adopts_begun params home state b heads = record {
  earlier = omega (arith, ap (λ (hs : List PlanHead). (head_of hs Mission).id) heads);
  same = λ is. ap (λ (hs : List PlanHead). (head_of hs Mission).count) heads;
  asked = asked_at_boot params home state b;
}

module _ {W : Type 0} where
  watch_length : (links number : ℕ) (ss : List ScheduleState) (watchers : List W) → length ss ≡ length watchers → length (watch_crew links number ss watchers) ≡ length watchers
  watch_length links number [] [] same = refl
  watch_length links number [] (w ∷ watchers) same = absurd (omega (arith, same))
  watch_length links number (s ∷ ss) [] same = refl
  watch_length links number (s ∷ ss) (w ∷ watchers) same = ap suc (watch_length links (suc number) ss watchers (omega (arith, same)))

  link_length : (number count : ℕ) (navigator : NavState) (ss : List ScheduleState) (watchers : List W) → length ss ≡ count + 1 + length watchers → length (link_crew number count navigator ss watchers) ≡ count + 1 + length watchers
  link_length number zero navigator [] watchers same = absurd (omega (arith, same))
  link_length number (suc count) navigator [] watchers same = absurd (omega (arith, same))
  link_length number zero navigator (s ∷ ss) watchers same = omega (arith, watch_length number 0 ss watchers (omega (arith, same)))
  link_length number (suc count) navigator (s ∷ ss) watchers same = omega (arith, link_length (suc number) count navigator ss watchers (omega (arith, same)))

module _ {W : Type 0} (waits : W → Awaited) (boot : BootScript) (state : BootState) (s : Shared) (shared : SharedBegun boot.links boot.watchers state.heads s) (fits : SharedFits s) (limits : BootInLimits boot) where
  abbrev Fitting : ℕ → Local W → Type 0
  Fitting k l = (number_of l ≡ k) × LocalFits waits s l

  board_is : s.board ≡ opened boot.links boot.watchers state.heads
  board_is = ap (λ (x : SharedTold). x.board) shared.told

  has_client : (who : Client) → IsAmong boot.links boot.watchers who → HasClient s.board who
  has_client who among = subst (λ (b : BoardState). HasClient b who) (sym board_is) (opened_clients boot.links boot.watchers state.heads who among)

  nothing_posted : (who : Client) → posted s.board who ≡ []
  nothing_posted who = ap (λ (b : BoardState). posted b who) board_is ∙ (opened_quiet boot.links boot.watchers state.heads who).0

  nothing_asked : (who : Client) → open_asks s.board who ≡ []
  nothing_asked who = ap (λ (b : BoardState). open_asks b who) board_is ∙ (opened_quiet boot.links boot.watchers state.heads who).1

  no_reply : (who : Client) → CanHearAll (posted s.board who)
  no_reply who = subst CanHearAll (sym (nothing_posted who)) (All-nil (λ (said : Asked × Reply). CanHear said.0 said.1))

  no_holder : s.transfer.holder ≡ None
  no_holder = ap (λ (x : SharedTold). x.transfer.holder) shared.told

  links_are : length s.board.link_posted ≡ boot.links
  links_are = ap (λ (b : BoardState). length b.link_posted) board_is ∙ length-replicate boot.links []

  pub watchers_are : length s.board.watch_posted ≡ boot.watchers
  watchers_are = ap (λ (b : BoardState). length b.watch_posted) board_is ∙ length-replicate boot.watchers []

  none_held : (n : ℕ) → s.transfer.holder ≢ Some n
  none_held n is = let e : None ≡ Some n = sym no_holder ∙ is in cc

  link_fits : (number : ℕ) (schedule : ScheduleState) → number < boot.links → All LinkInput schedule.inputs → Fitting (suc number) (link_local number schedule)
  link_fits number schedule less inputs = (
    omega arith,
    record {
      shared = fits;
      number = refl;
      role = record {
        number = refl;
        session = record { grant = none_held number; ids = tt; client = has_client (client.Link number) less; asks = subst (AwaitsOnly stage.Free) (sym (nothing_asked (client.Link number))) tt };
        replies = λ on. no_reply (client.Link number);
        inputs = inputs;
      };
      knows = record { heard = []; hears = tt; draft = tt };
    },
  )

  nav_fits : (navigator : NavState) (schedule : ScheduleState) → with_taken navigator [] ≡ nav_at_boot boot.params boot.home state → HasShown navigator [] → All NavInput schedule.inputs → Fitting (suc boot.links) (nav_local boot.links navigator schedule)
  nav_fits navigator schedule is shown inputs =
      let heads : s.board.published ≡ state.heads = ap (λ (b : BoardState). b.published) board_is in
      let adopts : NavAdopts (with_taken navigator []) s.board = subst (λ (v : NavTaken). NavAdopts v s.board) (sym is) (adopts_begun boot.params boot.home state s.board heads) in (
        omega arith,
        record {
          shared = fits;
          number = omega (arith, links_are);
          role = record { tick = may_tick navigator [] s.transfer s.board fits.board adopts; replies = λ on. no_reply client.Nav; inputs = inputs };
          knows = record { items = []; shown = shown; adopts = adopts };
        },
      )

  watch_fits : (number : ℕ) (watcher : W) (schedule : ScheduleState) → number < boot.watchers → All WatcherInput schedule.inputs → Fitting (2 + boot.links + number) (watch_local boot.links number watcher schedule)
  watch_fits number watcher schedule less inputs = (
    refl,
    record {
      shared = fits;
      number = omega (arith, links_are);
      role = record { client = has_client (client.Watch number) less; heads = fits.board.heads; replies = λ on. no_reply (client.Watch number); inputs = inputs; asks = nothing_asked (client.Watch number) };
      knows = tt;
    },
  )

  worker_fits : Fitting 0 worker_local
  worker_fits = (
    refl,
    record {
      shared = fits;
      number = refl;
      role = record { service = ap (λ (b : BoardState). b.service) board_is; power = λ off. refl };
      knows = tt;
    },
  )

  own_inputs : (P : InputLine → Type 0) (who : Actor) (schedule : ScheduleState) → ((input : InputLine) → ActorInput boot.links boot.watchers (who, input) → P input) → schedule ≡ fresh (inputs_of who boot.inputs) → All P schedule.inputs
  own_inputs P who schedule one is = subst (λ (x : ScheduleState). All P x.inputs) (sym is) (inputs_fit P boot.links boot.watchers who boot.inputs one limits.inputs)

  watches_fit : (number : ℕ) (ss : List ScheduleState) (watchers : List W) → WatchesReady number (length watchers) boot.inputs ss → number + length watchers ≤ boot.watchers → AllFrom Fitting (2 + boot.links + number) (watch_crew boot.links number ss watchers)
  watches_fit number [] watchers ready within = tt
  watches_fit number (schedule ∷ ss) [] ready within = tt
  watches_fit number (schedule ∷ ss) (w ∷ watchers) ready within =
      let own : schedule ≡ fresh (inputs_of (actor.Watch number) boot.inputs) = ready.watches 0 (omega arith) ∙ ap (λ (n : ℕ). fresh (inputs_of (actor.Watch n) boot.inputs)) (omega arith) in (
        watch_fits number w schedule (omega (arith, within)) (own_inputs WatcherInput (actor.Watch number) schedule (λ input fit. fit.1) own),
        subst (λ (k : ℕ). AllFrom Fitting k (watch_crew boot.links (suc number) ss watchers)) (omega arith) (watches_fit (suc number) ss watchers (watches_next number (length watchers) boot.inputs schedule ss ready) (omega (arith, within))),
      )

  links_fit : (number count : ℕ) (navigator : NavState) (ss : List ScheduleState) (watchers : List W) → number + count ≡ boot.links → length watchers ≡ boot.watchers → with_taken navigator [] ≡ nav_at_boot boot.params boot.home state → HasShown navigator [] → Ready number count (length watchers) boot.inputs ss
      → AllFrom Fitting (suc number) (link_crew number count navigator ss watchers)
  links_fit number zero navigator [] watchers sum many is shown ready = tt
  links_fit number (suc count) navigator [] watchers sum many is shown ready = tt
  links_fit number zero navigator (schedule ∷ ss) watchers sum many is shown ready =
      let last : boot.links ≡ number = omega (arith, sum) in
      let inputs : All NavInput schedule.inputs = own_inputs NavInput actor.Nav schedule (λ input fit. fit) ready.nav in
      let watches : AllFrom Fitting (2 + boot.links + 0) (watch_crew boot.links 0 ss watchers) = watches_fit 0 ss watchers (watches_ready number (length watchers) boot.inputs schedule ss ready) (omega (arith, many)) in
      subst (λ (n : ℕ). AllFrom Fitting (suc n) (nav_local n navigator schedule ∷ watch_crew n 0 ss watchers)) last
      (nav_fits navigator schedule is shown inputs, subst (λ (k : ℕ). AllFrom Fitting k (watch_crew boot.links 0 ss watchers)) (omega arith) watches)
  links_fit number (suc count) navigator (schedule ∷ ss) watchers sum many is shown ready =
      let own : schedule ≡ fresh (inputs_of (actor.Link number) boot.inputs) = ready.links 0 (omega arith) ∙ ap (λ (n : ℕ). fresh (inputs_of (actor.Link n) boot.inputs)) (omega arith) in (
        link_fits number schedule (omega (arith, sum)) (own_inputs LinkInput (actor.Link number) schedule (λ input fit. fit.1) own),
        links_fit (suc number) count navigator ss watchers (omega (arith, sum)) many is shown (ready_next number count (length watchers) boot.inputs schedule ss ready),
      )

  pub crew_fits : (navigator : NavState) (ss : List ScheduleState) (watchers : List W) → length watchers ≡ boot.watchers → with_taken navigator [] ≡ nav_at_boot boot.params boot.home state → HasShown navigator [] → Sorted boot.links boot.watchers boot.inputs [] ss
      → CoreFits waits (record { shared = s; locals = crew_of boot.links navigator ss watchers; links = boot.links })
  crew_fits navigator ss watchers many is shown sorted =
      let ready : Ready 0 boot.links (length watchers) boot.inputs ss = subst (λ (n : ℕ). Ready 0 boot.links n boot.inputs ss) (sym many) (ready_all boot.links boot.watchers boot.inputs ss sorted) in
      let crew : AllFrom Fitting 0 (crew_of boot.links navigator ss watchers) = (worker_fits, links_fit 0 boot.links navigator ss watchers (omega arith) many is shown ready) in
      record {
        each = λ k l at. subst (λ (n : ℕ). Fitting n l) (omega arith) (from_at Fitting 0 (crew_of boot.links navigator ss watchers) k l crew at);
        named = sym links_are;
        count = omega (arith, link_length 0 boot.links navigator ss watchers ready.length_is, links_are, watchers_are, many);
        links = omega (arith, links_are, limits.links);
        watchers = omega (arith, watchers_are, limits.watchers);
      }
