-- Who is ready, as the lines tell and as the core has it.
use Rattle.std.proofs.Common.{◌≡◌, ◌⊎◌, inl, inr, ℕ, suc, ◌+◌, ◌<◌, ◌≤◌, ◌==◌, ◌&&◌, ◌||◌, min, Bool, true, false, List, [], ◌∷◌, length, drop, Option, Some, None, refl, sym, ap, ◌∙◌, subst, arith}
use Rattle.std.specs.Prelude.{slice_get, slice_index_or, is_some, nat_le, nat_lt}
use Rattle.std.specs.List.{All}
use Rattle.std.proofs.lemmas.Bool.{le-leb, lt-leb, ne_eqb, lt-ltb, le-ltb}
use Rattle.std.proofs.lemmas.List.Elements.{All-head}
use Rattle.first_model.specs.declared.limits.TheConstants.{MAX_PLACES}
use Rattle.first_model.specs.declared.request.Client.{Client}
use Rattle.first_model.specs.declared.request.Client.TheVariants as client
use Rattle.first_model.specs.declared.request.Asked.{Asked}
use Rattle.first_model.specs.declared.request.Reply.{Reply}
use Rattle.first_model.specs.declared.vehicle.VehicleLine.TheVariants as event
use Rattle.first_model.specs.declared.schedule.InputLine.{InputLine}
use Rattle.first_model.specs.declared.schedule.InputLine.TheVariants as input
use Rattle.first_model.specs.declared.flight_line.Actor.TheVariants as actor
use Rattle.first_board.specs.BoardState.{posted, outstanding}
use Rattle.first_core.specs.ScheduleState.{ScheduleState}
use Rattle.first_core.specs.SharedState.{SharedState, arrivals_at}
use Rattle.first_core.specs.LinkState.{IsForLink}
use Rattle.first_core.specs.NavState.{IsForNav}
use Rattle.first_core.specs.Ready.{InputReady, InputWaits}
use Rattle.first_runner.specs.BootTold.{BootTold, open_asks, next_reply, arrivals, schedule_of}
use Rattle.first_runner.specs.BootReady.{is_free, gives_step, is_ready}
use Rattle.first_runner.specs.CoreTold.{PlacesTold}

-- nothing is outstanding, or something is
pub free_is : (t : BootTold) (client : Client) (n : ℕ) → length (open_asks t client) ≡ n → n ≡ 0 → is_free t client ≡ true
free_is t client n count none = ap (λ k. k == 0) (count ∙ none)

pub free_not : (t : BootTold) (client : Client) (n : ℕ) → length (open_asks t client) ≡ n → 0 < n → is_free t client ≡ false
free_not t client n count some = ne_eqb (length (open_asks t client)) 0 (λ e. absurd (omega (arith, e, count, some)))

-- the current meeting is at one of the places
abbrev pub PlaceFits : List InputLine → Type 0
PlaceFits (input.Meet place count ∷ rest) = place < MAX_PLACES
PlaceFits inputs = Unit {0}

place_of_link : (current : InputLine) (rest : List InputLine) → IsForLink current → PlaceFits (current ∷ rest)
place_of_link (input.Meet place count) rest fits = fits
place_of_link current rest fits = tt

pub link_place : (inputs : List InputLine) → All IsForLink inputs → PlaceFits inputs
link_place [] fits = tt
link_place (current ∷ rest) fits = place_of_link current rest (All-head IsForLink current rest fits)

place_of_nav : (current : InputLine) (rest : List InputLine) → IsForNav current → PlaceFits (current ∷ rest)
place_of_nav (input.Meet place count) rest fits = fits
place_of_nav current rest fits = tt

pub nav_place : (inputs : List InputLine) → All IsForNav inputs → PlaceFits inputs
nav_place [] fits = tt
nav_place (current ∷ rest) fits = place_of_nav current rest (All-head IsForNav current rest fits)

-- a schedule gives a step where the core says so
enough : (count here there : ℕ) → here ≡ there → count ≤ here → nat_le count there ≡ true
enough count here there same le = le-leb count there (omega (arith, same, le))

few : (count here there : ℕ) → here ≡ there → here < count → nat_le count there ≡ false
few count here there same lt = lt-leb count there (omega (arith, same, lt))

pub gives_ready : (t : BootTold) (s : SharedState) (client : Client) (inputs : List InputLine) (begun : Bool) → length (open_asks t client) ≡ outstanding s.board client → PlacesTold s.arrivals t.arrived → PlaceFits inputs → InputReady s client inputs begun → gives_step t client inputs begun ≡ true
gives_ready t s client [] begun count places fits ready = absurd ready
gives_ready t s client (input.Wait ∷ rest) begun count places fits ready = free_is t client (outstanding s.board client) count ready
gives_ready t s client (input.Meet place needed ∷ rest) false count places fits ready = refl
gives_ready t s client (input.Meet place needed ∷ rest) true count places fits ready = enough needed (arrivals_at s place) (min 255 (arrivals t.arrived place)) (places.at place fits) ready
gives_ready t s client (input.Vehicle event.Go ∷ rest) true count places fits ready = free_is t client (outstanding s.board client) count ready
gives_ready t s client (input.Vehicle event.Go ∷ rest) false count places fits ready = refl
gives_ready t s client (current ∷ rest) begun count places fits ready = refl

-- and none where it says so
pub gives_none : (t : BootTold) (s : SharedState) (client : Client) (inputs : List InputLine) (begun : Bool) → length (open_asks t client) ≡ outstanding s.board client → PlacesTold s.arrivals t.arrived → PlaceFits inputs → InputWaits s client inputs begun → gives_step t client inputs begun ≡ false
gives_none t s client [] begun count places fits waits = refl
gives_none t s client (input.Wait ∷ rest) begun count places fits waits = free_not t client (outstanding s.board client) count waits
gives_none t s client (input.Meet place needed ∷ rest) false count places fits waits = absurd waits
gives_none t s client (input.Meet place needed ∷ rest) true count places fits waits = few needed (arrivals_at s place) (min 255 (arrivals t.arrived place)) (places.at place fits) waits
gives_none t s client (input.Vehicle event.Go ∷ rest) true count places fits waits = free_not t client (outstanding s.board client) count waits
gives_none t s client (input.Vehicle event.Go ∷ rest) false count places fits waits = absurd waits
gives_none t s client (current ∷ rest) begun count places fits waits = absurd waits

-- a reply waits for the client
pub link_hears : (t : BootTold) (number : ℕ) (first : Asked × Reply) → next_reply t (client.Link number) ≡ Some first → is_ready t (actor.Link number) ≡ true
link_hears t number first next = ap (λ r. is_some r || (is_free t (client.Link number) && gives_step t (client.Link number) (schedule_of t (client.Link number)).inputs (schedule_of t (client.Link number)).begun)) next

pub nav_hears : (t : BootTold) (first : Asked × Reply) → next_reply t client.Nav ≡ Some first → is_ready t actor.Nav ≡ true
nav_hears t first next = ap (λ r. is_some r || gives_step t client.Nav t.nav.inputs t.nav.begun) next

-- it takes a step of its schedule
pub link_steps : (t : BootTold) (number : ℕ) (schedule : ScheduleState) → next_reply t (client.Link number) ≡ None → is_free t (client.Link number) ≡ true → schedule_of t (client.Link number) ≡ schedule → gives_step t (client.Link number) schedule.inputs schedule.begun ≡ true → is_ready t (actor.Link number) ≡ true
link_steps t number schedule next free at gives =
    let here : gives_step t (client.Link number) (schedule_of t (client.Link number)).inputs (schedule_of t (client.Link number)).begun ≡ true = ap (λ (s : ScheduleState). gives_step t (client.Link number) s.inputs s.begun) at ∙ gives in
    rw (next, free, here) refl

pub nav_steps : (t : BootTold) (schedule : ScheduleState) → next_reply t client.Nav ≡ None → t.nav ≡ schedule → gives_step t client.Nav schedule.inputs schedule.begun ≡ true → is_ready t actor.Nav ≡ true
nav_steps t schedule next at gives =
    let here : gives_step t client.Nav t.nav.inputs t.nav.begun ≡ true = ap (λ (s : ScheduleState). gives_step t client.Nav s.inputs s.begun) at ∙ gives in
    rw (next, here) refl

-- it takes none
and_none : (b : Bool) → (b && false) ≡ false
and_none true = refl
and_none false = refl

pub link_rests : (t : BootTold) (number : ℕ) (schedule : ScheduleState) → next_reply t (client.Link number) ≡ None → schedule_of t (client.Link number) ≡ schedule → (is_free t (client.Link number) ≡ false) ⊎ (gives_step t (client.Link number) schedule.inputs schedule.begun ≡ false) → is_ready t (actor.Link number) ≡ false
link_rests t number schedule next at (inl out) = rw (next, out) refl
link_rests t number schedule next at (inr none) =
    let here : gives_step t (client.Link number) (schedule_of t (client.Link number)).inputs (schedule_of t (client.Link number)).begun ≡ false = ap (λ (s : ScheduleState). gives_step t (client.Link number) s.inputs s.begun) at ∙ none in
    rw (next, here) (and_none (is_free t (client.Link number)))

pub nav_rests : (t : BootTold) (schedule : ScheduleState) → next_reply t client.Nav ≡ None → t.nav ≡ schedule → gives_step t client.Nav schedule.inputs schedule.begun ≡ false → is_ready t actor.Nav ≡ false
nav_rests t schedule next at none =
    let here : gives_step t client.Nav t.nav.inputs t.nav.begun ≡ false = ap (λ (s : ScheduleState). gives_step t client.Nav s.inputs s.begun) at ∙ none in
    rw (next, here) refl
