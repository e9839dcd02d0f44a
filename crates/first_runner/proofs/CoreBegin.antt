-- At the beginning of a boot the core is where its first line tells; and how a boot ends.
use Rattle.std.proofs.Common.{◌≡◌, inl, inr, ℕ, zero, suc, ◌+◌, ◌<◌, ◌≤◌, ◌==◌, ◌&&◌, min, Bool, true, false, List, [], ◌∷◌, ◌++◌, length, map, get_or, replicate, Option, None, refl, sym, ap, ◌∙◌, subst, arith}
use Rattle.std.specs.Prelude.{is_some, if◌then◌else◌}
use Rattle.std.specs.List.{All}
use Rattle.std.proofs.lemmas.Bool.{and_parts, eqb-true, cases_Bool}
use Rattle.std.proofs.lemmas.List.{length-replicate, map-append, nil_from_length}
use Rattle.std.proofs.lemmas.List.Elements.{All-nil, All-cons, All-head, All-tail}
use Rattle.first_model.specs.declared.limits.TheConstants.{MAX_PLACES, MAX_MISSION_ITEMS}
use Rattle.first_model.specs.declared.plan.Item.{Item}
use Rattle.first_model.specs.declared.request.Client.{Client}
use Rattle.first_model.specs.declared.request.Client.TheVariants as client
use Rattle.first_model.specs.declared.request.Asked.{Asked}
use Rattle.first_model.specs.declared.request.Reply.{Reply}
use Rattle.first_model.specs.declared.flight_line.Actor.{Actor}
use Rattle.first_model.specs.declared.flight_line.Actor.TheVariants as actor
use Rattle.first_model.specs.declared.flight_line.Line.{Line}
use Rattle.first_model.specs.declared.flight_line.Line.TheVariants.{End, Stuck}
use Rattle.first_model.specs.declared.schedule.BootScript.{BootScript}
use Rattle.first_model.specs.declared.schedule.InputLine.{InputLine}
use Rattle.first_model.specs.declared.vehicle.BootState.{BootState}
use Rattle.first_cache.specs.declared.cache.TheConstants.{SEQS}
use Rattle.first_board.specs.BoardState.{BoardState, posted}
use Rattle.first_board.specs.BoardCalls.{opened}
use Rattle.first_vehicle.specs.VehicleState.{head_at}
use Rattle.first_core.specs.ScheduleState.{inputs_of}
use Rattle.first_core.specs.LinkState.{LinkState, new_link}
use Rattle.first_core.specs.NavState.{unknown}
use Rattle.first_core.specs.CoreState.{CoreState, LinkFinished, IsFinished}
use Rattle.first_core.specs.NewCore.{new_core, new_links}
use Rattle.first_runner.specs.Flight.{IsEnding}
use Rattle.first_runner.specs.BootTold.{BootTold, LinkTold, Free, begun, links_begun}
use Rattle.first_runner.specs.BootReady.{is_any_ready, is_done, are_finished, is_finished}
use Rattle.first_runner.specs.CoreRun.{Ends}
use Rattle.first_runner.specs.CoreTold.{BoardTold, CacheTold, PlacesTold, CoreTold, link_told}
use Rattle.first_runner.proofs.CoreCache.{known_here, none_known, none_flying}

-- nothing is posted to anybody
none_posted : (n k : ℕ) → get_or (replicate n (let none : List (Asked × Reply) = [] in none)) k [] ≡ []
none_posted zero k = refl
none_posted (suc n) zero = refl
none_posted (suc n) (suc k) = none_posted n k

opened_posted : (boot : BootScript) (state : BootState) (client : Client) → posted (new_core boot state).shared.board client ≡ []
opened_posted boot state client.Nav = refl
opened_posted boot state (client.Link number) = none_posted boot.links number
opened_posted boot state (client.Watch number) = none_posted 0 number

-- the links
links_told : (count : ℕ) (inputs : List (Actor × InputLine)) → links_begun count inputs ≡ map link_told (new_links count inputs)
links_told zero inputs = refl
links_told (suc count) inputs =
    let last : LinkState = new_link count (inputs_of (actor.Link count) inputs) in
    ap (λ xs. xs ++ link_told last ∷ []) (links_told count inputs) ∙ sym (map-append link_told (new_links count inputs) (last ∷ []))

-- nobody came to a place
none_arrived : (n place : ℕ) → get_or (replicate n (let none : ℕ = 0 in none)) place 0 ≡ (let none : ℕ = 0 in none)
none_arrived zero place = refl
none_arrived (suc n) zero = refl
none_arrived (suc n) (suc place) = none_arrived n place

pub new_told : (boot : BootScript) (state : BootState) → CoreTold (begun boot (head_at state.heads 0).id) (new_core boot state)
new_told boot state = record {
  board = record { waiting = refl; within = omega arith; service = refl; posted = λ client. opened_posted boot state client; served = λ client. omega arith };
  within = λ client. omega arith;
  cache = record {
    known = λ seq below. ap is_some (known_here (replicate MAX_MISSION_ITEMS None) 0 seq refl ∙ none_known MAX_MISSION_ITEMS seq);
    flying = λ seq below. ap (λ b. if b then 1 else 0) (none_flying SEQS seq);
    newer = λ id seq above. refl;
    flags = omega (arith, length-replicate SEQS false);
  };
  nav = refl;
  links = links_told boot.links boot.inputs;
  last_id = refl;
  places = record { all = length-replicate MAX_PLACES (let none : ℕ = 0 in none); at = λ place below. none_arrived MAX_PLACES place };
}

-- every schedule is finished exactly where the core says so
done_nil : (inputs : List InputLine) → (length inputs == 0) ≡ true → inputs ≡ []
done_nil inputs done = nil_from_length inputs (eqb-true (length inputs) 0 done)

finished_to : (links : List LinkState) → All LinkFinished links → are_finished (map link_told links) ≡ true
finished_to [] all = refl
finished_to (l ∷ links) all =
    let first : is_done l.schedule ≡ true = ap (λ xs. length xs == 0) (All-head LinkFinished l links all) in
    rw (first, finished_to links (All-tail LinkFinished l links all)) refl

finished_from : (links : List LinkState) → are_finished (map link_told links) ≡ true → All LinkFinished links
finished_from [] is = All-nil LinkFinished
finished_from (l ∷ links) is =
    let parts = and_parts (is_done l.schedule) (are_finished (map link_told links)) is in
    All-cons LinkFinished l links (done_nil l.schedule.inputs parts.0) (finished_from links parts.1)

told_finished : (t : BootTold) (c : CoreState) → CoreTold t c → IsFinished c → is_finished t ≡ true
told_finished t c told is =
    let nav : is_done t.nav ≡ true = ap is_done told.nav ∙ ap (λ xs. length xs == 0) is.0 in
    let links : are_finished t.links ≡ true = ap are_finished told.links ∙ finished_to c.links is.1 in
    rw (nav, links) refl

finished_told : (t : BootTold) (c : CoreState) → CoreTold t c → is_finished t ≡ true → IsFinished c
finished_told t c told is =
    let parts = and_parts (is_done t.nav) (are_finished t.links) is in
    (done_nil c.nav.schedule.inputs (sym (ap is_done told.nav) ∙ parts.0), finished_from c.links (sym (ap are_finished told.links) ∙ parts.1))

-- the line that ends the boot
pub ends_told : (t : BootTold) (c : CoreState) (actors : List Actor) (last : Line) → CoreTold t c → is_any_ready t actors ≡ false → IsEnding c last → Ends t actors last
ends_told t c actors End told none ending = (none, told_finished t c told ending)
ends_told t c actors Stuck told none ending = (none, elim (cases_Bool (is_finished t)) [ inl yes_it_is ↦ absurd (ending (finished_told t c told yes_it_is)) | inr is_not ↦ is_not ])
ends_told t c actors last told none ending = absurd ending
