-- The worker's steps and what their lines tell.
use Rattle.std.proofs.Common.{◌≡◌, inl, inr, ℕ, suc, ◌+◌, ◌<◌, ◌≤◌, Bool, true, false, List, [], ◌∷◌, ◌++◌, length, take, drop, Option, Some, None, refl, sym, ap, ◌∙◌, subst, arith}
use Rattle.std.specs.Prelude.{slice_get, nat_lt, IfSome, if◌then◌else◌}
use Rattle.std.proofs.lemmas.Bool.{lt-ltb, le-ltb}
use Rattle.std.proofs.lemmas.List.{take-append-le}
use Rattle.std.proofs.lemmas.Option.{slice_get_within}
use Rattle.first_model.specs.declared.request.Client.{Client}
use Rattle.first_model.specs.declared.request.Client.TheVariants as client
use Rattle.first_model.specs.declared.request.Request.{Request}
use Rattle.first_model.specs.declared.request.Asked.{Asked}
use Rattle.first_model.specs.declared.request.Reply.{Reply}
use Rattle.first_model.specs.declared.flight_line.Actor.{Actor}
use Rattle.first_model.specs.declared.flight_line.Actor.TheVariants as actor
use Rattle.first_model.specs.declared.flight_line.Line.{Line}
use Rattle.first_model.specs.declared.flight_line.Line.TheVariants.{Took, Served}
use Rattle.first_board.specs.BoardState.{HasClient}
use Rattle.first_board.specs.BoardCalls.{asked_of, taken, answered, in_service as board_service}
use Rattle.first_board.specs.BoardLaw.{abouts}
use Rattle.first_vehicle.specs.VehicleState.{VehicleState}
use Rattle.first_core.specs.declared.StepOut.{StepOut}
use Rattle.first_core.specs.declared.StepOut.TheVariants.{Made, Idle}
use Rattle.first_core.specs.SharedState.{SharedState, with_board, mission_head}
use Rattle.first_core.specs.LinkState.{LinkState}
use Rattle.first_core.specs.PlansFit.{AskFits, LinkAsks}
use Rattle.first_core.specs.CoreState.{CoreState, CoreFits}
use Rattle.first_core.specs.CoreLaw.{CoreStep}
use Rattle.first_core.specs.WorkerLaw as law
use Rattle.first_runner.specs.BootTold.{BootTold, own, times, replies_to, open_asks, replies_taken, in_service, told_after}
use Rattle.first_runner.specs.BootReady.{maker_of, is_ready}
use Rattle.first_runner.specs.CoreRun.{LineLaw}
use Rattle.first_runner.specs.CoreTold.{ServiceTold, BoardTold, CacheTold, CoreTold}
use Rattle.first_runner.proofs.CoreLists.{if_own, replies_to-serve, drop_none}
use Rattle.first_runner.proofs.CoreBoard.{board_takes, board_serves, replies_within}
use Rattle.first_runner.proofs.TiedSteps.{worked, of_parts}

-- a turn's line is its actor's, who was ready, and is by that actor's law, and the core is where the lines tell then; an
-- idle turn's actor was not ready
abbrev pub Follows : VehicleState → BootTold → Actor → StepOut Line → CoreState → Type 0
Follows v t who (Made line) c = (maker_of line ≡ Some who) × (is_ready t who ≡ true) × LineLaw t v line × CoreTold (told_after t v line) c
Follows v t who Idle c = (is_ready t who ≡ false) × CoreTold t c

-- the client whose request is in service is one of the board's
link_asks : (c : CoreState) (number : ℕ) (request : Request) (found : Option LinkState) → length c.shared.board.link_posted ≡ length c.links → slice_get c.links number ≡ found → LinkAsks (mission_head c.shared) found request → HasClient c.shared.board (client.Link number)
link_asks c number request None links at ask = absurd ask
link_asks c number request (Some l) links at ask = omega (arith, slice_get_within c.links number l at, links)

client_asks : (c : CoreState) (client : Client) (request : Request) → length c.shared.board.link_posted ≡ length c.links → AskFits (mission_head c.shared) c.links (client, request) → HasClient c.shared.board client
client_asks c client.Nav request links ask = tt
client_asks c (client.Link number) request links ask = link_asks c number request (slice_get c.links number) links refl ask
client_asks c (client.Watch number) request links ask = absurd ask

pub has_client : (c : CoreState) (client : Client) (request : Request) → CoreFits c → c.taken ≡ Some (client, request) → HasClient c.shared.board client
has_client c client request fits takes =
    let ask : AskFits (mission_head c.shared) c.links (client, request) = subst (λ (s : Option (Client × Request)). IfSome s (AskFits (mission_head c.shared) c.links)) (fits.service ∙ takes) fits.plans.service in
    client_asks c client request fits.links ask

-- the first request is taken
takes_told : (v : VehicleState) (t : BootTold) (c : CoreState) (client : Client) (request : Request) (rest : List (Client × Request)) → CoreFits c → CoreTold t c → c.taken ≡ None → c.shared.board.waiting ≡ (client, request) ∷ rest →
    Follows v t actor.Worker (Made (Took client (asked_of request))) (worked c (taken c.shared.board (client, request) rest) (Some (client, request)))
takes_told v t c client request rest fits told free waits =
    let step = board_takes t.asked t.taken t.replies t.heard c.shared.board client request rest told.board (fits.service ∙ free) waits in
    let below : t.taken < length t.asked = slice_get_within t.asked t.taken (client, asked_of request) step.1 in
    let none : nat_lt (length t.replies) t.taken ≡ false = le-ltb (length t.replies) t.taken (omega (arith, step.0)) in (
      refl,
      lt-ltb (length t.replies) (length t.asked) (omega (arith, step.0, below)),
      (ap (λ b. if b then slice_get t.asked (length t.replies) else None) none, step.1),
      record { board = step.2; within = told.within; cache = told.cache; nav = told.nav; links = told.links; last_id = told.last_id; places = told.places },
    )

-- the request in service has its reply
serves_told : (v : VehicleState) (t : BootTold) (c : CoreState) (who : Client) (request : Request) (given : Reply) → CoreFits c → CoreTold t c → c.taken ≡ Some (who, request) →
    Follows v t actor.Worker (Made (Served who given)) (worked c (answered c.shared.board who (asked_of request) given) None)
serves_told v t c who request given fits told takes =
    let step = board_serves t.asked t.taken t.replies t.heard c.shared.board who request given told.board (has_client c who request fits takes) (fits.service ∙ takes) in
    let some : nat_lt (length t.replies) t.taken ≡ true = lt-ltb (length t.replies) t.taken (omega (arith, step.0)) in
    let said = replies_to-serve client.Nav who t.asked t.replies (asked_of request) given step.1 in
    let same : replies_taken (record t { replies = t.replies ++ given ∷ [] }) client.Nav ≡ replies_taken t client.Nav =
    ap (take (times client.Nav t.heard)) said ∙ take-append-le (times client.Nav t.heard) (replies_to client.Nav t.asked t.replies) (if_own client.Nav who (asked_of request, given)) (told.board.served client.Nav) in (
      refl,
      lt-ltb (length t.replies) (length t.asked) (slice_get_within t.asked (length t.replies) (who, asked_of request) step.1),
      (asked_of request, ap (λ b. if b then slice_get t.asked (length t.replies) else None) some ∙ step.1),
      record {
        board = step.2;
        within = told.within;
        cache = subst (λ (xs : List (Asked × Reply)). CacheTold xs (open_asks t client.Nav) (own client.Nav t.asked) c.nav.cache) (sym same) told.cache;
        nav = told.nav;
        links = told.links;
        last_id = told.last_id;
        places = told.places;
      },
    )

-- nothing waits
rests_told : (t : BootTold) (c : CoreState) → CoreFits c → CoreTold t c → c.taken ≡ None → c.shared.board.waiting ≡ [] → is_ready t actor.Worker ≡ false
rests_told t c fits told free none =
    let service : t.taken ≡ length t.replies = subst (λ (s : Option (Client × Request)). ServiceTold t.asked t.taken (length t.replies) (board_service s)) (fits.service ∙ free) told.board.service in
    let all = drop_none t.taken t.asked (sym told.board.waiting ∙ ap abouts none) in
    le-ltb (length t.replies) (length t.asked) (omega (arith, service, all.1))

-- a step of the worker
pub worker_follows : (v : VehicleState) (t : BootTold) (c : CoreState) (given : Option Reply) (out : StepOut Line) (c' : CoreState) → CoreFits c → CoreTold t c → CoreStep c actor.Worker given out c' → Follows v t actor.Worker out c'
worker_follows v t c None (Made (Took client asked)) c' fits told (step, links, nav) =
    let rest = c'.shared.board.waiting in
    let next = takes_told v t c client step.request rest fits told step.free step.first in
    of_parts (Follows v t actor.Worker (Made (Took client asked))) c' (with_board c.shared (taken c.shared.board (client, step.request) rest)) (Some (client, step.request)) c.links c.nav step.shared step.worker links nav
    (subst (λ a. Follows v t actor.Worker (Made (Took client a)) (worked c (taken c.shared.board (client, step.request) rest) (Some (client, step.request)))) (sym step.line) next)
worker_follows v t c (Some reply) (Made (Served client given)) c' fits told (step, links, nav) =
    let next = serves_told v t c client step.request reply fits told step.had in
    of_parts (Follows v t actor.Worker (Made (Served client given))) c' (with_board c.shared (answered c.shared.board client (asked_of step.request) reply)) None c.links c.nav step.shared step.worker links nav
    (subst (λ g. Follows v t actor.Worker (Made (Served client g)) (worked c (answered c.shared.board client (asked_of step.request) reply) None)) (sym step.line) next)
worker_follows v t c None Idle c' fits told (step, links, nav) =
    of_parts (Follows v t actor.Worker Idle) c' c.shared c.taken c.links c.nav step.shared step.worker links nav (rests_told t c fits told step.free step.none, told)
worker_follows v t c given out c' fits told (step, links, nav) = absurd step
