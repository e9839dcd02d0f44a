-- Turns of the actors over the store keep core and store tied to a vehicle that the lines lead to.
use Rattle.std.proofs.Common.{◌≡◌, ◌≢◌, ℕ, zero, suc, ◌==◌, Bool, true, false, List, [], ◌∷◌, ◌++◌, Option, Some, None, refl, sym, ap, ◌∙◌, subst}
use Rattle.std.specs.Prelude.{slice_get, if◌then◌else◌}
use Rattle.first_model.specs.declared.counts.Mark.{Mark}
use Rattle.first_model.specs.declared.limits.TheConstants.{LAST_GENERATION}
use Rattle.first_model.specs.declared.plan.PlanType.{PlanType}
use Rattle.first_model.specs.declared.request.Client.{Client}
use Rattle.first_model.specs.declared.request.Request.{Request}
use Rattle.first_model.specs.declared.request.Request.TheVariants as request
use Rattle.first_model.specs.declared.request.Reply.{Reply}
use Rattle.first_model.specs.declared.request.Reply.TheVariants as reply
use Rattle.first_model.specs.declared.plan.Item.{Item}
use Rattle.first_model.specs.declared.flight_line.Actor.{Actor}
use Rattle.first_model.specs.declared.flight_line.Actor.TheVariants as actor
use Rattle.first_model.specs.declared.flight_line.Line.{Line}
use Rattle.first_model.specs.declared.flight_line.Line.TheVariants.{Took, Served}
use Rattle.first_board.specs.BoardCalls.{asked_of, taken, answered}
use Rattle.first_vehicle.specs.VehicleState.{VehicleState}
use Rattle.first_vehicle.specs.VehicleRun.{Lines, Lines-join}
use Rattle.first_core.specs.declared.StepOut.{StepOut}
use Rattle.first_core.specs.declared.StepOut.TheVariants.{Made, Idle}
use Rattle.first_core.specs.SharedState.{with_board}
use Rattle.first_core.specs.LinkState.{LinkState}
use Rattle.first_core.specs.WorkerLaw.{ReplySuits, InputSuits, request_of}
use Rattle.first_core.specs.CoreState.{CoreState, CoreFits}
use Rattle.first_core.specs.CoreLaw.{CoreStep, LinkMovesIf}
use Rattle.first_core.specs.PartsLaw.{PartsStay}
use Rattle.first_store.specs.StoreState as store
use Rattle.first_store.specs.Serve.{Well, found as found_reply, reply_to, after}
use Rattle.first_runner.specs.Turn.{Turn, WorkerTurn, Acts, Rounds, line_of}
use Rattle.first_runner.specs.Tied.{Tied, IsSound}
use Rattle.first_runner.proofs.TiedSteps.{Next, worked, linked, of_parts}
use Rattle.first_runner.proofs.TiedReads.{takes_next}
use Rattle.first_runner.proofs.TiedWorker.{serves_next}
use Rattle.first_runner.proofs.TiedLink.{link_next}
use Rattle.first_runner.proofs.TiedEvents.{nav_next}

-- the worker takes the first request, or rests
worker_takes : (v : VehicleState) (st : store.StoreState) (c : CoreState) (out : StepOut Line) (c' : CoreState) → CoreFits c → Tied v st c → CoreStep c actor.Worker None out c' → Next v out st c'
worker_takes v st c (Made (Took client asked)) c' fits tied (step, links, nav) =
    let rest = c'.shared.board.waiting in
    let next = takes_next v st c client step.request rest fits tied step.free step.first in
    of_parts (Next v (Made (Took client asked)) st) c' (with_board c.shared (taken c.shared.board (client, step.request) rest)) (Some (client, step.request)) c.links c.nav step.shared step.worker links nav
    (subst (λ a. Next v (Made (Took client a)) st (worked c (taken c.shared.board (client, step.request) rest) (Some (client, step.request)))) (sym step.line) next)
worker_takes v st c Idle c' fits tied (step, links, nav) = of_parts (Next v Idle st) c' c.shared c.taken c.links c.nav step.shared step.worker links nav tied
worker_takes v st c out c' fits tied (step, links, nav) = absurd step

-- the worker posts the store's reply to the request that it has taken
same_ask : (taken : Option (Client × Request)) (client : Client) (asked other : Request) → taken ≡ Some (client, other) → request_of taken ≡ Some asked → taken ≡ Some (client, asked)
same_ask None client asked other is takes = cc
same_ask (Some (own, request)) client asked other is takes = cc

worker_posts : (v : VehicleState) (st : store.StoreState) (c : CoreState) (asked : Request) (out : StepOut Line) (c' : CoreState) → CoreFits c → Tied v st c → request_of c.taken ≡ Some asked → CoreStep c actor.Worker (Some (reply_to Well st asked)) out c' → Next v out (after Well st asked) c'
worker_posts v st c asked (Made (Served client given)) c' fits tied takes (step, links, nav) =
    let had : c.taken ≡ Some (client, asked) = same_ask c.taken client asked step.request step.had takes in
    let same : step.request ≡ asked = cc (step.had) in
    let reply : Reply = reply_to Well st asked in
    let next = serves_next v st c client asked fits tied had in
    of_parts (Next v (Made (Served client given)) (after Well st asked)) c' (with_board c.shared (answered c.shared.board client (asked_of asked) reply)) None c.links c.nav (step.shared ∙ ap (λ r. with_board c.shared (answered c.shared.board client (asked_of r) reply)) same) step.worker links nav
    (subst (λ g. Next v (Made (Served client g)) (after Well st asked) (worked c (answered c.shared.board client (asked_of asked) reply) None)) (sym step.line) next)
worker_posts v st c asked out c' fits tied takes (step, links, nav) = absurd step

worker_turn : (v : VehicleState) (st : store.StoreState) (c : CoreState) (asked : Option Request) (out : StepOut Line) (c' : CoreState) (st' : store.StoreState) → CoreFits c → Tied v st c → request_of c.taken ≡ asked → WorkerTurn asked c st out c' st' → Next v out st' c'
worker_turn v st c None out c' st' fits tied takes (step, stays) = subst (λ x. Next v out x c') (sym stays) (worker_takes v st c out c' fits tied step)
worker_turn v st c (Some asked) out c' st' fits tied takes (step, stays) = subst (λ x. Next v out x c') (sym stays) (worker_posts v st c asked out c' fits tied takes step)

link_turn : (v : VehicleState) (st : store.StoreState) (c : CoreState) (number : ℕ) (found : Option LinkState) (out : StepOut Line) (c' : CoreState) → CoreFits c → Tied v st c → slice_get c.links number ≡ found → LinkMovesIf found c number out c' → Next v out st c'
link_turn v st c number None out c' fits tied at (idle, stays) = subst (λ o. Next v o st c') (sym idle) (subst (Next v Idle st) (sym stays) tied)
link_turn v st c number (Some l) out c' fits tied at moves =
    of_parts (Next v out st) c' c'.shared c.taken (linked c c'.shared number moves.new).links c.nav refl moves.taken moves.links moves.nav (link_next v st c number l out c'.shared moves.new fits tied at moves.step)

nav_turn : (v : VehicleState) (st : store.StoreState) (c : CoreState) (out : StepOut Line) (c' : CoreState) → CoreFits c → Tied v st c → CoreStep c actor.Nav None out c' → Next v out st c'
nav_turn v st c out c' fits tied (step, taken, links) =
    of_parts (Next v out st) c' c'.shared c.taken c.links c'.nav refl taken links refl (nav_next v st c out c'.shared c'.nav fits tied step)

-- one actor's turn
pub turn_next : (v : VehicleState) (st : store.StoreState) (c : CoreState) (who : Actor) (out : StepOut Line) (c' : CoreState) (st' : store.StoreState) → CoreFits c → Tied v st c → Turn c st who out c' st' → Next v out st' c'
turn_next v st c actor.Worker out c' st' fits tied turn = worker_turn v st c (request_of c.taken) out c' st' fits tied refl turn
turn_next v st c (actor.Link number) out c' st' fits tied (step, stays) = subst (λ x. Next v out x c') (sym stays) (link_turn v st c number (slice_get c.links number) out c' fits tied refl step)
turn_next v st c actor.Nav out c' st' fits tied (step, stays) = subst (λ x. Next v out x c') (sym stays) (nav_turn v st c out c' fits tied step)
turn_next v st c (actor.Watch number) out c' st' fits tied ((idle, same), stays) = subst (λ x. Next v out x c') (sym stays) (subst (λ o. Next v o st c') (sym idle) (subst (Next v Idle st) (sym same) tied))

-- the store's reply suits the request, so the parts of the core fit one another after the turn
found_suits : (kind : PlanType) (id seq now : ℕ) (found : Option Item) → ReplySuits (request.Read kind id seq) (found_reply now found)
found_suits kind id seq now None = tt
found_suits kind id seq now (Some item) = tt

read_suits : (kind : PlanType) (id seq : ℕ) (plan : store.StoredPlan) (own : Bool) → ReplySuits (request.Read kind id seq) (if own then found_reply plan.id (slice_get plan.items seq) else reply.Stale plan.id)
read_suits kind id seq plan true = found_suits kind id seq plan.id (slice_get plan.items seq)
read_suits kind id seq plan false = tt

commit_suits : (kind : PlanType) (id count generation : ℕ) (last : Bool) → ReplySuits (request.Commit kind id count) (if last then reply.Spent generation else reply.Done)
commit_suits kind id count generation true = tt
commit_suits kind id count generation false = tt

mark_suits : (mark : Mark) (now generation : ℕ) (own last : Bool) → ReplySuits (request.SetMark mark) (if own then (if last then reply.Spent generation else reply.Done) else reply.Stale now)
mark_suits mark now generation true true = tt
mark_suits mark now generation true false = tt
mark_suits mark now generation false last = tt

pub reply_suits : (st : store.StoreState) (asked : Request) → ReplySuits asked (reply_to Well st asked)
reply_suits st (request.Read kind id seq) = let plan = store.plan_of (store.settled st) kind in read_suits kind id seq plan (plan.id == id)
reply_suits st (request.Write kind id seq item) = tt
reply_suits st (request.Commit kind id count) = let generation = (store.of_kind (store.settled st) kind).generation in commit_suits kind id count generation (generation == LAST_GENERATION)
reply_suits st (request.SetMark mark) = mark_suits mark st.mission.plan.id st.mark_generation (st.mission.plan.id == mark.id) (st.mark_generation == LAST_GENERATION)

worker_fits : (stay : PartsStay) (st : store.StoreState) (c : CoreState) (asked : Option Request) (out : StepOut Line) (c' : CoreState) (st' : store.StoreState) → CoreFits c → request_of c.taken ≡ asked → WorkerTurn asked c st out c' st' → CoreFits c'
worker_fits stay st c None out c' st' fits takes (step, stays) = stay c actor.Worker None out c' fits (subst (λ r. InputSuits r None) (sym takes) tt) step
worker_fits stay st c (Some asked) out c' st' fits takes (step, stays) = stay c actor.Worker (Some (reply_to Well st asked)) out c' fits (subst (λ r. InputSuits r (Some (reply_to Well st asked))) (sym takes) (reply_suits st asked)) step

pub turn_fits : (stay : PartsStay) (st : store.StoreState) (c : CoreState) (who : Actor) (out : StepOut Line) (c' : CoreState) (st' : store.StoreState) → CoreFits c → Turn c st who out c' st' → CoreFits c'
turn_fits stay st c actor.Worker out c' st' fits turn = worker_fits stay st c (request_of c.taken) out c' st' fits refl turn
turn_fits stay st c (actor.Link number) out c' st' fits (step, stays) = stay c (actor.Link number) None out c' fits refl step
turn_fits stay st c actor.Nav out c' st' fits (step, stays) = stay c actor.Nav None out c' fits refl step
turn_fits stay st c (actor.Watch number) out c' st' fits (step, stays) = stay c (actor.Watch number) None out c' fits refl step

-- a vehicle that the lines lead to, tied to core and store, whose parts fit one another
pub record Reached (v : VehicleState) (lines : List Line) (c : CoreState) (st : store.StoreState) : Type 0 where
  pub last : VehicleState
  pub led : Lines (Some v) lines (Some last)
  pub fits : CoreFits c
  pub tied : Tied last st c

-- before the lines that follow, those of one turn
before : (v : VehicleState) (out : StepOut Line) (rest lines : List Line) (c m : CoreState) (st m_st : store.StoreState) → Next v out m_st m → ((v' : VehicleState) → Tied v' m_st m → Reached v' rest c st) → lines ≡ line_of out ++ rest → Reached v lines c st
before v (Made line) rest lines c m st m_st next more is =
    let after = more next.0 next.2 in
    record { last = after.last; led = subst (λ l. Lines (Some v) l (Some after.last)) (sym is) (Some next.0, next.1, after.led); fits = after.fits; tied = after.tied }
before v Idle rest lines c m st m_st next more is =
    let after = more v next in
    record { last = after.last; led = subst (λ l. Lines (Some v) l (Some after.last)) (sym is) after.led; fits = after.fits; tied = after.tied }

-- whatever turns the actors take, their lines lead to a vehicle that is tied to core and store
pub acts_reach : (stay : PartsStay) (actors : List Actor) (v : VehicleState) (c : CoreState) (st : store.StoreState) (lines : List Line) (c' : CoreState) (st' : store.StoreState) → CoreFits c → Tied v st c → Acts c st actors lines c' st' → Reached v lines c' st'
acts_reach stay [] v c st lines c' st' fits tied (none, same, same_st) = record {
  last = v;
  led = subst (λ l. Lines (Some v) l (Some v)) (sym none) refl;
  fits = subst CoreFits (sym same) fits;
  tied = subst (λ x. Tied v x c') (sym same_st) (subst (Tied v st) (sym same) tied);
}
acts_reach stay (who ∷ actors) v c st lines c' st' fits tied (out, m, m_st, rest, turn, acts, is) =
    before v out rest lines c' m st' m_st (turn_next v st c who out m m_st fits tied turn) (λ v' tied'. acts_reach stay actors v' m m_st rest c' st' (turn_fits stay st c who out m m_st fits turn) tied' acts) is

pub rounds_reach : (stay : PartsStay) (round : List Actor) (n : ℕ) (v : VehicleState) (c : CoreState) (st : store.StoreState) (lines : List Line) (c' : CoreState) (st' : store.StoreState) → CoreFits c → Tied v st c → Rounds round n c st lines c' st' → Reached v lines c' st'
rounds_reach stay round zero v c st lines c' st' fits tied rounds = acts_reach stay [] v c st lines c' st' fits tied rounds
rounds_reach stay round (suc n) v c st lines c' st' fits tied (first, m, m_st, rest, acts, some, rounds, is) =
    let here = acts_reach stay round v c st first m m_st fits tied acts in
    let after = rounds_reach stay round n here.last m m_st rest c' st' here.fits here.tied rounds in
    record { last = after.last; led = subst (λ l. Lines (Some v) l (Some after.last)) (sym is) (Lines-join first rest (Some v) (Some here.last) (Some after.last) here.led after.led); fits = after.fits; tied = after.tied }

-- of another actor than the worker, a step of the core is its turn
pub turn_other : (c : CoreState) (st : store.StoreState) (who : Actor) (out : StepOut Line) (c' : CoreState) → who ≢ actor.Worker → CoreStep c who None out c' → Turn c st who out c' st
turn_other c st actor.Worker out c' other step = absurd (other refl)
turn_other c st (actor.Link number) out c' other step = (step, refl)
turn_other c st actor.Nav out c' other step = (step, refl)
turn_other c st (actor.Watch number) out c' other step = (step, refl)

-- after a turn there is still a vehicle that is tied to core and store
last_tied : (v : VehicleState) (out : StepOut Line) (c : CoreState) (st : store.StoreState) → CoreFits c → Next v out st c → IsSound c st
last_tied v (Made line) c st fits next = record { vehicle = next.0; fits = fits; tied = next.2 }
last_tied v Idle c st fits next = record { vehicle = v; fits = fits; tied = next }

pub turn_sound : (c : CoreState) (st : store.StoreState) (who : Actor) (out : StepOut Line) (c' : CoreState) (st' : store.StoreState) → IsSound c st → Turn c st who out c' st' → CoreFits c' → IsSound c' st'
turn_sound c st who out c' st' sound turn fits = last_tied sound.vehicle out c' st' fits (turn_next sound.vehicle st c who out c' st' sound.fits sound.tied turn)
