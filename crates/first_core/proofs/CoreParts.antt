-- The parts of a core fit one another after each step, by the actors' laws alone.
use Rattle.std.proofs.Common.{◌≡◌, ℕ, ◌+◌, ◌<◌, List, [], ◌∷◌, ◌++◌, length, Option, Some, None, refl, sym, ap, ◌∙◌, subst, arith, get_or, set, length-set, length-append}
use Rattle.std.specs.Prelude.{slice_get, slice_index_or, IfSome}
use Rattle.std.proofs.lemmas.Bool.Decides.{nat_tests}
use Rattle.std.proofs.lemmas.Grind.{get_or-set_at}
use Rattle.std.proofs.lemmas.List.{get_or-set_same}
use Rattle.std.proofs.lemmas.Option.{slice_get_within, get_or_from_slice_get}
use Rattle.first_model.specs.declared.request.Client.{Client}
use Rattle.first_model.specs.declared.request.Client.TheVariants.{Nav, Link, Watch}
use Rattle.first_model.specs.declared.request.Request.{Request}
use Rattle.first_model.specs.declared.request.Asked.{Asked}
use Rattle.first_model.specs.declared.request.Reply.{Reply}
use Rattle.first_model.specs.declared.flight_line.Actor.TheVariants as actor
use Rattle.first_model.specs.declared.flight_line.Line.{Line}
use Rattle.first_model.specs.declared.flight_line.Line.TheVariants as line
use Rattle.first_board.specs.BoardState.{BoardState, asks_of, serving, outstanding, posted}
use Rattle.first_board.specs.BoardCalls.{asked_of, taken, answered}
use Rattle.first_core.specs.declared.StepOut.{StepOut}
use Rattle.first_core.specs.declared.StepOut.TheVariants.{Made, Idle}
use Rattle.first_core.specs.SharedState.{SharedState, with_board, mission_head}
use Rattle.first_core.specs.LinkState.{LinkState, LinkFits}
use Rattle.first_core.specs.NavState.{NavState, NavFits}
use Rattle.first_core.specs.NavLaw as nav
use Rattle.first_core.specs.LinkLaw as link
use Rattle.first_core.specs.WorkerLaw as worker
use Rattle.first_core.specs.PlansFit.{PlansFit, AskFits, LinkAsks}
use Rattle.first_core.specs.CoreState.{CoreState, CoreFits}
use Rattle.first_core.specs.CoreLaw.{LinkMovesIf}
use Rattle.first_core.specs.PartsLaw.{PartsStay}
use Rattle.first_core.proofs.CoreStays.{LinkFits-counts}
use Rattle.first_core.proofs.LinkPlans.{plans_link}
use Rattle.first_core.proofs.NavPlans.{plans_nav}
use Rattle.first_core.proofs.WorkerPlans.{plans_worker}
use Rattle.first_core.proofs.NavParts.{IsApart, nav_parts}
use Rattle.first_core.proofs.LinkParts.{LinkMade, link_parts}

-- a core from its parts
of_parts : (c : CoreState) (s : SharedState) (w : Option (Client × Request)) (links : List LinkState) (n : NavState) → c.shared ≡ s → c.taken ≡ w → c.links ≡ links → c.nav ≡ n → CoreFits (record { shared = s; taken = w; links = links; nav = n }) → CoreFits c
of_parts c s w links n es ew el en fits = rw (← es, ← ew, ← el, ← en) at fits

-- the worker or the Navigator moved: each link has as many requests outstanding as before
others_fit : (c : CoreState) (s' : SharedState) (w' : Option (Client × Request)) (n' : NavState) → CoreFits c → NavFits n' → s'.board.service ≡ w' → length s'.board.link_posted ≡ length c.shared.board.link_posted → ((k : ℕ) → k < length c.links → outstanding s'.board (Link k) ≡ outstanding c.shared.board (Link k)) → PlansFit s' c.links n' → CoreFits (record { shared = s'; taken = w'; links = c.links; nav = n' })
others_fit c s' w' n' fits own service places counts plans = record {
  service = service;
  links = places ∙ fits.links;
  one = fits.one;
  each = λ k d below.
      let was = fits.each k d below in
      (was.0, LinkFits-counts c.shared s' (get_or c.links k d) was.1 (subst (λ i. outstanding s'.board (Link i) ≡ outstanding c.shared.board (Link i)) (sym was.0) (counts k below)));
  nav = own;
  plans = plans;
}

-- the Navigator moved
nav_fits : (c : CoreState) (s' : SharedState) (n' : NavState) (out : StepOut Line) → CoreFits c → nav.NavStep c.shared c.nav out s' n' → CoreFits (record { shared = s'; taken = c.taken; links = c.links; nav = n' })
nav_fits c s' n' out fits step =
    let parts = nav_parts c.shared s' c.nav n' out fits.nav fits.plans.head step in
    let apart : IsApart c.shared s' = parts.1 in
    others_fit c s' c.taken n' fits parts.0 (apart.service ∙ fits.service) (ap length apart.posted)
    (λ k below. omega (arith, apart.asks k, ap (serving (Link k)) apart.service, ap (λ xs. length (slice_index_or xs k [])) apart.posted))
    (plans_nav c.shared s' c.links c.nav n' out fits.plans fits.nav step)

-- a link moved
link_fits : (c : CoreState) (number : ℕ) (l : LinkState) (out : StepOut Line) (s' : SharedState) (l' : LinkState) → CoreFits c → slice_get c.links number ≡ Some l → link.LinkStep c.shared l out s' l' → CoreFits (record { shared = s'; taken = c.taken; links = set c.links number l'; nav = c.nav })
link_fits c number l out s' l' fits at step =
    let below = slice_get_within c.links number l at in
    let here : get_or c.links number l ≡ l = get_or_from_slice_get c.links number l l at in
    let was : (l.number ≡ number) × LinkFits c.shared l = subst (λ (x : LinkState). (x.number ≡ number) × LinkFits c.shared x) here (fits.each number l below) in
    let made : LinkMade c.shared l s' l' = link_parts c.shared l out s' l' was.1 (omega (arith, was.0, below, fits.links)) step in
    let long : length (set c.links number l') ≡ length c.links = length-set c.links number l' in
    record {
      service = made.service ∙ fits.service;
      links = made.places ∙ fits.links ∙ sym long;
      one = omega (arith, long, fits.one);
      each = λ k d within.
          let same : k ≡ number = omega (arith, within, long, below, fits.one) in
          let there : get_or (set c.links number l') k d ≡ l' = get_or-set_at c.links number k l' d same below in
          subst (λ (x : LinkState). (x.number ≡ k) × LinkFits s' x) (sym there) (made.number ∙ was.0 ∙ sym same, made.fits);
      nav = fits.nav;
      plans = plans_link c.shared s' c.links c.nav number l l' out fits.plans below (sym here) was.0 was.1 step;
    }

-- the first request that waits is in service
takes_fits : (c : CoreState) (client : Client) (asked : Request) (rest : List (Client × Request)) → CoreFits c → c.taken ≡ None → c.shared.board.waiting ≡ (client, asked) ∷ rest → PlansFit (with_board c.shared (taken c.shared.board (client, asked) rest)) c.links c.nav → CoreFits (record { shared = with_board c.shared (taken c.shared.board (client, asked) rest); taken = Some (client, asked); links = c.links; nav = c.nav })
takes_fits c client asked rest fits free waits plans =
    others_fit c (with_board c.shared (taken c.shared.board (client, asked) rest)) (Some (client, asked)) c.nav fits fits.nav refl refl
    (λ k below. omega (arith, ap (asks_of (Link k)) waits, ap (serving (Link k)) (fits.service ∙ free))) plans

own_serving : (number : ℕ) (asked : Request) → serving (Link number) (Some (Link number, asked)) ≡ 1
own_serving number asked = grind (arith, nat_tests)

found_below : (links : List LinkState) (k : ℕ) (found : Option LinkState) (asked : Request) (c : CoreState) → slice_get links k ≡ found → LinkAsks (mission_head c.shared) found asked → k < length links
found_below links k None asked c at ask = absurd ask
found_below links k (Some l) asked c at ask = slice_get_within links k l at

-- a reply is posted in the place of the request in service
posted_counts : (c : CoreState) (client : Client) (asked : Request) (given : Reply) → CoreFits c → c.taken ≡ Some (client, asked) → AskFits (mission_head c.shared) c.links (client, asked) → (k : ℕ) → k < length c.links → outstanding (answered c.shared.board client (asked_of asked) given) (Link k) ≡ outstanding c.shared.board (Link k)
posted_counts c Nav asked given fits had ask k below = omega (arith, ap (serving (Link k)) (fits.service ∙ had))
posted_counts c (Watch number) asked given fits had ask k below = absurd ask
posted_counts c (Link number) asked given fits had ask k below =
    let there = found_below c.links number (slice_get c.links number) asked c refl ask in
    let same : number ≡ k = omega (arith, there, below, fits.one) in
    let b : BoardState = answered c.shared.board (Link number) (asked_of asked) given in
    let replies : List (Asked × Reply) = posted c.shared.board (Link number) ++ (asked_of asked, given) ∷ [] in
    let more : length (posted b (Link number)) ≡ length (posted c.shared.board (Link number)) + 1 = ap length (get_or-set_same c.shared.board.link_posted number replies [] (omega (arith, there, fits.links))) ∙ length-append (posted c.shared.board (Link number)) ((asked_of asked, given) ∷ []) in
    let served : serving (Link number) c.shared.board.service ≡ 1 = ap (serving (Link number)) (fits.service ∙ had) ∙ own_serving number asked in
    subst (λ i. outstanding b (Link i) ≡ outstanding c.shared.board (Link i)) same (omega (arith, more, served))

places_posted : (b : BoardState) (client : Client) (about : Asked) (given : Reply) → length (answered b client about given).link_posted ≡ length b.link_posted
places_posted b Nav about given = refl
places_posted b (Link number) about given = length-set b.link_posted number (posted b (Link number) ++ (about, given) ∷ [])
places_posted b (Watch number) about given = refl

posts_fits : (c : CoreState) (client : Client) (asked : Request) (given : Reply) → CoreFits c → c.taken ≡ Some (client, asked) → PlansFit (with_board c.shared (answered c.shared.board client (asked_of asked) given)) c.links c.nav → CoreFits (record { shared = with_board c.shared (answered c.shared.board client (asked_of asked) given); taken = None; links = c.links; nav = c.nav })
posts_fits c client asked given fits had plans =
    let ask : AskFits (mission_head c.shared) c.links (client, asked) = subst (λ (service : Option (Client × Request)). IfSome service (AskFits (mission_head c.shared) c.links)) (fits.service ∙ had) fits.plans.service in
    others_fit c (with_board c.shared (answered c.shared.board client (asked_of asked) given)) None c.nav fits fits.nav refl (places_posted c.shared.board client (asked_of asked) given) (posted_counts c client asked given fits had ask) plans

-- the worker moved
worker_fits : (c c' : CoreState) (given : Option Reply) (out : StepOut Line) → CoreFits c → worker.InputSuits (worker.request_of c.taken) given → worker.WorkerStep c.shared c.taken given out c'.shared c'.taken → PlansFit c'.shared c.links c.nav → c'.links ≡ c.links → c'.nav ≡ c.nav → CoreFits c'
worker_fits c c' None (Made (line.Took client asked)) fits suits step plans links own =
    let rest = c'.shared.board.waiting in
    let s : SharedState = with_board c.shared (taken c.shared.board (client, step.request) rest) in
    of_parts c' s (Some (client, step.request)) c.links c.nav step.shared step.worker links own (takes_fits c client step.request rest fits step.free step.first (subst (λ (x : SharedState). PlansFit x c.links c.nav) step.shared plans))
worker_fits c c' (Some given) (Made (line.Served client said)) fits suits step plans links own =
    let s : SharedState = with_board c.shared (answered c.shared.board client (asked_of step.request) given) in
    of_parts c' s None c.links c.nav step.shared step.worker links own (posts_fits c client step.request given fits step.had (subst (λ (x : SharedState). PlansFit x c.links c.nav) step.shared plans))
worker_fits c c' None Idle fits suits step plans links own = of_parts c' c.shared c.taken c.links c.nav step.shared step.worker links own fits
worker_fits c c' given out fits suits step plans links own = absurd step

moves_fits : (c : CoreState) (number : ℕ) (found : Option LinkState) (out : StepOut Line) (c' : CoreState) → CoreFits c → slice_get c.links number ≡ found → LinkMovesIf found c number out c' → CoreFits c'
moves_fits c number None out c' fits at moves = subst CoreFits (sym moves.1) fits
moves_fits c number (Some l) out c' fits at moves = of_parts c' c'.shared c.taken (set c.links number moves.new) c.nav refl moves.taken moves.links moves.nav (link_fits c number l out c'.shared moves.new fits at moves.step)

-- after a step of an actor
pub parts_stay : PartsStay
parts_stay c actor.Worker given out c' fits suits (step, links, own) = worker_fits c c' given out fits suits step (plans_worker c c'.shared c'.taken given out fits suits step) links own
parts_stay c actor.Nav given out c' fits suits (step, taken, links) = of_parts c' c'.shared c.taken c.links c'.nav refl taken links refl (nav_fits c c'.shared c'.nav out fits step)
parts_stay c (actor.Link number) given out c' fits suits step = moves_fits c number (slice_get c.links number) out c' fits refl step
parts_stay c (actor.Watch number) given out c' fits suits (idle, stays) = subst CoreFits (sym stays) fits
