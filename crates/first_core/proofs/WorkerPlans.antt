-- After the worker's step the requests that wait, the plan ids and the published mission fit one another still.
use Rattle.std.proofs.Common.{◌≡◌, ◌≢◌, ℕ, ◌<◌, ◌≤◌, List, ◌∷◌, length, Option, Some, None, refl, sym, ◌∙◌, ap, arith, subst, get_or, length-set}
use Rattle.std.specs.Prelude.{slice_get, slice_index_or, IfSome}
use Rattle.std.specs.List.{All}
use Rattle.std.proofs.lemmas.Bool.Decides.{nat_tests}
use Rattle.std.proofs.lemmas.List.Elements.{All-head, All-tail}
use Rattle.std.proofs.lemmas.Option.{slice_get_within, get_or_from_slice_get}
use Rattle.std.proofs.lemmas.Grind.{get_or-set_at}
use Rattle.first_model.specs.declared.plan.PlanHead.{PlanHead}
use Rattle.first_model.specs.declared.plan.PlanType.TheVariants.{Mission, Fence, Safe}
use Rattle.first_model.specs.declared.request.Client.{Client}
use Rattle.first_model.specs.declared.request.Client.TheVariants.{Nav, Link, Watch}
use Rattle.first_model.specs.declared.request.Request.{Request}
use Rattle.first_model.specs.declared.request.Request.TheVariants as request
use Rattle.first_model.specs.declared.request.Asked.TheVariants as about
use Rattle.first_model.specs.declared.request.Reply.{Reply}
use Rattle.first_model.specs.declared.request.Reply.TheVariants as reply
use Rattle.first_model.specs.declared.flight_line.Line.{Line}
use Rattle.first_model.specs.declared.flight_line.Line.TheVariants as line
use Rattle.first_board.specs.BoardState.{asks_of, serving, outstanding, posted}
use Rattle.first_board.specs.BoardCalls as board
use Rattle.first_core.specs.declared.StepOut.{StepOut}
use Rattle.first_core.specs.declared.StepOut.TheVariants.{Made, Idle}
use Rattle.first_core.specs.declared.link.Session.{Session}
use Rattle.first_core.specs.declared.link.Session.TheVariants as session
use Rattle.first_core.specs.SharedState.{SharedState, with_board, no_head, mission_head, last_id}
use Rattle.first_core.specs.LinkState.{LinkState, LinkFits, SessionFits, session_out}
use Rattle.first_core.specs.NavState.{NavState}
use Rattle.first_core.specs.WorkerLaw as worker
use Rattle.first_core.specs.PlansFit.{PlansFit, AskFits, LinkAsks, NavAsks, IsAwaited, IsNewer, SessionIdFits}
use Rattle.first_core.specs.CoreState.{CoreState, CoreFits}
use Rattle.first_core.proofs.Servable.{Uploading-within}
use Rattle.first_core.proofs.PlansKept.{IsOther, asks_of-none, SessionIdFits-later, PlansFit-same}

-- the first request that waits is taken
plans_taken : (s s' : SharedState) (links : List LinkState) (n : NavState) (first : Client × Request) → PlansFit s links n → s.board.waiting ≡ first ∷ s'.board.waiting → s' ≡ with_board s (board.taken s.board first s'.board.waiting) → PlansFit s' links n
plans_taken s s' links n first fits waits takes =
    let published : s'.board.published ≡ s.board.published = ap (λ (x : SharedState). x.board.published) takes in
    let ids : s'.ids ≡ s.ids = ap (λ (x : SharedState). x.ids) takes in
    let head : mission_head s' ≡ mission_head s = ap (λ heads. slice_index_or heads 0 no_head) published in
    let last : last_id s' ≡ last_id s = ap (λ used. slice_index_or used 0 0) ids in
    let serves : s'.board.service ≡ Some first = ap (λ (x : SharedState). x.board.service) takes in
    let all : All (AskFits (mission_head s) links) (first ∷ s'.board.waiting) = subst (All (AskFits (mission_head s) links)) waits fits.waiting in
    record {
      heads = rw published fits.heads;
      ids = rw ids fits.ids;
      head = rw head fits.head;
      waiting = rw head (All-tail (AskFits (mission_head s) links) first s'.board.waiting all);
      service = rw (serves, head) (All-head (AskFits (mission_head s) links) first s'.board.waiting all);
      sessions = λ k d within. SessionIdFits-later s s' head (omega (arith, last)) (get_or links k d).session (fits.sessions k d within);
      flown = rw head fits.flown;
      same = rw head fits.same;
      used = rw (head, last) fits.used;
    }

-- a read of a mission that was in force is one under an earlier id once a newer one is in force
NavAsks-newer : (head new : PlanHead) (asked : Request) → head.id < new.id → NavAsks head asked → NavAsks new asked
NavAsks-newer head new (request.Read Mission id seq) newer (earlier, within) = (omega (arith, earlier, newer), λ same. absurd (omega (arith, same, earlier, newer)))
NavAsks-newer head new (request.Read Fence id seq) newer fits = fits
NavAsks-newer head new (request.Read Safe id seq) newer fits = fits
NavAsks-newer head new (request.Write kind id seq item) newer fits = fits
NavAsks-newer head new (request.Commit kind id count) newer fits = fits
NavAsks-newer head new (request.SetMark mark) newer fits = fits

link_there : (links : List LinkState) (head : PlanHead) (k : ℕ) (asked : Request) (found : Option LinkState) → slice_get links k ≡ found → LinkAsks head found asked → k < length links
link_there links head k asked None at fits = absurd fits
link_there links head k asked (Some l) at fits = slice_get_within links k l at

-- of one link alone no other request than the one in service waits, so those that wait fit the newer mission
AskFits-newer : (head new : PlanHead) (links : List LinkState) (number : ℕ) (ask : Client × Request) → length links ≤ 1 → number < length links → head.id < new.id → IsOther (Link number) ask → AskFits head links ask → AskFits new links ask
AskFits-newer head new links number (Nav, asked) one below newer other fits = NavAsks-newer head new asked newer fits
AskFits-newer head new links number (Watch watch, asked) one below newer other fits = fits
AskFits-newer head new links number (Link k, asked) one below newer other fits =
    let there : k < length links = link_there links head k asked (slice_get links k) refl fits in
    let apart : k ≢ number = grind (arith, nat_tests, other) in
    absurd (apart (omega (arith, one, below, there)))

own_serving : (number : ℕ) (asked : Request) → serving (Link number) (Some (Link number, asked)) ≡ 1
own_serving number asked = grind (arith, nat_tests)

-- a commit is done: its mission is in force
plans_committed : (s : SharedState) (links : List LinkState) (n : NavState) (number id count : ℕ) (l : LinkState) → PlansFit s links n → length links ≤ 1 → slice_get links number ≡ Some l → l.number ≡ number → LinkFits s l → l.session ≡ session.Committing id count → s.board.service ≡ Some (Link number, request.Commit Mission id count) → (mission_head s).id < id → PlansFit (with_board s (board.answered s.board (Link number) (about.Commit Mission id count) reply.Done)) links n
plans_committed s links n number id count l fits one at is link committing serves newer =
    let s' : SharedState = with_board s (board.answered s.board (Link number) (about.Commit Mission id count) reply.Done) in
    let made : PlanHead = record { id = id; count = count } in
    let below : number < length links = slice_get_within links number l at in
    let head : mission_head s' ≡ made = get_or-set_at s.board.published 0 0 made no_head refl (rw fits.heads (omega arith)) in
    let fit : SessionFits l.schedule (session.Committing id count) = subst (SessionFits l.schedule) committing link.session in
    let out : outstanding s.board (Link number) ≡ 1 = rw (← is) (link.outstanding ∙ ap session_out committing) in
    let counts : serving (Link number) s.board.service ≡ 1 = ap (serving (Link number)) serves ∙ own_serving number (request.Commit Mission id count) in
    let none : asks_of (Link number) s.board.waiting ≡ 0 = omega (arith, out, counts) in
    let others = asks_of-none (Link number) s.board.waiting none in
    let session_at : (k : ℕ) (d : LinkState) → k < length links → (get_or links k d).session ≡ session.Committing id count = λ k d within.
    let same : k ≡ number = omega (arith, one, below, within) in
    let here : get_or links k d ≡ l = subst (λ (i : ℕ). get_or links i d ≡ l) (sym same) (get_or_from_slice_get links number l d at) in
    ap (λ (x : LinkState). x.session) here ∙ committing in
    let used : id ≤ last_id s = subst (SessionIdFits s) (session_at number l below) (fits.sessions number l below) in
    record {
      heads = length-set s.board.published 0 made ∙ fits.heads;
      ids = fits.ids;
      head = rw head (Uploading-within l.schedule.inputs count fit.0 link.inputs).1;
      waiting = λ k d within. rw head (AskFits-newer (mission_head s) made links number (get_or s.board.waiting k d) one below newer (others k d within) (fits.waiting k d within));
      service = tt;
      sessions = λ k d within. subst (SessionIdFits s') (sym (session_at k d within)) used;
      flown = rw head (omega (arith, fits.flown, newer));
      same = λ e. absurd (omega (arith, fits.flown, newer, sym (ap (λ (x : PlanHead). x.id) head) ∙ sym e));
      used = rw head used;
    }

-- a commit is served: where it is not done, no head changes
plans_commit_served : (s : SharedState) (links : List LinkState) (n : NavState) (number id count : ℕ) (l : LinkState) (given : Reply) → PlansFit s links n → length links ≤ 1 → slice_get links number ≡ Some l → l.number ≡ number → LinkFits s l → l.session ≡ session.Committing id count → s.board.service ≡ Some (Link number, request.Commit Mission id count) → worker.ReplySuits (request.Commit Mission id count) given → (mission_head s).id < id → PlansFit (with_board s (board.answered s.board (Link number) (about.Commit Mission id count) given)) links n
plans_commit_served s links n number id count l reply.Done fits one at is link committing serves suits newer = plans_committed s links n number id count l fits one at is link committing serves newer
plans_commit_served s links n number id count l (reply.Spent last) fits one at is link committing serves suits newer = PlansFit-same s (with_board s (board.answered s.board (Link number) (about.Commit Mission id count) (reply.Spent last))) links n n fits tt refl refl refl refl refl
plans_commit_served s links n number id count l (reply.Item item) fits one at is link committing serves suits newer = absurd suits
plans_commit_served s links n number id count l (reply.Stale now) fits one at is link committing serves suits newer = absurd suits
plans_commit_served s links n number id count l reply.DiskFailed fits one at is link committing serves suits newer = absurd suits
plans_commit_served s links n number id count l reply.PowerOff fits one at is link committing serves suits newer = absurd suits

-- the request of a link is served
plans_link_served : (s : SharedState) (links : List LinkState) (n : NavState) (number : ℕ) (l : LinkState) (current : Session) (asked : Request) (given : Reply) → PlansFit s links n → length links ≤ 1 → slice_get links number ≡ Some l → l.number ≡ number → LinkFits s l → l.session ≡ current → s.board.service ≡ Some (Link number, asked) → worker.ReplySuits asked given → IsAwaited l.schedule.inputs current asked → IsNewer (mission_head s) asked → PlansFit (with_board s (board.answered s.board (Link number) (board.asked_of asked) given)) links n
plans_link_served s links n number l (session.Writing id count seq) (request.Write Mission other place item) given fits one at is link was serves suits awaited newer = PlansFit-same s (with_board s (board.answered s.board (Link number) (about.Write Mission other place) given)) links n n fits tt refl refl refl refl refl
plans_link_served s links n number l (session.Committing id count) (request.Commit Mission other total) given fits one at is link was serves suits (same, counts) newer =
    plans_commit_served s links n number other total l given fits one at is link (was ∙ sym (λ k. session.Committing (same k) (counts k))) serves suits newer
plans_link_served s links n number l current asked given fits one at is link was serves suits awaited newer = absurd awaited

plans_link_found : (s : SharedState) (links : List LinkState) (n : NavState) (number : ℕ) (found : Option LinkState) (asked : Request) (given : Reply) → PlansFit s links n → length links ≤ 1 → ((k : ℕ) (d : LinkState) → k < length links → ((get_or links k d).number ≡ k) × LinkFits s (get_or links k d)) → slice_get links number ≡ found → s.board.service ≡ Some (Link number, asked) → worker.ReplySuits asked given → LinkAsks (mission_head s) found asked → PlansFit (with_board s (board.answered s.board (Link number) (board.asked_of asked) given)) links n
plans_link_found s links n number None asked given fits one each at serves suits ask = absurd ask
plans_link_found s links n number (Some l) asked given fits one each at serves suits (awaited, newer) =
    let below : number < length links = slice_get_within links number l at in
    let here : get_or links number l ≡ l = get_or_from_slice_get links number l l at in
    let fit : (l.number ≡ number) × LinkFits s l = subst (λ (x : LinkState). (x.number ≡ number) × LinkFits s x) here (each number l below) in
    plans_link_served s links n number l l.session asked given fits one at fit.0 fit.1 refl serves suits awaited newer

-- a read of the Navigator is served
plans_nav_served : (s : SharedState) (links : List LinkState) (n : NavState) (asked : Request) (given : Reply) → PlansFit s links n → NavAsks (mission_head s) asked → PlansFit (with_board s (board.answered s.board Nav (board.asked_of asked) given)) links n
plans_nav_served s links n (request.Read kind id seq) given fits ask = PlansFit-same s (with_board s (board.answered s.board Nav (about.Read kind id seq) given)) links n n fits tt refl refl refl refl refl
plans_nav_served s links n (request.Write kind id seq item) given fits ask = absurd ask
plans_nav_served s links n (request.Commit kind id count) given fits ask = absurd ask
plans_nav_served s links n (request.SetMark mark) given fits ask = absurd ask

-- the request in service is served
plans_served : (s : SharedState) (links : List LinkState) (n : NavState) (client : Client) (asked : Request) (given : Reply) → PlansFit s links n → length links ≤ 1 → ((k : ℕ) (d : LinkState) → k < length links → ((get_or links k d).number ≡ k) × LinkFits s (get_or links k d)) → s.board.service ≡ Some (client, asked) → worker.ReplySuits asked given → AskFits (mission_head s) links (client, asked) → PlansFit (with_board s (board.answered s.board client (board.asked_of asked) given)) links n
plans_served s links n Nav asked given fits one each serves suits ask = plans_nav_served s links n asked given fits ask
plans_served s links n (Watch watch) asked given fits one each serves suits ask = absurd ask
plans_served s links n (Link number) asked given fits one each serves suits ask = plans_link_found s links n number (slice_get links number) asked given fits one each refl serves suits ask

-- the worker moved by its law
pub plans_worker : (c : CoreState) (s' : SharedState) (w' : Option (Client × Request)) (given : Option Reply) (out : StepOut Line) → CoreFits c → worker.InputSuits (worker.request_of c.taken) given → worker.WorkerStep c.shared c.taken given out s' w' → PlansFit s' c.links c.nav
plans_worker c s' w' None (Made (line.Took client asked)) fits suits step = plans_taken c.shared s' c.links c.nav (client, step.request) fits.plans step.first step.shared
plans_worker c s' w' (Some given) (Made (line.Served client posted)) fits suits step =
    let serves : c.shared.board.service ≡ Some (client, step.request) = fits.service ∙ step.had in
    let ask : AskFits (mission_head c.shared) c.links (client, step.request) = subst (λ (service : Option (Client × Request)). IfSome service (AskFits (mission_head c.shared) c.links)) serves fits.plans.service in
    let suits' : worker.ReplySuits step.request given = subst (λ (w : Option (Client × Request)). worker.InputSuits (worker.request_of w) (Some given)) step.had suits in
    rw step.shared (plans_served c.shared c.links c.nav client step.request given fits.plans fits.one fits.each serves suits' ask)
plans_worker c s' w' None Idle fits suits step = rw step.shared fits.plans
plans_worker c s' w' given out fits suits step = absurd step
