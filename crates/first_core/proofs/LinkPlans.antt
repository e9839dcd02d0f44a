-- After a link's step the requests that wait, the plan ids and the published mission fit one another still.
use Rattle.std.proofs.Common.{◌≡◌, inl, inr, ℕ, ◌+◌, ◌<◌, ◌≤◌, List, [], ◌∷◌, ◌++◌, length, Option, Some, refl, sym, ◌∙◌, ap, arith, subst, get_or, set, length-set, nat_eq}
use Rattle.std.specs.Prelude.{slice_get, slice_index_or}
use Rattle.std.specs.List.{All}
use Rattle.std.proofs.lemmas.List.{append-nil}
use Rattle.std.proofs.lemmas.List.{set-get_or}
use Rattle.std.proofs.lemmas.List.Elements.{All-nil, All-cons, All-append}
use Rattle.std.proofs.lemmas.Option.{slice_get-get_or}
use Rattle.std.proofs.lemmas.Grind.{get_or-set_at}
use Rattle.first_model.specs.declared.plan.PlanType.TheVariants.{Mission}
use Rattle.first_model.specs.declared.request.Client.{Client}
use Rattle.first_model.specs.declared.request.Client.TheVariants.{Link}
use Rattle.first_model.specs.declared.request.Request.{Request}
use Rattle.first_model.specs.declared.request.Request.TheVariants as request
use Rattle.first_model.specs.declared.request.Reply.{Reply}
use Rattle.first_model.specs.declared.request.Reply.TheVariants as reply
use Rattle.first_model.specs.declared.request.Asked.{Asked}
use Rattle.first_model.specs.declared.message.Said.TheVariants as said
use Rattle.first_model.specs.declared.message.Answer.{Answer}
use Rattle.first_model.specs.declared.flight_line.Line.{Line}
use Rattle.first_model.specs.declared.flight_line.Line.TheVariants as line
use Rattle.first_board.specs.BoardState.{asks_of, serving, posted}
use Rattle.first_board.specs.BoardCalls as board
use Rattle.first_core.specs.declared.link.Session.{Session}
use Rattle.first_core.specs.declared.link.Session.TheVariants as session
use Rattle.first_core.specs.declared.StepOut.{StepOut}
use Rattle.first_core.specs.declared.StepOut.TheVariants.{Made, Idle}
use Rattle.first_core.specs.ScheduleState.{begun_on, advanced}
use Rattle.first_core.specs.SharedState.{SharedState, with_board, arrived_at, no_head, mission_head, last_id}
use Rattle.first_core.specs.LinkState.{LinkState, LinkFits, item_at, link_done, session_out}
use Rattle.first_core.specs.LinkLaw as law
use Rattle.first_core.specs.NavState.{NavState}
use Rattle.first_core.proofs.PlansKept.{asks_of-none, serving-none, AskFits-others, AskFits-served, sessions-set, PlansFit-same}
use Rattle.first_core.specs.PlansFit.{PlansFit, AskFits, LinkAsks, IsAwaited, IsNewer, SessionIdFits}

-- a link moved: it had no request that waits or is in service, and asked these
pub link_moves : (s s' : SharedState) (links : List LinkState) (n : NavState) (number : ℕ) (new : LinkState) (asks : List (Client × Request)) → PlansFit s links n → number < length links → asks_of (Link number) s.board.waiting ≡ 0 → serving (Link number) s.board.service ≡ 0 → s'.board.published ≡ s.board.published → s'.board.service ≡ s.board.service → s'.board.waiting ≡ s.board.waiting ++ asks → length s'.ids ≡ 3 → last_id s ≤ last_id s' → SessionIdFits s' new.session → All (AskFits (mission_head s) (set links number new)) asks → PlansFit s' (set links number new) n
link_moves s s' links n number new asks fits below none free published service waiting ids rises own added =
    let head : mission_head s' ≡ mission_head s = ap (λ heads. slice_index_or heads 0 no_head) published in
    record {
      heads = rw published fits.heads;
      ids = ids;
      head = rw head fits.head;
      waiting = rw (waiting, head) (All-append (AskFits (mission_head s) (set links number new)) s.board.waiting asks (AskFits-others (mission_head s) links number new s.board.waiting (asks_of-none (Link number) s.board.waiting none) fits.waiting) added);
      service = rw (service, head) (AskFits-served (mission_head s) links number new s.board.service (serving-none (Link number) s.board.service free) fits.service);
      sessions = λ k d within. sessions-set s s' links number new head rises below own fits.sessions k d (rw (← length-set links number new) within) (nat_eq k number) refl;
      flown = rw head fits.flown;
      same = rw head fits.same;
      used = rw head (omega (arith, fits.used, rises));
    }

-- a link moved, and the shared part did not
link_still : (s : SharedState) (links : List LinkState) (n : NavState) (number : ℕ) (new : LinkState) → PlansFit s links n → number < length links → asks_of (Link number) s.board.waiting ≡ 0 → serving (Link number) s.board.service ≡ 0 → SessionIdFits s new.session → PlansFit s (set links number new) n
link_still s links n number new fits below none free own = link_moves s s links n number new [] fits below none free refl refl (sym (append-nil s.board.waiting)) fits.ids (omega arith) own (All-nil (AskFits (mission_head s) (set links number new)))

-- a link moved and asked
link_asked : (s : SharedState) (links : List LinkState) (n : NavState) (number : ℕ) (new : LinkState) (asked : Request) → PlansFit s links n → number < length links → asks_of (Link number) s.board.waiting ≡ 0 → serving (Link number) s.board.service ≡ 0 → SessionIdFits s new.session → IsAwaited new.schedule.inputs new.session asked → IsNewer (mission_head s) asked → PlansFit (with_board s (board.asked s.board (Link number) asked)) (set links number new) n
link_asked s links n number new asked fits below none free own awaited newer =
    let here : get_or (set links number new) number new ≡ new = get_or-set_at links number number new new refl below in
    let found : slice_get (set links number new) number ≡ Some new = rw (slice_get-get_or (set links number new) number new (rw (length-set links number new) below), here) refl in
    let ask : AskFits (mission_head s) (set links number new) (Link number, asked) = subst (λ (place : Option LinkState). LinkAsks (mission_head s) place asked) (sym found) (awaited, newer) in
    link_moves s (with_board s (board.asked s.board (Link number) asked)) links n number new ((Link number, asked) ∷ []) fits below none free refl refl refl fits.ids (omega arith) own (All-cons (AskFits (mission_head s) (set links number new)) (Link number, asked) [] ask (All-nil (AskFits (mission_head s) (set links number new))))

-- a link that is free, or that takes a reply, has no request that waits or is in service
free_none : (asks served replies : ℕ) → asks + served + replies ≡ 0 → (asks ≡ 0) × (served ≡ 0)
free_none asks served replies h = (omega (arith, h), omega (arith, h))

pub session_out-le : (current : Session) → session_out current ≤ 1
session_out-le session.Free = omega arith
session_out-le (session.Receiving id count seq) = omega arith
session_out-le (session.Writing id count seq) = omega arith
session_out-le (session.Committing id count) = omega arith

heard_none : (asks served replies out : ℕ) → asks + served + replies ≡ out → out ≤ 1 → 0 < replies → (asks ≡ 0) × (served ≡ 0)
heard_none asks served replies out h one some = (omega (arith, h, one, some), omega (arith, h, one, some))

abbrev NoneOf : SharedState → ℕ → Type 0
NoneOf s number = (asks_of (Link number) s.board.waiting ≡ 0) × (serving (Link number) s.board.service ≡ 0)

link_free : (s : SharedState) (l : LinkState) → law.IsFree s l → NoneOf s l.number
link_free s l free = free_none _ _ _ free.outstanding

-- what the link answers to a reply that it took
plans_done : (s s' : SharedState) (links : List LinkState) (n : NavState) (old new : LinkState) (current : Session) (given : Answer) → PlansFit s links n → old.number < length links → NoneOf s old.number → SessionIdFits s current → law.AnswersDone s old current given s' new → PlansFit s' (set links old.number new) n
plans_done s s' links n old new session.Free given fits below none own answers = absurd answers
plans_done s s' links n old new (session.Receiving id count seq) given fits below none own answers = absurd answers
plans_done s s' links n old new (session.Writing id count seq) given fits below none own (inl (more, answer, stays, moves)) =
    rw (stays, moves) (link_still s links n old.number (record old { session = session.Receiving id count (seq + 1) }) fits below none.0 none.1 own)
plans_done s s' links n old new (session.Writing id count seq) given fits below none own (inr (last, answer, asks, moves)) =
    rw (asks, moves) (link_asked s links n old.number (record old { session = session.Committing id count }) (request.Commit Mission id count) fits below none.0 none.1 own.1 (refl, refl) own.0)
plans_done s s' links n old new (session.Committing id count) given fits below none own (answer, stays, moves) =
    rw (stays, moves) (link_still s links n old.number (link_done old) fits below none.0 none.1 tt)

plans_over : (s s' : SharedState) (links : List LinkState) (n : NavState) (old new : LinkState) → PlansFit s links n → old.number < length links → NoneOf s old.number → s' ≡ s → new ≡ link_done old → PlansFit s' (set links old.number new) n
plans_over s s' links n old new fits below none stays moves = rw (stays, moves) (link_still s links n old.number (link_done old) fits below none.0 none.1 tt)

plans_answer : (s s' : SharedState) (links : List LinkState) (n : NavState) (old new : LinkState) (given : Reply) (said : Answer) → PlansFit s links n → old.number < length links → NoneOf s old.number → SessionIdFits s old.session → law.Answers s old given said s' new → PlansFit s' (set links old.number new) n
plans_answer s s' links n old new reply.Done said fits below none own answers = plans_done s s' links n old new old.session said fits below none own answers
plans_answer s s' links n old new (reply.Item item) said fits below none own (answer, stays, moves) = plans_over s s' links n old new fits below none stays moves
plans_answer s s' links n old new (reply.Stale now) said fits below none own (answer, stays, moves) = plans_over s s' links n old new fits below none stays moves
plans_answer s s' links n old new reply.DiskFailed said fits below none own (answer, stays, moves) = plans_over s s' links n old new fits below none stays moves
plans_answer s s' links n old new reply.PowerOff said fits below none own (answer, stays, moves) = plans_over s s' links n old new fits below none stays moves
plans_answer s s' links n old new (reply.Spent last) said fits below none own (answer, stays, moves) = plans_over s s' links n old new fits below none stays moves

plans_heard : (s : SharedState) (links : List LinkState) (n : NavState) (l : LinkState) (rest : List (Asked × Reply)) → PlansFit s links n → PlansFit (law.after_hearing s l rest) links n
plans_heard s links n l rest fits = PlansFit-same s (law.after_hearing s l rest) links n n fits fits.service refl refl refl refl refl

plans_hears : (s s' : SharedState) (links : List LinkState) (n : NavState) (old new : LinkState) (given : Reply) (said : Answer) → PlansFit s links n → old.number < length links → LinkFits s old → SessionIdFits s old.session → law.Hears s old given said s' new → PlansFit s' (set links old.number new) n
plans_hears s s' links n old new given said fits below link own hears =
    let some : 0 < length (posted s.board (Link old.number)) = rw hears.first (omega arith) in
    let none : NoneOf s old.number = heard_none _ _ _ _ link.outstanding (session_out-le old.session) some in
    plans_answer (law.after_hearing s old hears.rest) s' links n old new given said (plans_heard s links n old hears.rest fits) below none own hears.answers

plans_begins : (s s' : SharedState) (links : List LinkState) (n : NavState) (old new : LinkState) (kind count : ℕ) (given : Answer) → PlansFit s links n → old.number < length links → law.Begins s old kind count given s' new → PlansFit s' (set links old.number new) n
plans_begins s s' links n old new kind count given fits below begins =
    let none = link_free s old begins.free in
    let next : SharedState = record s { ids = set s.ids 0 (last_id s + 1) } in
    let last : last_id next ≡ last_id s + 1 = get_or-set_at s.ids 0 0 (last_id s + 1) 0 refl (rw fits.ids (omega arith)) in
    let session_is : new.session ≡ session.Receiving (last_id s + 1) count 0 = rw begins.link refl in
    let own : SessionIdFits next new.session = rw session_is (omega (arith, fits.used), omega (arith, last)) in
    rw begins.shared (link_moves s next links n old.number new [] fits below none.0 none.1 refl refl (sym (append-nil s.board.waiting)) (length-set s.ids 0 (last_id s + 1) ∙ fits.ids) (omega (arith, last)) own (All-nil (AskFits (mission_head s) (set links old.number new))))

plans_writes : (s s' : SharedState) (links : List LinkState) (n : NavState) (old new : LinkState) (seq : ℕ) (given : Answer) → PlansFit s links n → old.number < length links → SessionIdFits s old.session → law.Writes s old seq given s' new → PlansFit s' (set links old.number new) n
plans_writes s s' links n old new seq given fits below own writes =
    let none = link_free s old writes.free in
    let was : SessionIdFits s (session.Receiving writes.id writes.count seq) = subst (SessionIdFits s) writes.session_was own in
    let there : item_at old.schedule.inputs seq ≡ Some writes.item = rw writes.input writes.item_is in
    rw (writes.shared, writes.link) (link_asked s links n old.number (record old { session = session.Writing writes.id writes.count seq }) (request.Write Mission writes.id seq writes.item) fits below none.0 none.1 was (refl, refl, there) tt)

plans_arrived : (s : SharedState) (links : List LinkState) (n : NavState) (place : ℕ) → PlansFit s links n → PlansFit (arrived_at s place) links n
plans_arrived s links n place fits = PlansFit-same s (arrived_at s place) links n n fits fits.service refl refl refl refl refl

plans_link_by : (s s' : SharedState) (links : List LinkState) (n : NavState) (old new : LinkState) (out : StepOut Line) → PlansFit s links n → old.number < length links → old ≡ get_or links old.number old → LinkFits s old → SessionIdFits s old.session → law.LinkStep s old out s' new → PlansFit s' (set links old.number new) n
plans_link_by s s' links n old new (Made (line.Sent number (said.Count kind count) given)) fits below is link own (mine, inl begins) = plans_begins s s' links n old new kind count given fits below begins
plans_link_by s s' links n old new (Made (line.Sent number (said.Count kind count) given)) fits below is link own (mine, inr none) =
    let free = link_free s old none.free in plans_over s s' links n old new fits below free none.shared none.link
plans_link_by s s' links n old new (Made (line.Sent number (said.Item seq) given)) fits below is link own (mine, writes) = plans_writes s s' links n old new seq given fits below own writes
plans_link_by s s' links n old new (Made (line.Heard number given said)) fits below is link own (mine, hears) = plans_hears s s' links n old new given said fits below link own hears
plans_link_by s s' links n old new (Made (line.Arrived client place)) fits below is link own step =
    let none = link_free s old step.free in
    rw (step.shared, step.link) (link_still (arrived_at s place) links n old.number (record old { schedule = begun_on old.schedule }) (plans_arrived s links n place fits) below none.0 none.1 own)
plans_link_by s s' links n old new (Made (line.Met client place)) fits below is link own step =
    let none = link_free s old step.free in
    rw (step.shared, step.link) (link_still s links n old.number (record old { schedule = advanced old.schedule }) fits below none.0 none.1 own)
plans_link_by s s' links n old new (Made (line.Waited client)) fits below is link own step =
    let none = link_free s old step.free in
    rw (step.shared, step.link) (link_still s links n old.number (record old { schedule = advanced old.schedule }) fits below none.0 none.1 own)
plans_link_by s s' links n old new Idle fits below is link own step =
    rw (step.shared, step.link, ap (set links old.number) is ∙ set-get_or links old.number old) fits
plans_link_by s s' links n old new out fits below is link own step = absurd step

-- a link moved by its law
pub plans_link : (s s' : SharedState) (links : List LinkState) (n : NavState) (number : ℕ) (old new : LinkState) (out : StepOut Line) → PlansFit s links n → number < length links → old ≡ get_or links number old → old.number ≡ number → LinkFits s old → law.LinkStep s old out s' new → PlansFit s' (set links number new) n
plans_link s s' links n number old new out fits below is mine link step =
    let own : SessionIdFits s old.session = subst (λ (l : LinkState). SessionIdFits s l.session) (sym is) (fits.sessions number old below) in
    subst (λ (k : ℕ). PlansFit s' (set links k new) n) mine (plans_link_by s s' links n old new out fits (subst (λ (k : ℕ). k < length links) (sym mine) below) (subst (λ (k : ℕ). old ≡ get_or links k old) (sym mine) is) link own step)
