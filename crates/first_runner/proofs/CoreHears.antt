-- A link hears replies, comes to meetings and waits; a step of a link.
use Rattle.std.proofs.Common.{◌≡◌, ◌≢◌, ◌⊎◌, inl, inr, ℕ, zero, suc, ◌+◌, ◌<◌, ◌≤◌, ◌==◌, min, Bool, true, false, List, [], ◌∷◌, ◌++◌, length, take, drop, map, get_or, set, length-set, Option, Some, None, refl, sym, ap, ◌∙◌, subst, arith, append-nil, length-append}
use Rattle.std.specs.Prelude.{slice_get, slice_index_or, if◌then◌else◌}
use Rattle.std.proofs.lemmas.Bool.Decides.{eqb_tells}
use Rattle.std.proofs.lemmas.List.{get_or-set_other, get_or-set_same}
use Rattle.std.proofs.lemmas.Option.{same_Some, slice_get_within, slice_get_cases}
use Rattle.first_model.specs.declared.limits.TheConstants.{MAX_PLACES}
use Rattle.first_model.specs.declared.plan.PlanType.TheVariants.{Mission}
use Rattle.first_model.specs.declared.request.Client.{Client}
use Rattle.first_model.specs.declared.request.Client.TheVariants as client
use Rattle.first_model.specs.declared.request.Request.{Request}
use Rattle.first_model.specs.declared.request.Request.TheVariants as request
use Rattle.first_model.specs.declared.request.Asked.{Asked}
use Rattle.first_model.specs.declared.request.Asked.TheVariants as about
use Rattle.first_model.specs.declared.request.Reply.{Reply}
use Rattle.first_model.specs.declared.request.Reply.TheVariants as reply
use Rattle.first_model.specs.declared.message.AckCode.{AckCode}
use Rattle.first_model.specs.declared.message.AckCode.TheVariants.{Accepted, Error}
use Rattle.first_model.specs.declared.message.Said.TheVariants as said
use Rattle.first_model.specs.declared.message.Answer.{Answer}
use Rattle.first_model.specs.declared.message.Answer.TheVariants as answer
use Rattle.first_model.specs.declared.schedule.InputLine.{InputLine}
use Rattle.first_model.specs.declared.schedule.InputLine.TheVariants as input
use Rattle.first_model.specs.declared.flight_line.Actor.TheVariants as actor
use Rattle.first_model.specs.declared.flight_line.Line.{Line}
use Rattle.first_model.specs.declared.flight_line.Line.TheVariants as line
use Rattle.first_board.specs.BoardState.{BoardState, posted, outstanding}
use Rattle.first_board.specs.BoardCalls.{asked, heard}
use Rattle.first_vehicle.specs.VehicleState.{VehicleState}
use Rattle.first_core.specs.declared.StepOut.{StepOut}
use Rattle.first_core.specs.declared.StepOut.TheVariants.{Made, Idle}
use Rattle.first_core.specs.declared.link.Session.{Session}
use Rattle.first_core.specs.declared.link.Session.TheVariants as session
use Rattle.first_core.specs.ScheduleState.{ScheduleState, begun_on, advanced}
use Rattle.first_core.specs.SharedState.{SharedState, with_board, arrived_at, arrivals_at, last_id}
use Rattle.first_core.specs.LinkState.{LinkState, LinkFits, SessionFits, link_done, session_out}
use Rattle.first_core.specs.LinkLaw as law
use Rattle.first_core.specs.Ready.{InputReady}
use Rattle.first_core.specs.CoreState.{CoreState, CoreFits}
use Rattle.first_core.specs.CoreLaw.{LinkMovesIf}
use Rattle.first_runner.specs.BootTold.{BootTold, LinkTold, SessionTold, Free, Receiving, Writing, Committing, no_link, own, times, replies_to, open_asks, next_reply, link_at, schedule_of, heard_session, answered_schedule, after_hearing, arrivals}
use Rattle.first_runner.specs.BootReady.{is_free, gives_step, is_ready}
use Rattle.first_runner.specs.CoreRun.{IsCurrent, DoneLaw, HearsLaw, LineLaw}
use Rattle.first_runner.specs.CoreTold.{BoardTold, PlacesTold, CoreTold, session_told, link_told}
use Rattle.first_runner.proofs.CoreBoard.{board_hears, next_is, next_none, open_count}
use Rattle.first_runner.proofs.CoreClients.{cache_apart, hears_within, open_hears}
use Rattle.first_runner.proofs.CoreReady.{PlaceFits, free_not, link_place, gives_ready, gives_none, link_hears, link_rests}
use Rattle.first_runner.proofs.CoreWorker.{Follows}
use Rattle.first_runner.proofs.CoreLinks.{told_link, get_past, free_link, link_free_ready, stays_begun, moved_told, asked_told, begins_told, finds_told, writes_told}
use Rattle.first_runner.proofs.TiedSteps.{linked, of_parts}
use Rattle.first_runner.proofs.TiedWorker.{link_fits}
use Rattle.first_runner.proofs.TiedLink.{of_link}

-- the core once a link took its first reply
abbrev heard_core : CoreState → ℕ → List (Asked × Reply) → CoreState
heard_core c number rest = record { shared = with_board c.shared (heard c.shared.board (client.Link number) rest); taken = c.taken; links = c.links; nav = c.nav }

abbrev heard_by : BootTold → ℕ → BootTold
heard_by t number = record t { heard = t.heard ++ client.Link number ∷ [] }

heard_told : (t : BootTold) (c : CoreState) (number : ℕ) (about : Asked) (given : Reply) (rest : List (Asked × Reply)) → CoreTold t c → number < length c.shared.board.link_posted → posted c.shared.board (client.Link number) ≡ (about, given) ∷ rest → CoreTold (heard_by t number) (heard_core c number rest)
heard_told t c number about given rest told has first = record {
  board = board_hears t.asked t.taken t.replies t.heard c.shared.board (client.Link number) (about, given) rest told.board has first;
  within = λ other. omega (arith, hears_within t.asked t.taken t.replies t.heard c.shared.board (client.Link number) other about given rest told.board first, told.within other);
  cache = cache_apart t.asked t.replies t.heard (client.Link number) c.nav.cache (λ e. cc e) told.cache;
  nav = told.nav;
  links = told.links;
  last_id = told.last_id;
  places = told.places;
}

-- the answer by the session, and the core after it
abbrev Answered : BootTold → CoreState → LinkState → Reply → Answer → SharedState → LinkState → Type 0
Answered t c l given said s' l' = HearsLaw (link_at t l.number).session given said × CoreTold (after_hearing t l.number said) (linked c s' l.number l')

-- another session of the upload that goes on
goes_on : (t : BootTold) (c : CoreState) (l : LinkState) (was : Session) (said : Answer) (now : Session) → link_at t l.number ≡ link_told l → l.session ≡ was → l.schedule.begun ≡ true → heard_session (session_told was) said ≡ session_told now → (answered_schedule l.schedule said ≡ begun_on l.schedule) →
    record { schedule = answered_schedule (link_at t l.number).schedule said; session = heard_session (link_at t l.number).session said } ≡ link_told (record l { session = now })
goes_on t c l was said now here is begun leads schedule =
    (λ k. record { schedule = answered_schedule (here k).schedule said; session = heard_session (here k).session said })
    ∙ (λ k. record { schedule = (schedule ∙ stays_begun l.schedule begun) k; session = ((λ j. heard_session (session_told (is j)) said) ∙ leads) k })

heard_ack : (was : SessionTold) (code : AckCode) → heard_session was (answer.Ack code) ≡ Free
heard_ack Free code = refl
heard_ack (Receiving id count seq) code = refl
heard_ack (Writing id count seq) code = refl
heard_ack (Committing id count) code = refl

-- an item was written, and the next one is requested
written_more : (t : BootTold) (c : CoreState) (l : LinkState) (id count seq : ℕ) (about : Asked) (rest : List (Asked × Reply)) (said : Answer) (s' : SharedState) (l' : LinkState) → CoreFits c → CoreTold t c → slice_get c.links l.number ≡ Some l → posted c.shared.board (client.Link l.number) ≡ (about, reply.Done) ∷ rest → CoreTold (heard_by t l.number) (heard_core c l.number rest) → l.session ≡ session.Writing id count seq →
    seq + 1 < count → said ≡ answer.RequestInt (seq + 1) → s' ≡ law.after_hearing c.shared l rest → l' ≡ record l { session = session.Receiving id count (seq + 1) } → Answered t c l reply.Done said s' l'
written_more t c l id count seq about rest said s' l' fits told at first after is more answers stays moves =
    let here = told_link t c l.number l told.links at in
    let fit = (link_fits c l.number l fits at).1 in
    let stands : SessionFits l.schedule (session.Writing id count seq) = subst (SessionFits l.schedule) is fit.session in
    let new : LinkState = record l { session = session.Receiving id count (seq + 1) } in
    let given : Answer = answer.RequestInt (seq + 1) in
    let by_law : HearsLaw (session_told (session.Writing id count seq)) reply.Done said = inl (more, answers) in
    let law_here : HearsLaw (link_at t l.number).session reply.Done said = subst (λ (x : LinkTold). HearsLaw x.session reply.Done said) (sym here) (subst (λ (x : Session). HearsLaw (session_told x) reply.Done said) (sym is) by_law) in
    let moved = goes_on t c l (session.Writing id count seq) given (session.Receiving id count (seq + 1)) here is stands.1 refl refl in
    let core = moved_told (heard_by t l.number) (heard_core c l.number rest) (law.after_hearing c.shared l rest) l.number (record { schedule = answered_schedule (link_at t l.number).schedule given; session = heard_session (link_at t l.number).session given }) new (t.asked ++ []) t.arrived t.last_id after refl moved (sym (append-nil t.asked)) told.last_id told.places in
    (law_here, of_link (λ s x. CoreTold (after_hearing t l.number said) (linked c s l.number x)) s' (law.after_hearing c.shared l rest) l' new stays moves (subst (λ (g : Answer). CoreTold (after_hearing t l.number g) (linked c (law.after_hearing c.shared l rest) l.number new)) (sym answers) core))

-- all items were written: the commit is asked
written_last : (t : BootTold) (c : CoreState) (l : LinkState) (id count seq : ℕ) (first_asked : Asked) (rest : List (Asked × Reply)) (said : Answer) (s' : SharedState) (l' : LinkState) → CoreFits c → CoreTold t c → slice_get c.links l.number ≡ Some l → posted c.shared.board (client.Link l.number) ≡ (first_asked, reply.Done) ∷ rest → CoreTold (heard_by t l.number) (heard_core c l.number rest) → l.session ≡ session.Writing id count seq →
    seq + 1 ≡ count → said ≡ answer.Commits Mission id count → s' ≡ with_board (law.after_hearing c.shared l rest) (asked (law.after_hearing c.shared l rest).board (client.Link l.number) (request.Commit Mission id count)) → l' ≡ record l { session = session.Committing id count } → Answered t c l reply.Done said s' l'
written_last t c l id count seq first_asked rest said s' l' fits told at first after is end answers stays moves =
    let here = told_link t c l.number l told.links at in
    let fit = (link_fits c l.number l fits at).1 in
    let stands : SessionFits l.schedule (session.Writing id count seq) = subst (SessionFits l.schedule) is fit.session in
    let new : LinkState = record l { session = session.Committing id count } in
    let given : Answer = answer.Commits Mission id count in
    let next : SharedState = with_board (law.after_hearing c.shared l rest) (asked (law.after_hearing c.shared l rest).board (client.Link l.number) (request.Commit Mission id count)) in
    let by_law : HearsLaw (session_told (session.Writing id count seq)) reply.Done said = inr (end, answers) in
    let law_here : HearsLaw (link_at t l.number).session reply.Done said = subst (λ (x : LinkTold). HearsLaw x.session reply.Done said) (sym here) (subst (λ (x : Session). HearsLaw (session_told x) reply.Done said) (sym is) by_law) in
    let moved = goes_on t c l (session.Writing id count seq) given (session.Committing id count) here is stands.1 refl refl in
    let out : outstanding c.shared.board (client.Link l.number) ≡ 1 = fit.outstanding ∙ ap session_out is in
    let unheard = open_count t.asked t.taken t.replies t.heard c.shared.board (client.Link l.number) told.board in
    let less = ap length (open_hears t.asked t.taken t.replies t.heard c.shared.board (client.Link l.number) first_asked reply.Done rest told.board first) in
    let none : length (open_asks (heard_by t l.number) (client.Link l.number)) ≡ 0 = omega (arith, out, unheard, less) in
    let core = asked_told (heard_by t l.number) (heard_core c l.number rest) l.number (record { schedule = answered_schedule (link_at t l.number).schedule given; session = heard_session (link_at t l.number).session given }) new (request.Commit Mission id count) (about.Commit Mission id count) after refl moved none in
    (law_here, of_link (λ s x. CoreTold (after_hearing t l.number said) (linked c s l.number x)) s' next l' new stays moves (subst (λ (g : Answer). CoreTold (after_hearing t l.number g) (linked c next l.number new)) (sym answers) core))

-- the upload is acknowledged, and over
over_told : (t : BootTold) (c : CoreState) (l : LinkState) (given : Reply) (rest : List (Asked × Reply)) (code : AckCode) (said : Answer) (s' : SharedState) (l' : LinkState) → CoreTold t c → slice_get c.links l.number ≡ Some l → CoreTold (heard_by t l.number) (heard_core c l.number rest) → HearsLaw (session_told l.session) given said → said ≡ answer.Ack code → s' ≡ law.after_hearing c.shared l rest → l' ≡ link_done l → Answered t c l given said s' l'
over_told t c l given rest code said s' l' told at after by_law answers stays moves =
    let here = told_link t c l.number l told.links at in
    let ack : Answer = answer.Ack code in
    let new : LinkState = link_done l in
    let law_here : HearsLaw (link_at t l.number).session given said = subst (λ (x : LinkTold). HearsLaw x.session given said) (sym here) by_law in
    let moved : record { schedule = answered_schedule (link_at t l.number).schedule ack; session = heard_session (link_at t l.number).session ack } ≡ link_told new = λ k. record { schedule = advanced (here k).schedule; session = heard_ack (link_at t l.number).session code k } in
    let core = moved_told (heard_by t l.number) (heard_core c l.number rest) (law.after_hearing c.shared l rest) l.number (record { schedule = answered_schedule (link_at t l.number).schedule ack; session = heard_session (link_at t l.number).session ack }) new (t.asked ++ []) t.arrived t.last_id after refl moved (sym (append-nil t.asked)) told.last_id told.places in
    (law_here, of_link (λ s x. CoreTold (after_hearing t l.number said) (linked c s l.number x)) s' (law.after_hearing c.shared l rest) l' new stays moves (subst (λ (g : Answer). CoreTold (after_hearing t l.number g) (linked c (law.after_hearing c.shared l rest) l.number new)) (sym answers) core))

-- a reply that is done
done_told : (t : BootTold) (c : CoreState) (l : LinkState) (was : Session) (about : Asked) (rest : List (Asked × Reply)) (said : Answer) (s' : SharedState) (l' : LinkState) → CoreFits c → CoreTold t c → slice_get c.links l.number ≡ Some l → posted c.shared.board (client.Link l.number) ≡ (about, reply.Done) ∷ rest → CoreTold (heard_by t l.number) (heard_core c l.number rest) → l.session ≡ was → law.AnswersDone (law.after_hearing c.shared l rest) l was said s' l' → Answered t c l reply.Done said s' l'
done_told t c l session.Free about rest said s' l' fits told at first after is answers = absurd answers
done_told t c l (session.Receiving id count seq) about rest said s' l' fits told at first after is answers = absurd answers
done_told t c l (session.Writing id count seq) about rest said s' l' fits told at first after is (inl (more, answers, stays, moves)) = written_more t c l id count seq about rest said s' l' fits told at first after is more answers stays moves
done_told t c l (session.Writing id count seq) about rest said s' l' fits told at first after is (inr (end, answers, stays, moves)) = written_last t c l id count seq about rest said s' l' fits told at first after is end answers stays moves
done_told t c l (session.Committing id count) about rest said s' l' fits told at first after is (answers, stays, moves) =
    over_told t c l reply.Done rest Accepted said s' l' told at after (subst (λ (x : Session). HearsLaw (session_told x) reply.Done said) (sym is) answers) answers stays moves

answers_told : (t : BootTold) (c : CoreState) (l : LinkState) (about : Asked) (given : Reply) (rest : List (Asked × Reply)) (said : Answer) (s' : SharedState) (l' : LinkState) → CoreFits c → CoreTold t c → slice_get c.links l.number ≡ Some l → posted c.shared.board (client.Link l.number) ≡ (about, given) ∷ rest → CoreTold (heard_by t l.number) (heard_core c l.number rest) → law.Answers (law.after_hearing c.shared l rest) l given said s' l' → Answered t c l given said s' l'
answers_told t c l about reply.Done rest said s' l' fits told at first after answers = done_told t c l l.session about rest said s' l' fits told at first after refl answers
answers_told t c l about (reply.Item item) rest said s' l' fits told at first after (answers, stays, moves) = over_told t c l (reply.Item item) rest Error said s' l' told at after answers answers stays moves
answers_told t c l about (reply.Stale now) rest said s' l' fits told at first after (answers, stays, moves) = over_told t c l (reply.Stale now) rest Error said s' l' told at after answers answers stays moves
answers_told t c l about reply.DiskFailed rest said s' l' fits told at first after (answers, stays, moves) = over_told t c l reply.DiskFailed rest Error said s' l' told at after answers answers stays moves
answers_told t c l about reply.PowerOff rest said s' l' fits told at first after (answers, stays, moves) = over_told t c l reply.PowerOff rest Error said s' l' told at after answers answers stays moves
answers_told t c l about (reply.Spent last) rest said s' l' fits told at first after (answers, stays, moves) = over_told t c l (reply.Spent last) rest Error said s' l' told at after answers answers stays moves

hears_told : (v : VehicleState) (t : BootTold) (c : CoreState) (l : LinkState) (given : Reply) (said : Answer) (s' : SharedState) (l' : LinkState) → CoreFits c → CoreTold t c → slice_get c.links l.number ≡ Some l → law.Hears c.shared l given said s' l' → Follows v t (actor.Link l.number) (Made (line.Heard l.number given said)) (linked c s' l.number l')
hears_told v t c l given said s' l' fits told at hears =
    let below : l.number < length c.shared.board.link_posted = omega (arith, slice_get_within c.links l.number l at, fits.links) in
    let after = heard_told t c l.number hears.about given hears.rest told below hears.first in
    let answered = answers_told t c l hears.about given hears.rest said s' l' fits told at hears.first after hears.answers in
    let next = next_is t.asked t.taken t.replies t.heard c.shared.board (client.Link l.number) (hears.about, given) hears.rest told.board hears.first in
    (refl, link_hears t l.number (hears.about, given) next, (hears.about, next, answered.0), answered.1)

-- one more came to a meeting place
arrivals-push : (places : List ℕ) (other place : ℕ) → arrivals (places ++ other ∷ []) place ≡ arrivals places place + (if other == place then 1 else 0)
arrivals-push [] other place = omega arith
arrivals-push (first ∷ places) other place = omega (arith, arrivals-push places other place)

pub places_arrive : (places arrived : List ℕ) (place : ℕ) → PlacesTold places arrived → place < MAX_PLACES → PlacesTold (set places place (min 255 (get_or places place 0 + 1))) (arrived ++ place ∷ [])
places_arrive places arrived place told here = record {
  all = length-set places place (min 255 (get_or places place 0 + 1)) ∙ told.all;
  at = λ other below. elim (eqb_tells place other) [
    | inl same ↦
        let one : arrivals (arrived ++ place ∷ []) other ≡ arrivals arrived other + 1 = arrivals-push arrived place other ∙ ap (λ b. arrivals arrived other + (if b then 1 else 0)) same.0 in
        let mine : get_or (set places place (min 255 (get_or places place 0 + 1))) other 0 ≡ min 255 (get_or places place 0 + 1) = subst (λ i. get_or (set places place (min 255 (get_or places place 0 + 1))) i 0 ≡ min 255 (get_or places place 0 + 1)) same.1 (get_or-set_same places place (min 255 (get_or places place 0 + 1)) 0 (omega (arith, told.all, here))) in
        let was : get_or places place 0 ≡ min 255 (arrivals arrived other) = ap (λ i. get_or places i 0) same.1 ∙ told.at other below in
        omega (arith, one, mine, was)
    | inr apart ↦
        let none : arrivals (arrived ++ place ∷ []) other ≡ arrivals arrived other = arrivals-push arrived place other ∙ (ap (λ b. arrivals arrived other + (if b then 1 else 0)) apart.0 ∙ omega arith) in
        get_or-set_other places place other (min 255 (get_or places place 0 + 1)) 0 (λ e. apart.1 (sym e)) ∙ (told.at other below ∙ ap (λ n. min 255 n) (sym none))
  ];
}

-- the schedule of a link that is free gives it a step
input_ready : (t : BootTold) (c : CoreState) (l : LinkState) → CoreFits c → CoreTold t c → slice_get c.links l.number ≡ Some l → InputReady c.shared (client.Link l.number) l.schedule.inputs l.schedule.begun → gives_step t (client.Link l.number) l.schedule.inputs l.schedule.begun ≡ true
input_ready t c l fits told at ready =
    gives_ready t c.shared (client.Link l.number) l.schedule.inputs l.schedule.begun (open_count t.asked t.taken t.replies t.heard c.shared.board (client.Link l.number) told.board) told.places (link_place l.schedule.inputs (link_fits c l.number l fits at).1.inputs) ready

ready_by : (s : SharedState) (client : Client) (inputs others : List InputLine) (begun now : Bool) → inputs ≡ others → begun ≡ now → InputReady s client others now → InputReady s client inputs begun
ready_by s client inputs others begun now is same ready = subst (λ xs. InputReady s client xs begun) (sym is) (subst (InputReady s client others) (sym same) ready)

-- only the schedule moved
schedule_told : (t : BootTold) (c : CoreState) (s : SharedState) (l : LinkState) (step : ScheduleState → ScheduleState) (arrived : List ℕ) → CoreTold t c → slice_get c.links l.number ≡ Some l → s.board ≡ c.shared.board → s.ids ≡ c.shared.ids → PlacesTold s.arrivals arrived →
    CoreTold (record t { arrived = arrived; links = set t.links l.number (record (link_at t l.number) { schedule = step (link_at t l.number).schedule }) }) (linked c s l.number (record l { schedule = step l.schedule }))
schedule_told t c s l step arrived told at board ids places =
    let here = told_link t c l.number l told.links at in
    moved_told t c s l.number (record (link_at t l.number) { schedule = step (link_at t l.number).schedule }) (record l { schedule = step l.schedule }) t.asked arrived t.last_id told board (λ k. record (here k) { schedule = step (here k).schedule }) refl (told.last_id ∙ sym (ap (λ xs. slice_index_or xs 0 0) ids)) places

arrives_told : (v : VehicleState) (t : BootTold) (c : CoreState) (l : LinkState) (who : Client) (place : ℕ) (s' : SharedState) (l' : LinkState) → CoreFits c → CoreTold t c → slice_get c.links l.number ≡ Some l → law.Arrives c.shared l who place s' l' → Follows v t (actor.Link l.number) (Made (line.Arrived who place)) (linked c s' l.number l')
arrives_told v t c l who place s' l' fits told at step =
    let mine : Client = client.Link l.number in
    let here = told_link t c l.number l told.links at in
    let within : place < MAX_PLACES = subst PlaceFits step.input (link_place l.schedule.inputs (link_fits c l.number l fits at).1.inputs) in
    let free = free_link t c l told step.free in
    let gives = input_ready t c l fits told at (ready_by c.shared mine l.schedule.inputs (input.Meet place step.count ∷ step.rest) l.schedule.begun false step.input step.fresh tt) in
    let core = schedule_told t c (arrived_at c.shared place) l begun_on (t.arrived ++ place ∷ []) told at refl refl (places_arrive c.shared.arrivals t.arrived place told.places within) in
    subst (λ (x : Client). Follows v t (actor.Link l.number) (Made (line.Arrived x place)) (linked c s' l.number l')) (sym step.client_is)
    (of_link (λ s x. Follows v t (actor.Link l.number) (Made (line.Arrived mine place)) (linked c s l.number x)) s' (arrived_at c.shared place) l' (record l { schedule = begun_on l.schedule }) step.shared step.link (
      refl,
      link_free_ready t c l told at step.free gives,
      (free.0, step.count, (step.rest, ap (λ (x : LinkTold). x.schedule.inputs) here ∙ step.input), ap (λ (x : LinkTold). x.schedule.begun) here ∙ step.fresh),
      core,
    ))

meets_told : (v : VehicleState) (t : BootTold) (c : CoreState) (l : LinkState) (who : Client) (place : ℕ) (s' : SharedState) (l' : LinkState) → CoreFits c → CoreTold t c → slice_get c.links l.number ≡ Some l → law.Meets c.shared l who place s' l' → Follows v t (actor.Link l.number) (Made (line.Met who place)) (linked c s' l.number l')
meets_told v t c l who place s' l' fits told at step =
    let mine : Client = client.Link l.number in
    let here = told_link t c l.number l told.links at in
    let free = free_link t c l told step.free in
    let gives = input_ready t c l fits told at (ready_by c.shared mine l.schedule.inputs (input.Meet place step.count ∷ step.rest) l.schedule.begun true step.input step.begun step.enough) in
    let core = schedule_told t c c.shared l advanced t.arrived told at refl refl told.places in
    subst (λ (x : Client). Follows v t (actor.Link l.number) (Made (line.Met x place)) (linked c s' l.number l')) (sym step.client_is)
    (of_link (λ s x. Follows v t (actor.Link l.number) (Made (line.Met mine place)) (linked c s l.number x)) s' c.shared l' (record l { schedule = advanced l.schedule }) step.shared step.link (
      refl,
      link_free_ready t c l told at step.free gives,
      (free.0, step.count, (step.rest, ap (λ (x : LinkTold). x.schedule.inputs) here ∙ step.input), ap (λ (x : LinkTold). x.schedule.begun) here ∙ step.begun),
      core,
    ))

waits_told : (v : VehicleState) (t : BootTold) (c : CoreState) (l : LinkState) (who : Client) (s' : SharedState) (l' : LinkState) → CoreFits c → CoreTold t c → slice_get c.links l.number ≡ Some l → law.Waits c.shared l who s' l' → Follows v t (actor.Link l.number) (Made (line.Waited who)) (linked c s' l.number l')
waits_told v t c l who s' l' fits told at step =
    let mine : Client = client.Link l.number in
    let here = told_link t c l.number l told.links at in
    let free = free_link t c l told step.free in
    let gives = input_ready t c l fits told at (ready_by c.shared mine l.schedule.inputs (input.Wait ∷ step.rest) l.schedule.begun l.schedule.begun step.input refl step.free.outstanding) in
    let core = schedule_told t c c.shared l advanced t.arrived told at refl refl told.places in
    subst (λ (x : Client). Follows v t (actor.Link l.number) (Made (line.Waited x)) (linked c s' l.number l')) (sym step.client_is)
    (of_link (λ s x. Follows v t (actor.Link l.number) (Made (line.Waited mine)) (linked c s l.number x)) s' c.shared l' (record l { schedule = advanced l.schedule }) step.shared step.link (
      refl,
      link_free_ready t c l told at step.free gives,
      (free.0, (step.rest, ap (λ (x : LinkTold). x.schedule.inputs) here ∙ step.input)),
      core,
    ))

-- the same link in its place
set_here : (links : List LinkState) (number : ℕ) (l : LinkState) → slice_get links number ≡ Some l → set links number l ≡ links
set_here [] number l at = cc
set_here (x ∷ links) zero l at = ap (λ y. y ∷ links) (sym (same_Some x l at))
set_here (x ∷ links) (suc number) l at = ap (λ xs. x ∷ xs) (set_here links number l at)

rests_told : (v : VehicleState) (t : BootTold) (c : CoreState) (l : LinkState) (s' : SharedState) (l' : LinkState) → CoreFits c → CoreTold t c → slice_get c.links l.number ≡ Some l → law.Rests c.shared l s' l' → Follows v t (actor.Link l.number) Idle (linked c s' l.number l')
rests_told v t c l s' l' fits told at step =
    let mine : Client = client.Link l.number in
    let schedule = ap (λ (x : LinkTold). x.schedule) (told_link t c l.number l told.links at) in
    let unheard = open_count t.asked t.taken t.replies t.heard c.shared.board mine told.board in
    let next = next_none t.asked t.taken t.replies t.heard c.shared.board mine told.board step.posted in
    let idle : (is_free t mine ≡ false) ⊎ (gives_step t mine l.schedule.inputs l.schedule.begun ≡ false) = elim step.idle [
      | inl some ↦ inl (free_not t mine (outstanding c.shared.board mine) unheard some)
      | inr waits ↦ inr (gives_none t c.shared mine l.schedule.inputs l.schedule.begun unheard told.places (link_place l.schedule.inputs (link_fits c l.number l fits at).1.inputs) waits)
    ] in
    let same : CoreTold t (linked c c.shared l.number l) = subst (λ xs. CoreTold t (record { shared = c.shared; taken = c.taken; links = xs; nav = c.nav })) (sym (set_here c.links l.number l at)) told in
    of_link (λ s x. Follows v t (actor.Link l.number) Idle (linked c s l.number x)) s' c.shared l' l step.shared step.link (link_rests t l.number l.schedule next schedule idle, same)

-- a step of the link, at its own place
step_told : (v : VehicleState) (t : BootTold) (c : CoreState) (l : LinkState) (out : StepOut Line) (s' : SharedState) (l' : LinkState) → CoreFits c → CoreTold t c → slice_get c.links l.number ≡ Some l → law.LinkStep c.shared l out s' l' → Follows v t (actor.Link l.number) out (linked c s' l.number l')
step_told v t c l (Made (line.Sent number (said.Count kind count) given)) s' l' fits told at (mine, inl begins) = subst (λ i. Follows v t (actor.Link l.number) (Made (line.Sent i (said.Count kind count) given)) (linked c s' l.number l')) (sym mine) (begins_told v t c l kind count given s' l' fits told at begins)
step_told v t c l (Made (line.Sent number (said.Count kind count) given)) s' l' fits told at (mine, inr finds) = subst (λ i. Follows v t (actor.Link l.number) (Made (line.Sent i (said.Count kind count) given)) (linked c s' l.number l')) (sym mine) (finds_told v t c l kind count given s' l' fits told at finds)
step_told v t c l (Made (line.Sent number (said.Item seq) given)) s' l' fits told at (mine, writes) = subst (λ i. Follows v t (actor.Link l.number) (Made (line.Sent i (said.Item seq) given)) (linked c s' l.number l')) (sym mine) (writes_told v t c l seq given s' l' fits told at writes)
step_told v t c l (Made (line.Heard number given said)) s' l' fits told at (mine, hears) = subst (λ i. Follows v t (actor.Link l.number) (Made (line.Heard i given said)) (linked c s' l.number l')) (sym mine) (hears_told v t c l given said s' l' fits told at hears)
step_told v t c l (Made (line.Arrived who place)) s' l' fits told at step = arrives_told v t c l who place s' l' fits told at step
step_told v t c l (Made (line.Met who place)) s' l' fits told at step = meets_told v t c l who place s' l' fits told at step
step_told v t c l (Made (line.Waited who)) s' l' fits told at step = waits_told v t c l who s' l' fits told at step
step_told v t c l Idle s' l' fits told at step = rests_told v t c l s' l' fits told at step
step_told v t c l out s' l' fits told at step = absurd step

-- there is no link at the place
past_posted : (xs : List (List (Asked × Reply))) (number : ℕ) → length xs ≤ number → get_or xs number [] ≡ []
past_posted [] number past = refl
past_posted (x ∷ xs) zero past = absurd (omega (arith, past))
past_posted (x ∷ xs) (suc number) past = past_posted xs number (omega (arith, past))

no_link_rests : (t : BootTold) (c : CoreState) (number : ℕ) → CoreFits c → CoreTold t c → slice_get c.links number ≡ None → is_ready t (actor.Link number) ≡ false
no_link_rests t c number fits told at =
    let past : length c.links ≤ number = elim (slice_get_cases c.links number).1 [ inl there ↦ cc (at, there.2) | inr out ↦ out.0 ] in
    let none = past_posted c.shared.board.link_posted number (omega (arith, past, fits.links)) in
    let next = next_none t.asked t.taken t.replies t.heard c.shared.board (client.Link number) told.board none in
    let schedule = ap (λ (x : LinkTold). x.schedule) (ap (λ xs. get_or xs number no_link) told.links ∙ get_past c.links number at) in
    link_rests t number no_link.schedule next schedule (inr refl)

-- a step of the link at a place
pub link_follows : (v : VehicleState) (t : BootTold) (c : CoreState) (number : ℕ) (found : Option LinkState) (out : StepOut Line) (c' : CoreState) → CoreFits c → CoreTold t c → slice_get c.links number ≡ found → LinkMovesIf found c number out c' → Follows v t (actor.Link number) out c'
link_follows v t c number None out c' fits told at (idle, stays) =
    subst (λ o. Follows v t (actor.Link number) o c') (sym idle) (subst (λ x. Follows v t (actor.Link number) Idle x) (sym stays) (no_link_rests t c number fits told at, told))
link_follows v t c number (Some l) out c' fits told at moves =
    let mine : l.number ≡ number = (link_fits c number l fits at).0 in
    let here : slice_get c.links l.number ≡ Some l = subst (λ i. slice_get c.links i ≡ Some l) (sym mine) at in
    let step = step_told v t c l out c'.shared moves.new fits told here moves.step in
    let there : Follows v t (actor.Link number) out (linked c c'.shared number moves.new) = subst (λ i. Follows v t (actor.Link i) out (linked c c'.shared i moves.new)) mine step in
    of_parts (Follows v t (actor.Link number) out) c' c'.shared c.taken (linked c c'.shared number moves.new).links c.nav refl moves.taken moves.links moves.nav there
