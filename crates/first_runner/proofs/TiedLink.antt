-- A link's lines: what it sends, what it hears, its meetings and waits.
use Rattle.std.proofs.Common.{◌≡◌, ◌≢◌, inl, inr, ℕ, ◌+◌, ◌<◌, ◌≤◌, false, List, [], ◌∷◌, ◌++◌, length, take, Some, refl, sym, ap, ◌∙◌, subst, arith, set, length-set}
use Rattle.std.specs.Prelude.{slice_get, slice_index_or}
use Rattle.std.specs.List.{All}
use Rattle.std.proofs.lemmas.Bool.{ne_eqb}
use Rattle.std.proofs.lemmas.Grind.{get_or-set_at}
use Rattle.std.proofs.lemmas.List.{get_or-set_same, nil_from_length, length-take-le, take_all}
use Rattle.std.proofs.lemmas.List.Elements.{All-nil, All-head}
use Rattle.std.proofs.lemmas.Option.{slice_get_within, get_or_from_slice_get, slice_get-get_or}
use Rattle.first_model.specs.declared.plan.Item.{Item}
use Rattle.first_model.specs.declared.plan.PlanType.TheVariants.{Mission}
use Rattle.first_model.specs.declared.request.Client.TheVariants.{Link}
use Rattle.first_model.specs.declared.request.Request.TheVariants as request
use Rattle.first_model.specs.declared.request.Asked.{Asked}
use Rattle.first_model.specs.declared.request.Reply.{Reply}
use Rattle.first_model.specs.declared.request.Reply.TheVariants as reply
use Rattle.first_model.specs.declared.message.AckCode.TheVariants.{Error}
use Rattle.first_model.specs.declared.message.Said.TheVariants as said
use Rattle.first_model.specs.declared.message.Answer.{Answer}
use Rattle.first_model.specs.declared.message.Answer.TheVariants as answer
use Rattle.first_model.specs.declared.flight_line.Line.{Line}
use Rattle.first_model.specs.declared.flight_line.Line.TheVariants as line
use Rattle.first_board.specs.BoardState.{posted}
use Rattle.first_board.specs.BoardCalls.{asked}
use Rattle.first_vehicle.specs.PlanState.{DraftState, is_draft, draft_of, with_written}
use Rattle.first_vehicle.specs.VehicleState.{VehicleState}
use Rattle.first_vehicle.specs.VehicleStep.{Says, MayAnswer, IsDoneCommit}
use Rattle.first_vehicle.specs.Kept.{draft_of-with_written, draft_of-with_other}
use Rattle.first_core.specs.declared.StepOut.{StepOut}
use Rattle.first_core.specs.declared.StepOut.TheVariants.{Made, Idle}
use Rattle.first_core.specs.declared.link.Session.{Session}
use Rattle.first_core.specs.declared.link.Session.TheVariants as session
use Rattle.first_core.specs.ScheduleState.{ScheduleState, begun_on, advanced}
use Rattle.first_core.specs.SharedState.{SharedState, with_board, arrived_at, last_id, no_head}
use Rattle.first_core.specs.LinkState.{LinkState, SessionFits, Uploading, link_done, session_out}
use Rattle.first_core.specs.LinkLaw as law
use Rattle.first_core.specs.PlansFit.{SessionIdFits}
use Rattle.first_core.specs.CoreState.{CoreState, CoreFits}
use Rattle.first_store.specs.StoreState as store
use Rattle.first_runner.specs.Tied.{PlanTied, ReplyFits, LinkTied, AreWritten, SessionTied, IsLast, Tied, upload_of}
use Rattle.first_runner.proofs.TiedSessions.{take_next, none_written, upload_plain}
use Rattle.first_runner.proofs.TiedSteps.{Next, linked, only_link}
use Rattle.first_runner.proofs.TiedWorker.{link_fits, link_tied}

-- a link at its place has moved: the drafts are its session's, and no unused id has one
link_moved : (v : VehicleState) (drafts : List DraftState) (st : store.StoreState) (c : CoreState) (s : SharedState) (number : ℕ) (old new : LinkState) → CoreFits c → Tied v st c → slice_get c.links number ≡ Some old → s.board.nav_posted ≡ c.shared.board.nav_posted → s.board.published ≡ c.shared.board.published → ((id : ℕ) → last_id s < id → draft_of drafts Mission id ≡ []) → LinkTied v.mission.id drafts v.served st.mission.drafts (posted s.board (Link number)) new → Tied (record v { drafts = drafts }) st (linked c s number new)
link_moved v drafts st c s number old new fits tied at nav published unused link =
    let below = slice_get_within c.links number old at in
    let long : length (set c.links number new) ≡ length c.links = length-set c.links number new in
    let here : slice_get (set c.links number new) number ≡ Some new = slice_get-get_or (set c.links number new) number new (omega (arith, below, long)) ∙ ap (λ x. Some x) (get_or-set_same c.links number new new below) in
    record {
      service = tied.service;
      mission = subst (λ heads. PlanTied v.mission st.mission.plan (slice_index_or heads 0 no_head)) (sym published) tied.mission;
      fence = tied.fence ∙ sym (ap (λ heads. (slice_index_or heads 1 no_head).id) published);
      wanted = tied.wanted;
      replies = subst (All (ReplyFits v.mission)) (sym nav) tied.replies;
      nav = tied.nav;
      unused = unused;
      links = only_link (λ k x. LinkTied v.mission.id drafts v.served st.mission.drafts (posted s.board (Link k)) x) (set c.links number new) number new (omega (arith, long, fits.one)) here link;
    }

-- a fact of shared part and link, from what they are
pub of_link : (P : SharedState → LinkState → Type 0) (s' s : SharedState) (l' l : LinkState) → s' ≡ s → l' ≡ l → P s l → P s' l'
of_link P s' s l' l es el h = subst (λ x. P x l') (sym es) (subst (P s) (sym el) h)

-- an upload begins
begins_next : (v : VehicleState) (st : store.StoreState) (c : CoreState) (number : ℕ) (l : LinkState) (kind count : ℕ) (given : Answer) (s' : SharedState) (l' : LinkState) → CoreFits c → Tied v st c → slice_get c.links l.number ≡ Some l → law.Begins c.shared l kind count given s' l' → Next v (Made (line.Sent number (said.Count kind count) given)) st (linked c s' l.number l')
begins_next v st c number l kind count given s' l' fits tied at begins =
    let was = link_tied v st c l.number l tied at in
    let id : ℕ = last_id c.shared + 1 in
    let next : SharedState = record c.shared { ids = set c.shared.ids 0 id } in
    let new : LinkState = record { number = l.number; schedule = begun_on l.schedule; session = session.Receiving id count 0 } in
    let last : last_id next ≡ id = get_or-set_at c.shared.ids 0 0 id 0 refl (rw fits.plans.ids (omega arith)) in
    let link : LinkTied v.mission.id v.drafts v.served st.mission.drafts (posted c.shared.board (Link l.number)) new = record { last = was.last; session = (tied.unused id (omega arith), none_written st.mission.drafts id (upload_of l.schedule.inputs)) } in
    of_link (λ s x. Next v (Made (line.Sent number (said.Count kind count) given)) st (linked c s l.number x)) s' next l' new begins.shared begins.link (
      v,
      subst (λ g. Says v g v) (sym begins.answer) refl,
      link_moved v v.drafts st c next l.number l new fits tied at refl refl (λ other above. tied.unused other (omega (arith, above, last))) link,
    )

-- the upload is over
over_tied : (v : VehicleState) (st : store.StoreState) (c : CoreState) (s : SharedState) (l : LinkState) → CoreFits c → Tied v st c → slice_get c.links l.number ≡ Some l → s.board.nav_posted ≡ c.shared.board.nav_posted → s.board.published ≡ c.shared.board.published → s.ids ≡ c.shared.ids → All (IsLast v.served l.number) (posted s.board (Link l.number)) → Tied v st (linked c s l.number (link_done l))
over_tied v st c s l fits tied at nav published ids last =
    link_moved v v.drafts st c s l.number l (link_done l) fits tied at nav published (λ other above. tied.unused other (omega (arith, above, ap (λ xs. slice_index_or xs 0 0) ids))) (record { last = last; session = tt })

-- there is no id left
finds_next : (v : VehicleState) (st : store.StoreState) (c : CoreState) (number : ℕ) (l : LinkState) (kind count : ℕ) (given : Answer) (s' : SharedState) (l' : LinkState) → CoreFits c → Tied v st c → slice_get c.links l.number ≡ Some l → law.FindsNoId c.shared l kind count given s' l' → Next v (Made (line.Sent number (said.Count kind count) given)) st (linked c s' l.number l')
finds_next v st c number l kind count given s' l' fits tied at finds =
    let was = link_tied v st c l.number l tied at in
    of_link (λ s x. Next v (Made (line.Sent number (said.Count kind count) given)) st (linked c s l.number x)) s' c.shared l' (link_done l) finds.shared finds.link (
      v,
      subst (λ g. Says v g v) (sym finds.answer) refl,
      over_tied v st c c.shared l fits tied at refl refl refl was.last,
    )

other_draft : (id other : ℕ) → id ≢ other → is_draft Mission other (record { kind = Mission; id = id; items = [] }) ≡ false
other_draft id other apart = ne_eqb id other apart

-- an item is sent, and is the next of its draft
writes_next : (v : VehicleState) (st : store.StoreState) (c : CoreState) (number : ℕ) (l : LinkState) (seq : ℕ) (given : Answer) (s' : SharedState) (l' : LinkState) → CoreFits c → Tied v st c → slice_get c.links l.number ≡ Some l → law.Writes c.shared l seq given s' l' → Next v (Made (line.Sent number (said.Item seq) given)) st (linked c s' l.number l')
writes_next v st c number l seq given s' l' fits tied at writes =
    let id : ℕ = writes.id in
    let count : ℕ = writes.count in
    let item : Item = writes.item in
    let items : List Item = upload_of l.schedule.inputs in
    let was = link_tied v st c l.number l tied at in
    let replies : List (Asked × Reply) = posted c.shared.board (Link l.number) in
    let old : SessionTied v.mission.id v.drafts st.mission.drafts replies items (session.Receiving id count seq) = subst (SessionTied v.mission.id v.drafts st.mission.drafts replies items) writes.session_was was.session in
    let there : slice_get items seq ≡ Some item = ap (λ inputs. slice_get (upload_of inputs) seq) writes.input ∙ writes.item_is in
    let within = slice_get_within items seq item there in
    let place : seq ≡ length (draft_of v.drafts Mission id) = sym (ap length old.0 ∙ length-take-le seq items (omega (arith, within))) in
    let drafts : List DraftState = with_written v.drafts Mission id item in
    let mine : draft_of drafts Mission id ≡ take (seq + 1) items = draft_of-with_written v.drafts Mission id item ∙ ap (λ xs. xs ++ item ∷ []) old.0 ∙ sym (take_next items seq item there) in
    let below = slice_get_within c.links l.number l at in
    let ids : SessionIdFits c.shared l.session = subst (λ (x : LinkState). SessionIdFits c.shared x.session) (get_or_from_slice_get c.links l.number l l at) (fits.plans.sessions l.number l below) in
    let used : SessionIdFits c.shared (session.Receiving id count seq) = subst (SessionIdFits c.shared) writes.session_was ids in
    let next : SharedState = with_board c.shared (asked c.shared.board (Link l.number) (request.Write Mission id seq item)) in
    let new : LinkState = record l { session = session.Writing id count seq } in
    let none : 0 < length replies → AreWritten st.mission.drafts id (seq + 1) items = λ some. absurd (omega (arith, some, ap length writes.free.posted)) in
    let link : LinkTied v.mission.id drafts v.served st.mission.drafts replies new = record { last = was.last; session = (mine, old.1, none) } in
    of_link (λ s x. Next v (Made (line.Sent number (said.Item seq) given)) st (linked c s l.number x)) s' next l' new writes.shared writes.link (
      record v { drafts = drafts },
      subst (λ g. Says v g (record v { drafts = drafts })) (sym writes.answer) (place, refl),
      link_moved v drafts st c next l.number l new fits tied at refl refl (λ other above. draft_of-with_other v.drafts Mission id item Mission other (other_draft id other (λ e. absurd (omega (arith, e, above, used.1)))) ∙ tied.unused other above) link,
    )

-- the shared part once a link took its only reply
abbrev heard_by : CoreState → LinkState → List (Asked × Reply) → SharedState
heard_by c l rest = law.after_hearing c.shared l rest

session_out-le : (current : Session) → session_out current ≤ 1
session_out-le session.Free = omega arith
session_out-le (session.Receiving id count seq) = omega arith
session_out-le (session.Writing id count seq) = omega arith
session_out-le (session.Committing id count) = omega arith

-- no other reply is posted then
none_left : (c : CoreState) (l : LinkState) (first : Asked × Reply) (rest : List (Asked × Reply)) → CoreFits c → slice_get c.links l.number ≡ Some l → posted c.shared.board (Link l.number) ≡ first ∷ rest → posted (heard_by c l rest).board (Link l.number) ≡ []
none_left c l first rest fits at is =
    let fit = link_fits c l.number l fits at in
    let below : l.number < length c.shared.board.link_posted = omega (arith, slice_get_within c.links l.number l at, fits.links) in
    let long : length (posted c.shared.board (Link l.number)) ≡ length rest + 1 = ap length is ∙ omega arith in
    let none : rest ≡ [] = nil_from_length rest (omega (arith, fit.1.outstanding, session_out-le l.session, long)) in
    get_or-set_same c.shared.board.link_posted l.number rest [] below ∙ none

-- the vehicle may give the answer, and is tied to what the link makes of it
abbrev Answered : VehicleState → store.StoreState → CoreState → LinkState → Asked → Reply → Answer → SharedState → LinkState → Type 0
Answered v st c l about given said s' l' = MayAnswer about given said × Tied v st (linked c s' l.number l')

-- an item was written: the next one is requested
written_more : (v : VehicleState) (st : store.StoreState) (c : CoreState) (l : LinkState) (id count seq : ℕ) (about : Asked) (rest : List (Asked × Reply)) (said : Answer) (s' : SharedState) (l' : LinkState) → CoreFits c → Tied v st c → slice_get c.links l.number ≡ Some l → posted c.shared.board (Link l.number) ≡ (about, reply.Done) ∷ rest → l.session ≡ session.Writing id count seq → said ≡ answer.RequestInt (seq + 1) → s' ≡ heard_by c l rest → l' ≡ record l { session = session.Receiving id count (seq + 1) } → Answered v st c l about reply.Done said s' l'
written_more v st c l id count seq about rest said s' l' fits tied at first is answers stays moves =
    let was = link_tied v st c l.number l tied at in
    let items : List Item = upload_of l.schedule.inputs in
    let replies : List (Asked × Reply) = posted c.shared.board (Link l.number) in
    let old : SessionTied v.mission.id v.drafts st.mission.drafts replies items (session.Writing id count seq) = subst (SessionTied v.mission.id v.drafts st.mission.drafts replies items) is was.session in
    let some : 0 < length replies = omega (arith, ap length first) in
    let next : SharedState = heard_by c l rest in
    let new : LinkState = record l { session = session.Receiving id count (seq + 1) } in
    let none = none_left c l (about, reply.Done) rest fits at first in
    let link : LinkTied v.mission.id v.drafts v.served st.mission.drafts [] new = record { last = All-nil (IsLast v.served l.number); session = (old.0, old.2 some) } in (
      subst (MayAnswer about reply.Done) (sym answers) tt,
      of_link (λ s x. Tied v st (linked c s l.number x)) s' next l' new stays moves (link_moved v v.drafts st c next l.number l new fits tied at refl refl tied.unused (subst (λ xs. LinkTied v.mission.id v.drafts v.served st.mission.drafts xs new) (sym none) link)),
    )

-- all items were written: the worker is asked to commit the plan
written_last : (v : VehicleState) (st : store.StoreState) (c : CoreState) (l : LinkState) (id count seq : ℕ) (about : Asked) (rest : List (Asked × Reply)) (said : Answer) (s' : SharedState) (l' : LinkState) → CoreFits c → Tied v st c → slice_get c.links l.number ≡ Some l → posted c.shared.board (Link l.number) ≡ (about, reply.Done) ∷ rest → l.session ≡ session.Writing id count seq → seq + 1 ≡ count → said ≡ answer.Commits Mission id count → s' ≡ with_board (heard_by c l rest) (asked (heard_by c l rest).board (Link l.number) (request.Commit Mission id count)) → l' ≡ record l { session = session.Committing id count } → Answered v st c l about reply.Done said s' l'
written_last v st c l id count seq about rest said s' l' fits tied at first is end answers stays moves =
    let was = link_tied v st c l.number l tied at in
    let fit = link_fits c l.number l fits at in
    let items : List Item = upload_of l.schedule.inputs in
    let replies : List (Asked × Reply) = posted c.shared.board (Link l.number) in
    let old : SessionTied v.mission.id v.drafts st.mission.drafts replies items (session.Writing id count seq) = subst (SessionTied v.mission.id v.drafts st.mission.drafts replies items) is was.session in
    let stands : SessionFits l.schedule (session.Writing id count seq) = subst (SessionFits l.schedule) is fit.1.session in
    let plain = upload_plain l.schedule.inputs count stands.0 fit.1.inputs in
    let all : take (seq + 1) items ≡ items = take_all (seq + 1) items (omega (arith, end, plain.0)) in
    let some : 0 < length replies = omega (arith, ap length first) in
    let whole : AreWritten st.mission.drafts id count items = subst (λ n. AreWritten st.mission.drafts id n items) end (old.2 some) in
    let next : SharedState = with_board (heard_by c l rest) (asked (heard_by c l rest).board (Link l.number) (request.Commit Mission id count)) in
    let new : LinkState = record l { session = session.Committing id count } in
    let none = none_left c l (about, reply.Done) rest fits at first in
    let link : LinkTied v.mission.id v.drafts v.served st.mission.drafts [] new = record { last = All-nil (IsLast v.served l.number); session = (old.0 ∙ all, λ newer. whole, All-nil (λ (posted : Asked × Reply). posted.1 ≡ reply.Done → IsDoneCommit posted.0 posted.1)) } in (
      subst (MayAnswer about reply.Done) (sym answers) tt,
      of_link (λ s x. Tied v st (linked c s l.number x)) s' next l' new stays moves (link_moved v v.drafts st c next l.number l new fits tied at refl refl tied.unused (subst (λ xs. LinkTied v.mission.id v.drafts v.served st.mission.drafts xs new) (sym none) link)),
    )

-- the upload is over once the reply is taken
heard_over : (v : VehicleState) (st : store.StoreState) (c : CoreState) (l : LinkState) (first : Asked × Reply) (rest : List (Asked × Reply)) (s' : SharedState) (l' : LinkState) → CoreFits c → Tied v st c → slice_get c.links l.number ≡ Some l → posted c.shared.board (Link l.number) ≡ first ∷ rest → s' ≡ heard_by c l rest → l' ≡ link_done l → Tied v st (linked c s' l.number l')
heard_over v st c l first rest s' l' fits tied at is stays moves =
    let none = none_left c l first rest fits at is in
    of_link (λ s x. Tied v st (linked c s l.number x)) s' (heard_by c l rest) l' (link_done l) stays moves (over_tied v st c (heard_by c l rest) l fits tied at refl refl refl (subst (All (IsLast v.served l.number)) (sym none) (All-nil (IsLast v.served l.number))))

done_by : (v : VehicleState) (st : store.StoreState) (c : CoreState) (l : LinkState) (current : Session) (about : Asked) (rest : List (Asked × Reply)) (said : Answer) (s' : SharedState) (l' : LinkState) → CoreFits c → Tied v st c → slice_get c.links l.number ≡ Some l → posted c.shared.board (Link l.number) ≡ (about, reply.Done) ∷ rest → l.session ≡ current → law.AnswersDone (heard_by c l rest) l current said s' l' → Answered v st c l about reply.Done said s' l'
done_by v st c l session.Free about rest said s' l' fits tied at first is answers = absurd answers
done_by v st c l (session.Receiving id count seq) about rest said s' l' fits tied at first is answers = absurd answers
done_by v st c l (session.Writing id count seq) about rest said s' l' fits tied at first is (inl (more, answers, stays, moves)) = written_more v st c l id count seq about rest said s' l' fits tied at first is answers stays moves
done_by v st c l (session.Writing id count seq) about rest said s' l' fits tied at first is (inr (end, answers, stays, moves)) = written_last v st c l id count seq about rest said s' l' fits tied at first is end answers stays moves
done_by v st c l (session.Committing id count) about rest said s' l' fits tied at first is (answers, stays, moves) =
    let was = link_tied v st c l.number l tied at in
    let items : List Item = upload_of l.schedule.inputs in
    let replies : List (Asked × Reply) = posted c.shared.board (Link l.number) in
    let old : SessionTied v.mission.id v.drafts st.mission.drafts replies items (session.Committing id count) = subst (SessionTied v.mission.id v.drafts st.mission.drafts replies items) is was.session in
    let done : IsDoneCommit about reply.Done = All-head (λ (said : Asked × Reply). said.1 ≡ reply.Done → IsDoneCommit said.0 said.1) (about, reply.Done) rest (subst (All (λ (said : Asked × Reply). said.1 ≡ reply.Done → IsDoneCommit said.0 said.1)) first old.2) refl in
    (subst (MayAnswer about reply.Done) (sym answers) done, heard_over v st c l (about, reply.Done) rest s' l' fits tied at first stays moves)

failed_by : (v : VehicleState) (st : store.StoreState) (c : CoreState) (l : LinkState) (about : Asked) (given : Reply) (rest : List (Asked × Reply)) (said : Answer) (s' : SharedState) (l' : LinkState) → CoreFits c → Tied v st c → slice_get c.links l.number ≡ Some l → posted c.shared.board (Link l.number) ≡ (about, given) ∷ rest → said ≡ answer.Ack Error → s' ≡ heard_by c l rest → l' ≡ link_done l → Answered v st c l about given said s' l'
failed_by v st c l about given rest said s' l' fits tied at first answers stays moves =
    (subst (MayAnswer about given) (sym answers) tt, heard_over v st c l (about, given) rest s' l' fits tied at first stays moves)

answers_by : (v : VehicleState) (st : store.StoreState) (c : CoreState) (l : LinkState) (about : Asked) (given : Reply) (rest : List (Asked × Reply)) (said : Answer) (s' : SharedState) (l' : LinkState) → CoreFits c → Tied v st c → slice_get c.links l.number ≡ Some l → posted c.shared.board (Link l.number) ≡ (about, given) ∷ rest → law.Answers (heard_by c l rest) l given said s' l' → Answered v st c l about given said s' l'
answers_by v st c l about reply.Done rest said s' l' fits tied at first answers = done_by v st c l l.session about rest said s' l' fits tied at first refl answers
answers_by v st c l about (reply.Item item) rest said s' l' fits tied at first (answers, stays, moves) = failed_by v st c l about (reply.Item item) rest said s' l' fits tied at first answers stays moves
answers_by v st c l about (reply.Stale now) rest said s' l' fits tied at first (answers, stays, moves) = failed_by v st c l about (reply.Stale now) rest said s' l' fits tied at first answers stays moves
answers_by v st c l about reply.DiskFailed rest said s' l' fits tied at first (answers, stays, moves) = failed_by v st c l about reply.DiskFailed rest said s' l' fits tied at first answers stays moves
answers_by v st c l about reply.PowerOff rest said s' l' fits tied at first (answers, stays, moves) = failed_by v st c l about reply.PowerOff rest said s' l' fits tied at first answers stays moves
answers_by v st c l about (reply.Spent last) rest said s' l' fits tied at first (answers, stays, moves) = failed_by v st c l about (reply.Spent last) rest said s' l' fits tied at first answers stays moves

-- a reply is heard
hears_next : (v : VehicleState) (st : store.StoreState) (c : CoreState) (number : ℕ) (l : LinkState) (given : Reply) (said : Answer) (s' : SharedState) (l' : LinkState) → CoreFits c → Tied v st c → slice_get c.links l.number ≡ Some l → number ≡ l.number → law.Hears c.shared l given said s' l' → Next v (Made (line.Heard number given said)) st (linked c s' l.number l')
hears_next v st c number l given said s' l' fits tied at mine hears =
    let was = link_tied v st c l.number l tied at in
    let answered = answers_by v st c l hears.about given hears.rest said s' l' fits tied at hears.first hears.answers in
    let last : IsLast v.served l.number (hears.about, given) = All-head (IsLast v.served l.number) (hears.about, given) hears.rest (subst (All (IsLast v.served l.number)) hears.first was.last) in
    (v, record { asked = hears.about; served = subst (λ i. IsLast v.served i (hears.about, given)) (sym mine) last; answer = answered.0; after = refl }, answered.1)

-- a session is of the upload that is the current input
not_uploading : (schedule : ScheduleState) (current : Session) → ((count : ℕ) → Uploading schedule.inputs count → ⊥) → SessionFits schedule current → current ≡ session.Free
not_uploading schedule session.Free none stands = refl
not_uploading schedule (session.Receiving id count seq) none stands = absurd (none count stands.0)
not_uploading schedule (session.Writing id count seq) none stands = absurd (none count stands.0)
not_uploading schedule (session.Committing id count) none stands = absurd (none count stands.0)

-- only the schedule moved, at an input that is no upload
schedule_tied : (v : VehicleState) (st : store.StoreState) (c : CoreState) (s : SharedState) (l : LinkState) (schedule : ScheduleState) → CoreFits c → Tied v st c → slice_get c.links l.number ≡ Some l → s.board ≡ c.shared.board → s.ids ≡ c.shared.ids → ((count : ℕ) → Uploading l.schedule.inputs count → ⊥) → Tied v st (linked c s l.number (record l { schedule = schedule }))
schedule_tied v st c s l schedule fits tied at board ids none =
    let was = link_tied v st c l.number l tied at in
    let fit = link_fits c l.number l fits at in
    let free = not_uploading l.schedule l.session none fit.1.session in
    let replies : List (Asked × Reply) = posted s.board (Link l.number) in
    let link : LinkTied v.mission.id v.drafts v.served st.mission.drafts replies (record l { schedule = schedule }) = record {
      last = subst (λ b. All (IsLast v.served l.number) (posted b (Link l.number))) (sym board) was.last;
      session = subst (SessionTied v.mission.id v.drafts st.mission.drafts replies (upload_of schedule.inputs)) (sym free) tt;
    } in
    link_moved v v.drafts st c s l.number l (record l { schedule = schedule }) fits tied at (ap (λ b. b.nav_posted) board) (ap (λ b. b.published) board) (λ other above. tied.unused other (omega (arith, above, ap (λ xs. slice_index_or xs 0 0) ids))) link

-- a step of the link, at its own place
step_next : (v : VehicleState) (st : store.StoreState) (c : CoreState) (l : LinkState) (out : StepOut Line) (s' : SharedState) (l' : LinkState) → CoreFits c → Tied v st c → slice_get c.links l.number ≡ Some l → law.LinkStep c.shared l out s' l' → Next v out st (linked c s' l.number l')
step_next v st c l (Made (line.Sent number (said.Count kind count) given)) s' l' fits tied at (mine, inl begins) = begins_next v st c number l kind count given s' l' fits tied at begins
step_next v st c l (Made (line.Sent number (said.Count kind count) given)) s' l' fits tied at (mine, inr finds) = finds_next v st c number l kind count given s' l' fits tied at finds
step_next v st c l (Made (line.Sent number (said.Item seq) given)) s' l' fits tied at (mine, writes) = writes_next v st c number l seq given s' l' fits tied at writes
step_next v st c l (Made (line.Heard number given said)) s' l' fits tied at (mine, hears) = hears_next v st c number l given said s' l' fits tied at mine hears
step_next v st c l (Made (line.Arrived client place)) s' l' fits tied at step =
    (v, refl, of_link (λ s x. Tied v st (linked c s l.number x)) s' (arrived_at c.shared place) l' (record l { schedule = begun_on l.schedule }) step.shared step.link (schedule_tied v st c (arrived_at c.shared place) l (begun_on l.schedule) fits tied at refl refl (λ count up. subst (λ inputs. Uploading inputs count) step.input up)))
step_next v st c l (Made (line.Met client place)) s' l' fits tied at step =
    (v, refl, of_link (λ s x. Tied v st (linked c s l.number x)) s' c.shared l' (record l { schedule = advanced l.schedule }) step.shared step.link (schedule_tied v st c c.shared l (advanced l.schedule) fits tied at refl refl (λ count up. subst (λ inputs. Uploading inputs count) step.input up)))
step_next v st c l (Made (line.Waited client)) s' l' fits tied at step =
    (v, refl, of_link (λ s x. Tied v st (linked c s l.number x)) s' c.shared l' (record l { schedule = advanced l.schedule }) step.shared step.link (schedule_tied v st c c.shared l (advanced l.schedule) fits tied at refl refl (λ count up. subst (λ inputs. Uploading inputs count) step.input up)))
step_next v st c l Idle s' l' fits tied at step =
    of_link (λ s x. Tied v st (linked c s l.number x)) s' c.shared l' l step.shared step.link (link_moved v v.drafts st c c.shared l.number l l fits tied at refl refl tied.unused (link_tied v st c l.number l tied at))
step_next v st c l out s' l' fits tied at step = absurd step

-- a step of the link at a place
pub link_next : (v : VehicleState) (st : store.StoreState) (c : CoreState) (number : ℕ) (l : LinkState) (out : StepOut Line) (s' : SharedState) (l' : LinkState) → CoreFits c → Tied v st c → slice_get c.links number ≡ Some l → law.LinkStep c.shared l out s' l' → Next v out st (linked c s' number l')
link_next v st c number l out s' l' fits tied at step =
    let mine : l.number ≡ number = (link_fits c number l fits at).0 in
    subst (λ i. Next v out st (linked c s' i l')) mine (step_next v st c l out s' l' fits tied (subst (λ i. slice_get c.links i ≡ Some l) (sym mine) at) step)
