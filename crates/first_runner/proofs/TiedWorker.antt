-- The worker serves the requests of links, and so each request that it has taken.
use Rattle.std.proofs.Common.{◌≡◌, inl, inr, ℕ, ◌<◌, Bool, List, [], ◌∷◌, ◌++◌, length, Option, Some, None, refl, sym, ap, ◌∙◌, subst, arith}
use Rattle.std.specs.Prelude.{slice_get, IfSome, option_map, if◌then◌else◌}
use Rattle.std.specs.List.{All}
use Rattle.std.proofs.lemmas.Bool.Decides.{nat_tests, eqb_tells}
use Rattle.std.proofs.lemmas.Grind.{get_or-set_at}
use Rattle.std.proofs.lemmas.List.{get_or-set_other, get_or-set_same, nil_from_length}
use Rattle.std.proofs.lemmas.List.Elements.{All-nil, All-cons, All-weaker}
use Rattle.std.proofs.lemmas.Option.{slice_get_within, get_or_from_slice_get}
use Rattle.first_model.specs.declared.limits.TheConstants.{LAST_GENERATION}
use Rattle.first_model.specs.declared.plan.Item.{Item}
use Rattle.first_model.specs.declared.plan.PlanHead.{PlanHead}
use Rattle.first_model.specs.declared.plan.PlanType.TheVariants.{Mission}
use Rattle.first_model.specs.declared.request.Client.{Client}
use Rattle.first_model.specs.declared.request.Client.TheVariants.{Nav, Link, Watch}
use Rattle.first_model.specs.declared.request.Request.{Request}
use Rattle.first_model.specs.declared.request.Request.TheVariants as request
use Rattle.first_model.specs.declared.request.Asked.{Asked}
use Rattle.first_model.specs.declared.request.Asked.TheVariants as about
use Rattle.first_model.specs.declared.request.Reply.{Reply}
use Rattle.first_model.specs.declared.request.Reply.TheVariants as reply
use Rattle.first_model.specs.declared.schedule.InputLine.{InputLine}
use Rattle.first_model.specs.declared.flight_line.Line.TheVariants.{Served}
use Rattle.first_model.specs.PlainMission.{IsGlobalWaypoint}
use Rattle.first_model.specs.PlanCode.{PlanValid}
use Rattle.first_board.specs.BoardState.{serving, outstanding, posted}
use Rattle.first_board.specs.BoardCalls.{asked_of, in_service, answered}
use Rattle.first_vehicle.specs.PlanState.{PlanState, told, draft_of}
use Rattle.first_vehicle.specs.VehicleState.{VehicleState, committed, ended, with_served, reply_of}
use Rattle.first_vehicle.specs.VehicleStep.{IsDoneCommit}
use Rattle.first_vehicle.specs.Kept.{last_served-with_served}
use Rattle.first_core.specs.declared.StepOut.TheVariants.{Made}
use Rattle.first_core.specs.declared.link.Session.{Session}
use Rattle.first_core.specs.declared.link.Session.TheVariants as session
use Rattle.first_core.specs.SharedState.{mission_head, fence_id, no_head, with_board}
use Rattle.first_core.specs.LinkState.{LinkState, LinkFits, SessionFits, item_at, session_out}
use Rattle.first_core.specs.PlansFit.{AskFits, LinkAsks, NavAsks, IsAwaited, IsNewer}
use Rattle.first_core.specs.CoreState.{CoreState, CoreFits}
use Rattle.first_store.specs.StoreState as store
use Rattle.first_store.specs.Serve.{Well, reply_to, after}
use Rattle.first_store.specs.DraftLaws.{drafted-is}
use Rattle.first_runner.specs.Tied.{ReplyFits, LinkTied, SessionTied, IsLast, Tied, upload_of}
use Rattle.first_runner.proofs.TiedPlans.{Later, reply_later, later_swapped, plan_swapped, nav_swapped}
use Rattle.first_runner.proofs.TiedSessions.{written_next, upload_plain, upload_item}
use Rattle.first_runner.proofs.TiedSteps.{Next, worked, only_link}
use Rattle.first_runner.proofs.TiedReads.{IsUpload, is_upload, serves_read}

-- the link at a place fits, and its replies and drafts are tied
pub link_fits : (c : CoreState) (number : ℕ) (l : LinkState) → CoreFits c → slice_get c.links number ≡ Some l → (l.number ≡ number) × LinkFits c.shared l
link_fits c number l fits at =
    let below = slice_get_within c.links number l at in
    subst (λ (x : LinkState). (x.number ≡ number) × LinkFits c.shared x) (get_or_from_slice_get c.links number l l at) (fits.each number l below)

pub link_tied : (v : VehicleState) (st : store.StoreState) (c : CoreState) (number : ℕ) (l : LinkState) → Tied v st c → slice_get c.links number ≡ Some l → LinkTied v.mission.id v.drafts v.served st.mission.drafts (posted c.shared.board (Link number)) l
link_tied v st c number l tied at =
    let below = slice_get_within c.links number l at in
    subst (LinkTied v.mission.id v.drafts v.served st.mission.drafts (posted c.shared.board (Link number))) (get_or_from_slice_get c.links number l l at) (tied.links number l below)

own_serving : (number : ℕ) (asked : Request) → serving (Link number) (Some (Link number, asked)) ≡ 1
own_serving number asked = grind (arith, nat_tests)

-- while its request is in service, nothing is posted to a link
none_posted : (c : CoreState) (number : ℕ) (l : LinkState) (asked : Request) → CoreFits c → slice_get c.links number ≡ Some l → c.taken ≡ Some (Link number, asked) → session_out l.session ≡ 1 → posted c.shared.board (Link number) ≡ []
none_posted c number l asked fits at takes out =
    let fit = link_fits c number l fits at in
    let count : outstanding c.shared.board (Link number) ≡ 1 = subst (λ i. outstanding c.shared.board (Link i) ≡ 1) fit.0 (fit.1.outstanding ∙ out) in
    let own : serving (Link number) c.shared.board.service ≡ 1 = ap (serving (Link number)) (fits.service ∙ takes) ∙ own_serving number asked in
    nil_from_length (posted c.shared.board (Link number)) (omega (arith, count, own))

-- its reply is then the only one that is posted
one_posted : (c : CoreState) (number : ℕ) (l : LinkState) (asked : Asked) (given : Reply) → CoreFits c → slice_get c.links number ≡ Some l → posted c.shared.board (Link number) ≡ [] → posted (answered c.shared.board (Link number) asked given) (Link number) ≡ (asked, given) ∷ []
one_posted c number l asked given fits at none =
    let below : number < length c.shared.board.link_posted = omega (arith, slice_get_within c.links number l at, fits.links) in
    let replies : List (Asked × Reply) = posted c.shared.board (Link number) ++ (asked, given) ∷ [] in
    get_or-set_same c.shared.board.link_posted number replies [] below ∙ ap (λ (xs : List (Asked × Reply)). xs ++ (asked, given) ∷ []) none

-- the link's request and its reply are its last
last_of_one : (v : VehicleState) (number own : ℕ) (asked : Asked) (given : Reply) → own ≡ number → All (IsLast (with_served v.served (Link number) asked given) own) ((asked, given) ∷ [])
last_of_one v number own asked given is =
    let served = with_served v.served (Link number) asked given in
    let last : IsLast served number (asked, given) = ap (option_map reply_of) (last_served-with_served v.served number asked given) in
    All-cons (IsLast served own) (asked, given) [] (subst (λ i. IsLast served i (asked, given)) (sym is) last) (All-nil (IsLast served own))

-- the session that waits for a write, and for a commit
awaited_write : (inputs : List InputLine) (current : Session) (id seq : ℕ) (item : Item) → IsAwaited inputs current (request.Write Mission id seq item) → (count : ℕ) × (current ≡ session.Writing id count seq) × (item_at inputs seq ≡ Some item)
awaited_write inputs (session.Writing own count place) id seq item (same, at, there) =
    (count, sym (λ k. session.Writing (same k) count (at k)), subst (λ i. item_at inputs i ≡ Some item) (sym at) there)
awaited_write inputs current id seq item awaited = absurd awaited

pub awaited_commit : (inputs : List InputLine) (current : Session) (id count : ℕ) → IsAwaited inputs current (request.Commit Mission id count) → current ≡ session.Committing id count
awaited_commit inputs (session.Committing own total) id count (same, counts) = sym (λ k. session.Committing (same k) (counts k))
awaited_commit inputs current id count awaited = absurd awaited

-- a write is served
serves_write : (v : VehicleState) (st : store.StoreState) (c : CoreState) (number : ℕ) (l : LinkState) (id seq : ℕ) (item : Item) → CoreFits c → Tied v st c → c.taken ≡ Some (Link number, request.Write Mission id seq item) → slice_get c.links number ≡ Some l → IsAwaited l.schedule.inputs l.session (request.Write Mission id seq item) →
    Next v (Made (Served (Link number) reply.Done)) (after Well st (request.Write Mission id seq item)) (worked c (answered c.shared.board (Link number) (about.Write Mission id seq) reply.Done) None)
serves_write v st c number l id seq item fits tied takes at awaited =
    let asked : Asked = about.Write Mission id seq in
    let waits = awaited_write l.schedule.inputs l.session id seq item awaited in
    let fit = link_fits c number l fits at in
    let was = link_tied v st c number l tied at in
    let none = none_posted c number l (request.Write Mission id seq item) fits at takes (ap session_out waits.1) in
    let one = one_posted c number l asked reply.Done fits at none in
    let items : List Item = upload_of l.schedule.inputs in
    let old : SessionTied v.mission.id v.drafts st.mission.drafts (posted c.shared.board (Link number)) items (session.Writing id waits.0 seq) = subst (SessionTied v.mission.id v.drafts st.mission.drafts (posted c.shared.board (Link number)) items) waits.1 was.session in
    let drafts : store.Drafts = store.put st.mission.drafts seq (Some (record { id = id; item = item })) in
    let written = written_next st.mission.drafts id seq item items old.1 (upload_item l.schedule.inputs seq item waits.2) in
    let now : SessionTied v.mission.id v.drafts drafts ((asked, reply.Done) ∷ []) items (session.Writing id waits.0 seq) = (old.0, written.0, λ some. written.1) in
    let after : VehicleState = ended v (Link number) asked reply.Done in
    let link : LinkTied v.mission.id v.drafts after.served drafts ((asked, reply.Done) ∷ []) l = record {
      last = last_of_one v number l.number asked reply.Done fit.0;
      session = subst (SessionTied v.mission.id v.drafts drafts ((asked, reply.Done) ∷ []) items) (sym waits.1) now;
    } in
    let b = answered c.shared.board (Link number) asked reply.Done in (
      after,
      record { asked = asked; in_service = tied.service ∙ ap in_service takes; replies = refl },
      record {
        service = refl;
        mission = tied.mission;
        fence = tied.fence;
        wanted = tied.wanted;
        replies = tied.replies;
        nav = tied.nav;
        unused = tied.unused;
        links = only_link (λ k x. LinkTied v.mission.id v.drafts after.served drafts (posted b (Link k)) x) c.links number l fits.one at (subst (λ xs. LinkTied v.mission.id v.drafts after.served drafts xs l) (sym one) link);
      },
    )

-- a commit is done
commit_done : (v : VehicleState) (st : store.StoreState) (c : CoreState) (number : ℕ) (l : LinkState) (id count : ℕ) → CoreFits c → Tied v st c → c.taken ≡ Some (Link number, request.Commit Mission id count) → slice_get c.links number ≡ Some l → IsAwaited l.schedule.inputs l.session (request.Commit Mission id count) → (mission_head c.shared).id < id →
    Next v (Made (Served (Link number) reply.Done)) (store.applied (store.settled st) (store.Commit Mission (record { id = id; items = store.drafted st.mission.drafts id count }))) (worked c (answered c.shared.board (Link number) (about.Commit Mission id count) reply.Done) None)
commit_done v st c number l id count fits tied takes at awaited above =
    let asked : Asked = about.Commit Mission id count in
    let waits = awaited_commit l.schedule.inputs l.session id count awaited in
    let fit = link_fits c number l fits at in
    let was = link_tied v st c number l tied at in
    let none = none_posted c number l (request.Commit Mission id count) fits at takes (ap session_out waits) in
    let one = one_posted c number l asked reply.Done fits at none in
    let items : List Item = upload_of l.schedule.inputs in
    let old : SessionTied v.mission.id v.drafts st.mission.drafts (posted c.shared.board (Link number)) items (session.Committing id count) = subst (SessionTied v.mission.id v.drafts st.mission.drafts (posted c.shared.board (Link number)) items) waits was.session in
    let stands : SessionFits l.schedule (session.Committing id count) = subst (SessionFits l.schedule) waits fit.1.session in
    let plain = upload_plain l.schedule.inputs count stands.0 fit.1.inputs in
    let newer : v.mission.id < id = omega (arith, above, tied.mission.head_id) in
    let sent : List Item = draft_of v.drafts Mission id in
    let whole : length sent ≡ count = ap length old.0 ∙ sym plain.0 in
    let front : store.drafted st.mission.drafts id count ≡ sent = (drafted-is st.mission.drafts id count items (sym plain.0) (old.1 newer)).0 ∙ sym old.0 in
    let plan : PlanState = told id sent in
    let later : Later v.mission plan = later_swapped v.mission id sent newer in
    let after : VehicleState = committed (ended v (Link number) asked reply.Done) Mission plan in
    let b = answered c.shared.board (Link number) asked reply.Done in
    let made : PlanHead = record { id = id; count = count } in
    let head : mission_head (with_board c.shared b) ≡ made = get_or-set_at c.shared.board.published 0 0 made no_head refl (rw fits.plans.heads (omega arith)) in
    let fence : fence_id (with_board c.shared b) ≡ fence_id c.shared = ap (λ (h : PlanHead). h.id) (get_or-set_other c.shared.board.published 0 1 made no_head (λ e. cc e)) in
    let now : SessionTied id v.drafts store.no_drafts ((asked, reply.Done) ∷ []) items (session.Committing id count) = (old.0, λ less. absurd (omega (arith, less)), All-cons (λ (said : Asked × Reply). said.1 ≡ reply.Done → IsDoneCommit said.0 said.1) (asked, reply.Done) [] (λ done. tt) (All-nil (λ (said : Asked × Reply). said.1 ≡ reply.Done → IsDoneCommit said.0 said.1))) in
    let link : LinkTied id v.drafts after.served store.no_drafts ((asked, reply.Done) ∷ []) l = record {
      last = last_of_one v number l.number asked reply.Done fit.0;
      session = subst (SessionTied id v.drafts store.no_drafts ((asked, reply.Done) ∷ []) items) (sym waits) now;
    } in (
      after,
      record { asked = asked; in_service = tied.service ∙ ap in_service takes; replies = record { higher = newer; whole = whole; valid = subst (PlanValid Mission) (sym old.0) plain.1.valid; after = refl } },
      record {
        service = refl;
        mission = plan_swapped id sent (record { id = id; items = store.drafted st.mission.drafts id count }) (mission_head (with_board c.shared b)) refl front (ap (λ (h : PlanHead). h.id) head) (ap (λ (h : PlanHead). h.count) head ∙ sym whole) (subst (All IsGlobalWaypoint) (sym old.0) plain.1.waypoints);
        fence = tied.fence ∙ sym fence;
        wanted = refl;
        replies = All-weaker (ReplyFits v.mission) (ReplyFits plan) (reply_later v.mission plan later) c.shared.board.nav_posted tied.replies;
        nav = nav_swapped v.mission plan v.mode v.index v.at_leg c.nav later newer tied.nav;
        unused = tied.unused;
        links = only_link (λ k x. LinkTied id v.drafts after.served store.no_drafts (posted b (Link k)) x) c.links number l fits.one at (subst (λ xs. LinkTied id v.drafts after.served store.no_drafts xs l) (sym one) link);
      },
    )

-- a commit at the last generation changes nothing
commit_spent : (v : VehicleState) (st : store.StoreState) (c : CoreState) (number : ℕ) (l : LinkState) (id count last : ℕ) → CoreFits c → Tied v st c → c.taken ≡ Some (Link number, request.Commit Mission id count) → slice_get c.links number ≡ Some l → IsAwaited l.schedule.inputs l.session (request.Commit Mission id count) → last ≡ LAST_GENERATION →
    Next v (Made (Served (Link number) (reply.Spent last))) (store.settled st) (worked c (answered c.shared.board (Link number) (about.Commit Mission id count) (reply.Spent last)) None)
commit_spent v st c number l id count last fits tied takes at awaited is =
    let asked : Asked = about.Commit Mission id count in
    let given : Reply = reply.Spent last in
    let waits = awaited_commit l.schedule.inputs l.session id count awaited in
    let fit = link_fits c number l fits at in
    let was = link_tied v st c number l tied at in
    let none = none_posted c number l (request.Commit Mission id count) fits at takes (ap session_out waits) in
    let one = one_posted c number l asked given fits at none in
    let items : List Item = upload_of l.schedule.inputs in
    let old : SessionTied v.mission.id v.drafts st.mission.drafts (posted c.shared.board (Link number)) items (session.Committing id count) = subst (SessionTied v.mission.id v.drafts st.mission.drafts (posted c.shared.board (Link number)) items) waits was.session in
    let after : VehicleState = ended v (Link number) asked given in
    let now : SessionTied v.mission.id v.drafts st.mission.drafts ((asked, given) ∷ []) items (session.Committing id count) = (old.0, old.1, All-cons (λ (said : Asked × Reply). said.1 ≡ reply.Done → IsDoneCommit said.0 said.1) (asked, given) [] (λ done. absurd cc) (All-nil (λ (said : Asked × Reply). said.1 ≡ reply.Done → IsDoneCommit said.0 said.1))) in
    let link : LinkTied v.mission.id v.drafts after.served st.mission.drafts ((asked, given) ∷ []) l = record {
      last = last_of_one v number l.number asked given fit.0;
      session = subst (SessionTied v.mission.id v.drafts st.mission.drafts ((asked, given) ∷ []) items) (sym waits) now;
    } in
    let b = answered c.shared.board (Link number) asked given in (
      after,
      record { asked = asked; in_service = tied.service ∙ ap in_service takes; replies = (is, refl) },
      record {
        service = refl;
        mission = tied.mission;
        fence = tied.fence;
        wanted = tied.wanted;
        replies = tied.replies;
        nav = tied.nav;
        unused = tied.unused;
        links = only_link (λ k x. LinkTied v.mission.id v.drafts after.served st.mission.drafts (posted b (Link k)) x) c.links number l fits.one at (subst (λ xs. LinkTied v.mission.id v.drafts after.served st.mission.drafts xs l) (sym one) link);
      },
    )

-- what the worker's step shows of a request that it has taken: its reply by the store
abbrev ServedBy : VehicleState → store.StoreState → CoreState → Client → Request → Type 0
ServedBy v st c client asked = Next v (Made (Served client (reply_to Well st asked))) (after Well st asked) (worked c (answered c.shared.board client (asked_of asked) (reply_to Well st asked)) None)

-- a commit is served
serves_commit : (v : VehicleState) (st : store.StoreState) (c : CoreState) (number : ℕ) (l : LinkState) (id count : ℕ) → CoreFits c → Tied v st c → c.taken ≡ Some (Link number, request.Commit Mission id count) → slice_get c.links number ≡ Some l → IsAwaited l.schedule.inputs l.session (request.Commit Mission id count) → (mission_head c.shared).id < id → ServedBy v st c (Link number) (request.Commit Mission id count)
serves_commit v st c number l id count fits tied takes at awaited above =
    let new : store.StoreState = store.applied (store.settled st) (store.Commit Mission (record { id = id; items = store.drafted st.mission.drafts id count })) in
    let given : Bool → Reply = λ last. if last then reply.Spent st.mission.generation else reply.Done in
    let P : Bool → Type 0 = λ last. Next v (Made (Served (Link number) (given last))) (if last then store.settled st else new) (worked c (answered c.shared.board (Link number) (about.Commit Mission id count) (given last)) None) in
    elim (eqb_tells st.mission.generation LAST_GENERATION) [
      | inl last ↦ subst P (sym last.0) (commit_spent v st c number l id count st.mission.generation fits tied takes at awaited last.1)
      | inr free ↦ subst P (sym free.0) (commit_done v st c number l id count fits tied takes at awaited above)
    ]

serves_nav : (v : VehicleState) (st : store.StoreState) (c : CoreState) (asked : Request) → Tied v st c → c.taken ≡ Some (Nav, asked) → NavAsks (mission_head c.shared) asked → ServedBy v st c Nav asked
serves_nav v st c (request.Read Mission id seq) tied takes ask = serves_read v st c id seq tied takes ask
serves_nav v st c asked tied takes ask = absurd ask

serves_link : (v : VehicleState) (st : store.StoreState) (c : CoreState) (number : ℕ) (l : LinkState) (asked : Request) → CoreFits c → Tied v st c → c.taken ≡ Some (Link number, asked) → slice_get c.links number ≡ Some l → IsAwaited l.schedule.inputs l.session asked → IsNewer (mission_head c.shared) asked → IsUpload asked → ServedBy v st c (Link number) asked
serves_link v st c number l (request.Write Mission id seq item) fits tied takes at awaited newer is = serves_write v st c number l id seq item fits tied takes at awaited
serves_link v st c number l (request.Commit Mission id count) fits tied takes at awaited newer is = serves_commit v st c number l id count fits tied takes at awaited newer
serves_link v st c number l asked fits tied takes at awaited newer is = absurd is

serves_at : (v : VehicleState) (st : store.StoreState) (c : CoreState) (number : ℕ) (found : Option LinkState) (asked : Request) → CoreFits c → Tied v st c → c.taken ≡ Some (Link number, asked) → slice_get c.links number ≡ found → LinkAsks (mission_head c.shared) found asked → ServedBy v st c (Link number) asked
serves_at v st c number None asked fits tied takes at ask = absurd ask
serves_at v st c number (Some l) asked fits tied takes at ask = serves_link v st c number l asked fits tied takes at ask.0 ask.1 (is_upload l.schedule.inputs l.session asked ask.0)

serves_ask : (v : VehicleState) (st : store.StoreState) (c : CoreState) (client : Client) (asked : Request) → CoreFits c → Tied v st c → c.taken ≡ Some (client, asked) → AskFits (mission_head c.shared) c.links (client, asked) → ServedBy v st c client asked
serves_ask v st c Nav asked fits tied takes ask = serves_nav v st c asked tied takes ask
serves_ask v st c (Link number) asked fits tied takes ask = serves_at v st c number (slice_get c.links number) asked fits tied takes refl ask
serves_ask v st c (Watch number) asked fits tied takes ask = absurd ask

-- the request in service is served
pub serves_next : (v : VehicleState) (st : store.StoreState) (c : CoreState) (client : Client) (asked : Request) → CoreFits c → Tied v st c → c.taken ≡ Some (client, asked) → ServedBy v st c client asked
serves_next v st c client asked fits tied takes =
    serves_ask v st c client asked fits tied takes (subst (λ (service : Option (Client × Request)). IfSome service (AskFits (mission_head c.shared) c.links)) (fits.service ∙ takes) fits.plans.service)
