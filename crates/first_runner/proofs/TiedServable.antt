-- The store can serve what the worker has taken, and a turn leaves it so.
use Rattle.std.proofs.Common.{◌≡◌, ℕ, ◌<◌, List, length, Option, Some, None, refl, sym, ◌∙◌, subst, arith}
use Rattle.std.specs.Prelude.{slice_get, IfSome}
use Rattle.first_model.specs.declared.plan.Item.{Item}
use Rattle.first_model.specs.declared.plan.PlanType.TheVariants.{Mission}
use Rattle.first_model.specs.declared.request.Client.{Client}
use Rattle.first_model.specs.declared.request.Client.TheVariants.{Nav, Link, Watch}
use Rattle.first_model.specs.declared.request.Request.{Request}
use Rattle.first_model.specs.declared.request.Request.TheVariants as request
use Rattle.first_model.specs.declared.request.Asked.{Asked}
use Rattle.first_model.specs.declared.request.Reply.{Reply}
use Rattle.first_model.specs.PlanCode.{PlanValid}
use Rattle.first_board.specs.BoardState.{posted}
use Rattle.first_store.specs.StoreState as store
use Rattle.first_store.specs.CanServe.{CanServe}
use Rattle.first_store.specs.DraftLaws.{drafted-is}
use Rattle.first_vehicle.specs.VehicleState.{VehicleState}
use Rattle.first_core.specs.declared.link.Session.TheVariants as session
use Rattle.first_core.specs.SharedState.{mission_head}
use Rattle.first_core.specs.LinkState.{LinkState, SessionFits}
use Rattle.first_core.specs.PlansFit.{AskFits, LinkAsks, IsAwaited, IsServable}
use Rattle.first_core.specs.WorkerLaw.{request_of}
use Rattle.first_core.specs.CoreState.{CoreState, CoreFits}
use Rattle.first_runner.specs.Tied.{SessionTied, Tied, IsSound, upload_of}
use Rattle.first_runner.proofs.TiedSessions.{upload_plain}
use Rattle.first_runner.proofs.TiedWorker.{link_fits, link_tied, awaited_commit}

-- the items of a commit were all written, and are the valid plan of the upload
commit_whole : (v : VehicleState) (st : store.StoreState) (c : CoreState) (number : ℕ) (l : LinkState) (id count : ℕ) → CoreFits c → Tied v st c → slice_get c.links number ≡ Some l → IsAwaited l.schedule.inputs l.session (request.Commit Mission id count) → (mission_head c.shared).id < id → store.IsWhole st.mission.drafts id count × PlanValid Mission (store.drafted st.mission.drafts id count)
commit_whole v st c number l id count fits tied at awaited newer =
    let waits = awaited_commit l.schedule.inputs l.session id count awaited in
    let fit = link_fits c number l fits at in
    let was = link_tied v st c number l tied at in
    let items : List Item = upload_of l.schedule.inputs in
    let replies : List (Asked × Reply) = posted c.shared.board (Link number) in
    let old : SessionTied v.mission.id v.drafts st.mission.drafts replies items (session.Committing id count) = subst (SessionTied v.mission.id v.drafts st.mission.drafts replies items) waits was.session in
    let stands : SessionFits l.schedule (session.Committing id count) = subst (SessionFits l.schedule) waits fit.1.session in
    let plain = upload_plain l.schedule.inputs count stands.0 fit.1.inputs in
    let above : v.mission.id < id = omega (arith, newer, tied.mission.head_id) in
    let draft = drafted-is st.mission.drafts id count items (sym plain.0) (old.1 above) in
    (draft.1, subst (PlanValid Mission) (sym draft.0) plain.1.valid)

commit_found : (v : VehicleState) (st : store.StoreState) (c : CoreState) (number : ℕ) (found : Option LinkState) (id count : ℕ) → CoreFits c → Tied v st c → slice_get c.links number ≡ found → LinkAsks (mission_head c.shared) found (request.Commit Mission id count) → store.IsWhole st.mission.drafts id count × PlanValid Mission (store.drafted st.mission.drafts id count)
commit_found v st c number None id count fits tied at ask = absurd ask
commit_found v st c number (Some l) id count fits tied at ask = commit_whole v st c number l id count fits tied at ask.0 ask.1

commit_asked : (v : VehicleState) (st : store.StoreState) (c : CoreState) (client : Client) (id count : ℕ) → CoreFits c → Tied v st c → AskFits (mission_head c.shared) c.links (client, request.Commit Mission id count) → store.IsWhole st.mission.drafts id count × PlanValid Mission (store.drafted st.mission.drafts id count)
commit_asked v st c Nav id count fits tied ask = absurd ask
commit_asked v st c (Watch number) id count fits tied ask = absurd ask
commit_asked v st c (Link number) id count fits tied ask = commit_found v st c number (slice_get c.links number) id count fits tied refl ask

-- the mission's head is that of the store
same_head : (v : VehicleState) (st : store.StoreState) (c : CoreState) → Tied v st c → ((mission_head c.shared).id ≡ st.mission.plan.id) × ((mission_head c.shared).count ≡ length st.mission.plan.items)
same_head v st c tied = (tied.mission.head_id ∙ sym tied.mission.id, tied.mission.head_count ∙ tied.mission.count)

can_serve : (v : VehicleState) (st : store.StoreState) (c : CoreState) (client : Client) (asked : Request) → CoreFits c → Tied v st c → AskFits (mission_head c.shared) c.links (client, asked) → IsServable (mission_head c.shared) asked → CanServe st asked
can_serve v st c client (request.Read Mission id seq) fits tied ask served =
    let same = same_head v st c tied in
    λ own. omega (arith, served.1 (own ∙ sym same.0), same.1)
can_serve v st c client (request.Write Mission id seq item) fits tied ask served =
    let same = same_head v st c tied in
    record { newer = omega (arith, served.0, same.0); within = served.1 }
can_serve v st c client (request.Commit Mission id count) fits tied ask (newer, some, within) =
    let same = same_head v st c tied in
    let draft = commit_asked v st c client id count fits tied ask in
    record { newer = omega (arith, newer, same.0); within = within; written = draft.0; valid = draft.1 }
can_serve v st c client asked fits tied ask served = absurd served

taken_serves : (v : VehicleState) (st : store.StoreState) (c : CoreState) (taken : Option (Client × Request)) (asked : Request) → CoreFits c → Tied v st c → c.taken ≡ taken → request_of taken ≡ Some asked → IsServable (mission_head c.shared) asked → CanServe st asked
taken_serves v st c None asked fits tied takes is served = absurd cc
taken_serves v st c (Some (client, other)) asked fits tied takes is served =
    let same : other ≡ asked = cc in
    let ask : AskFits (mission_head c.shared) c.links (client, other) = subst (λ (service : Option (Client × Request)). IfSome service (AskFits (mission_head c.shared) c.links)) (fits.service ∙ takes) fits.plans.service in
    can_serve v st c client asked fits tied (subst (λ r. AskFits (mission_head c.shared) c.links (client, r)) same ask) served

-- what the worker has taken can be served
pub sound_serves : (c : CoreState) (st : store.StoreState) (asked : Request) → IsSound c st → request_of c.taken ≡ Some asked → IsServable (mission_head c.shared) asked → CanServe st asked
sound_serves c st asked sound is served = taken_serves sound.vehicle st c c.taken asked sound.fits sound.tied refl is served
