-- The worker takes a request, and serves a read.
use Rattle.std.proofs.Common.{◌≡◌, ◌≢◌, inl, inr, ℕ, ◌<◌, Bool, List, ◌∷◌, length, Option, Some, None, refl, sym, ap, ◌∙◌, subst, arith}
use Rattle.std.specs.Prelude.{slice_get, if◌then◌else◌}
use Rattle.std.specs.List.{All}
use Rattle.std.proofs.lemmas.Bool.Decides.{eqb_tells}
use Rattle.std.proofs.lemmas.List.Elements.{All-head, All-push, All-weaker}
use Rattle.std.proofs.lemmas.Option.{slice_get_within, slice_get_cases}
use Rattle.first_model.specs.declared.plan.Item.{Item}
use Rattle.first_model.specs.declared.plan.PlanHead.{PlanHead}
use Rattle.first_model.specs.declared.plan.PlanType.TheVariants.{Mission}
use Rattle.first_model.specs.declared.request.Client.{Client}
use Rattle.first_model.specs.declared.request.Client.TheVariants.{Nav, Link, Watch}
use Rattle.first_model.specs.declared.request.Request.{Request}
use Rattle.first_model.specs.declared.request.Request.TheVariants as request
use Rattle.first_model.specs.declared.request.Asked.{Asked}
use Rattle.first_model.specs.declared.request.Asked.TheVariants as about
use Rattle.first_model.specs.declared.request.Reply.{Reply}
use Rattle.first_model.specs.declared.request.Reply.TheVariants as reply
use Rattle.first_model.specs.declared.schedule.InputLine.{InputLine}
use Rattle.first_model.specs.declared.flight_line.Line.TheVariants.{Took, Served}
use Rattle.first_board.specs.BoardCalls.{asked_of, in_service, taken, answered}
use Rattle.first_vehicle.specs.VehicleState.{VehicleState, with_item_told, ended}
use Rattle.first_vehicle.specs.VehicleStep.{Takes}
use Rattle.first_core.specs.declared.StepOut.TheVariants.{Made}
use Rattle.first_core.specs.declared.link.Session.{Session}
use Rattle.first_core.specs.declared.link.Session.TheVariants as session
use Rattle.first_core.specs.SharedState.{mission_head}
use Rattle.first_core.specs.LinkState.{LinkState}
use Rattle.first_core.specs.PlansFit.{AskFits, LinkAsks, NavAsks, IsAwaited}
use Rattle.first_core.specs.CoreState.{CoreState, CoreFits}
use Rattle.first_store.specs.StoreState as store
use Rattle.first_store.specs.Serve.{Well, found as found_reply, reply_to, after}
use Rattle.first_runner.specs.Tied.{KnownAt, ReplyFits, Tied}
use Rattle.first_runner.proofs.TiedPlans.{Later, reply_later, item_can_be, told_here, later_told, plan_told, nav_told}
use Rattle.first_runner.proofs.TiedSteps.{Next, worked}

-- a session waits for writes and commits of missions alone
abbrev pub IsUpload : Request → Type 0
IsUpload (request.Write Mission id seq item) = Unit {0}
IsUpload (request.Commit Mission id count) = Unit {0}
IsUpload other = ⊥

pub is_upload : (inputs : List InputLine) (current : Session) (asked : Request) → IsAwaited inputs current asked → IsUpload asked
is_upload inputs (session.Writing id count seq) (request.Write Mission other place item) awaited = tt
is_upload inputs (session.Committing id count) (request.Commit Mission other total) awaited = tt
is_upload inputs current asked awaited = absurd awaited

-- the request speaks of items of plans, and not of a mark
abbrev IsOfPlans : Request → Type 0
IsOfPlans (request.SetMark mark) = ⊥
IsOfPlans other = Unit {0}

found_upload : (head : PlanHead) (found : Option LinkState) (asked : Request) → LinkAsks head found asked → IsUpload asked
found_upload head None asked ask = absurd ask
found_upload head (Some l) asked ask = is_upload l.schedule.inputs l.session asked ask.0

no_mark : (asked : Request) → IsUpload asked → IsOfPlans asked
no_mark (request.SetMark mark) is = absurd is
no_mark asked is = tt

nav_no_mark : (head : PlanHead) (asked : Request) → NavAsks head asked → IsOfPlans asked
nav_no_mark head (request.SetMark mark) ask = absurd ask
nav_no_mark head asked ask = tt

ask_of_plans : (head : PlanHead) (links : List LinkState) (client : Client) (asked : Request) → AskFits head links (client, asked) → IsOfPlans asked
ask_of_plans head links Nav asked ask = nav_no_mark head asked ask
ask_of_plans head links (Link number) asked ask = no_mark asked (found_upload head (slice_get links number) asked ask)
ask_of_plans head links (Watch number) asked ask = absurd ask

takes_by : (v : VehicleState) (client : Client) (asked : Request) → IsOfPlans asked → v.service ≡ None → Takes v client (asked_of asked) (record v { service = Some (client, asked_of asked) })
takes_by v client (request.SetMark mark) is free = absurd is
takes_by v client (request.Read kind id seq) is free = (free, refl)
takes_by v client (request.Write kind id seq item) is free = (free, refl)
takes_by v client (request.Commit kind id count) is free = (free, refl)

-- a request is taken
pub takes_next : (v : VehicleState) (st : store.StoreState) (c : CoreState) (client : Client) (asked : Request) (rest : List (Client × Request)) → CoreFits c → Tied v st c → c.taken ≡ None → c.shared.board.waiting ≡ (client, asked) ∷ rest → Next v (Made (Took client (asked_of asked))) st (worked c (taken c.shared.board (client, asked) rest) (Some (client, asked)))
takes_next v st c client asked rest fits tied free waits =
    let asks : All (AskFits (mission_head c.shared) c.links) ((client, asked) ∷ rest) = subst (All (AskFits (mission_head c.shared) c.links)) waits fits.plans.waiting in
    let ask : AskFits (mission_head c.shared) c.links (client, asked) = All-head (AskFits (mission_head c.shared) c.links) (client, asked) rest asks in (
      record v { service = Some (client, asked_of asked) },
      takes_by v client asked (ask_of_plans (mission_head c.shared) c.links client asked ask) (tied.service ∙ ap in_service free),
      record { service = refl; mission = tied.mission; fence = tied.fence; wanted = tied.wanted; replies = tied.replies; nav = tied.nav; unused = tied.unused; links = tied.links },
    )

-- a read is given its item
serves_item : (v : VehicleState) (st : store.StoreState) (c : CoreState) (id seq : ℕ) (item : Item) → Tied v st c → c.taken ≡ Some (Nav, request.Read Mission id seq) → st.mission.plan.id ≡ id → slice_get st.mission.plan.items seq ≡ Some item →
    Next v (Made (Served Nav (reply.Item item))) (store.settled st) (worked c (answered c.shared.board Nav (about.Read Mission id seq) (reply.Item item)) None)
serves_item v st c id seq item tied takes here at =
    let asked : Asked = about.Read Mission id seq in
    let plan = tied.mission in
    let below : seq < length v.mission.items = omega (arith, plan.count, slice_get_within st.mission.plan.items seq item at) in
    let can = item_can_be v.mission st.mission.plan (mission_head c.shared) seq item plan at in
    let after : VehicleState = with_item_told (ended v Nav asked (reply.Item item)) Mission seq item in
    let later : Later v.mission after.mission = later_told v.mission seq item below can in
    let in_force : id ≡ v.mission.id = sym here ∙ plan.id in
    let known : KnownAt after.mission id seq item = record { earlier = omega (arith, in_force); is = λ _. told_here v.mission seq item below } in (
      after,
      record { asked = asked; in_service = tied.service ∙ ap in_service takes; replies = record { in_force = in_force; within = below; item_is = can; after = refl } },
      record {
        service = refl;
        mission = plan_told v.mission st.mission.plan (mission_head c.shared) seq item plan at below;
        fence = tied.fence;
        wanted = tied.wanted;
        replies = All-push (ReplyFits after.mission) c.shared.board.nav_posted (asked, reply.Item item) (All-weaker (ReplyFits v.mission) (ReplyFits after.mission) (reply_later v.mission after.mission later) c.shared.board.nav_posted tied.replies) known;
        nav = nav_told v.mission after.mission v.mode v.index v.at_leg c.nav later refl tied.nav;
        unused = tied.unused;
        links = tied.links;
      },
    )

-- a read of a plan that is not in force is told the one that is
serves_stale : (v : VehicleState) (st : store.StoreState) (c : CoreState) (id seq : ℕ) → Tied v st c → c.taken ≡ Some (Nav, request.Read Mission id seq) → st.mission.plan.id ≢ id →
    Next v (Made (Served Nav (reply.Stale st.mission.plan.id))) (store.settled st) (worked c (answered c.shared.board Nav (about.Read Mission id seq) (reply.Stale st.mission.plan.id)) None)
serves_stale v st c id seq tied takes other =
    let asked : Asked = about.Read Mission id seq in
    let given : Reply = reply.Stale st.mission.plan.id in (
      ended v Nav asked given,
      record { asked = asked; in_service = tied.service ∙ ap in_service takes; replies = record { in_force = tied.mission.id; other = λ e. other (sym e); after = refl } },
      record {
        service = refl;
        mission = tied.mission;
        fence = tied.fence;
        wanted = tied.wanted;
        replies = All-push (ReplyFits v.mission) c.shared.board.nav_posted (asked, given) tied.replies tt;
        nav = tied.nav;
        unused = tied.unused;
        links = tied.links;
      },
    )

serves_found : (v : VehicleState) (st : store.StoreState) (c : CoreState) (id seq : ℕ) (found : Option Item) → Tied v st c → c.taken ≡ Some (Nav, request.Read Mission id seq) → st.mission.plan.id ≡ id → seq < length st.mission.plan.items → slice_get st.mission.plan.items seq ≡ found →
    Next v (Made (Served Nav (found_reply st.mission.plan.id found))) (store.settled st) (worked c (answered c.shared.board Nav (about.Read Mission id seq) (found_reply st.mission.plan.id found)) None)
serves_found v st c id seq (Some item) tied takes here below at = serves_item v st c id seq item tied takes here at
serves_found v st c id seq None tied takes here below at = elim (slice_get_cases st.mission.plan.items seq).1 [
  | inl there ↦ cc (at, there.2)
  | inr past ↦ absurd (omega (arith, below, past.0))
]

-- a read is served
pub serves_read : (v : VehicleState) (st : store.StoreState) (c : CoreState) (id seq : ℕ) → Tied v st c → c.taken ≡ Some (Nav, request.Read Mission id seq) → NavAsks (mission_head c.shared) (request.Read Mission id seq) →
    Next v (Made (Served Nav (reply_to Well st (request.Read Mission id seq)))) (after Well st (request.Read Mission id seq)) (worked c (answered c.shared.board Nav (about.Read Mission id seq) (reply_to Well st (request.Read Mission id seq))) None)
serves_read v st c id seq tied takes ask =
    let P : Reply → Type 0 = λ given. Next v (Made (Served Nav given)) (store.settled st) (worked c (answered c.shared.board Nav (about.Read Mission id seq) given) None) in
    let plan = st.mission.plan in
    let choice : Bool → Reply = λ own. if own then found_reply plan.id (slice_get plan.items seq) else reply.Stale plan.id in
    elim (eqb_tells plan.id id) [
      | inl same ↦
          let in_force : id ≡ (mission_head c.shared).id = sym same.1 ∙ tied.mission.id ∙ sym tied.mission.head_id in
          let below : seq < length plan.items = omega (arith, ask.1 in_force, tied.mission.head_count, tied.mission.count) in
          subst (λ own. P (choice own)) (sym same.0) (serves_found v st c id seq (slice_get plan.items seq) tied takes same.1 below refl)
      | inr other ↦ subst (λ own. P (choice own)) (sym other.0) (serves_stale v st c id seq tied takes other.1)
    ]
