-- Which fates a service can have: a call that is not made cannot fail.
use Rattle.std.proofs.Common.{◌≡◌, ◌≢◌, Bool, refl, ap, ◌∙◌}
use Rattle.std.specs.Prelude.{IsSome, slice_get, if◌then◌else◌}
use Rattle.std.proofs.lemmas.Bool.{eq-eqb, ne_eqb}
use Rattle.first_model.specs.declared.limits.TheConstants.{LAST_GENERATION}
use Rattle.first_model.specs.declared.plan.PlanType.TheVariants.{Mission, Fence, Safe}
use Rattle.first_model.specs.declared.request.Request.{Request}
use Rattle.first_model.specs.declared.request.Request.TheVariants as request
use Rattle.first_model.specs.declared.request.Reply.{Reply}
use Rattle.first_model.specs.declared.request.Reply.TheVariants as reply
use Rattle.first_store.specs.StoreState.{StoreState, of_kind, plan_of, settled}
use Rattle.first_store.specs.Serve.{Fault, Failed, Cut, Fate, Well, InSettling, InRequest, InOpening, by_fate, found, change_reply, answer_to, reply_to}

-- A request calls the device, once no doubt is left: a read or a mark does where its id is in force, and a commit or a mark
-- where its cell is not at the last generation.
abbrev pub CallsDevice : StoreState → Request → Type 0
CallsDevice st (request.Read kind id seq) = (plan_of st kind).id ≡ id
CallsDevice st (request.Write kind id seq item) = Unit {0}
CallsDevice st (request.Commit kind id count) = (of_kind st kind).generation ≢ LAST_GENERATION
CallsDevice st (request.SetMark mark) = (st.mission.plan.id ≡ mark.id) × (st.mark_generation ≢ LAST_GENERATION)

-- a commit or a mark opens a gate
abbrev pub OpensGate : Request → Type 0
OpensGate (request.Read kind id seq) = ⊥
OpensGate (request.Write kind id seq item) = ⊥
OpensGate (request.Commit kind id count) = Unit {0}
OpensGate (request.SetMark mark) = Unit {0}

-- The service of this request by this store can have this fate.
abbrev pub Suits : Fate → StoreState → Request → Type 0
Suits Well st asked = Unit {0}
Suits (InSettling fault) st asked = IsSome st.doubt
Suits (InRequest fault) st asked = CallsDevice st asked
Suits (InOpening fault) st asked = OpensGate asked × CallsDevice st asked

-- the power went in a call
abbrev pub IsCut : Fault → Type 0
IsCut Failed = ⊥
IsCut Cut = Unit {0}

abbrev pub HasCut : Fate → Type 0
HasCut Well = ⊥
HasCut (InSettling fault) = IsCut fault
HasCut (InRequest fault) = IsCut fault
HasCut (InOpening fault) = IsCut fault

-- a fault in a call of a request is told
fault_told : (fate : Fate) (told : Reply) (st : StoreState) (asked : Request) → ((due : Reply) → by_fate fate due ≡ told) → CallsDevice st asked → answer_to fate st asked ≡ told
fault_told fate told st (request.Read kind id seq) by calls =
    let plan = plan_of st kind in
    ap (λ (own : Bool). if own then by_fate fate (found plan.id (slice_get plan.items seq)) else reply.Stale plan.id) (eq-eqb plan.id id calls) ∙ by (found plan.id (slice_get plan.items seq))
fault_told fate told st (request.Write kind id seq item) by calls = by reply.Done
fault_told fate told st (request.Commit kind id count) by calls =
    let generation = (of_kind st kind).generation in
    ap (λ (last : Bool). if last then reply.Spent generation else by_fate fate reply.Done) (ne_eqb generation LAST_GENERATION calls) ∙ by reply.Done
fault_told fate told st (request.SetMark mark) by calls =
    ap (λ (own : Bool). if own then change_reply fate st.mark_generation else reply.Stale st.mission.plan.id) (eq-eqb st.mission.plan.id mark.id calls.0)
    ∙ (ap (λ (last : Bool). if last then reply.Spent st.mark_generation else by_fate fate reply.Done) (ne_eqb st.mark_generation LAST_GENERATION calls.1) ∙ by reply.Done)

calls_settled : (st : StoreState) (asked : Request) → CallsDevice st asked → CallsDevice (settled st) asked
calls_settled st (request.Read Mission id seq) calls = calls
calls_settled st (request.Read Fence id seq) calls = calls
calls_settled st (request.Read Safe id seq) calls = calls
calls_settled st (request.Write kind id seq item) calls = calls
calls_settled st (request.Commit Mission id count) calls = calls
calls_settled st (request.Commit Fence id count) calls = calls
calls_settled st (request.Commit Safe id count) calls = calls
calls_settled st (request.SetMark mark) calls = calls

-- Where the power went in a service, that is what it replies; so a service of another reply has a fate without a cut.
pub cut_is_told : (fate : Fate) (st : StoreState) (asked : Request) → Suits fate st asked → HasCut fate → reply_to fate st asked ≡ reply.PowerOff
cut_is_told Well st asked suits cut = absurd cut
cut_is_told (InSettling Failed) st asked suits cut = absurd cut
cut_is_told (InSettling Cut) st asked suits cut = refl
cut_is_told (InRequest Failed) st asked suits cut = absurd cut
cut_is_told (InRequest Cut) st asked suits cut = fault_told (InRequest Cut) reply.PowerOff (settled st) asked (λ due. refl) (calls_settled st asked suits)
cut_is_told (InOpening Failed) st asked suits cut = absurd cut
cut_is_told (InOpening Cut) st asked suits cut = fault_told (InOpening Cut) reply.PowerOff (settled st) asked (λ due. refl) (calls_settled st asked suits.1)
