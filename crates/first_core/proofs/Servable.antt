-- What the worker has taken can be served.
use Rattle.std.proofs.Common.{◌≡◌, ℕ, ◌<◌, ◌≤◌, List, [], ◌∷◌, length, Option, Some, None, refl, ◌∙◌, arith, subst, get_or}
use Rattle.std.specs.Prelude.{slice_get, IfSome}
use Rattle.std.specs.List.{All}
use Rattle.std.proofs.lemmas.List.Elements.{All-head}
use Rattle.std.proofs.lemmas.Option.{slice_get_within, get_or_from_slice_get}
use Rattle.first_model.specs.declared.limits.TheConstants.{MAX_MISSION_ITEMS}
use Rattle.first_model.specs.declared.plan.PlanHead.{PlanHead}
use Rattle.first_model.specs.declared.plan.PlanType.TheVariants.{Mission, Fence, Safe}
use Rattle.first_model.specs.declared.request.Client.{Client}
use Rattle.first_model.specs.declared.request.Client.TheVariants.{Nav, Link, Watch}
use Rattle.first_model.specs.declared.request.Request.{Request}
use Rattle.first_model.specs.declared.request.Request.TheVariants as request
use Rattle.first_model.specs.declared.schedule.InputLine.{InputLine}
use Rattle.first_model.specs.declared.schedule.InputLine.TheVariants as input
use Rattle.first_core.specs.declared.link.Session.{Session}
use Rattle.first_core.specs.declared.link.Session.TheVariants as session
use Rattle.first_core.specs.ScheduleState.{ScheduleState}
use Rattle.first_core.specs.SharedState.{SharedState, mission_head}
use Rattle.first_core.specs.LinkState.{LinkState, LinkFits, IsForLink, Uploading, SessionFits}
use Rattle.first_core.specs.PlansFit.{AskFits, LinkAsks, NavAsks, IsAwaited, IsNewer, SessionIdFits, IsServable}
use Rattle.first_core.specs.CoreState.{CoreState, CoreFits}

-- a plain mission has an item, and is within the limit
pub Uploading-within : (inputs : List InputLine) (count : ℕ) → Uploading inputs count → All IsForLink inputs → (0 < count) × (count ≤ MAX_MISSION_ITEMS)
Uploading-within [] count uploading fit = absurd uploading
Uploading-within (input.Upload Mission items ∷ rest) count uploading fit = let plain = All-head IsForLink (input.Upload Mission items) rest fit in rw uploading (plain.some, plain.valid.within)
Uploading-within (input.Upload Fence items ∷ rest) count uploading fit = absurd uploading
Uploading-within (input.Upload Safe items ∷ rest) count uploading fit = absurd uploading
Uploading-within (input.Message message ∷ rest) count uploading fit = absurd uploading
Uploading-within (input.Wait ∷ rest) count uploading fit = absurd uploading
Uploading-within (input.Meet place total ∷ rest) count uploading fit = absurd uploading
Uploading-within (input.Vehicle event ∷ rest) count uploading fit = absurd uploading
Uploading-within (input.Watch watch ∷ rest) count uploading fit = absurd uploading

link_servable : (s : SharedState) (schedule : ScheduleState) (current : Session) (asked : Request) → All IsForLink schedule.inputs → SessionFits schedule current → SessionIdFits s current → IsAwaited schedule.inputs current asked → IsNewer (mission_head s) asked → IsServable (mission_head s) asked
link_servable s schedule (session.Writing id count seq) (request.Write Mission other place item) inputs fits ids (same, at, there) newer =
    let within = Uploading-within schedule.inputs count fits.0 inputs in
    let below : place < count = rw at fits.2 in
    (rw same ids.0, omega (arith, below, within.1))
link_servable s schedule (session.Committing id count) (request.Commit Mission other total) inputs fits ids (same, counts) newer =
    let within = Uploading-within schedule.inputs count fits.0 inputs in
    (newer, rw counts within.0, rw counts within.1)
link_servable s schedule current asked inputs fits ids awaited newer = absurd awaited

found_servable : (c : CoreState) (number : ℕ) (found : Option LinkState) (asked : Request) → CoreFits c → slice_get c.links number ≡ found → LinkAsks (mission_head c.shared) found asked → IsServable (mission_head c.shared) asked
found_servable c number None asked fits at ask = absurd ask
found_servable c number (Some l) asked fits at (awaited, newer) =
    let below : number < length c.links = slice_get_within c.links number l at in
    let here : get_or c.links number l ≡ l = get_or_from_slice_get c.links number l l at in
    let link : LinkFits c.shared l = subst (LinkFits c.shared) here (fits.each number l below).1 in
    let ids : SessionIdFits c.shared l.session = subst (λ (x : LinkState). SessionIdFits c.shared x.session) here (fits.plans.sessions number l below) in
    link_servable c.shared l.schedule l.session asked link.inputs link.session ids awaited newer

nav_servable : (head : PlanHead) (asked : Request) → NavAsks head asked → IsServable head asked
nav_servable head (request.Read Mission id seq) ask = ask
nav_servable head asked ask = absurd ask

ask_servable : (c : CoreState) (client : Client) (asked : Request) → CoreFits c → AskFits (mission_head c.shared) c.links (client, asked) → IsServable (mission_head c.shared) asked
ask_servable c Nav asked fits ask = nav_servable (mission_head c.shared) asked ask
ask_servable c (Link number) asked fits ask = found_servable c number (slice_get c.links number) asked fits refl ask
ask_servable c (Watch watch) asked fits ask = absurd ask

pub taken_servable : (c : CoreState) (client : Client) (asked : Request) → CoreFits c → c.taken ≡ Some (client, asked) → IsServable (mission_head c.shared) asked
taken_servable c client asked fits takes = ask_servable c client asked fits (subst (λ (service : Option (Client × Request)). IfSome service (AskFits (mission_head c.shared) c.links)) (fits.service ∙ takes) fits.plans.service)
