-- After a link's step, by its law alone, it fits, and service and places are as they were.
use Rattle.std.proofs.Common.{◌≡◌, inl, inr, ℕ, ◌+◌, ◌<◌, true, List, [], ◌∷◌, ◌++◌, length, refl, sym, ap, ◌∙◌, subst, arith, length-set}
use Rattle.std.specs.List.{All}
use Rattle.std.proofs.lemmas.Bool.Decides.{nat_tests}
use Rattle.std.proofs.lemmas.List.{get_or-set_same}
use Rattle.std.proofs.lemmas.List.Elements.{All-drop}
use Rattle.first_model.specs.declared.plan.PlanType.TheVariants.{Mission}
use Rattle.first_model.specs.declared.request.Client.{Client}
use Rattle.first_model.specs.declared.request.Client.TheVariants.{Link}
use Rattle.first_model.specs.declared.request.Request.{Request}
use Rattle.first_model.specs.declared.request.Request.TheVariants as request
use Rattle.first_model.specs.declared.request.Asked.{Asked}
use Rattle.first_model.specs.declared.request.Reply.{Reply}
use Rattle.first_model.specs.declared.request.Reply.TheVariants as reply
use Rattle.first_model.specs.declared.message.Said.TheVariants as said
use Rattle.first_model.specs.declared.message.Answer.{Answer}
use Rattle.first_model.specs.declared.schedule.InputLine.{InputLine}
use Rattle.first_model.specs.declared.flight_line.Line.{Line}
use Rattle.first_model.specs.declared.flight_line.Line.TheVariants as line
use Rattle.first_board.specs.BoardState.{BoardState, asks_of, outstanding, posted}
use Rattle.first_board.specs.BoardCalls.{asked}
use Rattle.first_core.specs.declared.StepOut.{StepOut}
use Rattle.first_core.specs.declared.StepOut.TheVariants.{Made, Idle}
use Rattle.first_core.specs.declared.link.Session.{Session}
use Rattle.first_core.specs.declared.link.Session.TheVariants as session
use Rattle.first_core.specs.ScheduleState.{ScheduleState, begun_on, advanced}
use Rattle.first_core.specs.SharedState.{SharedState}
use Rattle.first_core.specs.LinkState.{LinkState, LinkFits, SessionFits, Uploading, NoUpload, IsForLink, link_done, session_out}
use Rattle.first_core.specs.LinkLaw as law
use Rattle.first_core.proofs.Inputs.{NoUpload-fresh}
use Rattle.first_core.proofs.LinkPlans.{session_out-le}
use Rattle.first_core.proofs.Servable.{Uploading-within}

-- the link fits the shared part after its step
pub record LinkMade (s : SharedState) (l : LinkState) (s' : SharedState) (l' : LinkState) : Type 0 where
  pub number : l'.number ≡ l.number
  pub fits : LinkFits s' l'
  pub service : s'.board.service ≡ s.board.service
  pub places : length s'.board.link_posted ≡ length s.board.link_posted

-- a session goes on only while its upload is the current input
free_at : (schedule : ScheduleState) (current : Session) → ((count : ℕ) → Uploading schedule.inputs count → ⊥) → SessionFits schedule current → current ≡ session.Free
free_at schedule session.Free none fits = refl
free_at schedule (session.Receiving id count seq) none fits = absurd (none count fits.0)
free_at schedule (session.Writing id count seq) none fits = absurd (none count fits.0)
free_at schedule (session.Committing id count) none fits = absurd (none count fits.0)

-- a link that has begun nothing fits where nothing of its own is outstanding
free_fits : (s : SharedState) (l : LinkState) → outstanding s.board (Link l.number) ≡ 0 → l.session ≡ session.Free → NoUpload l.schedule.inputs l.schedule.begun → All IsForLink l.schedule.inputs → LinkFits s l
free_fits s l none free stands inputs = record {
  outstanding = none ∙ sym (ap session_out free);
  session = subst (SessionFits l.schedule) (sym free) stands;
  inputs = inputs;
}

done_fits : (s : SharedState) (l : LinkState) → outstanding s.board (Link l.number) ≡ 0 → All IsForLink l.schedule.inputs → LinkFits s (link_done l)
done_fits s l none inputs = free_fits s (link_done l) none refl (NoUpload-fresh (advanced l.schedule).inputs) (All-drop IsForLink 1 l.schedule.inputs inputs)

-- one more request of the link is outstanding
one_asked : (b : BoardState) (number : ℕ) (request : Request) (waiting : List (Client × Request)) → asks_of (Link number) (waiting ++ (Link number, request) ∷ []) ≡ asks_of (Link number) waiting + 1
one_asked b number request [] = grind (arith, nat_tests)
one_asked b number request ((other, asked) ∷ waiting) = omega (arith, one_asked b number request waiting)

asked_one : (s : SharedState) (number : ℕ) (request : Request) → outstanding s.board (Link number) ≡ 0 → outstanding (asked s.board (Link number) request) (Link number) ≡ 1
asked_one s number request none = omega (arith, none, one_asked s.board number request s.board.waiting)

-- only the schedule moved, at an input that is no upload
moved_fits : (s s' : SharedState) (l : LinkState) (schedule : ScheduleState) → LinkFits s l → s'.board ≡ s.board → ((count : ℕ) → Uploading l.schedule.inputs count → ⊥) → NoUpload schedule.inputs schedule.begun → All IsForLink schedule.inputs → LinkFits s' (record l { schedule = schedule })
moved_fits s s' l schedule fits board none stands inputs =
    let free = free_at l.schedule l.session none fits.session in
    free_fits s' (record l { schedule = schedule }) (ap (λ b. outstanding b (Link l.number)) board ∙ fits.outstanding ∙ ap session_out free) free stands inputs

-- an upload begins
begins_fits : (s : SharedState) (l : LinkState) (kind count : ℕ) (given : Answer) (s' : SharedState) (l' : LinkState) → LinkFits s l → law.Begins s l kind count given s' l' → LinkFits s' l'
begins_fits s l kind count given s' l' fits begins =
    let up : Uploading l.schedule.inputs count = subst (λ inputs. Uploading inputs count) (sym begins.input) begins.count_is in
    let within = Uploading-within l.schedule.inputs count up fits.inputs in
    rw (begins.shared, begins.link) (record { outstanding = begins.free.outstanding; session = (up, refl, within.0); inputs = fits.inputs })

writes_fits : (s : SharedState) (l : LinkState) (seq : ℕ) (given : Answer) (s' : SharedState) (l' : LinkState) → LinkFits s l → law.Writes s l seq given s' l' → LinkFits s' l'
writes_fits s l seq given s' l' fits writes =
    let stands : SessionFits l.schedule (session.Receiving writes.id writes.count seq) = subst (SessionFits l.schedule) writes.session_was fits.session in
    rw (writes.shared, writes.link) (record { outstanding = asked_one s l.number (request.Write Mission writes.id seq writes.item) writes.free.outstanding; session = stands; inputs = fits.inputs })

-- the only reply is taken: nothing of the link is outstanding
none_heard : (s : SharedState) (l : LinkState) (first : Asked × Reply) (rest : List (Asked × Reply)) → LinkFits s l → l.number < length s.board.link_posted → posted s.board (Link l.number) ≡ first ∷ rest → outstanding (law.after_hearing s l rest).board (Link l.number) ≡ 0
none_heard s l first rest fits below is =
    let long : length (posted s.board (Link l.number)) ≡ length rest + 1 = ap length is ∙ omega arith in
    let left : length (posted (law.after_hearing s l rest).board (Link l.number)) ≡ length rest = ap length (get_or-set_same s.board.link_posted l.number rest [] below) in
    omega (arith, fits.outstanding, session_out-le l.session, long, left)

-- the link after its answer to a reply, from the shared part once that was taken
abbrev AnsweredBy : SharedState → LinkState → SharedState → LinkState → Type 0
AnsweredBy s l s' l' = (l'.number ≡ l.number) × LinkFits s' l' × (s'.board.service ≡ s.board.service) × (s'.board.link_posted ≡ s.board.link_posted)

over_by : (s s' : SharedState) (l l' : LinkState) → outstanding s.board (Link l.number) ≡ 0 → All IsForLink l.schedule.inputs → s' ≡ s → l' ≡ link_done l → AnsweredBy s l s' l'
over_by s s' l l' none inputs stays moves = rw (stays, moves) (refl, done_fits s l none inputs, refl, refl)

done_by : (s s' : SharedState) (l l' : LinkState) (current : Session) (given : Answer) → outstanding s.board (Link l.number) ≡ 0 → All IsForLink l.schedule.inputs → SessionFits l.schedule current → law.AnswersDone s l current given s' l' → AnsweredBy s l s' l'
done_by s s' l l' session.Free given none inputs stands answers = absurd answers
done_by s s' l l' (session.Receiving id count seq) given none inputs stands answers = absurd answers
done_by s s' l l' (session.Writing id count seq) given none inputs stands (inl (more, answer, stays, moves)) =
    rw (stays, moves) (refl, record { outstanding = none; session = (stands.0, stands.1, more); inputs = inputs }, refl, refl)
done_by s s' l l' (session.Writing id count seq) given none inputs stands (inr (end, answer, asks, moves)) =
    rw (asks, moves) (refl, record { outstanding = asked_one s l.number (request.Commit Mission id count) none; session = (stands.0, stands.1); inputs = inputs }, refl, refl)
done_by s s' l l' (session.Committing id count) given none inputs stands (answer, stays, moves) = over_by s s' l l' none inputs stays moves

answered_by : (s s' : SharedState) (l l' : LinkState) (given : Reply) (said : Answer) → outstanding s.board (Link l.number) ≡ 0 → All IsForLink l.schedule.inputs → SessionFits l.schedule l.session → law.Answers s l given said s' l' → AnsweredBy s l s' l'
answered_by s s' l l' reply.Done said none inputs stands answers = done_by s s' l l' l.session said none inputs stands answers
answered_by s s' l l' (reply.Item item) said none inputs stands (answer, stays, moves) = over_by s s' l l' none inputs stays moves
answered_by s s' l l' (reply.Stale now) said none inputs stands (answer, stays, moves) = over_by s s' l l' none inputs stays moves
answered_by s s' l l' reply.DiskFailed said none inputs stands (answer, stays, moves) = over_by s s' l l' none inputs stays moves
answered_by s s' l l' reply.PowerOff said none inputs stands (answer, stays, moves) = over_by s s' l l' none inputs stays moves
answered_by s s' l l' (reply.Spent last) said none inputs stands (answer, stays, moves) = over_by s s' l l' none inputs stays moves

hears_made : (s : SharedState) (l : LinkState) (given : Reply) (said : Answer) (s' : SharedState) (l' : LinkState) → LinkFits s l → l.number < length s.board.link_posted → law.Hears s l given said s' l' → LinkMade s l s' l'
hears_made s l given said s' l' fits below hears =
    let after : SharedState = law.after_hearing s l hears.rest in
    let made = answered_by after s' l l' given said (none_heard s l (hears.about, given) hears.rest fits below hears.first) fits.inputs fits.session hears.answers in
    record { number = made.0; fits = made.1; service = made.2; places = ap length made.3 ∙ length-set s.board.link_posted l.number hears.rest }

-- the input is no upload
abbrev NotUpload : List InputLine → Type 0
NotUpload inputs = (count : ℕ) → Uploading inputs count → ⊥

-- after a step of the link
pub link_parts : (s : SharedState) (l : LinkState) (out : StepOut Line) (s' : SharedState) (l' : LinkState) → LinkFits s l → l.number < length s.board.link_posted → law.LinkStep s l out s' l' → LinkMade s l s' l'
link_parts s l (Made (line.Sent number (said.Count kind count) given)) s' l' fits below (mine, inl begins) = record {
  number = ap (λ (x : LinkState). x.number) begins.link;
  fits = begins_fits s l kind count given s' l' fits begins;
  service = ap (λ (x : SharedState). x.board.service) begins.shared;
  places = ap (λ (x : SharedState). length x.board.link_posted) begins.shared;
}
link_parts s l (Made (line.Sent number (said.Count kind count) given)) s' l' fits below (mine, inr finds) = rw (finds.shared, finds.link) (record { number = refl; fits = done_fits s l finds.free.outstanding fits.inputs; service = refl; places = refl })
link_parts s l (Made (line.Sent number (said.Item seq) given)) s' l' fits below (mine, writes) = record {
  number = ap (λ (x : LinkState). x.number) writes.link;
  fits = writes_fits s l seq given s' l' fits writes;
  service = ap (λ (x : SharedState). x.board.service) writes.shared;
  places = ap (λ (x : SharedState). length x.board.link_posted) writes.shared;
}
link_parts s l (Made (line.Heard number given said)) s' l' fits below (mine, hears) = hears_made s l given said s' l' fits below hears
link_parts s l (Made (line.Arrived client place)) s' l' fits below step =
    let other : NotUpload l.schedule.inputs = λ count up. subst (λ inputs. Uploading inputs count) step.input up in
    let stands : NoUpload l.schedule.inputs true = subst (λ inputs. NoUpload inputs true) (sym step.input) tt in
    rw step.link (record {
      number = refl;
      fits = moved_fits s s' l (begun_on l.schedule) fits (ap (λ (x : SharedState). x.board) step.shared) other stands fits.inputs;
      service = ap (λ (x : SharedState). x.board.service) step.shared;
      places = ap (λ (x : SharedState). length x.board.link_posted) step.shared;
    })
link_parts s l (Made (line.Met client place)) s' l' fits below step =
    let other : NotUpload l.schedule.inputs = λ count up. subst (λ inputs. Uploading inputs count) step.input up in
    rw (step.shared, step.link) (record { number = refl; fits = moved_fits s s l (advanced l.schedule) fits refl other (NoUpload-fresh (advanced l.schedule).inputs) (All-drop IsForLink 1 l.schedule.inputs fits.inputs); service = refl; places = refl })
link_parts s l (Made (line.Waited client)) s' l' fits below step =
    let other : NotUpload l.schedule.inputs = λ count up. subst (λ inputs. Uploading inputs count) step.input up in
    rw (step.shared, step.link) (record { number = refl; fits = moved_fits s s l (advanced l.schedule) fits refl other (NoUpload-fresh (advanced l.schedule).inputs) (All-drop IsForLink 1 l.schedule.inputs fits.inputs); service = refl; places = refl })
link_parts s l Idle s' l' fits below step = rw (step.shared, step.link) (record { number = refl; fits = fits; service = refl; places = refl })
link_parts s l out s' l' fits below step = absurd step
