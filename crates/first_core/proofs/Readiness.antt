-- A step is idle exactly where its actor is not ready, and then nothing changes.
use Rattle.std.proofs.Common.{◌≡◌, ◌⊎◌, inl, inr, ℕ, ◌<◌, Bool, true, false, List, [], ◌∷◌, length, Option, Some, None, refl, sym, ap, arith, ◌↔◌}
use Rattle.std.proofs.lemmas.Bool.{true≢false}
use Rattle.std.specs.Prelude.{slice_get}
use Rattle.first_model.specs.declared.request.Client.{Client}
use Rattle.first_model.specs.declared.request.Client.TheVariants as client
use Rattle.first_model.specs.declared.request.Request.{Request}
use Rattle.first_model.specs.declared.request.Reply.{Reply}
use Rattle.first_model.specs.declared.message.Said.TheVariants as said
use Rattle.first_model.specs.declared.vehicle.VehicleLine.TheVariants as event
use Rattle.first_model.specs.declared.schedule.InputLine.{InputLine}
use Rattle.first_model.specs.declared.schedule.InputLine.TheVariants as input
use Rattle.first_model.specs.declared.flight_line.Actor.{Actor}
use Rattle.first_model.specs.declared.flight_line.Actor.TheVariants as actor
use Rattle.first_model.specs.declared.flight_line.Line.{Line}
use Rattle.first_model.specs.declared.flight_line.Line.TheVariants as line
use Rattle.first_board.specs.BoardState.{outstanding}
use Rattle.first_core.specs.declared.StepOut.{StepOut}
use Rattle.first_core.specs.declared.StepOut.TheVariants.{Made, Idle}
use Rattle.first_core.specs.SharedState.{SharedState}
use Rattle.first_core.specs.LinkState.{LinkState}
use Rattle.first_core.specs.NavState.{NavState}
use Rattle.first_core.specs.Ready.{InputReady, InputWaits}
use Rattle.first_core.specs.WorkerLaw as worker
use Rattle.first_core.specs.LinkLaw as link
use Rattle.first_core.specs.NavLaw as nav
use Rattle.first_core.specs.CoreState.{CoreState}
use Rattle.first_core.specs.CoreLaw.{CoreStep, LinkMovesIf, WorkerReady, LinkReady, NavReady, IsReady}

-- a schedule that gives no step is not ready
not_both : (s : SharedState) (client : Client) (inputs : List InputLine) (begun : Bool) → InputReady s client inputs begun → InputWaits s client inputs begun → ⊥
not_both s client [] begun ready waits = ready
not_both s client (input.Wait ∷ rest) begun ready waits = omega (arith, ready, waits)
not_both s client (input.Meet place count ∷ rest) false ready waits = waits
not_both s client (input.Meet place count ∷ rest) true ready waits = omega (arith, ready, waits)
not_both s client (input.Vehicle event.Go ∷ rest) true ready waits = omega (arith, ready, waits)
not_both s client (current ∷ rest) begun ready waits = waits

worker_made : (s : SharedState) (w : Option (Client × Request)) (given : Option Reply) (out : Line) (s' : SharedState) (w' : Option (Client × Request)) → worker.WorkerStep s w given (Made out) s' w' → WorkerReady s given
worker_made s w (Some given) out s' w' step = inr refl
worker_made s w None (line.Took client asked) s' w' step = inl (rw step.first (omega arith))
worker_made s w None out s' w' step = absurd step

worker_idle : (s : SharedState) (w : Option (Client × Request)) (given : Option Reply) (s' : SharedState) (w' : Option (Client × Request)) → worker.WorkerStep s w given Idle s' w' → WorkerReady s given → ⊥
worker_idle s w None s' w' step (inl waits) = omega (arith, waits, ap length step.none)
worker_idle s w None s' w' step (inr some) = true≢false (sym some)
worker_idle s w (Some given) s' w' step ready = step

link_made : (s : SharedState) (l : LinkState) (out : Line) (s' : SharedState) (l' : LinkState) → link.LinkStep s l (Made out) s' l' → LinkReady s (Some l)
link_made s l (line.Sent number (said.Count kind count) given) s' l' (mine, inl step) = inr (step.free.outstanding, rw step.input tt)
link_made s l (line.Sent number (said.Count kind count) given) s' l' (mine, inr step) = inr (step.free.outstanding, rw step.input tt)
link_made s l (line.Sent number (said.Item seq) given) s' l' (mine, step) = inr (step.free.outstanding, rw step.input tt)
link_made s l (line.Heard number given said) s' l' (mine, step) = inl (rw step.first (omega arith))
link_made s l (line.Arrived client place) s' l' step = inr (step.free.outstanding, rw (step.input, step.fresh) tt)
link_made s l (line.Met client place) s' l' step = inr (step.free.outstanding, rw (step.input, step.begun) step.enough)
link_made s l (line.Waited client) s' l' step = inr (step.free.outstanding, rw step.input step.free.outstanding)
link_made s l out s' l' step = absurd step

link_rests : (s : SharedState) (l : LinkState) → outstanding s.board (client.Link l.number) ≡ 0 → InputReady s (client.Link l.number) l.schedule.inputs l.schedule.begun → (0 < outstanding s.board (client.Link l.number)) ⊎ InputWaits s (client.Link l.number) l.schedule.inputs l.schedule.begun → ⊥
link_rests s l free ready (inl some) = omega (arith, free, some)
link_rests s l free ready (inr waits) = not_both s (client.Link l.number) l.schedule.inputs l.schedule.begun ready waits

link_idle : (s : SharedState) (l : LinkState) (s' : SharedState) (l' : LinkState) → link.LinkStep s l Idle s' l' → LinkReady s (Some l) → ⊥
link_idle s l s' l' step (inl some) = omega (arith, some, ap length step.posted)
link_idle s l s' l' step (inr (free, ready)) = link_rests s l free ready step.idle

nav_made : (s : SharedState) (n : NavState) (out : Line) (s' : SharedState) (n' : NavState) → nav.NavStep s n (Made out) s' n' → NavReady s n
nav_made s n (line.Got asked given) s' n' step = inl (rw step.first (omega arith))
nav_made s n (line.Nav event entry) s' n' step = inr step.ready
nav_made s n (line.Arrived client place) s' n' step = inr (rw (step.input, step.fresh) tt)
nav_made s n (line.Met client place) s' n' step = inr (rw (step.input, step.begun) step.enough)
nav_made s n (line.Waited client) s' n' step = inr (rw step.input step.free)
nav_made s n out s' n' step = absurd step

nav_idle : (s : SharedState) (n : NavState) (s' : SharedState) (n' : NavState) → nav.NavStep s n Idle s' n' → NavReady s n → ⊥
nav_idle s n s' n' step (inl some) = omega (arith, some, ap length step.posted)
nav_idle s n s' n' step (inr ready) = not_both s client.Nav n.schedule.inputs n.schedule.begun ready step.idle

found_made : (c : CoreState) (number : ℕ) (found : Option LinkState) (out : Line) (c' : CoreState) → LinkMovesIf found c number (Made out) c' → LinkReady c.shared found
found_made c number None out c' step = absurd cc
found_made c number (Some old) out c' step = link_made c.shared old out c'.shared step.new step.step

found_idle : (c : CoreState) (number : ℕ) (found : Option LinkState) (c' : CoreState) → LinkMovesIf found c number Idle c' → LinkReady c.shared found → ⊥
found_idle c number None c' step ready = ready
found_idle c number (Some old) c' step ready = link_idle c.shared old c'.shared step.new step.step ready

-- a made step is one of a ready actor
made_ready : (c : CoreState) (who : Actor) (given : Option Reply) (out : Line) (c' : CoreState) → CoreStep c who given (Made out) c' → IsReady c who given
made_ready c actor.Worker given out c' step = worker_made c.shared c.taken given out c'.shared c'.taken step.0
made_ready c actor.Nav given out c' step = nav_made c.shared c.nav out c'.shared c'.nav step.0
made_ready c (actor.Link number) given out c' step = found_made c number (slice_get c.links number) out c' step
made_ready c (actor.Watch number) given out c' step = absurd cc

idle_not_ready : (c : CoreState) (who : Actor) (given : Option Reply) (c' : CoreState) → CoreStep c who given Idle c' → IsReady c who given → ⊥
idle_not_ready c actor.Worker given c' step ready = worker_idle c.shared c.taken given c'.shared c'.taken step.0 ready
idle_not_ready c actor.Nav given c' step ready = nav_idle c.shared c.nav c'.shared c'.nav step.0 ready
idle_not_ready c (actor.Link number) given c' step ready = found_idle c number (slice_get c.links number) c' step ready
idle_not_ready c (actor.Watch number) given c' step ready = ready

-- a step is idle exactly where its actor is not ready
pub idle_exactly : (c : CoreState) (who : Actor) (given : Option Reply) (out : StepOut Line) (c' : CoreState) → CoreStep c who given out c' → (out ≡ Idle) ↔ (IsReady c who given → ⊥)
idle_exactly c who given Idle c' step = (λ e. idle_not_ready c who given c' step, λ no. refl)
idle_exactly c who given (Made out) c' step = (λ e. absurd cc, λ no. absurd (no (made_ready c who given out c' step)))
