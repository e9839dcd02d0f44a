-- A reply that is given is the one that the line says, and no step loses one.
use Rattle.std.proofs.Common.{◌≡◌, ◌⊎◌, inl, inr, ℕ, ◌+◌, length, slice_get, arith, List, [], ◌∷◌, Bool, true, false, Option, Some, None, is_some, refl, sym, ap, ◌∙◌, true≢false}
use Rattle.std.specs.Prelude.{if◌then◌else◌}
use Rattle.mission_model.specs.declared.request.Client.{Client}
use Rattle.mission_model.specs.declared.request.Request.{Request}
use Rattle.mission_model.specs.declared.request.Reply.{Reply}
use Rattle.mission_model.specs.declared.flight_line.Line.{Line}
use Rattle.mission_model.specs.declared.flight_line.Line.TheVariants as line
use Rattle.request_board.specs.Watching.{Awaited}
use Rattle.request_board.specs.WatchLaw.{WatchRules}
use Rattle.turn_cell.specs.declared.machine.StepOut.{StepOut}
use Rattle.turn_cell.specs.declared.machine.StepOut.TheVariants.{Made, Idle}
use Rattle.vehicle_core.specs.declared.shared.Shared.{Shared}
use Rattle.vehicle_core.specs.declared.local.Local.{Local}
use Rattle.vehicle_core.specs.declared.local.Role.{Role}
use Rattle.vehicle_core.specs.declared.local.Role.TheVariants as role
use Rattle.vehicle_core.specs.SharedState.{shared_told, arrived_after}
use Rattle.vehicle_core.specs.Told.{SharedTold, LinkTold, NavTold, WatchTold}
use Rattle.vehicle_core.specs.Ready.{Turn, Replies, Goes, Rests, has_first, is_turn}
use Rattle.vehicle_core.specs.ActorStep.{LinkStep, NavStep, WatcherStep}
use Rattle.vehicle_core.specs.LineTells.{reply_given, SaysGiven}
use Rattle.vehicle_core.specs.LinkActs.{link_told}
use Rattle.vehicle_core.specs.NavActs.{nav_told}
use Rattle.vehicle_core.specs.WatchActs.{watch_told}
use Rattle.vehicle_core.specs.WorkerActs.{WorkerActs, WorkerLine, WorkerIdle, ReplySuits}
use Rattle.vehicle_core.specs.Steps.{RoleActs, RoleFits, RoleSuits, Steps, WorkerFits}
use Rattle.mission_model.specs.declared.flight_line.Actor.{Actor}
use Rattle.mission_model.specs.declared.flight_line.Actor.TheVariants as actor
use Rattle.vehicle_core.specs.ScheduleState.{same_actor}
use Rattle.vehicle_core.specs.CoreState.{CoreState, CoreFits, InputSuits, core_taken}
use Rattle.vehicle_core.specs.Fits.{LocalFits, LocalSuits, SharedFits, RoleKnows, number_among, role_name}
use Rattle.vehicle_core.proofs.PowerEnds.{told_true}

link_says : (t : SharedTold) (l : LinkTold) (made : Line) (t' : SharedTold) (l' : LinkTold) → LinkStep t l made t' l' → reply_given made ≡ None
link_says t l (line.Served who given) t' l' h = elim h.1.step [ ]
link_says t l other t' l' h = refl

nav_says : (t : SharedTold) (n : NavTold) (made : Line) (t' : SharedTold) (n' : NavTold) → NavStep t n made t' n' → reply_given made ≡ None
nav_says t n (line.Served who given) t' n' h = elim h.1.step [ ]
nav_says t n other t' n' h = refl

worker_says : (s : Shared) (given : Option Reply) (made : Line) (s' : Shared) → WorkerLine s [] given made s' → reply_given made ≡ given
worker_says s None (line.Took who shown) s' h = refl
worker_says s (Some given) (line.Served who reply) s' h = ap (λ (r : Reply). Some r) h.0
worker_says s given made s' h = elim h [ ]

rests_never : (waits : Bool) → (if true then Replies else (if waits then Goes else Rests)) ≡ Rests → ⊥
rests_never waits h = true≢false (ap is_turn h)

-- a worker that has taken a request is not idle
worker_keeps : (s : Shared) (taken : Option (Client × Request)) (given : Option Reply) (s' : Shared) (taken' : Option (Client × Request)) → WorkerFits s taken → ReplySuits taken given → WorkerIdle s taken s' taken' → given ≡ None
worker_keeps s taken None s' taken' fits suits idle = refl
worker_keeps s None (Some given) s' taken' fits suits idle = absurd suits
worker_keeps s (Some held) (Some given) s' taken' fits suits idle = elim (told_true s.power) [
  | inl on ↦ absurd (rests_never (has_first s.board.waiting) (ap (λ o. if is_some o then Replies else (if has_first s.board.waiting then Goes else Rests)) (sym fits.service) ∙ idle.turn on))
  | inr off ↦ let none : Some held ≡ None = fits.power off in absurd cc
]

module _ {W : Type 0} where
  watch_says : (rules : WatchRules W) (t : SharedTold) (w : WatchTold W) (made : Line) (t' : SharedTold) (w' : WatchTold W) → WatcherStep rules t w made t' w' → reply_given made ≡ None
  watch_says rules t w (line.Served who given) t' w' h = elim h [ ]
  watch_says rules t w other t' w' h = refl

  role_says : (rules : WatchRules W) (waits : W → Awaited) (s : Shared) (r : Role W) (given : Option Reply) (out : StepOut Line) (s' : Shared) (r' : Role W) → SharedFits s → RoleFits waits s r → RoleKnows s r → RoleSuits r given → RoleActs rules s r given out s' r' → SaysGiven given out
  role_says rules waits s (role.Worker taken) given (Made made) s' (role.Worker taken') shared fits knows suits h = worker_says s given made s' (h.line [])
  role_says rules waits s (role.Worker taken) given Idle s' (role.Worker taken') shared fits knows suits h = worker_keeps s taken given s' taken' fits suits h
  role_says rules waits s (role.Link l) given (Made made) s' (role.Link l') shared fits knows suits h =
      let led = h.led shared.arrived knows.heard shared.counted knows.hears in
      link_says (shared_told s shared.arrived) (link_told l knows.heard) made (shared_told s' (arrived_after made shared.arrived)) (link_told l' led.heard') led.step ∙ sym suits
  role_says rules waits s (role.Link l) given Idle s' (role.Link l') shared fits knows suits h = suits
  role_says rules waits s (role.Nav n) given (Made made) s' (role.Nav n') shared fits knows suits h =
      let led = h.led shared.arrived knows.items shared.counted knows.shown in
      nav_says (shared_told s shared.arrived) (nav_told n knows.items) made (shared_told s' (arrived_after made shared.arrived)) (nav_told n' led.items') led.step ∙ sym suits
  role_says rules waits s (role.Nav n) given Idle s' (role.Nav n') shared fits knows suits h = suits
  role_says rules waits s (role.Watch w) given (Made made) s' (role.Watch w') shared fits knows suits h = watch_says rules (shared_told s shared.arrived) (watch_told w) made (shared_told s' shared.arrived) (watch_told w') (h.led shared.arrived) ∙ sym suits
  role_says rules waits s (role.Watch w) given Idle s' (role.Watch w') shared fits knows suits h = suits
  role_says rules waits s old given out s' new shared fits knows suits h = elim h [ ]

  -- a step of a local says the reply that was given
  pub step_says : (rules : WatchRules W) (waits : W → Awaited) (s : Shared) (l : Local W) (given : Option Reply) (out : StepOut Line) (s' : Shared) (l' : Local W) → LocalFits waits s l → LocalSuits l given → Steps rules s l given out s' l' → SaysGiven given out
  step_says rules waits s l given out s' l' fits suits h = role_says rules waits s l.role given out s' l'.role fits.shared fits.role fits.knows suits h.acts

  -- an actor that the core does not have is not the worker, and is given no reply
  first_named : (r : Role W) (links number : ℕ) → number ≡ 0 → number ≡ number_among links (role_name r) → same_actor actor.Worker (role_name r) ≡ true
  first_named (role.Worker taken) links number first is = refl
  first_named (role.Link l) links number first is = absurd (omega (arith, first, is))
  first_named (role.Nav n) links number first is = absurd (omega (arith, first, is))
  first_named (role.Watch w) links number first is = absurd (omega (arith, first, is))

  has_worker : (waits : W → Awaited) (c : CoreState W) (locals : List (Local W)) → locals ≡ c.locals → CoreFits waits c → ((l : Local W) → slice_get locals 0 ≡ Some l → same_actor actor.Worker (role_name l.role) ≡ true → ⊥) → ⊥
  has_worker waits c [] same fits none = omega (arith, fits.count, ap length same)
  has_worker waits c (l ∷ ls) same fits none =
      let own = fits.each 0 l (ap (λ (xs : List (Local W)). slice_get xs 0) (sym same)) in
      none l refl (first_named l.role (length c.shared.board.link_posted) l.number own.0 own.1.number)

  pub absent_says : (waits : W → Awaited) (c : CoreState W) (who : Actor) (given : Option Reply) → CoreFits waits c → ((l : Local W) → slice_get c.locals (number_among c.links who) ≡ Some l → same_actor who (role_name l.role) ≡ true → ⊥) → InputSuits (core_taken c) who given → given ≡ None
  absent_says waits c actor.Worker given fits none suits = absurd (has_worker waits c c.locals refl fits none)
  absent_says waits c (actor.Link n) given fits none suits = suits
  absent_says waits c actor.Nav given fits none suits = suits
  absent_says waits c (actor.Watch n) given fits none suits = suits
