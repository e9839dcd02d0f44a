-- Each line is of the actor that it names; the actors keep their names and their places; the power goes with a reply alone.
use Rattle.std.proofs.Common.{◌≡◌, ◌⊎◌, inl, inr, ℕ, zero, suc, Bool, true, false, List, [], ◌∷◌, ◌++◌, Option, Some, None, slice_get, slice_set, refl, sym, subst, ap, ◌∙◌, true≢false}
use Rattle.mission_model.specs.declared.flight_line.Actor.{Actor}
use Rattle.mission_model.specs.declared.flight_line.Actor.TheVariants as actor
use Rattle.mission_model.specs.declared.flight_line.Line.{Line}
use Rattle.mission_model.specs.declared.flight_line.Line.TheVariants as line
use Rattle.mission_model.specs.declared.request.Client.{Client}
use Rattle.mission_model.specs.declared.request.Client.TheVariants as client
use Rattle.mission_model.specs.declared.request.Reply.{Reply}
use Rattle.mission_model.specs.declared.request.Reply.TheVariants as reply
use Rattle.request_board.specs.WatchLaw.{WatchRules}
use Rattle.vehicle_core.specs.ScheduleState.{ScheduleState}
use Rattle.vehicle_core.specs.Told.{SharedTold, LinkTold, NavTold, WatchTold, ActorTold, BootTold, Worker, Link, Nav, Watch, name_of, names_of}
use Rattle.vehicle_core.specs.ActorStep.{ActorStep, ClientStep, LinkStep, NavStep, WatcherStep, power_after}
use Rattle.vehicle_core.specs.CoreRun.{LineStep, Leads}
use Rattle.vehicle_core.specs.LineTells.{actor_of, maker, power_by}
use Rattle.vehicle_core.specs.Records.{client_power, link_power, nav_power, watch_power, ready_on}

-- a meeting or a wait is made by its client
client_made : (who : Client) (t : SharedTold) (s : ScheduleState) (made : Line) (t' : SharedTold) (s' : ScheduleState) → ClientStep who t s made t' s' → maker made ≡ Some (actor_of who)
client_made who t s (line.Arrived client place) t' s' h = ap (λ (c : Client). Some (actor_of c)) h.0
client_made who t s (line.Met client place) t' s' h = ap (λ (c : Client). Some (actor_of c)) h.0
client_made who t s (line.Waited client) t' s' h = ap (λ (c : Client). Some (actor_of c)) h.0
client_made who t s other t' s' h = elim h [ ]

link_made : (t : SharedTold) (l : LinkTold) (made : Line) (t' : SharedTold) (l' : LinkTold) → LinkStep t l made t' l' → maker made ≡ Some (actor.Link l.number)
link_made t l (line.Sent number said given) t' l' h = ap (λ n. Some (actor.Link n)) h.0
link_made t l (line.Heard number given said) t' l' h = ap (λ n. Some (actor.Link n)) h.0
link_made t l other t' l' h = client_made (client.Link l.number) t l.schedule other t' l'.schedule h.1.step

nav_made : (t : SharedTold) (n : NavTold) (made : Line) (t' : SharedTold) (n' : NavTold) → NavStep t n made t' n' → maker made ≡ Some actor.Nav
nav_made t n (line.Got about given) t' n' h = refl
nav_made t n (line.Dropped kind seq) t' n' h = refl
nav_made t n (line.Nav given entry) t' n' h = refl
nav_made t n other t' n' h = client_made client.Nav t n.schedule other t' n'.schedule h.1.step

link_number : (t : SharedTold) (l : LinkTold) (made : Line) (t' : SharedTold) (l' : LinkTold) → LinkStep t l made t' l' → l'.number ≡ l.number
link_number t l (line.Sent number said given) t' l' h = ap (λ (x : LinkTold). x.number) h.2.answers.link
link_number t l (line.Heard number given said) t' l' h = ap (λ (x : LinkTold). x.number) h.2.answers.link
link_number t l other t' l' h = ap (λ (x : LinkTold). x.number) h.1.link

-- the power after a link's and the Navigator's line
link_on : (t : SharedTold) (l : LinkTold) (made : Line) (t' : SharedTold) (l' : LinkTold) → t.power ≡ true → LinkStep t l made t' l' → t'.power ≡ power_by made
link_on t l (line.Served who given) t' l' on h = elim h.1.step [ ]
link_on t l other t' l' on h = link_power t l other t' l' h ∙ on

nav_on : (t : SharedTold) (n : NavTold) (made : Line) (t' : SharedTold) (n' : NavTold) → t.power ≡ true → NavStep t n made t' n' → t'.power ≡ power_by made
nav_on t n (line.Served who given) t' n' on h = elim h.1.step [ ]
nav_on t n other t' n' on h = nav_power t n other t' n' h ∙ on

module _ {W : Type 0} where
  watch_made : (rules : WatchRules W) (t : SharedTold) (w : WatchTold W) (made : Line) (t' : SharedTold) (w' : WatchTold W) → WatcherStep rules t w made t' w' → maker made ≡ Some (actor.Watch w.number)
  watch_made rules t w (line.WatchDid number given note asks) t' w' h = ap (λ n. Some (actor.Watch n)) h.0
  watch_made rules t w (line.WatchGot number about given note asks) t' w' h = ap (λ n. Some (actor.Watch n)) h.0
  watch_made rules t w other t' w' h = elim h [ ]

  watch_number : (rules : WatchRules W) (t : SharedTold) (w : WatchTold W) (made : Line) (t' : SharedTold) (w' : WatchTold W) → WatcherStep rules t w made t' w' → w'.number ≡ w.number
  watch_number rules t w (line.WatchDid number given note asks) t' w' h = ap (λ (x : WatchTold W). x.number) h.2.after
  watch_number rules t w (line.WatchGot number about given note asks) t' w' h = ap (λ (x : WatchTold W). x.number) h.2.after
  watch_number rules t w other t' w' h = elim h [ ]

  watch_on : (rules : WatchRules W) (t : SharedTold) (w : WatchTold W) (made : Line) (t' : SharedTold) (w' : WatchTold W) → t.power ≡ true → WatcherStep rules t w made t' w' → t'.power ≡ power_by made
  watch_on rules t w (line.WatchDid number given note asks) t' w' on h = watch_power rules t w (line.WatchDid number given note asks) t' w' h ∙ on
  watch_on rules t w (line.WatchGot number about given note asks) t' w' on h = watch_power rules t w (line.WatchGot number about given note asks) t' w' h ∙ on
  watch_on rules t w other t' w' on h = elim h [ ]

  worker_made : (rules : WatchRules W) (t : SharedTold) (made : Line) (t' : SharedTold) (a' : ActorTold W) → ActorStep rules t Worker made t' a' → (maker made ≡ Some actor.Worker) × (name_of a' ≡ actor.Worker)
  worker_made rules t (line.Took who about) t' Worker h = (refl, refl)
  worker_made rules t (line.Served who given) t' Worker h = (refl, refl)
  worker_made rules t other t' a' h = elim h [ ]

  worker_on : (rules : WatchRules W) (t : SharedTold) (made : Line) (t' : SharedTold) (a' : ActorTold W) → t.power ≡ true → ActorStep rules t Worker made t' a' → t'.power ≡ power_by made
  worker_on rules t (line.Took who about) t' Worker on h = ap (λ (x : SharedTold). x.power) h.shared ∙ on
  worker_on rules t (line.Served who given) t' Worker on h = ap (λ (x : SharedTold). x.power) h.shared
  worker_on rules t other t' a' on h = elim h [ ]

  -- a line is of the actor that it names
  pub step_made : (rules : WatchRules W) (t : SharedTold) (a : ActorTold W) (made : Line) (t' : SharedTold) (a' : ActorTold W) → ActorStep rules t a made t' a' → maker made ≡ Some (name_of a)
  step_made rules t Worker made t' a' h = (worker_made rules t made t' a' h).0
  step_made rules t (Link l) made t' (Link l') h = link_made t l made t' l' h
  step_made rules t (Nav n) made t' (Nav n') h = nav_made t n made t' n' h
  step_made rules t (Watch w) made t' (Watch w') h = watch_made rules t w made t' w' h
  step_made rules t a made t' a' h = elim h [ ]

  -- which keeps its name
  pub step_named : (rules : WatchRules W) (t : SharedTold) (a : ActorTold W) (made : Line) (t' : SharedTold) (a' : ActorTold W) → ActorStep rules t a made t' a' → name_of a' ≡ name_of a
  step_named rules t Worker made t' a' h = (worker_made rules t made t' a' h).1
  step_named rules t (Link l) made t' (Link l') h = ap (λ n. actor.Link n) (link_number t l made t' l' h)
  step_named rules t (Nav n) made t' (Nav n') h = refl
  step_named rules t (Watch w) made t' (Watch w') h = ap (λ n. actor.Watch n) (watch_number rules t w made t' w' h)
  step_named rules t a made t' a' h = elim h [ ]

  -- while the power is on, it is on behind each line but the reply that it went
  pub step_on : (rules : WatchRules W) (t : SharedTold) (a : ActorTold W) (made : Line) (t' : SharedTold) (a' : ActorTold W) → t.power ≡ true → ActorStep rules t a made t' a' → t'.power ≡ power_by made
  step_on rules t Worker made t' a' on h = worker_on rules t made t' a' on h
  step_on rules t (Link l) made t' (Link l') on h = link_on t l made t' l' on h
  step_on rules t (Nav n) made t' (Nav n') on h = nav_on t n made t' n' on h
  step_on rules t (Watch w) made t' (Watch w') on h = watch_on rules t w made t' w' on h
  step_on rules t a made t' a' on h = elim h [ ]

  names_set : (actors : List (ActorTold W)) (place : ℕ) (old new : ActorTold W) → slice_get actors place ≡ Some old → name_of new ≡ name_of old → names_of (slice_set actors place new) ≡ names_of actors
  names_set [] place old new at same = refl
  names_set (a ∷ actors) zero old new at same = ap (λ (n : Actor). n ∷ names_of actors) (same ∙ ap name_of (sym cc))
  names_set (a ∷ actors) (suc place) old new at same = ap (λ (l : List Actor). name_of a ∷ l) (names_set actors place old new at same)

  pub line_named : (rules : WatchRules W) (t t' : BootTold W) (made : Line) → LineStep rules t made t' → names_of t'.actors ≡ names_of t.actors
  line_named rules t t' made step = ap names_of step.actors ∙ names_set t.actors step.place step.old step.new step.at (step_named rules t.shared step.old made t'.shared step.new step.step)

  -- the actors keep their names and their places
  pub leads_named : (rules : WatchRules W) (t t' : BootTold W) (lines : List Line) → Leads rules t lines t' → names_of t'.actors ≡ names_of t.actors
  leads_named rules t t' [] run = ap (λ (x : BootTold W). names_of x.actors) run
  leads_named rules t t' (made ∷ lines) run = leads_named rules run.0 t' lines run.2 ∙ line_named rules t run.0 made run.1

  pub line_made : (rules : WatchRules W) (t t' : BootTold W) (made : Line) (step : LineStep rules t made t') → maker made ≡ Some (name_of step.old)
  line_made rules t t' made step = step_made rules t.shared step.old made t'.shared step.new step.step

  pub line_on : (rules : WatchRules W) (t t' : BootTold W) (made : Line) → LineStep rules t made t' → (t.shared.power ≡ true) × (t'.shared.power ≡ power_by made)
  line_on rules t t' made step =
      let on = ready_on t.shared step.old step.ready in
      (on, step_on rules t.shared step.old made t'.shared step.new on step.step)
