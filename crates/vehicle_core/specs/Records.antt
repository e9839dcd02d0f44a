-- What holds of every record that lines lead on: while the power is off nothing is in service, and nobody is ready; the actors
-- stay as many as they were; runs go on.
use Rattle.std.specs.Prelude.{◌≡◌, Bool, true, false, ◌&&◌, List, [], ◌∷◌, ◌++◌, length, None, refl}
use Rattle.std.proofs.Common.{sym, subst, ap, ◌∙◌, length-set, true≢false}
use Rattle.mission_model.specs.declared.request.Client.{Client}
use Rattle.mission_model.specs.declared.flight_line.Line.{Line}
use Rattle.mission_model.specs.declared.flight_line.Line.TheVariants as line
use Rattle.mission_model.specs.declared.vehicle.BootState.{BootState}
use Rattle.mission_model.specs.declared.schedule.BootScript.{BootScript}
use Rattle.request_board.specs.WatchLaw.{WatchRules}
use Rattle.vehicle_core.specs.ScheduleState.{ScheduleState}
use Rattle.vehicle_core.specs.Told.{SharedTold, LinkTold, NavTold, WatchTold, ActorTold, BootTold, Worker, Link, Nav, Watch, begun}
use Rattle.vehicle_core.specs.Ready.{is_ready, is_turn, turn_of}
use Rattle.vehicle_core.specs.ActorStep.{ActorStep, ClientStep, LinkStep, NavStep, WatcherStep}
use Rattle.vehicle_core.specs.CoreRun.{LineStep, Leads}

-- while the power is off nothing is in service
abbrev pub RestsOff : SharedTold → Type 0
RestsOff t = t.power ≡ false → t.board.service ≡ None

-- where the power stays on, it is not off
stays_on : (t t' : SharedTold) → t.power ≡ true → t'.power ≡ t.power → RestsOff t'
stays_on t t' on same off = absurd (true≢false (sym on ∙ sym same ∙ off))

pub client_power : (client : Client) (t : SharedTold) (s : ScheduleState) (made : Line) (t' : SharedTold) (s' : ScheduleState) → ClientStep client t s made t' s' → t'.power ≡ t.power
client_power client t s (line.Arrived who place) t' s' h = ap (λ (x : SharedTold). x.power) h.1.shared
client_power client t s (line.Met who place) t' s' h = ap (λ (x : SharedTold). x.power) h.1.shared
client_power client t s (line.Waited who) t' s' h = ap (λ (x : SharedTold). x.power) h.1.shared
client_power client t s (line.Boot number heads mark) t' s' h = elim h [ ]
client_power client t s (line.BootCut number) t' s' h = elim h [ ]
client_power client t s (line.Sent number said given) t' s' h = elim h [ ]
client_power client t s (line.Heard number given said) t' s' h = elim h [ ]
client_power client t s (line.Took who about) t' s' h = elim h [ ]
client_power client t s (line.Served who given) t' s' h = elim h [ ]
client_power client t s (line.Got about given) t' s' h = elim h [ ]
client_power client t s (line.Nav given entry) t' s' h = elim h [ ]
client_power client t s (line.Dropped kind seq) t' s' h = elim h [ ]
client_power client t s (line.WatchDid number given note asks) t' s' h = elim h [ ]
client_power client t s (line.WatchGot number about given note asks) t' s' h = elim h [ ]
client_power client t s line.End t' s' h = elim h [ ]
client_power client t s line.Stuck t' s' h = elim h [ ]

pub link_power : (t : SharedTold) (l : LinkTold) (made : Line) (t' : SharedTold) (l' : LinkTold) → LinkStep t l made t' l' → t'.power ≡ t.power
link_power t l (line.Sent number said given) t' l' h = ap (λ (x : SharedTold). x.power) h.2.answers.shared
link_power t l (line.Heard number given said) t' l' h = ap (λ (x : SharedTold). x.power) h.2.answers.shared
link_power t l (line.Arrived who place) t' l' h = client_power _ t l.schedule (line.Arrived who place) t' l'.schedule h.1.step
link_power t l (line.Met who place) t' l' h = client_power _ t l.schedule (line.Met who place) t' l'.schedule h.1.step
link_power t l (line.Waited who) t' l' h = client_power _ t l.schedule (line.Waited who) t' l'.schedule h.1.step
link_power t l (line.Boot number heads mark) t' l' h = elim h.1.step [ ]
link_power t l (line.BootCut number) t' l' h = elim h.1.step [ ]
link_power t l (line.Took who about) t' l' h = elim h.1.step [ ]
link_power t l (line.Served who given) t' l' h = elim h.1.step [ ]
link_power t l (line.Got about given) t' l' h = elim h.1.step [ ]
link_power t l (line.Nav given entry) t' l' h = elim h.1.step [ ]
link_power t l (line.Dropped kind seq) t' l' h = elim h.1.step [ ]
link_power t l (line.WatchDid number given note asks) t' l' h = elim h.1.step [ ]
link_power t l (line.WatchGot number about given note asks) t' l' h = elim h.1.step [ ]
link_power t l line.End t' l' h = elim h.1.step [ ]
link_power t l line.Stuck t' l' h = elim h.1.step [ ]

pub nav_power : (t : SharedTold) (n : NavTold) (made : Line) (t' : SharedTold) (n' : NavTold) → NavStep t n made t' n' → t'.power ≡ t.power
nav_power t n (line.Got about given) t' n' h = ap (λ (x : SharedTold). x.power) h.1.shared
nav_power t n (line.Dropped kind seq) t' n' h = ap (λ (x : SharedTold). x.power) h.1.shared
nav_power t n (line.Nav given entry) t' n' h = ap (λ (x : SharedTold). x.power) h.1.shared
nav_power t n (line.Arrived who place) t' n' h = client_power _ t n.schedule (line.Arrived who place) t' n'.schedule h.1.step
nav_power t n (line.Met who place) t' n' h = client_power _ t n.schedule (line.Met who place) t' n'.schedule h.1.step
nav_power t n (line.Waited who) t' n' h = client_power _ t n.schedule (line.Waited who) t' n'.schedule h.1.step
nav_power t n (line.Boot number heads mark) t' n' h = elim h.1.step [ ]
nav_power t n (line.BootCut number) t' n' h = elim h.1.step [ ]
nav_power t n (line.Sent number said given) t' n' h = elim h.1.step [ ]
nav_power t n (line.Heard number given said) t' n' h = elim h.1.step [ ]
nav_power t n (line.Took who about) t' n' h = elim h.1.step [ ]
nav_power t n (line.Served who given) t' n' h = elim h.1.step [ ]
nav_power t n (line.WatchDid number given note asks) t' n' h = elim h.1.step [ ]
nav_power t n (line.WatchGot number about given note asks) t' n' h = elim h.1.step [ ]
nav_power t n line.End t' n' h = elim h.1.step [ ]
nav_power t n line.Stuck t' n' h = elim h.1.step [ ]

and_left : (a b : Bool) → (a && b) ≡ true → a ≡ true
and_left true b h = refl
and_left false b h = h

module _ {W : Type 0} where
  pub watch_power : (rules : WatchRules W) (t : SharedTold) (w : WatchTold W) (made : Line) (t' : SharedTold) (w' : WatchTold W) → WatcherStep rules t w made t' w' → t'.power ≡ t.power
  watch_power rules t w (line.WatchDid number given note asks) t' w' h = ap (λ (x : SharedTold). x.power) h.2.shared
  watch_power rules t w (line.WatchGot number about given note asks) t' w' h = ap (λ (x : SharedTold). x.power) h.2.shared
  watch_power rules t w (line.Boot number heads mark) t' w' h = elim h [ ]
  watch_power rules t w (line.BootCut number) t' w' h = elim h [ ]
  watch_power rules t w (line.Arrived who place) t' w' h = elim h [ ]
  watch_power rules t w (line.Met who place) t' w' h = elim h [ ]
  watch_power rules t w (line.Waited who) t' w' h = elim h [ ]
  watch_power rules t w (line.Sent number said given) t' w' h = elim h [ ]
  watch_power rules t w (line.Heard number given said) t' w' h = elim h [ ]
  watch_power rules t w (line.Took who about) t' w' h = elim h [ ]
  watch_power rules t w (line.Served who given) t' w' h = elim h [ ]
  watch_power rules t w (line.Got about given) t' w' h = elim h [ ]
  watch_power rules t w (line.Nav given entry) t' w' h = elim h [ ]
  watch_power rules t w (line.Dropped kind seq) t' w' h = elim h [ ]
  watch_power rules t w line.End t' w' h = elim h [ ]
  watch_power rules t w line.Stuck t' w' h = elim h [ ]

  -- of an actor that is ready the power is on
  pub ready_on : (t : SharedTold) (a : ActorTold W) → is_ready t a ≡ true → t.power ≡ true
  ready_on t a ready = and_left t.power (is_turn (turn_of t a)) ready

  worker_off : (rules : WatchRules W) (t : SharedTold) (made : Line) (t' : SharedTold) (a' : ActorTold W) → t.power ≡ true → ActorStep rules t Worker made t' a' → RestsOff t'
  worker_off rules t (line.Took who about) t' Worker on h = stays_on t t' on (ap (λ (x : SharedTold). x.power) h.shared)
  worker_off rules t (line.Served who given) t' Worker on h = λ off. ap (λ (x : SharedTold). x.board.service) h.shared
  worker_off rules t (line.Took who about) t' (Link l) on h = elim h [ ]
  worker_off rules t (line.Took who about) t' (Nav n) on h = elim h [ ]
  worker_off rules t (line.Took who about) t' (Watch w) on h = elim h [ ]
  worker_off rules t (line.Served who given) t' (Link l) on h = elim h [ ]
  worker_off rules t (line.Served who given) t' (Nav n) on h = elim h [ ]
  worker_off rules t (line.Served who given) t' (Watch w) on h = elim h [ ]
  worker_off rules t (line.Boot number heads mark) t' Worker on h = elim h [ ]
  worker_off rules t (line.Boot number heads mark) t' (Link l) on h = elim h [ ]
  worker_off rules t (line.Boot number heads mark) t' (Nav n) on h = elim h [ ]
  worker_off rules t (line.Boot number heads mark) t' (Watch w) on h = elim h [ ]
  worker_off rules t (line.BootCut number) t' Worker on h = elim h [ ]
  worker_off rules t (line.BootCut number) t' (Link l) on h = elim h [ ]
  worker_off rules t (line.BootCut number) t' (Nav n) on h = elim h [ ]
  worker_off rules t (line.BootCut number) t' (Watch w) on h = elim h [ ]
  worker_off rules t (line.Arrived who place) t' Worker on h = elim h [ ]
  worker_off rules t (line.Arrived who place) t' (Link l) on h = elim h [ ]
  worker_off rules t (line.Arrived who place) t' (Nav n) on h = elim h [ ]
  worker_off rules t (line.Arrived who place) t' (Watch w) on h = elim h [ ]
  worker_off rules t (line.Met who place) t' Worker on h = elim h [ ]
  worker_off rules t (line.Met who place) t' (Link l) on h = elim h [ ]
  worker_off rules t (line.Met who place) t' (Nav n) on h = elim h [ ]
  worker_off rules t (line.Met who place) t' (Watch w) on h = elim h [ ]
  worker_off rules t (line.Waited who) t' Worker on h = elim h [ ]
  worker_off rules t (line.Waited who) t' (Link l) on h = elim h [ ]
  worker_off rules t (line.Waited who) t' (Nav n) on h = elim h [ ]
  worker_off rules t (line.Waited who) t' (Watch w) on h = elim h [ ]
  worker_off rules t (line.Sent number said given) t' Worker on h = elim h [ ]
  worker_off rules t (line.Sent number said given) t' (Link l) on h = elim h [ ]
  worker_off rules t (line.Sent number said given) t' (Nav n) on h = elim h [ ]
  worker_off rules t (line.Sent number said given) t' (Watch w) on h = elim h [ ]
  worker_off rules t (line.Heard number given said) t' Worker on h = elim h [ ]
  worker_off rules t (line.Heard number given said) t' (Link l) on h = elim h [ ]
  worker_off rules t (line.Heard number given said) t' (Nav n) on h = elim h [ ]
  worker_off rules t (line.Heard number given said) t' (Watch w) on h = elim h [ ]
  worker_off rules t (line.Got about given) t' Worker on h = elim h [ ]
  worker_off rules t (line.Got about given) t' (Link l) on h = elim h [ ]
  worker_off rules t (line.Got about given) t' (Nav n) on h = elim h [ ]
  worker_off rules t (line.Got about given) t' (Watch w) on h = elim h [ ]
  worker_off rules t (line.Nav given entry) t' Worker on h = elim h [ ]
  worker_off rules t (line.Nav given entry) t' (Link l) on h = elim h [ ]
  worker_off rules t (line.Nav given entry) t' (Nav n) on h = elim h [ ]
  worker_off rules t (line.Nav given entry) t' (Watch w) on h = elim h [ ]
  worker_off rules t (line.Dropped kind seq) t' Worker on h = elim h [ ]
  worker_off rules t (line.Dropped kind seq) t' (Link l) on h = elim h [ ]
  worker_off rules t (line.Dropped kind seq) t' (Nav n) on h = elim h [ ]
  worker_off rules t (line.Dropped kind seq) t' (Watch w) on h = elim h [ ]
  worker_off rules t (line.WatchDid number given note asks) t' Worker on h = elim h [ ]
  worker_off rules t (line.WatchDid number given note asks) t' (Link l) on h = elim h [ ]
  worker_off rules t (line.WatchDid number given note asks) t' (Nav n) on h = elim h [ ]
  worker_off rules t (line.WatchDid number given note asks) t' (Watch w) on h = elim h [ ]
  worker_off rules t (line.WatchGot number about given note asks) t' Worker on h = elim h [ ]
  worker_off rules t (line.WatchGot number about given note asks) t' (Link l) on h = elim h [ ]
  worker_off rules t (line.WatchGot number about given note asks) t' (Nav n) on h = elim h [ ]
  worker_off rules t (line.WatchGot number about given note asks) t' (Watch w) on h = elim h [ ]
  worker_off rules t line.End t' Worker on h = elim h [ ]
  worker_off rules t line.End t' (Link l) on h = elim h [ ]
  worker_off rules t line.End t' (Nav n) on h = elim h [ ]
  worker_off rules t line.End t' (Watch w) on h = elim h [ ]
  worker_off rules t line.Stuck t' Worker on h = elim h [ ]
  worker_off rules t line.Stuck t' (Link l) on h = elim h [ ]
  worker_off rules t line.Stuck t' (Nav n) on h = elim h [ ]
  worker_off rules t line.Stuck t' (Watch w) on h = elim h [ ]

  -- a step of an actor that was ready
  pub step_off : (rules : WatchRules W) (t : SharedTold) (a : ActorTold W) (made : Line) (t' : SharedTold) (a' : ActorTold W) → t.power ≡ true → ActorStep rules t a made t' a' → RestsOff t'
  step_off rules t Worker made t' a' on h = worker_off rules t made t' a' on h
  step_off rules t (Link l) made t' (Link l') on h = stays_on t t' on (link_power t l made t' l' h)
  step_off rules t (Nav n) made t' (Nav n') on h = stays_on t t' on (nav_power t n made t' n' h)
  step_off rules t (Watch w) made t' (Watch w') on h = stays_on t t' on (watch_power rules t w made t' w' h)
  step_off rules t (Link l) made t' Worker on h = elim h [ ]
  step_off rules t (Link l) made t' (Nav n') on h = elim h [ ]
  step_off rules t (Link l) made t' (Watch w') on h = elim h [ ]
  step_off rules t (Nav n) made t' Worker on h = elim h [ ]
  step_off rules t (Nav n) made t' (Link l') on h = elim h [ ]
  step_off rules t (Nav n) made t' (Watch w') on h = elim h [ ]
  step_off rules t (Watch w) made t' Worker on h = elim h [ ]
  step_off rules t (Watch w) made t' (Link l') on h = elim h [ ]
  step_off rules t (Watch w) made t' (Nav n') on h = elim h [ ]

  -- runs, one behind another, are one
  pub leads-append : (rules : WatchRules W) (old mid new : BootTold W) (first second : List Line) → Leads rules old first mid → Leads rules mid second new → Leads rules old (first ++ second) new
  leads-append rules old mid new [] second one two = subst (λ (t : BootTold W). Leads rules t second new) one two
  leads-append rules old mid new (made ∷ first) second one two = (one.0, one.1, leads-append rules one.0 mid new first second one.2 two)

  -- a run goes on by one line
  pub leads_more : (rules : WatchRules W) (old mid new : BootTold W) (lines : List Line) (made : Line) → Leads rules old lines mid → LineStep rules mid made new → Leads rules old (lines ++ made ∷ []) new
  leads_more rules old mid new lines made run step = leads-append rules old mid new lines (made ∷ []) run (new, step, refl)

  -- whatever lines came, while the power is off nothing is in service
  pub leads_off : (rules : WatchRules W) (old new : BootTold W) (lines : List Line) → RestsOff old.shared → Leads rules old lines new → RestsOff new.shared
  leads_off rules old new [] rests run = subst (λ (t : BootTold W). RestsOff t.shared) (sym run) rests
  leads_off rules old new (made ∷ lines) rests run = leads_off rules run.0 new lines (step_off rules old.shared run.1.old made run.0.shared run.1.new (ready_on old.shared run.1.old run.1.ready) run.1.step) run.2

  pub begun_off : (boot : BootScript) (state : BootState) (watchers : List W) → RestsOff (begun boot state watchers).shared
  begun_off boot state watchers = λ off. refl

  -- the actors stay as many as they were
  pub leads_length : (rules : WatchRules W) (old new : BootTold W) (lines : List Line) → Leads rules old lines new → length new.actors ≡ length old.actors
  leads_length rules old new [] run = ap (λ (t : BootTold W). length t.actors) run
  leads_length rules old new (made ∷ lines) run = leads_length rules run.0 new lines run.2 ∙ ap length run.1.actors ∙ length-set old.actors run.1.place run.1.new
