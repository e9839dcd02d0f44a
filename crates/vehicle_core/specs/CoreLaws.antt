-- A step of one local leads on what was told of all: by one line, or by none where the actor was not ready.
use Rattle.std.proofs.Common.{◌≡◌, ℕ, zero, suc, ◌&&◌, ◌||◌, Bool, true, false, List, [], ◌∷◌, Option, Some, None, refl, sym, subst, ap, ◌∙◌}
use Rattle.std.specs.Prelude.{slice_get, slice_set}
use Rattle.mission_model.specs.declared.flight_line.Actor.{Actor}
use Rattle.mission_model.specs.declared.flight_line.Line.{Line}
use Rattle.mission_model.specs.declared.flight_line.Line.TheVariants as line
use Rattle.mission_model.specs.declared.plan.Item.{Item}
use Rattle.mission_model.specs.declared.request.Client.{Client}
use Rattle.mission_model.specs.declared.request.Request.{Request}
use Rattle.mission_model.specs.declared.request.Reply.{Reply}
use Rattle.request_board.specs.WatchLaw.{WatchRules}
use Rattle.turn_cell.specs.declared.machine.StepOut.TheVariants.{Made, Idle}
use Rattle.vehicle_core.specs.declared.shared.Shared.{Shared}
use Rattle.vehicle_core.specs.declared.local.Local.{Local}
use Rattle.vehicle_core.specs.declared.local.Role.{Role}
use Rattle.vehicle_core.specs.declared.local.Role.TheVariants as role
use Rattle.vehicle_core.specs.ScheduleState.{same_actor}
use Rattle.vehicle_core.specs.SharedState.{shared_told, arrived_after, Counted}
use Rattle.vehicle_core.specs.Told.{SharedTold, LinkTold, NavTold, WatchTold, ActorTold, BootTold, name_of}
use Rattle.vehicle_core.specs.Ready.{is_turn, worker_turn, nav_turn, is_ready, has_ready}
use Rattle.vehicle_core.specs.ActorStep.{LinkStep, NavStep, WatcherStep, ActorStep, link_turn, watch_turn}
use Rattle.vehicle_core.specs.Order.{LineBy}
use Rattle.vehicle_core.specs.LocalState.{role_told, local_told}
use Rattle.vehicle_core.specs.WorkerActs.{WorkerLine}
use Rattle.vehicle_core.specs.LinkActs.{link_told}
use Rattle.vehicle_core.specs.NavActs.{nav_told}
use Rattle.vehicle_core.specs.WatchActs.{watch_told}
use Rattle.vehicle_core.specs.Steps.{RoleActs, Steps}
use Rattle.vehicle_core.specs.Fits.{role_name}
use Rattle.vehicle_core.specs.MachineLaws.{counted_same}
use Rattle.vehicle_core.specs.CoreState.{RoleHolds, IsTold, AreTold, Tells}

-- A line's actor was ready.

link_ready : (t : SharedTold) (l : LinkTold) (made : Line) (t' : SharedTold) (l' : LinkTold) → LinkStep t l made t' l' → is_turn (link_turn t l) ≡ true
link_ready t l (line.Boot number heads mark) t' l' h = ap is_turn h.0
link_ready t l (line.BootCut number) t' l' h = ap is_turn h.0
link_ready t l (line.Sent number said given) t' l' h = ap is_turn h.1
link_ready t l (line.Heard number given said) t' l' h = ap is_turn h.1
link_ready t l (line.Took who about) t' l' h = ap is_turn h.0
link_ready t l (line.Served who given) t' l' h = ap is_turn h.0
link_ready t l (line.Got about given) t' l' h = ap is_turn h.0
link_ready t l (line.Nav given entry) t' l' h = ap is_turn h.0
link_ready t l (line.Dropped kind seq) t' l' h = ap is_turn h.0
link_ready t l (line.Arrived who place) t' l' h = ap is_turn h.0
link_ready t l (line.Met who place) t' l' h = ap is_turn h.0
link_ready t l (line.Waited who) t' l' h = ap is_turn h.0
link_ready t l (line.WatchDid number given note asks) t' l' h = ap is_turn h.0
link_ready t l (line.WatchGot number about given note asks) t' l' h = ap is_turn h.0
link_ready t l line.End t' l' h = ap is_turn h.0
link_ready t l line.Stuck t' l' h = ap is_turn h.0

nav_ready : (t : SharedTold) (n : NavTold) (made : Line) (t' : SharedTold) (n' : NavTold) → NavStep t n made t' n' → is_turn (nav_turn t n) ≡ true
nav_ready t n (line.Boot number heads mark) t' n' h = ap is_turn h.0
nav_ready t n (line.BootCut number) t' n' h = ap is_turn h.0
nav_ready t n (line.Sent number said given) t' n' h = ap is_turn h.0
nav_ready t n (line.Heard number given said) t' n' h = ap is_turn h.0
nav_ready t n (line.Took who about) t' n' h = ap is_turn h.0
nav_ready t n (line.Served who given) t' n' h = ap is_turn h.0
nav_ready t n (line.Got about given) t' n' h = ap is_turn h.0
nav_ready t n (line.Nav given entry) t' n' h = ap is_turn h.0
nav_ready t n (line.Dropped kind seq) t' n' h = ap is_turn h.0
nav_ready t n (line.Arrived who place) t' n' h = ap is_turn h.0
nav_ready t n (line.Met who place) t' n' h = ap is_turn h.0
nav_ready t n (line.Waited who) t' n' h = ap is_turn h.0
nav_ready t n (line.WatchDid number given note asks) t' n' h = ap is_turn h.0
nav_ready t n (line.WatchGot number about given note asks) t' n' h = ap is_turn h.0
nav_ready t n line.End t' n' h = ap is_turn h.0
nav_ready t n line.Stuck t' n' h = ap is_turn h.0

on_and : (power turn : Bool) → power ≡ true → turn ≡ true → (power && turn) ≡ true
on_and true true on is = refl
on_and true false on is = is
on_and false turn on is = on

off_or_rests : (power turn : Bool) → (power ≡ true → turn ≡ false) → (power && turn) ≡ false
off_or_rests true turn rests = rests refl
off_or_rests false turn rests = refl

some_same : {X : Type 0} (x y : X) → Some x ≡ Some y → x ≡ y
some_same x y h = cc

neither : (name ready rest : Bool) → (name ≡ true → ready ≡ false) → rest ≡ false → ((name && ready) || rest) ≡ false
neither true ready rest h k = ap (λ (b : Bool). b || rest) (h refl) ∙ k
neither false ready rest h k = k

module _ {W : Type 0} where
  watch_ready : (rules : WatchRules W) (t : SharedTold) (w : WatchTold W) (made : Line) (t' : SharedTold) (w' : WatchTold W) → WatcherStep rules t w made t' w' → is_turn (watch_turn t w) ≡ true
  watch_ready rules t w (line.Boot number heads mark) t' w' h = elim h [ ]
  watch_ready rules t w (line.BootCut number) t' w' h = elim h [ ]
  watch_ready rules t w (line.Sent number said given) t' w' h = elim h [ ]
  watch_ready rules t w (line.Heard number given said) t' w' h = elim h [ ]
  watch_ready rules t w (line.Took who about) t' w' h = elim h [ ]
  watch_ready rules t w (line.Served who given) t' w' h = elim h [ ]
  watch_ready rules t w (line.Got about given) t' w' h = elim h [ ]
  watch_ready rules t w (line.Nav given entry) t' w' h = elim h [ ]
  watch_ready rules t w (line.Dropped kind seq) t' w' h = elim h [ ]
  watch_ready rules t w (line.Arrived who place) t' w' h = elim h [ ]
  watch_ready rules t w (line.Met who place) t' w' h = elim h [ ]
  watch_ready rules t w (line.Waited who) t' w' h = elim h [ ]
  watch_ready rules t w (line.WatchDid number given note asks) t' w' h = ap is_turn h.1
  watch_ready rules t w (line.WatchGot number about given note asks) t' w' h = ap is_turn h.1
  watch_ready rules t w line.End t' w' h = elim h [ ]
  watch_ready rules t w line.Stuck t' w' h = elim h [ ]

  -- A line of an actor of which these items were told: the actor was ready, and some items are told then.
  pub record RoleLed (rules : WatchRules W) (s : Shared) (r : Role W) (arrived : List ℕ) (items : List Item) (made : Line) (s' : Shared) (r' : Role W) : Type 0 where
    pub items' : List Item
    pub holds : RoleHolds r' items'
    pub ready : is_ready (shared_told s arrived) (role_told r items) ≡ true
    pub step : ActorStep rules (shared_told s arrived) (role_told r items) made (shared_told s' (arrived_after made arrived)) (role_told r' items')
    pub counted : Counted (arrived_after made arrived) s'

  worker_led : (rules : WatchRules W) (s : Shared) (taken : Option (Client × Request)) (arrived : List ℕ) (items : List Item) (given : Option Reply) (made : Line) (s' : Shared) (taken' : Option (Client × Request)) → Counted arrived s → s.power ≡ true → s'.arrivals ≡ s.arrivals → WorkerLine s arrived given made s' → RoleLed rules s (role.Worker taken) arrived items made s' (role.Worker taken')
  worker_led rules s taken arrived items None (line.Took who about) s' taken' counted on counts h = record { items' = []; holds = tt; ready = on_and s.power (is_turn (worker_turn s.board)) on (ap is_turn h.turn); step = h; counted = counted_same arrived s s' counts counted }
  worker_led rules s taken arrived items (Some given) (line.Served who reply) s' taken' counted on counts h = record { items' = []; holds = tt; ready = on_and s.power (is_turn (worker_turn s.board)) on (ap is_turn h.2.turn); step = h.2; counted = counted_same arrived s s' counts counted }
  worker_led rules s taken arrived items None (line.Boot number heads mark) s' taken' counted on counts h = elim h [ ]
  worker_led rules s taken arrived items None (line.BootCut number) s' taken' counted on counts h = elim h [ ]
  worker_led rules s taken arrived items None (line.Sent number said reply) s' taken' counted on counts h = elim h [ ]
  worker_led rules s taken arrived items None (line.Heard number reply said) s' taken' counted on counts h = elim h [ ]
  worker_led rules s taken arrived items None (line.Served who reply) s' taken' counted on counts h = elim h [ ]
  worker_led rules s taken arrived items None (line.Got about reply) s' taken' counted on counts h = elim h [ ]
  worker_led rules s taken arrived items None (line.Nav reply entry) s' taken' counted on counts h = elim h [ ]
  worker_led rules s taken arrived items None (line.Dropped kind seq) s' taken' counted on counts h = elim h [ ]
  worker_led rules s taken arrived items None (line.Arrived who place) s' taken' counted on counts h = elim h [ ]
  worker_led rules s taken arrived items None (line.Met who place) s' taken' counted on counts h = elim h [ ]
  worker_led rules s taken arrived items None (line.Waited who) s' taken' counted on counts h = elim h [ ]
  worker_led rules s taken arrived items None (line.WatchDid number reply note asks) s' taken' counted on counts h = elim h [ ]
  worker_led rules s taken arrived items None (line.WatchGot number about reply note asks) s' taken' counted on counts h = elim h [ ]
  worker_led rules s taken arrived items None line.End s' taken' counted on counts h = elim h [ ]
  worker_led rules s taken arrived items None line.Stuck s' taken' counted on counts h = elim h [ ]
  worker_led rules s taken arrived items (Some given) (line.Boot number heads mark) s' taken' counted on counts h = elim h [ ]
  worker_led rules s taken arrived items (Some given) (line.BootCut number) s' taken' counted on counts h = elim h [ ]
  worker_led rules s taken arrived items (Some given) (line.Sent number said reply) s' taken' counted on counts h = elim h [ ]
  worker_led rules s taken arrived items (Some given) (line.Heard number reply said) s' taken' counted on counts h = elim h [ ]
  worker_led rules s taken arrived items (Some given) (line.Took who about) s' taken' counted on counts h = elim h [ ]
  worker_led rules s taken arrived items (Some given) (line.Got about reply) s' taken' counted on counts h = elim h [ ]
  worker_led rules s taken arrived items (Some given) (line.Nav reply entry) s' taken' counted on counts h = elim h [ ]
  worker_led rules s taken arrived items (Some given) (line.Dropped kind seq) s' taken' counted on counts h = elim h [ ]
  worker_led rules s taken arrived items (Some given) (line.Arrived who place) s' taken' counted on counts h = elim h [ ]
  worker_led rules s taken arrived items (Some given) (line.Met who place) s' taken' counted on counts h = elim h [ ]
  worker_led rules s taken arrived items (Some given) (line.Waited who) s' taken' counted on counts h = elim h [ ]
  worker_led rules s taken arrived items (Some given) (line.WatchDid number reply note asks) s' taken' counted on counts h = elim h [ ]
  worker_led rules s taken arrived items (Some given) (line.WatchGot number about reply note asks) s' taken' counted on counts h = elim h [ ]
  worker_led rules s taken arrived items (Some given) line.End s' taken' counted on counts h = elim h [ ]
  worker_led rules s taken arrived items (Some given) line.Stuck s' taken' counted on counts h = elim h [ ]

  watch_after : (made : Line) (arrived : List ℕ) (rules : WatchRules W) (t : SharedTold) (w : WatchTold W) (t' : SharedTold) (w' : WatchTold W) → WatcherStep rules t w made t' w' → arrived_after made arrived ≡ arrived
  watch_after (line.Boot number heads mark) arrived rules t w t' w' h = elim h [ ]
  watch_after (line.BootCut number) arrived rules t w t' w' h = elim h [ ]
  watch_after (line.Sent number said given) arrived rules t w t' w' h = elim h [ ]
  watch_after (line.Heard number given said) arrived rules t w t' w' h = elim h [ ]
  watch_after (line.Took who about) arrived rules t w t' w' h = elim h [ ]
  watch_after (line.Served who given) arrived rules t w t' w' h = elim h [ ]
  watch_after (line.Got about given) arrived rules t w t' w' h = elim h [ ]
  watch_after (line.Nav given entry) arrived rules t w t' w' h = elim h [ ]
  watch_after (line.Dropped kind seq) arrived rules t w t' w' h = elim h [ ]
  watch_after (line.Arrived who place) arrived rules t w t' w' h = elim h [ ]
  watch_after (line.Met who place) arrived rules t w t' w' h = elim h [ ]
  watch_after (line.Waited who) arrived rules t w t' w' h = elim h [ ]
  watch_after (line.WatchDid number given note asks) arrived rules t w t' w' h = refl
  watch_after (line.WatchGot number about given note asks) arrived rules t w t' w' h = refl
  watch_after line.End arrived rules t w t' w' h = elim h [ ]
  watch_after line.Stuck arrived rules t w t' w' h = elim h [ ]

  pub role_led : (rules : WatchRules W) (s : Shared) (r : Role W) (arrived : List ℕ) (items : List Item) (given : Option Reply) (made : Line) (s' : Shared) (r' : Role W) → Counted arrived s → RoleHolds r items → RoleActs rules s r given (Made made) s' r' → RoleLed rules s r arrived items made s' r'
  role_led rules s (role.Worker taken) arrived items given made s' (role.Worker taken') counted holds h = worker_led rules s taken arrived items given made s' taken' counted h.power h.counts (h.line arrived)
  role_led rules s (role.Link l) arrived items given made s' (role.Link l') counted holds h =
      let led = h.led arrived items counted holds in
      record { items' = led.heard'; holds = led.hears; ready = on_and s.power (is_turn (link_turn (shared_told s arrived) (link_told l items))) h.power (link_ready (shared_told s arrived) (link_told l items) made (shared_told s' (arrived_after made arrived)) (link_told l' led.heard') led.step); step = led.step; counted = led.counted }
  role_led rules s (role.Nav n) arrived items given made s' (role.Nav n') counted holds h =
      let led = h.led arrived items counted holds in
      record { items' = led.items'; holds = led.shown; ready = on_and s.power (is_turn (nav_turn (shared_told s arrived) (nav_told n items))) h.power (nav_ready (shared_told s arrived) (nav_told n items) made (shared_told s' (arrived_after made arrived)) (nav_told n' led.items') led.step); step = led.step; counted = led.counted }
  role_led rules s (role.Watch w) arrived items given made s' (role.Watch w') counted holds h =
      let t : SharedTold = shared_told s arrived in
      let same : arrived_after made arrived ≡ arrived = watch_after made arrived rules t (watch_told w) (shared_told s' arrived) (watch_told w') (h.led arrived) in
      record {
        items' = [];
        holds = tt;
        ready = on_and s.power (is_turn (watch_turn t (watch_told w))) h.power (watch_ready rules t (watch_told w) made (shared_told s' arrived) (watch_told w') (h.led arrived));
        step = subst (λ (places : List ℕ). WatcherStep rules t (watch_told w) made (shared_told s' places) (watch_told w')) (sym same) (h.led arrived);
        counted = subst (λ (places : List ℕ). Counted places s') (sym same) (counted_same arrived s s' h.counts counted);
      }
  role_led rules s (role.Worker taken) arrived items given made s' (role.Link l') counted holds h = elim h [ ]
  role_led rules s (role.Worker taken) arrived items given made s' (role.Nav n') counted holds h = elim h [ ]
  role_led rules s (role.Worker taken) arrived items given made s' (role.Watch w') counted holds h = elim h [ ]
  role_led rules s (role.Link l) arrived items given made s' (role.Worker taken') counted holds h = elim h [ ]
  role_led rules s (role.Link l) arrived items given made s' (role.Nav n') counted holds h = elim h [ ]
  role_led rules s (role.Link l) arrived items given made s' (role.Watch w') counted holds h = elim h [ ]
  role_led rules s (role.Nav n) arrived items given made s' (role.Worker taken') counted holds h = elim h [ ]
  role_led rules s (role.Nav n) arrived items given made s' (role.Link l') counted holds h = elim h [ ]
  role_led rules s (role.Nav n) arrived items given made s' (role.Watch w') counted holds h = elim h [ ]
  role_led rules s (role.Watch w) arrived items given made s' (role.Worker taken') counted holds h = elim h [ ]
  role_led rules s (role.Watch w) arrived items given made s' (role.Link l') counted holds h = elim h [ ]
  role_led rules s (role.Watch w) arrived items given made s' (role.Nav n') counted holds h = elim h [ ]

  -- an idle actor is not ready
  pub role_rests : (rules : WatchRules W) (s : Shared) (r : Role W) (arrived : List ℕ) (items : List Item) (given : Option Reply) (s' : Shared) (r' : Role W) → Counted arrived s → RoleActs rules s r given Idle s' r' → is_ready (shared_told s arrived) (role_told r items) ≡ false
  role_rests rules s (role.Worker taken) arrived items given s' (role.Worker taken') counted h = off_or_rests s.power (is_turn (worker_turn s.board)) (λ on. ap is_turn (h.turn on))
  role_rests rules s (role.Link l) arrived items given s' (role.Link l') counted h = off_or_rests s.power (is_turn (link_turn (shared_told s arrived) (link_told l items))) (λ on. ap is_turn (h.turn arrived items counted on))
  role_rests rules s (role.Nav n) arrived items given s' (role.Nav n') counted h = off_or_rests s.power (is_turn (nav_turn (shared_told s arrived) (nav_told n items))) (λ on. ap is_turn (h.turn arrived items counted on))
  role_rests rules s (role.Watch w) arrived items given s' (role.Watch w') counted h = off_or_rests s.power (is_turn (watch_turn (shared_told s arrived) (watch_told w))) (λ on. ap is_turn (h.turn arrived on))
  role_rests rules s (role.Worker taken) arrived items given s' (role.Link l') counted h = elim h [ ]
  role_rests rules s (role.Worker taken) arrived items given s' (role.Nav n') counted h = elim h [ ]
  role_rests rules s (role.Worker taken) arrived items given s' (role.Watch w') counted h = elim h [ ]
  role_rests rules s (role.Link l) arrived items given s' (role.Worker taken') counted h = elim h [ ]
  role_rests rules s (role.Link l) arrived items given s' (role.Nav n') counted h = elim h [ ]
  role_rests rules s (role.Link l) arrived items given s' (role.Watch w') counted h = elim h [ ]
  role_rests rules s (role.Nav n) arrived items given s' (role.Worker taken') counted h = elim h [ ]
  role_rests rules s (role.Nav n) arrived items given s' (role.Link l') counted h = elim h [ ]
  role_rests rules s (role.Nav n) arrived items given s' (role.Watch w') counted h = elim h [ ]
  role_rests rules s (role.Watch w) arrived items given s' (role.Worker taken') counted h = elim h [ ]
  role_rests rules s (role.Watch w) arrived items given s' (role.Link l') counted h = elim h [ ]
  role_rests rules s (role.Watch w) arrived items given s' (role.Nav n') counted h = elim h [ ]

  -- Lists of actors.

  pub told_name : (r : Role W) (items : List Item) → name_of (role_told r items) ≡ role_name r
  told_name (role.Worker taken) items = refl
  told_name (role.Link l) items = refl
  told_name (role.Nav n) items = refl
  told_name (role.Watch w) items = refl

  -- what is told of the local at a place
  pub record ToldAt (k : ℕ) (l : Local W) (actors : List (ActorTold W)) : Type 0 where
    pub told : ActorTold W
    pub at : slice_get actors k ≡ Some told
    pub is : IsTold l told

  pub told_at : (ls : List (Local W)) (actors : List (ActorTold W)) (k : ℕ) (l : Local W) → AreTold ls actors → slice_get ls k ≡ Some l → ToldAt k l actors
  told_at [] [] k l are at = absurd (no_local k at)
    where
      no_local : (k : ℕ) → slice_get [] k ≡ Some l → ⊥
      no_local zero h = cc
      no_local (suc k) h = cc
  told_at [] (a ∷ actors) k l are at = absurd are
  told_at (m ∷ ls) [] k l are at = absurd are
  told_at (m ∷ ls) (a ∷ actors) zero l are at = record { told = a; at = refl; is = subst (λ (x : Local W). IsTold x a) (some_same m l at) are.0 }
  told_at (m ∷ ls) (a ∷ actors) (suc k) l are at = let t = told_at ls actors k l are.1 at in record { told = t.told; at = t.at; is = t.is }

  pub told_set : (ls : List (Local W)) (actors : List (ActorTold W)) (k : ℕ) (l : Local W) (a : ActorTold W) → AreTold ls actors → IsTold l a → AreTold (slice_set ls k l) (slice_set actors k a)
  told_set [] [] k l a are is = tt
  told_set [] (b ∷ actors) k l a are is = absurd are
  told_set (m ∷ ls) [] k l a are is = absurd are
  told_set (m ∷ ls) (b ∷ actors) zero l a are is = (is, are.1)
  told_set (m ∷ ls) (b ∷ actors) (suc k) l a are is = (are.0, told_set ls actors k l a are.1 is)

  -- A line.

  -- the step of the local at a place makes a line of its actor, whatever was told before it
  pub line_leads : (rules : WatchRules W) (s : Shared) (ls : List (Local W)) (k : ℕ) (l : Local W) (given : Option Reply) (made : Line) (s' : Shared) (l' : Local W) (t : BootTold W) → slice_get ls k ≡ Some l → Steps rules s l given (Made made) s' l' → Tells s ls t
      → (t' : BootTold W) × LineBy rules t (role_name l.role) made t' × Tells s' (slice_set ls k l') t'
  line_leads rules s ls k l given made s' l' t at steps tells =
      let arrived : List ℕ = t.shared.arrived in
      let here = told_at ls t.actors k l tells.actors at in
      let led = role_led rules s l.role arrived here.is.items given made s' l'.role tells.counted here.is.holds steps.acts in
      let new : ActorTold W = local_told l' led.items' in
      let later : List ℕ = arrived_after made arrived in
      let u : SharedTold = shared_told s' later in (
        record { shared = u; actors = slice_set t.actors k new },
        record {
          step = record {
            place = k;
            old = here.told;
            new = new;
            at = here.at;
            ready = subst (λ (x : SharedTold × ActorTold W). is_ready x.0 x.1 ≡ true) (λ i. (sym tells.shared i, sym here.is.told i)) led.ready;
            step = subst (λ (x : SharedTold × ActorTold W). ActorStep rules x.0 x.1 made u new) (λ i. (sym tells.shared i, sym here.is.told i)) led.step;
            actors = refl;
          };
          name = ap name_of here.is.told ∙ told_name l.role here.is.items;
        },
        record { shared = refl; counted = led.counted; actors = told_set ls t.actors k l' new tells.actors (record { items = led.items'; holds = led.holds; told = refl }) },
      )

  -- Nobody of this name is ready.

  -- each local of this name is not ready, with whatever was told of it
  abbrev pub NoneReady : Shared → List ℕ → Actor → List (Local W) → Type 0
  NoneReady s arrived who ls = (k : ℕ) (l : Local W) → slice_get ls k ≡ Some l → same_actor who (role_name l.role) ≡ true → (items : List Item) → is_ready (shared_told s arrived) (role_told l.role items) ≡ false

  none_ready : (s : Shared) (arrived : List ℕ) (who : Actor) (ls : List (Local W)) (actors : List (ActorTold W)) → AreTold ls actors → NoneReady s arrived who ls → has_ready (shared_told s arrived) who actors ≡ false
  none_ready s arrived who [] [] are none = refl
  none_ready s arrived who [] (a ∷ actors) are none = absurd are
  none_ready s arrived who (l ∷ ls) [] are none = absurd are
  none_ready s arrived who (l ∷ ls) (a ∷ actors) are none =
      let named : name_of a ≡ role_name l.role = ap name_of are.0.told ∙ told_name l.role are.0.items in
      neither (same_actor who (name_of a)) (is_ready (shared_told s arrived) a) (has_ready (shared_told s arrived) who actors)
      (λ same. ap (is_ready (shared_told s arrived)) are.0.told ∙ none 0 l refl (ap (same_actor who) (sym named) ∙ same) are.0.items)
      (none_ready s arrived who ls actors are.1 (λ k m at same items. none (suc k) m at same items))

  pub told_rests : (s : Shared) (ls : List (Local W)) (who : Actor) (t : BootTold W) → Tells s ls t → NoneReady s t.shared.arrived who ls → has_ready t.shared who t.actors ≡ false
  told_rests s ls who t tells none = ap (λ (x : SharedTold). has_ready x who t.actors) tells.shared ∙ none_ready s t.shared.arrived who ls t.actors tells.actors none
