-- The lines of any turns of a core are a run, by its actors in turn; and where nobody is ready the boot has ended.
use Rattle.std.proofs.Common.{◌≡◌, ◌⊎◌, inl, inr, ℕ, zero, suc, Bool, true, false, ◌&&◌, ◌||◌, List, [], ◌∷◌, ◌++◌, length, Some, MatchBool, cond, slice_get, refl, sym, subst, ap, ◌∙◌, true≢false}
use Rattle.std.proofs.lemmas.Bool.Decides.{eqb_tells}
use Rattle.std.specs.Prelude.{if◌then◌else◌}
use Rattle.mission_model.specs.declared.flight_line.Actor.{Actor}
use Rattle.mission_model.specs.declared.flight_line.Actor.TheVariants as actor
use Rattle.mission_model.specs.declared.flight_line.Line.{Line}
use Rattle.mission_model.specs.declared.flight_line.Line.TheVariants as line
use Rattle.mission_model.specs.declared.schedule.BootScript.{BootScript}
use Rattle.mission_model.specs.declared.vehicle.BootState.{BootState}
use Rattle.mission_model.specs.BootStates.{StateInLimits}
use Rattle.request_board.specs.Watching.{Awaited}
use Rattle.request_board.specs.WatchLaw.{WatchRules}
use Rattle.turn_cell.specs.declared.machine.StepOut.{StepOut}
use Rattle.turn_cell.specs.declared.machine.StepOut.TheVariants.{Made, Idle}
use Rattle.vehicle_core.specs.ScheduleState.{same_actor}
use Rattle.vehicle_core.specs.Told.{SharedTold, ActorTold, BootTold, Worker, Link, Nav, Watch, name_of, names_of, begun}
use Rattle.vehicle_core.specs.Ready.{is_ready, has_ready, is_any_ready, is_finished, all_finished}
use Rattle.vehicle_core.specs.CoreRun.{LineStep, Leads, BootUp, BootEnded, Ended, Part}
use Rattle.vehicle_core.specs.Order.{LineBy, ByTurns}
use Rattle.vehicle_core.specs.declared.local.Local.{Local}
use Rattle.vehicle_core.specs.declared.local.Role.{Role}
use Rattle.vehicle_core.specs.declared.local.Role.TheVariants as role
use Rattle.vehicle_core.specs.LocalState.{finished_by, role_told}
use Rattle.mission_model.specs.declared.plan.Item.{Item}
use Rattle.vehicle_core.specs.CoreState.{CoreState, CoreSteps, Tells, AreTold, finished_among}
use Rattle.vehicle_core.specs.Turns.{Turn, Turns, actors_of, made_by, ending_of}
use Rattle.vehicle_core.proofs.PowerEnds.{told_true}

same_itself : (a : Actor) → same_actor a a ≡ true
same_itself actor.Worker = refl
same_itself actor.Nav = refl
same_itself (actor.Link n) = elim (eqb_tells n n) [ inl same ↦ same.0 | inr other ↦ absurd (other.1 refl) ]
same_itself (actor.Watch n) = elim (eqb_tells n n) [ inl same ↦ same.0 | inr other ↦ absurd (other.1 refl) ]

or_right : (a b : Bool) → b ≡ true → (a || b) ≡ true
or_right true b h = refl
or_right false b h = h

or_left : (a b : Bool) → a ≡ true → (a || b) ≡ true
or_left true b h = refl
or_left false b h = absurd (true≢false (sym h))

and_both : (a b : Bool) → a ≡ true → b ≡ true → (a && b) ≡ true
and_both true b h k = k
and_both false b h k = h

or_none : (a b : Bool) → a ≡ false → b ≡ false → (a || b) ≡ false
or_none true b h k = absurd (true≢false h)
or_none false b h k = k

not_true : (b : Bool) → (b ≡ true → ⊥) → b ≡ false
not_true true h = absurd (h refl)
not_true false h = refl

module _ {W : Type 0} where
  -- an actor that is ready is found by its name
  pub ready_among : (t : SharedTold) (actors : List (ActorTold W)) (place : ℕ) (a : ActorTold W) → slice_get actors place ≡ Some a → is_ready t a ≡ true → has_ready t (name_of a) actors ≡ true
  ready_among t [] place a at ready = absurd cc
  ready_among t (first ∷ actors) zero a at ready =
      let is : first ≡ a = cc in
      subst (λ (x : ActorTold W). has_ready t (name_of a) (x ∷ actors) ≡ true) (sym is) (or_left (same_actor (name_of a) (name_of a) && is_ready t a) (has_ready t (name_of a) actors) (and_both (same_actor (name_of a) (name_of a)) (is_ready t a) (same_itself (name_of a)) ready))
  ready_among t (first ∷ actors) (suc place) a at ready = or_right (same_actor (name_of a) (name_of first) && is_ready t first) (has_ready t (name_of a) actors) (ready_among t actors place a at ready)

  line_ready : (rules : WatchRules W) (t t' : BootTold W) (who : Actor) (made : Line) → LineBy rules t who made t' → has_ready t.shared who t.actors ≡ true
  line_ready rules t t' who made by = subst (λ (n : Actor). has_ready t.shared n t.actors ≡ true) by.name (ready_among t.shared t.actors by.step.place by.step.old by.step.at by.step.ready)

  -- an actor that is not ready makes no line
  skipped : (rules : WatchRules W) (t t' : BootTold W) (who : Actor) (actors : List Actor) (lines : List Line) → has_ready t.shared who t.actors ≡ false → ByTurns rules t actors lines t' → ByTurns rules t (who ∷ actors) lines t'
  skipped rules t t' who actors [] idle run = run
  skipped rules t t' who actors (made ∷ lines) idle run =
      subst (λ b. MatchBool b ((mid : BootTold W) × LineBy rules t who made mid × ByTurns rules mid actors lines t') (ByTurns rules t actors (made ∷ lines) t')) (sym idle) run

  by_one_more : (rules : WatchRules W) (t mid t' : BootTold W) (who : Actor) (actors : List Actor) (made : Line) (lines : List Line) → LineBy rules t who made mid → ByTurns rules mid actors lines t' → ByTurns rules t (who ∷ actors) (made ∷ lines) t'
  by_one_more rules t mid t' who actors made lines by run =
      subst (λ b. MatchBool b ((mid : BootTold W) × LineBy rules t who made mid × ByTurns rules mid actors lines t') (ByTurns rules t actors (made ∷ lines) t')) (sym (line_ready rules t mid who made by)) (mid, by, run)

  -- the lines that actors made in turn lead on
  pub turns_lead : (rules : WatchRules W) (t t' : BootTold W) (actors : List Actor) (lines : List Line) → ByTurns rules t actors lines t' → Leads rules t lines t'
  turns_lead rules t t' actors [] run = run
  turns_lead rules t t' [] (made ∷ lines) run = elim run [ ]
  turns_lead rules t t' (who ∷ actors) (made ∷ lines) run = elim (told_true (has_ready t.shared who t.actors)) [
    | inl ready ↦
        let one = subst (λ b. MatchBool b ((mid : BootTold W) × LineBy rules t who made mid × ByTurns rules mid actors lines t') (ByTurns rules t actors (made ∷ lines) t')) ready run in
        (one.0, one.1.step, turns_lead rules one.0 t' actors lines one.2)
    | inr idle ↦ turns_lead rules t t' actors (made ∷ lines) (subst (λ b. MatchBool b ((mid : BootTold W) × LineBy rules t who made mid × ByTurns rules mid actors lines t') (ByTurns rules t actors (made ∷ lines) t')) idle run)
  ]

  -- one turn, behind which the others tell what they do
  one_turn : (rules : WatchRules W) (c mid c' : CoreState W) (who : Actor) (actors : List Actor) (out : StepOut Line) (rest : List Line) (t : BootTold W) → Tells c.shared c.locals t → CoreSteps rules c who out mid → ((u : BootTold W) → Tells mid.shared mid.locals u → (t' : BootTold W) × ByTurns rules u actors rest t' × Tells c'.shared c'.locals t') → (t' : BootTold W) × ByTurns rules t (who ∷ actors) (made_by out ++ rest) t' × Tells c'.shared c'.locals t'
  one_turn rules c mid c' who actors (Made made) rest t tells step others =
      let here = step t tells in
      let more = others here.0 here.2 in
      (more.0, by_one_more rules t here.0 more.0 who actors made rest here.1 more.1, more.2)
  one_turn rules c mid c' who actors Idle rest t tells step others =
      let more = others t (subst (λ (x : CoreState W). Tells x.shared x.locals t) (sym step.0) tells) in
      (more.0, skipped rules t more.0 who actors rest (step.1 t tells) more.1, more.2)

  -- what was told after turns of the core, whose lines its actors made in turn
  pub turns_told : (rules : WatchRules W) (waits : W → Awaited) (c c' : CoreState W) (turns : List Turn) (lines : List Line) (t : BootTold W) → Tells c.shared c.locals t → Turns rules waits c turns lines c' → (t' : BootTold W) × ByTurns rules t (actors_of turns) lines t' × Tells c'.shared c'.locals t'
  turns_told rules waits c c' [] lines t tells run =
      (t, subst (λ (l : List Line). ByTurns rules t [] l t) (sym run.0) refl, subst (λ (x : CoreState W). Tells x.shared x.locals t) (sym run.1) tells)
  turns_told rules waits c c' (turn ∷ turns) lines t tells run =
      subst (λ (l : List Line). (t' : BootTold W) × ByTurns rules t (turn.actor ∷ actors_of turns) l t' × Tells c'.shared c'.locals t') (sym run.7)
      (one_turn rules c run.0 c' turn.actor (actors_of turns) run.1 run.2 t tells run.4 (λ u told. turns_told rules waits run.0 c' turns run.2 u told run.8))

  -- where each actor is not ready, nobody is
  nobody : (t : SharedTold) (actors : List (ActorTold W)) → ((place : ℕ) (a : ActorTold W) → slice_get actors place ≡ Some a → is_ready t a ≡ false) → is_any_ready t actors ≡ false
  nobody t [] each = refl
  nobody t (a ∷ actors) each = or_none (is_ready t a) (is_any_ready t actors) (each 0 a refl) (nobody t actors (λ place b at. each (suc place) b at))

  pub nobody_named : (t : SharedTold) (actors : List (ActorTold W)) → ((who : Actor) → has_ready t who actors ≡ false) → is_any_ready t actors ≡ false
  nobody_named t actors each = nobody t actors (λ place a at. not_true (is_ready t a) (λ ready. true≢false (sym (ready_among t actors place a at ready) ∙ each (name_of a))))

  -- the schedules of the locals are those that are told
  role_finished : (r : Role W) (items : List Item) → finished_by r ≡ is_finished (role_told r items)
  role_finished (role.Worker taken) items = refl
  role_finished (role.Link l) items = refl
  role_finished (role.Nav n) items = refl
  role_finished (role.Watch w) items = refl

  pub told_finished : (ls : List (Local W)) (actors : List (ActorTold W)) → AreTold ls actors → finished_among ls ≡ all_finished actors
  told_finished [] [] told = refl
  told_finished [] (a ∷ actors) told = elim told [ ]
  told_finished (l ∷ ls) [] told = elim told [ ]
  told_finished (l ∷ ls) (a ∷ actors) told =
      let here = role_finished l.role told.0.items ∙ ap is_finished (sym told.0.told) in
      ap (λ b. b && finished_among ls) here ∙ ap (λ b. is_finished a && b) (told_finished ls actors told.1)

  -- how such a boot ends
  ends : (t : BootTold W) (power finished : Bool) → t.shared.power ≡ power → all_finished t.actors ≡ finished → is_any_ready t.shared t.actors ≡ false → Ended t (ending_of power finished)
  ends t true true on all none = (on, none, all)
  ends t true false on all none = (on, none, all)
  ends t false finished off all none = off

  pub boot_ends : (c : CoreState W) (t : BootTold W) → Tells c.shared c.locals t → ((who : Actor) → has_ready t.shared who t.actors ≡ false) → Ended t (ending_of c.shared.power (finished_among c.locals))
  boot_ends c t tells idle =
      ends t c.shared.power (finished_among c.locals) (ap (λ (x : SharedTold). x.power) tells.shared) (sym (told_finished c.locals t.actors tells.actors)) (nobody_named t.shared t.actors idle)

  -- the lines of turns of a new core are those of a boot that is up, and tell of the core then
  pub boot_up : (rules : WatchRules W) (waits : W → Awaited) (boot : BootScript) (state : BootState) (own : List W) (c c' : CoreState W) (turns : List Turn) (lines : List Line) (number : ℕ) → StateInLimits state → Tells c.shared c.locals (begun boot state own) → Turns rules waits c turns lines c' → (up : BootUp rules boot own (line.Boot number state.heads state.mark ∷ lines)) × Tells c'.shared c'.locals up.told
  boot_up rules waits boot state own c c' turns lines number fits tells run =
      let told = turns_told rules waits c c' turns lines (begun boot state own) tells run in
      (record { number = number; state = state; made = lines; told = told.0; lines_are = refl; state_fits = fits; leads = turns_lead rules (begun boot state own) told.0 (actors_of turns) lines told.1 }, told.2)

  -- and with the ending behind them the whole part, once nobody is ready
  pub boot_whole : (rules : WatchRules W) (boot : BootScript) (own : List W) (front : List Line) (up : BootUp rules boot own front) (c : CoreState W) → Tells c.shared c.locals up.told → ((who : Actor) → has_ready up.told.shared who up.told.actors ≡ false) → Part rules boot own (front ++ ending_of c.shared.power (finished_among c.locals))
  boot_whole rules boot own front up c tells idle =
      inr (record { front = front; ending = ending_of c.shared.power (finished_among c.locals); up = up; ended = boot_ends c up.told tells idle; lines_are = refl })
