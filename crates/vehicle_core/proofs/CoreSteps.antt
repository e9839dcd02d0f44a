-- A step of the core: one local's step, with the list of locals set at its place.
use Rattle.std.proofs.Common.{◌≡◌, ◌≢◌, ◌⊎◌, inl, inr, ℕ, zero, suc, ◌<◌, ◌≤◌, ◌&&◌, ◌||◌, Bool, true, false, List, [], ◌∷◌, length, Option, Some, None, refl, sym, subst, ap, ◌∙◌, arith, length-set}
use Rattle.std.specs.List.{All}
use Rattle.std.proofs.lemmas.List.Elements.{All-head, All-tail}
use Rattle.std.specs.Prelude.{slice_get, slice_index_or, slice_set}
use Rattle.mission_model.specs.declared.flight_line.Actor.{Actor}
use Rattle.mission_model.specs.declared.flight_line.Actor.TheVariants as actor
use Rattle.mission_model.specs.declared.flight_line.Line.{Line}
use Rattle.mission_model.specs.declared.plan.Item.{Item}
use Rattle.mission_model.specs.declared.request.Client.{Client}
use Rattle.mission_model.specs.declared.request.Request.{Request}
use Rattle.mission_model.specs.declared.request.Reply.{Reply}
use Rattle.request_board.specs.Watching.{Awaited}
use Rattle.request_board.specs.WatchLaw.{WatchRules}
use Rattle.turn_cell.specs.declared.machine.StepOut.{StepOut}
use Rattle.turn_cell.specs.declared.machine.StepOut.TheVariants.{Made, Idle}
use Rattle.vehicle_core.specs.declared.shared.Shared.{Shared}
use Rattle.vehicle_core.specs.declared.local.Local.{Local}
use Rattle.vehicle_core.specs.declared.local.Role.{Role}
use Rattle.vehicle_core.specs.declared.local.Role.TheVariants as role
use Rattle.vehicle_core.specs.ScheduleState.{same_actor}
use Rattle.vehicle_core.specs.LocalState.{request_of, taken_of, finished_of, role_told}
use Rattle.vehicle_core.specs.Told.{SharedTold, ActorTold, BootTold, name_of}
use Rattle.vehicle_core.specs.Ready.{has_ready, is_ready}
use Rattle.vehicle_core.specs.Order.{LineBy}
use Rattle.vehicle_core.specs.SharedState.{shared_told, Counted}
use Rattle.vehicle_core.specs.WorkerActs.{ReplySuits}
use Rattle.vehicle_core.specs.Steps.{number_of, Steps}
use Rattle.vehicle_core.specs.WatchKept.{AnswersWell}
use Rattle.vehicle_core.specs.Fits.{number_among, role_name, LocalFits, LocalSuits}
use Rattle.vehicle_core.specs.MachineLaws.{local_leaves, still_fits, others_fit, idle_changes_nothing}
use Rattle.vehicle_core.specs.CoreState.{CoreState, CoreFits, CoreSteps, InputSuits, ReplyTo, Tells, core_taken, taken_among, finished_among}
use Rattle.vehicle_core.specs.CoreLaws.{line_leads, role_rests, told_rests, told_at, told_name}
use Rattle.vehicle_core.specs.TakenLaws.{reply_suits}
use Rattle.vehicle_core.proofs.Sorting.{same_is}

-- Lists.

pub some_is : {X : Type 0} (x y : X) → Some x ≡ Some y → x ≡ y
some_is x y h = cc

pub set_at : {X : Type 0} (xs : List X) (k j : ℕ) (new x : X) → slice_get (slice_set xs k new) j ≡ Some x → ((j ≡ k) × (x ≡ new)) ⊎ ((j ≢ k) × (slice_get xs j ≡ Some x))
set_at [] k zero new x at = absurd cc
set_at [] k (suc j) new x at = absurd cc
set_at (y ∷ xs) zero zero new x at = inl (refl, sym (some_is new x at))
set_at (y ∷ xs) zero (suc j) new x at = inr (λ e. omega (arith, e), at)
set_at (y ∷ xs) (suc k) zero new x at = inr (λ e. omega (arith, e), at)
set_at (y ∷ xs) (suc k) (suc j) new x at = elim (set_at xs k j new x at) [ inl here ↦ inl (ap suc here.0, here.1) | inr there ↦ inr (λ e. there.0 (omega (arith, e)), there.1) ]

pub set_itself : {X : Type 0} (xs : List X) (k : ℕ) (x : X) → slice_get xs k ≡ Some x → slice_set xs k x ≡ xs
set_itself [] k x at = refl
set_itself (y ∷ xs) zero x at = ap (λ (z : _). z ∷ xs) (sym (some_is y x at))
set_itself (y ∷ xs) (suc k) x at = ap (λ (zs : List _). y ∷ zs) (set_itself xs k x at)

pub got_within : {X : Type 0} (xs : List X) (k : ℕ) (x : X) → slice_get xs k ≡ Some x → k < length xs
got_within [] zero x at = absurd cc
got_within [] (suc k) x at = absurd cc
got_within (y ∷ xs) zero x at = omega arith
got_within (y ∷ xs) (suc k) x at = omega (arith, got_within xs k x at)

-- what an index gives is there
pub got_at : {X : Type 0} (xs : List X) (k : ℕ) (x : X) → k < length xs → x ≡ slice_index_or xs k x → slice_get xs k ≡ Some x
got_at xs k x less is = there xs k x less ∙ ap (λ (z : _). Some z) (sym is)
  where
    there : {X : Type 0} (xs : List X) (k : ℕ) (d : X) → k < length xs → slice_get xs k ≡ Some (slice_index_or xs k d)
    there [] k d less = absurd (omega (arith, less))
    there (y ∷ xs) zero d less = refl
    there (y ∷ xs) (suc k) d less = there xs k d (omega (arith, less))

either : (name ready rest : Bool) → name ≡ true → ready ≡ true → ((name && ready) || rest) ≡ true
either true true rest n r = refl
either true false rest n r = absurd cc
either false ready rest n r = absurd cc

later : (name rest : Bool) → rest ≡ true → (name || rest) ≡ true
later true rest h = refl
later false rest h = h

module _ {W : Type 0} where
  -- a local of this name stands at the name's place
  pub named_place : (waits : W → Awaited) (c : CoreState W) (who : Actor) (j : ℕ) (l : Local W) → CoreFits waits c → slice_get c.locals j ≡ Some l → same_actor who (role_name l.role) ≡ true → j ≡ number_among c.links who
  named_place waits c who j l fits at named =
      let each = fits.each j l at in
      sym each.0 ∙ each.1.number ∙ ap (λ (n : ℕ). number_among n (role_name l.role)) (sym fits.named) ∙ ap (number_among c.links) (sym (same_is who (role_name l.role) named))

  first_taken : (ls : List (Local W)) (k : ℕ) (l : Local W) → slice_get ls k ≡ Some l → k ≡ 0 → taken_among ls ≡ taken_of l
  first_taken [] zero l at first = absurd cc
  first_taken [] (suc k) l at first = absurd cc
  first_taken (m ∷ ls) zero l at first = ap taken_of (some_is m l at)
  first_taken (m ∷ ls) (suc k) l at first = absurd (omega (arith, first))

  role_suits : (taken : Option Request) (n : ℕ) (r : Role W) (given : Option Reply) → (role_name r ≡ actor.Worker → taken ≡ taken_of (record { number = n; role = r })) → InputSuits taken (role_name r) given → LocalSuits (record { number = n; role = r }) given
  role_suits taken n (role.Worker held) given own suits = reply_suits held given (subst (λ (x : Option Request). ReplyTo x given) (own refl) suits)
  role_suits taken n (role.Link l) given own suits = suits
  role_suits taken n (role.Nav nav) given own suits = suits
  role_suits taken n (role.Watch w) given own suits = suits

  -- the input of an actor suits its local
  pub input_suits : (waits : W → Awaited) (c : CoreState W) (who : Actor) (k : ℕ) (l : Local W) (given : Option Reply) → CoreFits waits c → slice_get c.locals k ≡ Some l → same_actor who (role_name l.role) ≡ true → InputSuits (core_taken c) who given → LocalSuits l given
  input_suits waits c who k l given fits at named suits =
      role_suits (core_taken c) l.number l.role given
      (λ worker. first_taken c.locals k l at (named_place waits c who k l fits at named ∙ ap (number_among c.links) (same_is who (role_name l.role) named ∙ worker)))
      (subst (λ (a : Actor). InputSuits (core_taken c) a given) (same_is who (role_name l.role) named) suits)

  -- the core with another shared part, and another local at a place
  abbrev pub core_with : CoreState W → Shared → ℕ → Local W → CoreState W
  core_with c s' k l' = record { shared = s'; locals = slice_set c.locals k l'; links = c.links }

  pub core_fits : (rules : WatchRules W) (waits : W → Awaited) (c : CoreState W) (k : ℕ) (l : Local W) (given : Option Reply) (out : StepOut Line) (s' : Shared) (l' : Local W) → AnswersWell rules waits → CoreFits waits c → slice_get c.locals k ≡ Some l → LocalSuits l given → Steps rules c.shared l given out s' l' → CoreFits waits (core_with c s' k l')
  core_fits rules waits c k l given out s' l' well fits at suits steps =
      let own = fits.each k l at in
      let left = local_leaves rules waits c.shared l given out s' l' well own.1 steps in
      let links : length s'.board.link_posted ≡ length c.shared.board.link_posted = left.leaves.same.links in
      let watchers : length s'.board.watch_posted ≡ length c.shared.board.watch_posted = left.leaves.same.watchers in
      let still : LocalFits waits s' l' = still_fits rules waits well c.shared l given out s' l' own.1 suits steps in
      record {
        each = λ j m there. elim (set_at c.locals k j l' m there) [
          | inl here ↦ subst (λ (x : Local W). (number_of x ≡ j) × LocalFits waits s' x) (sym here.1) (steps.number ∙ own.0 ∙ sym here.0, still)
          | inr apart ↦
              let theirs = fits.each j m apart.1 in
              (theirs.0, others_fit rules waits well c.shared l given out s' l' m (λ e. apart.0 (sym theirs.0 ∙ e ∙ own.0)) own.1 suits steps theirs.1)
        ];
        named = fits.named ∙ sym links;
        count = omega (arith, length-set c.locals k l', fits.count, links, watchers);
        links = omega (arith, links, fits.links);
        watchers = omega (arith, watchers, fits.watchers);
      }

  core_same : (c : CoreState W) (k : ℕ) (l : Local W) (s' : Shared) (l' : Local W) → slice_get c.locals k ≡ Some l → s' ≡ c.shared → l' ≡ l → core_with c s' k l' ≡ c
  core_same c k l s' l' at shared local =
      let same : slice_set c.locals k l' ≡ c.locals = ap (slice_set c.locals k) local ∙ set_itself c.locals k l at in
      λ i. record { shared = shared i; locals = same i; links = c.links }

  pub core_steps : (rules : WatchRules W) (waits : W → Awaited) (c : CoreState W) (who : Actor) (k : ℕ) (l : Local W) (given : Option Reply) (out : StepOut Line) (s' : Shared) (l' : Local W) → CoreFits waits c → slice_get c.locals k ≡ Some l → same_actor who (role_name l.role) ≡ true → Steps rules c.shared l given out s' l' → CoreSteps rules c who out (core_with c s' k l')
  core_steps rules waits c who k l given (Made made) s' l' fits at named steps = λ t tells.
      subst (λ (a : Actor). (t' : BootTold W) × LineBy rules t a made t' × Tells s' (slice_set c.locals k l') t') (sym (same_is who (role_name l.role) named)) (line_leads rules c.shared c.locals k l given made s' l' t at steps tells)
  core_steps rules waits c who k l given Idle s' l' fits at named steps =
      let e = idle_changes_nothing rules c.shared l given s' l' steps in (
        core_same c k l s' l' at e.0 e.1,
        λ t tells. told_rests c.shared c.locals who t tells (λ j m there same items.
            let place : j ≡ k = named_place waits c who j m fits there same ∙ sym (named_place waits c who k l fits at named) in
            let one : m ≡ l = some_is m l (sym there ∙ ap (slice_get c.locals) place ∙ at) in
            ap (λ (x : Local W). is_ready (shared_told c.shared t.shared.arrived) (role_told x.role items)) one ∙ role_rests rules c.shared l.role t.shared.arrived items given s' l'.role tells.counted steps.acts),
      )

  -- an actor that the core does not have
  pub core_rests : (rules : WatchRules W) (waits : W → Awaited) (c : CoreState W) (who : Actor) → CoreFits waits c → ((l : Local W) → slice_get c.locals (number_among c.links who) ≡ Some l → same_actor who (role_name l.role) ≡ true → ⊥) → CoreSteps rules c who Idle c
  core_rests rules waits c who fits none =
      (refl, λ t tells. told_rests c.shared c.locals who t tells (λ j m there same items. absurd (none m (ap (slice_get c.locals) (sym (named_place waits c who j m fits there same)) ∙ there) same)))

  -- at the place that was looked at stands another actor's local, or none
  pub other_there : (c : CoreState W) (who : Actor) (items : List (Local W)) (place : ℕ) (found : Local W) → items ≡ c.locals → place ≡ number_among c.links who → slice_get items place ≡ Some found → same_actor who (role_name found.role) ≡ false → (l : Local W) → slice_get c.locals (number_among c.links who) ≡ Some l → same_actor who (role_name l.role) ≡ true → ⊥
  other_there c who items place found same is at apart l there named =
      let one : l ≡ found = some_is l found (sym there ∙ ap (λ (x : List (Local W) × ℕ). slice_get x.0 x.1) (λ i. (sym same i, sym is i)) ∙ at) in
      let e : true ≡ false = sym named ∙ ap (λ (x : Local W). same_actor who (role_name x.role)) one ∙ apart in cc

  pub none_there : (c : CoreState W) (who : Actor) (items : List (Local W)) (place : ℕ) → items ≡ c.locals → place ≡ number_among c.links who → length items ≤ place → (l : Local W) → slice_get c.locals (number_among c.links who) ≡ Some l → same_actor who (role_name l.role) ≡ true → ⊥
  none_there c who items place same is past l there named =
      let below : number_among c.links who < length c.locals = got_within c.locals (number_among c.links who) l there in
      omega (arith, below, past, is, ap (λ (x : List (Local W)). length x) same)

  -- Whether an actor is ready.

  some_ready : (t : SharedTold) (who : Actor) (actors : List (ActorTold W)) (k : ℕ) (a : ActorTold W) → slice_get actors k ≡ Some a → same_actor who (name_of a) ≡ true → is_ready t a ≡ true → has_ready t who actors ≡ true
  some_ready t who [] zero a at named ready = absurd cc
  some_ready t who [] (suc k) a at named ready = absurd cc
  some_ready t who (b ∷ actors) zero a at named ready =
      let one : b ≡ a = some_is b a at in
      either (same_actor who (name_of b)) (is_ready t b) (has_ready t who actors) (ap (λ (x : ActorTold W). same_actor who (name_of x)) one ∙ named) (ap (is_ready t) one ∙ ready)
  some_ready t who (b ∷ actors) (suc k) a at named ready = later (same_actor who (name_of b) && is_ready t b) (has_ready t who actors) (some_ready t who actors k a at named ready)

  pub core_ready : (waits : W → Awaited) (c : CoreState W) (who : Actor) (k : ℕ) (l : Local W) (r : Bool) → CoreFits waits c → slice_get c.locals k ≡ Some l → same_actor who (role_name l.role) ≡ true → ((arrived : List ℕ) (items : List Item) → Counted arrived c.shared → r ≡ is_ready (shared_told c.shared arrived) (role_told l.role items)) → (t : BootTold W) → Tells c.shared c.locals t → r ≡ has_ready t.shared who t.actors
  core_ready waits c who k l true fits at named is t tells =
      let here = told_at c.locals t.actors k l tells.actors at in
      let name : name_of here.told ≡ role_name l.role = ap name_of here.is.told ∙ told_name l.role here.is.items in
      sym (some_ready t.shared who t.actors k here.told here.at (ap (same_actor who) name ∙ named)
      (ap (λ (x : SharedTold). is_ready x here.told) tells.shared ∙ ap (is_ready (shared_told c.shared t.shared.arrived)) here.is.told ∙ sym (is t.shared.arrived here.is.items tells.counted)))
  core_ready waits c who k l false fits at named is t tells =
      sym (told_rests c.shared c.locals who t tells (λ j m there same items.
      let place : j ≡ k = named_place waits c who j m fits there same ∙ sym (named_place waits c who k l fits at named) in
      let one : m ≡ l = some_is m l (sym there ∙ ap (slice_get c.locals) place ∙ at) in
      ap (λ (x : Local W). is_ready (shared_told c.shared t.shared.arrived) (role_told x.role items)) one ∙ sym (is t.shared.arrived items tells.counted)))

  pub core_lacks : (waits : W → Awaited) (c : CoreState W) (who : Actor) → CoreFits waits c → ((l : Local W) → slice_get c.locals (number_among c.links who) ≡ Some l → same_actor who (role_name l.role) ≡ true → ⊥) → (t : BootTold W) → Tells c.shared c.locals t → has_ready t.shared who t.actors ≡ false
  core_lacks waits c who fits none t tells =
      told_rests c.shared c.locals who t tells (λ j m there same items. absurd (none m (ap (slice_get c.locals) (sym (named_place waits c who j m fits there same)) ∙ there) same))

  -- Whether all is finished.

  pub all_finished : (ls : List (Local W)) → All (λ (l : Local W). finished_of l ≡ true) ls → finished_among ls ≡ true
  all_finished [] all = refl
  all_finished (l ∷ ls) all = both (finished_of l) (finished_among ls) (All-head (λ (x : Local W). finished_of x ≡ true) l ls all) (all_finished ls (All-tail (λ (x : Local W). finished_of x ≡ true) l ls all))
    where
      both : (a b : Bool) → a ≡ true → b ≡ true → (a && b) ≡ true
      both true b h k = k
      both false b h k = absurd cc

  pub one_unfinished : (ls : List (Local W)) (k : ℕ) (l : Local W) → slice_get ls k ≡ Some l → finished_of l ≡ false → finished_among ls ≡ false
  one_unfinished [] zero l at not_yet = absurd cc
  one_unfinished [] (suc k) l at not_yet = absurd cc
  one_unfinished (m ∷ ls) zero l at not_yet = ap (λ (b : Bool). b && finished_among ls) (ap finished_of (some_is m l at) ∙ not_yet)
  one_unfinished (m ∷ ls) (suc k) l at not_yet = neither (finished_of m) (finished_among ls) (one_unfinished ls k l at not_yet)
    where
      neither : (a b : Bool) → b ≡ false → (a && b) ≡ false
      neither true b h = h
      neither false b h = refl
