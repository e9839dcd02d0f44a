-- What the form of a line tells of the draft before it.
use Rattle.std.proofs.Common.{◌≡◌, ℕ, List, Bool, true, false, cond, not, ◌&&◌, ◌||◌, refl}
use Rattle.std.specs.Prelude.{Option, Some, None, Ok, codes, length, drop, nat_lt, nat_le, ◌==◌, is_some, ⊤}
use Rattle.std.specs.List.{list_all}
use Rattle.first_model.specs.declared.plan.PlanType.{PlanType}
use Rattle.first_model.specs.declared.vehicle.Mode.TheVariants as mode
use Rattle.first_model.specs.declared.vehicle.VehicleLine.TheVariants.{Tick, Go, Reached, Mode}
use Rattle.first_script.specs.declared.form.Form.{Form}
use Rattle.first_script.specs.declared.form.Form.TheVariants as form
use Rattle.first_script.specs.declared.form.Measure.TheVariants as measure
use Rattle.first_script.specs.declared.form.Entry.{Entry}
use Rattle.first_script.specs.declared.form.Entry.TheVariants as entry
use Rattle.first_script.specs.declared.draft.Draft.{Draft}
use Rattle.first_script.specs.Words.{word, is_same}
use Rattle.first_script.specs.Numbers.{is_within}
use Rattle.first_script.specs.Actors.{is_actor, actor_of}
use Rattle.first_script.specs.Forms.{param_form, kind_of, plan_of, plan_form, is_tear, boot_form, link_size, is_unlisted_link, is_built, names_unplain, is_later_link, link_entry, link_form, nav_size, is_unlisted_nav, are_events_built, is_later_nav, nav_entry, nav_form, watch_form, turns_form, head_form, flight_form, form_of}
use Rattle.first_script.specs.Flyable.{IsPlainEvent}
use Rattle.first_script.proofs.Choosing.{choose, given, refused, sized_gives, unlisted_never}

-- what holds of the draft where an entry comes
abbrev pub IsSafeEntry : Draft → List (List ℕ) → Entry → Type 0
IsSafeEntry draft words entry.Landing = draft.booted ≡ false
IsSafeEntry draft words entry.Return = draft.booted ≡ false
IsSafeEntry draft words entry.Boot = ⊤
IsSafeEntry draft words entry.Upload = (draft.booted ≡ true) × (names_unplain draft.plans draft.plain (word 3 words) ≡ false)
IsSafeEntry draft words (entry.Event event) = (draft.booted ≡ true) × (are_events_built draft ≡ true) × IsPlainEvent event
IsSafeEntry draft words entry.LinkWait = draft.booted ≡ true
IsSafeEntry draft words entry.LinkMeet = draft.booted ≡ true
IsSafeEntry draft words entry.NavWait = draft.booted ≡ true
IsSafeEntry draft words entry.NavMeet = draft.booted ≡ true
IsSafeEntry draft words entry.Turns = ⊤

-- and where a line of a form comes
abbrev pub IsSafe : Draft → List (List ℕ) → Form → Type 0
IsSafe draft words (form.Measure _) = draft.booted ≡ false
IsSafe draft words (form.Plan _ _) = draft.booted ≡ false
IsSafe draft words (form.Entry entry) = IsSafeEntry draft words entry

plain_upload : (other zero later up unplain : Bool) → other || (zero && (later || (up && unplain))) ≡ false → zero ≡ true → up ≡ true → unplain ≡ false
plain_upload true zero later up unplain e z u = absurd cc
plain_upload false false later up unplain e z u = absurd cc
plain_upload false true true up unplain e z u = absurd cc
plain_upload false true false false unplain e z u = absurd cc
plain_upload false true false true unplain e z u = e

events_built_of : (position back built wait meet : Bool) → position || (back || (not built && not (wait || meet))) ≡ false → wait ≡ false → meet ≡ false → built ≡ true
events_built_of true back built wait meet e w m = absurd cc
events_built_of false true built wait meet e w m = absurd cc
events_built_of false false true wait meet e w m = refl
events_built_of false false false true meet e w m = absurd cc
events_built_of false false false false true e w m = absurd cc
events_built_of false false false false false e w m = absurd cc

module _ (draft : Draft) (words : List (List ℕ)) where
  abbrev Safe : Form → Type 0
  Safe f = IsSafe draft words f

  module _ (head : draft.booted ≡ false) where
    param_safe : (f : Form) → param_form words ≡ Ok f → Safe f
    unfolding param_form
    param_safe f e =
        choose (is_same (word 1 words) (codes "TKO_LAND")) _ _ f (Safe f) e (λ b r. sized_gives 3 (form.Entry entry.Landing) words f Safe head r) (λ b r.
        choose (is_same (word 1 words) (codes "TAKEOFF_MIN")) _ _ f (Safe f) r (λ b r. sized_gives 3 (form.Measure measure.Takeoff) words f Safe head r) (λ b r.
        choose (is_same (word 1 words) (codes "MAX_ALT")) _ _ f (Safe f) r (λ b r. sized_gives 3 (form.Measure measure.Ceiling) words f Safe head r) (λ b r.
        choose (is_same (word 1 words) (codes "RTL_TYPE")) _ _ f (Safe f) r (λ b r. sized_gives 3 (form.Entry entry.Return) words f Safe head r) (λ b r.
        choose (is_same (word 1 words) (codes "DIST_1WP") || is_same (word 1 words) (codes "DIST_WPS")) _ _ f (Safe f) r (λ b r. sized_gives 3 (form.Measure measure.Distance) words f Safe head r) (λ b r.
        unlisted_never 1 words f (Safe f) r)))))

    plan_of_safe : (kind : Option PlanType) (f : Form) → plan_of kind words ≡ Ok f → Safe f
    plan_of_safe None f e = unlisted_never 2 words f (Safe f) e
    plan_of_safe (Some kind) f e =
        choose (length words == 3) _ _ f (Safe f) e (λ b r. given (form.Plan kind false) f Safe head r) (λ b r.
        choose (is_same (word 3 words) (codes "home-first")) _ _ f (Safe f) r (λ b r. sized_gives 4 (form.Plan kind true) words f Safe head r) (λ b r. refused _ f (Safe f) r))

    plan_safe : (f : Form) → plan_form words ≡ Ok f → Safe f
    unfolding plan_form
    plan_safe f e = plan_of_safe (kind_of (word 2 words)) f e

    head_safe : (f : Form) → head_form words ≡ Ok f → Safe f
    unfolding head_form
    head_safe f e =
        choose (is_same (word 0 words) (codes "param")) _ _ f (Safe f) e (λ b r. param_safe f r) (λ b r.
        choose (is_same (word 0 words) (codes "home")) _ _ f (Safe f) r (λ b r. sized_gives 4 (form.Measure measure.Home) words f Safe head r) (λ b r.
        choose (is_same (word 0 words) (codes "plan")) _ _ f (Safe f) r (λ b r. plan_safe f r) (λ b r. refused _ f (Safe f) r)))

  boot_safe : (booted : Bool) (f : Form) → boot_form booted words ≡ Ok f → Safe f
  unfolding boot_form
  boot_safe booted f e =
      choose (length words == 1) _ _ f (Safe f) e (λ b r.
      choose booted _ _ f (Safe f) r (λ b r. refused _ f (Safe f) r) (λ b r. given (form.Entry entry.Boot) f Safe tt r)) (λ b r.
      choose (is_same (word 1 words) (codes "cut") || is_same (word 1 words) (codes "cut-read")) _ _ f (Safe f) r (λ b r.
      choose (nat_le (length words) 3 || is_tear (word 3 words)) _ _ f (Safe f) r (λ b r. refused _ f (Safe f) r) (λ b r. refused _ f (Safe f) r)) (λ b r. refused _ f (Safe f) r))

  module _ (flight : draft.booted ≡ true) where
    entry_by : (up meet : Bool) → (up ≡ true → names_unplain draft.plans draft.plain (word 3 words) ≡ false) → IsSafeEntry draft words (cond up entry.Upload (cond meet entry.LinkMeet entry.LinkWait))
    entry_by true meet plain = (flight, plain refl)
    entry_by false true plain = flight
    entry_by false false plain = flight

    link_entry_safe : is_later_link draft words ≡ false → is_within 0 0 (word 1 words) ≡ true → IsSafeEntry draft words (link_entry (word 2 words))
    unfolding link_entry is_later_link
    link_entry_safe later zero = entry_by (is_same (word 2 words) (codes "upload")) (is_same (word 2 words) (codes "meet")) (λ up.
        plain_upload (is_within 1 7 (word 1 words)) (is_within 0 0 (word 1 words)) (nat_lt 0 (link_size (word 2 words)) && not (is_built (word 2 words))) (is_same (word 2 words) (codes "upload")) (names_unplain draft.plans draft.plain (word 3 words)) later zero up)

    link_safe : (f : Form) → link_form draft words ≡ Ok f → Safe f
    unfolding link_form
    link_safe f e =
        choose (is_unlisted_link words) _ _ f (Safe f) e (λ b r. refused _ f (Safe f) r) (λ b r.
        choose (is_later_link draft words) _ _ f (Safe f) r (λ b r. refused _ f (Safe f) r) (λ later r.
        choose (not (length words == link_size (word 2 words))) _ _ f (Safe f) r (λ b r. refused _ f (Safe f) r) (λ b r.
        choose (is_within 0 0 (word 1 words)) _ _ f (Safe f) r (λ zero r. given (form.Entry (link_entry (word 2 words))) f Safe (link_entry_safe later zero) r) (λ b r. refused _ f (Safe f) r))))

    nav_by : (wait meet tick go reached hold : Bool) → (wait ≡ false → meet ≡ false → are_events_built draft ≡ true)
        → IsSafeEntry draft words (cond wait entry.NavWait (cond meet entry.NavMeet (cond tick (entry.Event Tick) (cond go (entry.Event Go) (cond reached (entry.Event Reached) (cond hold (entry.Event (Mode mode.Hold)) (entry.Event (Mode mode.Mission))))))))
    nav_by true meet tick go reached hold built = flight
    nav_by false true tick go reached hold built = flight
    nav_by false false true go reached hold built = (flight, built refl refl, tt)
    nav_by false false false true reached hold built = (flight, built refl refl, tt)
    nav_by false false false false true hold built = (flight, built refl refl, tt)
    nav_by false false false false false true built = (flight, built refl refl, tt)
    nav_by false false false false false false built = (flight, built refl refl, tt)

    nav_entry_safe : is_later_nav (are_events_built draft) words ≡ false → IsSafeEntry draft words (nav_entry words)
    unfolding nav_entry is_later_nav
    nav_entry_safe later = nav_by (is_same (word 1 words) (codes "wait")) (is_same (word 1 words) (codes "meet")) (is_same (word 1 words) (codes "tick")) (is_same (word 1 words) (codes "go")) (is_same (word 1 words) (codes "reached")) (is_same (word 2 words) (codes "hold")) (λ w m.
        events_built_of (is_same (word 1 words) (codes "position")) (is_same (word 1 words) (codes "mode") && is_same (word 2 words) (codes "return")) (are_events_built draft) (is_same (word 1 words) (codes "wait")) (is_same (word 1 words) (codes "meet")) later w m)

    nav_safe : (f : Form) → nav_form (are_events_built draft) words ≡ Ok f → Safe f
    unfolding nav_form
    nav_safe f e =
        choose (nat_le (length words) 1) _ _ f (Safe f) e (λ b r. refused _ f (Safe f) r) (λ b r.
        choose (is_unlisted_nav words) _ _ f (Safe f) r (λ b r. refused _ f (Safe f) r) (λ b r.
        choose (is_later_nav (are_events_built draft) words) _ _ f (Safe f) r (λ b r. refused _ f (Safe f) r) (λ later r.
        choose (length words == nav_size (word 1 words)) _ _ f (Safe f) r (λ b r. given (form.Entry (nav_entry words)) f Safe (nav_entry_safe later) r) (λ b r. refused _ f (Safe f) r))))

    watch_safe : (f : Form) → watch_form words ≡ Ok f → Safe f
    unfolding watch_form
    watch_safe f e = choose (nat_lt 2 (length words) && not (is_same (word 2 words) (codes "do"))) _ _ f (Safe f) e (λ b r. refused _ f (Safe f) r) (λ b r. refused _ f (Safe f) r)

    turns_safe : (f : Form) → turns_form words ≡ Ok f → Safe f
    unfolding turns_form
    turns_safe f e =
        choose (not (list_all is_actor (drop 1 words))) _ _ f (Safe f) e (λ b r. refused _ f (Safe f) r) (λ b r.
        choose (not (list_all (λ name. is_some (actor_of name)) (drop 1 words))) _ _ f (Safe f) r (λ b r. refused _ f (Safe f) r) (λ b r.
        choose (length words == 1) _ _ f (Safe f) r (λ b r. refused _ f (Safe f) r) (λ b r. given (form.Entry entry.Turns) f Safe tt r)))

    flight_safe : (f : Form) → flight_form draft words ≡ Ok f → Safe f
    unfolding flight_form
    flight_safe f e =
        choose (is_same (word 0 words) (codes "link")) _ _ f (Safe f) e (λ b r. link_safe f r) (λ b r.
        choose (is_same (word 0 words) (codes "nav")) _ _ f (Safe f) r (λ b r. nav_safe f r) (λ b r.
        choose (is_same (word 0 words) (codes "watch")) _ _ f (Safe f) r (λ b r. watch_safe f r) (λ b r.
        choose (is_same (word 0 words) (codes "turns")) _ _ f (Safe f) r (λ b r. turns_safe f r) (λ b r. refused _ f (Safe f) r))))

  -- the form of a line that has one
  pub form_safe : (f : Form) → form_of draft words ≡ Ok f → Safe f
  unfolding form_of
  form_safe f e =
      choose (is_same (word 0 words) (codes "boot")) _ _ f (Safe f) e (λ b r. boot_safe draft.booted f r) (λ b r.
      choose draft.booted _ _ f (Safe f) r (λ flight r. flight_safe flight f r) (λ head r. head_safe head f r))
