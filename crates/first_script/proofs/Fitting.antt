-- Each line leaves what is stated within what is flown today.
use Rattle.std.proofs.Common.{lit≤, ◌≡◌, ℕ, ◌+◌, ◌-◌, ◌<◌, ◌≤◌, List, [], ◌∷◌, ◌++◌, length, drop, Bool, true, false, cond, not, ◌&&◌, ◌||◌, refl, sym, subst, arith, get_or, suc, zero, inl, inr, length-append}
use Rattle.std.proofs.lemmas.Bool.Decides.{nat_tests}
use Rattle.std.proofs.lemmas.Option.{option_and_then_some}
use Rattle.std.proofs.lemmas.List.Elements.{All-append}
use Rattle.std.proofs.lemmas.List.Sums.{sum_by-append}
use Rattle.std.specs.Prelude.{◌⊎◌, Option, Some, None, Result, Ok, Err, option_map, nat_le, nat_lt, All, count_by, codes, is_none, ⊤}
use Rattle.std.specs.List.{list_all}
use Rattle.first_text.specs.declared.span.Span.{Span}
use Rattle.first_model.specs.declared.limits.TheConstants.{MAX_PLACES, MAX_PLANS, MAX_SCHEDULE_LINES, MAX_UPLOAD_LINES, MAX_TURN_WORDS}
use Rattle.first_model.specs.declared.plan.Params.{Params}
use Rattle.first_model.specs.declared.plan.PlanType.{PlanType}
use Rattle.first_model.specs.declared.flight_line.Actor.{Actor}
use Rattle.first_model.specs.declared.flight_line.Actor.TheVariants.{Worker, Link, Nav}
use Rattle.first_model.specs.declared.schedule.InputLine.{InputLine}
use Rattle.first_model.specs.declared.schedule.InputLine.TheVariants.{Upload, Wait, Meet, Vehicle}
use Rattle.first_model.specs.declared.schedule.NamedPlan.{NamedPlan}
use Rattle.first_script.specs.declared.fault.ScriptFault.TheVariants as fault
use Rattle.first_script.specs.declared.form.Form.{Form}
use Rattle.first_script.specs.declared.form.Form.TheVariants as form
use Rattle.first_script.specs.declared.form.Measure.{Measure}
use Rattle.first_script.specs.declared.form.Measure.TheVariants as measure
use Rattle.first_script.specs.declared.form.Entry.{Entry}
use Rattle.first_script.specs.declared.form.Entry.TheVariants as entry
use Rattle.first_script.specs.declared.draft.Draft.{Draft}
use Rattle.first_script.specs.declared.place.Place.{Place}
use Rattle.first_script.specs.declared.place.Place.TheVariants.{Top, Among, Within}
use Rattle.first_script.specs.Words.{word, says, is_same}
use Rattle.first_script.specs.Numbers.{whole_of, whole_within}
use Rattle.first_script.specs.Actors.{actor_of}
use Rattle.first_script.specs.Reads.{or_fault}
use Rattle.first_script.specs.Forms.{form_of, names_unplain, are_events_built}
use Rattle.first_script.specs.Plain.{IsPlain}
use Rattle.first_script.specs.Uploads.{is_upload}
use Rattle.first_script.specs.Entries.{no_params, empty_draft, with_params, number_in, meeting, plan_named, upload, has_room, with_input, actors_more, actors_of, with_turns, after_entry}
use Rattle.first_script.specs.Measures.{Measures}
use Rattle.first_script.specs.Plans.{is_name, new_name, plan_text, kept_items, Fills}
use Rattle.first_script.specs.Places.{is_skipped, after_top, after_within, States, StatesBy, AmongLeads, Leads}
use Rattle.first_script.specs.Flyable.{IsLinkInput, IsNavInput, IsListed, IsNoEvent, IsOfRun}
use Rattle.first_script.proofs.Choosing.{choose, given, refused, bound}
use Rattle.first_script.proofs.SafeForms.{IsSafeEntry, IsSafe, form_safe}

-- each plan that is flagged is plain
abbrev pub Marked : List NamedPlan → List Bool → Type 0
Marked [] [] = ⊤
Marked (plan ∷ plans) (plain ∷ more) = (plain ≡ true → IsPlain plan.kind plan.items) × Marked plans more
Marked _ _ = ⊥

-- what is stated is flown today
pub record IsFit (draft : Draft) : Type 0 where
  pub few : length draft.plans ≤ MAX_PLANS
  pub marked : Marked draft.plans draft.plain
  pub listed : All IsListed draft.inputs
  pub actors : All (λ input. IsOfRun 1 input.0) draft.inputs
  pub stated : All (IsOfRun 1) draft.turns
  pub schedule : length draft.inputs ≤ MAX_SCHEDULE_LINES
  pub uploads : count_by is_upload draft.inputs ≤ MAX_UPLOAD_LINES
  pub words : length draft.turns ≤ MAX_TURN_WORDS
  pub start : draft.booted ≡ false → draft.inputs ≡ []
  pub params : draft.has_param ≡ false → draft.params ≡ no_params
  pub events : All IsNoEvent draft.inputs ⊎ (draft.params ≡ no_params)

pub All-nil : {X : Type 0} (P : X → Type 0) → All P []
All-nil P = λ k d l. absurd (omega arith)

one_at : {X : Type 0} (P : X → Type 0) (x : X) → P x → (k : ℕ) (d : X) → k < length (x ∷ []) → P (get_or (x ∷ []) k d)
one_at P x h zero d l = h
one_at P x h (suc k) d l = absurd (omega arith)

pub All-one : {X : Type 0} (P : X → Type 0) (x : X) → P x → All P (x ∷ [])
All-one P x h = one_at P x h

pub empty_fit : IsFit empty_draft
empty_fit = record {
  few = lit≤ tt;
  marked = tt;
  listed = All-nil IsListed;
  actors = All-nil (λ (input : Actor × InputLine). IsOfRun 1 input.0);
  stated = All-nil (IsOfRun 1);
  schedule = lit≤ tt;
  uploads = lit≤ tt;
  words = lit≤ tt;
  start = λ h. refl;
  params = λ h. refl;
  events = inr refl;
}

no_event_at_start : (draft : Draft) → IsFit draft → draft.booted ≡ false → All IsNoEvent draft.inputs
no_event_at_start draft fit head = subst (λ (inputs : List (Actor × InputLine)). All IsNoEvent inputs) (sym (fit.start head)) (All-nil IsNoEvent)

params_fit : (draft : Draft) (params : Params) → IsFit draft → draft.booted ≡ false → IsFit (with_params draft params)
params_fit draft params fit head = record {
  few = fit.few;
  marked = fit.marked;
  listed = fit.listed;
  actors = fit.actors;
  stated = fit.stated;
  schedule = fit.schedule;
  uploads = fit.uploads;
  words = fit.words;
  start = fit.start;
  params = λ h. absurd cc;
  events = inl (no_event_at_start draft fit head);
}

home_fit : (draft : Draft) (home : _) → IsFit draft → IsFit (record draft { home = home })
home_fit draft home fit = record {
  few = fit.few;
  marked = fit.marked;
  listed = fit.listed;
  actors = fit.actors;
  stated = fit.stated;
  schedule = fit.schedule;
  uploads = fit.uploads;
  words = fit.words;
  start = fit.start;
  params = fit.params;
  events = fit.events;
}

boot_fit : (draft : Draft) → IsFit draft → IsFit (record draft { booted = true })
boot_fit draft fit = record {
  few = fit.few;
  marked = fit.marked;
  listed = fit.listed;
  actors = fit.actors;
  stated = fit.stated;
  schedule = fit.schedule;
  uploads = fit.uploads;
  words = fit.words;
  start = λ h. absurd cc;
  params = fit.params;
  events = fit.events;
}

-- both tests hold
and_parts : (a b : Bool) → a && b ≡ true → (a ≡ true) × (b ≡ true)
and_parts true b e = (refl, e)
and_parts false b e = cc

-- an upload more, where there is room for it
uploads_on : (b : Bool) (uploads : ℕ) → not b || nat_lt uploads MAX_UPLOAD_LINES ≡ true → uploads ≤ MAX_UPLOAD_LINES → uploads + cond b 1 0 ≤ MAX_UPLOAD_LINES
uploads_on true uploads room few = grind (arith, nat_tests)
uploads_on false uploads room few = omega arith

has_room-some : (inputs : List (Actor × InputLine)) (input : Actor × InputLine) → has_room inputs input ≡ true → count_by is_upload inputs ≤ MAX_UPLOAD_LINES → (length (inputs ++ input ∷ []) ≤ MAX_SCHEDULE_LINES) × (count_by is_upload (inputs ++ input ∷ []) ≤ MAX_UPLOAD_LINES)
unfolding has_room
has_room-some inputs input room few =
    let both = and_parts (nat_lt (length inputs) MAX_SCHEDULE_LINES) (not (is_upload input) || nat_lt (count_by is_upload inputs) MAX_UPLOAD_LINES) room in
    let short : length inputs < MAX_SCHEDULE_LINES = grind (arith, nat_tests, both.0) in
    let more : count_by is_upload (inputs ++ input ∷ []) ≡ count_by is_upload inputs + (0 + cond (is_upload input) 1 0) = sum_by-append (λ (i : Actor × InputLine). cond (is_upload i) 1 0) inputs (input ∷ []) in
    let fits = uploads_on (is_upload input) (count_by is_upload inputs) both.1 few in
    (omega (arith, length-append inputs (input ∷ [])), omega (arith, more, fits))

true_not_false : (b : Bool) → b ≡ true → b ≡ false → ⊥
true_not_false true t f = cc
true_not_false false t f = cc

-- an input that may come
record MayCome (draft : Draft) (input : Actor × InputLine) : Type 0 where
  flight : draft.booted ≡ true
  listed : IsListed input
  actor : IsOfRun 1 input.0
  no_event : IsNoEvent input ⊎ (draft.params ≡ no_params)

more_events : (draft : Draft) (input : Actor × InputLine) → All IsNoEvent draft.inputs ⊎ (draft.params ≡ no_params) → IsNoEvent input ⊎ (draft.params ≡ no_params) → All IsNoEvent (draft.inputs ++ input ∷ []) ⊎ (draft.params ≡ no_params)
more_events draft input (inl no_event) (inl one) = inl (All-append IsNoEvent draft.inputs (input ∷ []) no_event (All-one IsNoEvent input one))
more_events draft input (inl no_event) (inr none) = inr none
more_events draft input (inr none) one = inr none

input_fit : (draft : Draft) (input : Actor × InputLine) (next : Draft) → IsFit draft → MayCome draft input → with_input draft input ≡ Ok next → IsFit next
unfolding with_input
input_fit draft input next fit may e = choose (has_room draft.inputs input) _ _ next (IsFit next) e (λ room r.
    let short = has_room-some draft.inputs input room fit.uploads in
    given (record draft { inputs = draft.inputs ++ input ∷ [] }) next IsFit (record {
      few = fit.few;
      marked = fit.marked;
      listed = All-append IsListed draft.inputs (input ∷ []) fit.listed (All-one IsListed input may.listed);
      actors = All-append (λ (i : Actor × InputLine). IsOfRun 1 i.0) draft.inputs (input ∷ []) fit.actors (All-one (λ (i : Actor × InputLine). IsOfRun 1 i.0) input may.actor);
      stated = fit.stated;
      schedule = short.0;
      uploads = short.1;
      words = fit.words;
      start = λ h. absurd (true_not_false draft.booted may.flight h);
      params = fit.params;
      events = more_events draft input fit.events may.no_event;
    }) r) (λ none r. refused _ next (IsFit next) r)

in_range : (low high m n : ℕ) → cond (nat_le low m && nat_le m high) (Some m) None ≡ Some n → (low ≤ n) × (n ≤ high)
in_range low high m n chosen = grind (arith, nat_tests, chosen_parts (nat_le low m && nat_le m high) m n chosen)
  where
    chosen_parts : (b : Bool) (m n : ℕ) → cond b (Some m) None ≡ Some n → (b ≡ true) × (m ≡ n)
    chosen_parts true m n e = (refl, cc)
    chosen_parts false m n e = cc

whole_within-some : (low high : ℕ) (word : List ℕ) (n : ℕ) → whole_within low high word ≡ Some n → (low ≤ n) × (n ≤ high)
unfolding whole_within
whole_within-some low high word n e = option_and_then_some (λ m. cond (nat_le low m && nat_le m high) (Some m) None) (whole_of word) n e (λ m found chosen. in_range low high m n chosen)

ok_some : (n : ℕ) (found : Option ℕ) (f : _) → or_fault f found ≡ Ok n → found ≡ Some n
ok_some n (Some m) f e = cc
ok_some n None f e = cc

number_in-ok : (field low high : ℕ) (words : List (List ℕ)) (n : ℕ) → number_in field low high words ≡ Ok n → (low ≤ n) × (n ≤ high)
unfolding number_in
number_in-ok field low high words n e = whole_within-some low high (word (field - 1) words) n (ok_some n (whole_within low high (word (field - 1) words)) (fault.Number field) e)

abbrev IsMeeting : InputLine → Type 0
IsMeeting input = IsLinkInput input × IsNavInput input × ((actor : Actor) → IsNoEvent (actor, input))

meeting-ok : (field : ℕ) (words : List (List ℕ)) (input : InputLine) → meeting field words ≡ Ok input → IsMeeting input
unfolding meeting
meeting-ok field words input e =
    bound (number_in field 0 (MAX_PLACES - 1) words) _ input (IsMeeting input) e (λ m e1 r1.
    bound (number_in (field + 1) 1 255 words) _ input (IsMeeting input) r1 (λ c e2 made.
    let low = (number_in-ok field 0 (MAX_PLACES - 1) words m e1).1 in
    let some = (number_in-ok (field + 1) 1 255 words c e2).0 in
    let fits : (m < MAX_PLACES) × (1 ≤ c) = (omega (arith, low), some) in
    given (Meet m c) input IsMeeting (fits, fits, λ actor. tt) made))

flagged : (flag : Bool) → not flag ≡ false → flag ≡ true
flagged true q = refl
flagged false q = cc

same_plan : (x y : NamedPlan) → Some x ≡ Some y → x ≡ y
same_plan x y e = cc

named_by : (first plan : NamedPlan) (plans : List NamedPlan) (flag unplain : Bool) (more : Option NamedPlan) (b : Bool) → (flag ≡ true → IsPlain first.kind first.items) → (unplain ≡ false → more ≡ Some plan → IsPlain plan.kind plan.items)
    → cond b (not flag) unplain ≡ false → cond b (Some first) more ≡ Some plan → IsPlain plan.kind plan.items
named_by first plan plans flag unplain more true here later p e = subst (λ (x : NamedPlan). IsPlain x.kind x.items) (same_plan first plan e) (here (flagged flag p))
named_by first plan plans flag unplain more false here later p e = later p e

-- the plan of a name that is none of a plan that is not plain
named_plain : (plans : List NamedPlan) (flags : List Bool) (name : List ℕ) (plan : NamedPlan) → Marked plans flags → names_unplain plans flags name ≡ false → plan_named plans name ≡ Some plan → IsPlain plan.kind plan.items
unfolding names_unplain plan_named
named_plain [] flags name plan marked plain e = cc
named_plain (first ∷ plans) [] name plan marked plain e = absurd marked
named_plain (first ∷ plans) (flag ∷ flags) name plan marked plain e =
    named_by first plan plans flag (names_unplain plans flags name) (plan_named plans name) (is_same first.name name) marked.0 (λ p h. named_plain plans flags name plan marked.1 p h) plain e

upload-ok : (draft : Draft) (name : List ℕ) (input : InputLine) → IsFit draft → names_unplain draft.plans draft.plain name ≡ false → upload draft.plans name ≡ Ok input → IsLinkInput input × ((actor : Actor) → IsNoEvent (actor, input))
unfolding upload
upload-ok draft name input fit plain e = by (plan_named draft.plans name) refl e
  where
    by : (found : Option NamedPlan) → plan_named draft.plans name ≡ found → or_fault fault.Name (option_map (λ (plan : NamedPlan). Upload plan.kind plan.items) found) ≡ Ok input → IsLinkInput input × ((actor : Actor) → IsNoEvent (actor, input))
    by None is r = refused _ input _ r
    by (Some plan) is r = given (Upload plan.kind plan.items) input (λ (i : InputLine). IsLinkInput i × ((actor : Actor) → IsNoEvent (actor, i))) (named_plain draft.plans draft.plain name plan fit.marked plain is, λ actor. tt) r

actor_of-some : (name : List ℕ) (found : Option Actor) → actor_of name ≡ found → All (IsOfRun 1) (actors_more found [])
unfolding actor_of
actor_of-some name found e = subst (λ (o : Option Actor). All (IsOfRun 1) (actors_more o [])) e (by (is_same name (codes "w")) (is_same name (codes "n")) (is_same name (codes "l0")))
  where
    by : (w n l : Bool) → All (IsOfRun 1) (actors_more (cond w (Some Worker) (cond n (Some Nav) (cond l (Some (Link 0)) None))) [])
    by true n l = All-one (IsOfRun 1) Worker tt
    by false true l = All-one (IsOfRun 1) Nav tt
    by false false true = All-one (IsOfRun 1) (Link 0) (omega arith)
    by false false false = All-nil (IsOfRun 1)

more_of : (found : Option Actor) (actors : List Actor) → actors_more found actors ≡ actors_more found [] ++ actors
more_of None actors = refl
more_of (Some actor) actors = refl

few_more : (found : Option Actor) (actors : List Actor) (n : ℕ) → length actors ≤ n → length (actors_more found actors) ≤ suc n
few_more None actors n h = omega arith
few_more (Some actor) actors n h = omega arith

actors_of-run : (names : List (List ℕ)) → All (IsOfRun 1) (actors_of names) × (length (actors_of names) ≤ length names)
actors_of-run [] = (All-nil (IsOfRun 1), omega arith)
actors_of-run (name ∷ names) =
    let rest = actors_of-run names in (
      subst (λ (l : List Actor). All (IsOfRun 1) l) (sym (more_of (actor_of name) (actors_of names))) (All-append (IsOfRun 1) (actors_more (actor_of name) []) (actors_of names) (actor_of-some name (actor_of name) refl) rest.0),
      few_more (actor_of name) (actors_of names) (length names) rest.1,
    )

turns_fit : (draft : Draft) (names : List (List ℕ)) (next : Draft) → IsFit draft → with_turns draft names ≡ Ok next → IsFit next
unfolding with_turns
turns_fit draft names next fit e = choose (nat_le (length draft.turns + length names) MAX_TURN_WORDS) _ _ next (IsFit next) e (λ room r.
    let run = actors_of-run names in
    let few : length draft.turns + length names ≤ MAX_TURN_WORDS = grind (arith, nat_tests, room) in
    given (record draft { turns = draft.turns ++ actors_of names }) next IsFit (record {
      few = fit.few;
      marked = fit.marked;
      listed = fit.listed;
      actors = fit.actors;
      stated = All-append (IsOfRun 1) draft.turns (actors_of names) fit.stated run.0;
      schedule = fit.schedule;
      uploads = fit.uploads;
      words = omega (arith, length-append draft.turns (actors_of names), run.1, few);
      start = fit.start;
      params = fit.params;
      events = fit.events;
    }) r) (λ none r. refused _ next (IsFit next) r)

event_params : (draft : Draft) → IsFit draft → are_events_built draft ≡ true → draft.params ≡ no_params
event_params draft fit built = fit.params (no_param draft.has_param (list_all (λ plain. plain) draft.plain) built)
  where
    no_param : (param plain : Bool) → not param && plain ≡ true → param ≡ false
    no_param true plain e = cc
    no_param false plain e = refl

entry_fit : (draft : Draft) (e : Entry) (words : List (List ℕ)) (next : Draft) → IsFit draft → IsSafeEntry draft words e → after_entry draft e words ≡ Ok next → IsFit next
unfolding after_entry
entry_fit draft entry.Landing words next fit safe e = bound (number_in 3 0 4 words) _ next (IsFit next) e (λ n found made. given (with_params draft (record draft.params { tko_land = n })) next IsFit (params_fit draft _ fit safe) made)
entry_fit draft entry.Return words next fit safe e = bound (number_in 3 0 2 words) _ next (IsFit next) e (λ n found made. given (with_params draft (record draft.params { rtl_type = n })) next IsFit (params_fit draft _ fit safe) made)
entry_fit draft entry.Boot words next fit safe e = given (record draft { booted = true }) next IsFit (boot_fit draft fit) e
entry_fit draft entry.Upload words next fit safe e = bound (upload draft.plans (word 3 words)) _ next (IsFit next) e (λ input found made.
    let may = upload-ok draft (word 3 words) input fit safe.1 found in
    input_fit draft (Link 0, input) next fit (record { flight = safe.0; listed = may.0; actor = omega arith; no_event = inl (may.1 (Link 0)) }) made)
entry_fit draft entry.LinkWait words next fit safe e = input_fit draft (Link 0, Wait) next fit (record { flight = safe; listed = tt; actor = omega arith; no_event = inl tt }) e
entry_fit draft entry.LinkMeet words next fit safe e = bound (meeting 4 words) _ next (IsFit next) e (λ input found made.
    let may = meeting-ok 4 words input found in
    input_fit draft (Link 0, input) next fit (record { flight = safe; listed = may.0; actor = omega arith; no_event = inl (may.2 (Link 0)) }) made)
entry_fit draft entry.NavWait words next fit safe e = input_fit draft (Nav, Wait) next fit (record { flight = safe; listed = tt; actor = tt; no_event = inl tt }) e
entry_fit draft entry.NavMeet words next fit safe e = bound (meeting 3 words) _ next (IsFit next) e (λ input found made.
    let may = meeting-ok 3 words input found in
    input_fit draft (Nav, input) next fit (record { flight = safe; listed = may.1; actor = tt; no_event = inl (may.2 Nav) }) made)
entry_fit draft (entry.Event event) words next fit safe e = input_fit draft (Nav, Vehicle event) next fit (record { flight = safe.0; listed = safe.2; actor = tt; no_event = inr (event_params draft fit safe.1) }) e
entry_fit draft entry.Turns words next fit safe e = turns_fit draft (drop 1 words) next fit e

measure_fit : (draft : Draft) (m : Measure) (words : List (List ℕ)) (next : Draft) → IsFit draft → draft.booted ≡ false → Measures draft m words next → IsFit next
measure_fit draft measure.Takeoff words next fit head (n, is, e) = subst IsFit (sym e) (params_fit draft _ fit head)
measure_fit draft measure.Ceiling words next fit head (n, is, e) = subst IsFit (sym e) (params_fit draft _ fit head)
measure_fit draft measure.Distance words next fit head (is, e) = subst IsFit (sym e) (params_fit draft _ fit head)
measure_fit draft measure.Home words next fit head (home, is, e) = subst IsFit (sym e) (home_fit draft _ fit)

marked_more : (plans : List NamedPlan) (flags : List Bool) (plan : NamedPlan) (flag : Bool) → Marked plans flags → (flag ≡ true → IsPlain plan.kind plan.items) → Marked (plans ++ plan ∷ []) (flags ++ flag ∷ [])
marked_more [] [] plan flag marked plain = (plain, tt)
marked_more [] (f ∷ flags) plan flag marked plain = absurd marked
marked_more (p ∷ plans) [] plan flag marked plain = absurd marked
marked_more (p ∷ plans) (f ∷ flags) plan flag marked plain = (marked.0, marked_more plans flags plan flag marked.1 plain)

room_of : (plans : List NamedPlan) (name found : List ℕ) → new_name plans name ≡ Ok found → length plans < MAX_PLANS
unfolding new_name
room_of plans name found e =
    choose (is_name name && is_none (plan_named plans name)) _ _ found (length plans < MAX_PLANS) e (λ b r.
    choose (nat_lt (length plans) MAX_PLANS) _ _ found (length plans < MAX_PLANS) r (λ room r. grind (arith, nat_tests, room)) (λ b r. refused _ found (length plans < MAX_PLANS) r)) (λ b r. refused _ found (length plans < MAX_PLANS) r)

plan_fit : (draft : Draft) (name : List ℕ) (kind : PlanType) (home_first : Bool) (text : Option (List ℕ)) (next : Draft) → length draft.plans < MAX_PLANS → IsFit draft → Fills draft name kind home_first text next → IsFit next
plan_fit draft name kind home_first None next room fit e = subst IsFit (sym e) fit
plan_fit draft name kind home_first (Some text) next room fit (items, plain, wpl, test, e) = subst IsFit (sym e) (record {
  few = omega (arith, length-append draft.plans (record { name = name; kind = kind; items = kept_items home_first items } ∷ []), room);
  marked = marked_more draft.plans draft.plain (record { name = name; kind = kind; items = kept_items home_first items }) plain fit.marked (λ h. test.0 h);
  listed = fit.listed;
  actors = fit.actors;
  stated = fit.stated;
  schedule = fit.schedule;
  uploads = fit.uploads;
  words = fit.words;
  start = fit.start;
  params = fit.params;
  events = fit.events;
})

-- what is stated at a place is flown today
abbrev pub IsFitAt : Place → Type 0
IsFitAt Top = ⊤
IsFitAt (Among draft) = IsFit draft
IsFitAt (Within draft) = IsFit draft

states_fit : (text : List ℕ) (behind : List Span) (draft : Draft) (f : Form) (words : List (List ℕ)) (next : Place) → IsFit draft → IsSafe draft words f → States text behind draft f words next → IsFitAt next
states_fit text behind draft (form.Measure m) words next fit safe (after, is, e) = subst IsFitAt (sym e) (measure_fit draft m words after fit safe is)
states_fit text behind draft (form.Entry x) words next fit safe (after, is, e) = subst IsFitAt (sym e) (entry_fit draft x words after fit safe is)
states_fit text behind draft (form.Plan kind home_first) words next fit safe (name, after, named, fills, e) = subst IsFitAt (sym e) (plan_fit draft name kind home_first (plan_text text behind) after (room_of draft.plans (word 1 words) name named) fit fills)

by_form : (text : List ℕ) (behind : List Span) (draft : Draft) (found : Result Form _) (words : List (List ℕ)) (next : Place) → IsFit draft → form_of draft words ≡ found → StatesBy text behind draft found words next → IsFitAt next
by_form text behind draft (Ok f) words next fit is states = states_fit text behind draft f words next fit (form_safe draft words f is) states
by_form text behind draft (Err f) words next fit is states = absurd states

among_fit : (text : List ℕ) (behind : List Span) (draft : Draft) (words : List (List ℕ)) (next : Place) (skipped : Bool) → IsFit draft → AmongLeads skipped text behind draft words next → IsFitAt next
among_fit text behind draft words next true fit e = subst IsFitAt (sym e) fit
among_fit text behind draft words next false fit states = by_form text behind draft (form_of draft words) words next fit refl states

top_fit : (words : List (List ℕ)) (next : Place) → after_top words ≡ Ok next → IsFitAt next
unfolding after_top
top_fit words next e =
    choose (is_skipped words) _ _ next (IsFitAt next) e (λ b r. given Top next IsFitAt tt r) (λ b r.
    choose (says words (codes "px4 script 1")) _ _ next (IsFitAt next) r (λ b r. given (Among empty_draft) next IsFitAt empty_fit r) (λ b r. refused _ next (IsFitAt next) r))

within_fit : (draft : Draft) (words : List (List ℕ)) → IsFit draft → IsFitAt (after_within draft words)
unfolding after_within
within_fit draft words fit = by (says words (codes "end"))
  where
    by : (b : Bool) → IsFitAt (cond b (Among draft) (Within draft))
    by true = fit
    by false = fit

pub leads_fit : (text : List ℕ) (behind : List Span) (place : Place) (words : List (List ℕ)) (next : Place) → IsFitAt place → Leads text behind place words next → IsFitAt next
leads_fit text behind Top words next fit e = top_fit words next e
leads_fit text behind (Within draft) words next fit e = subst IsFitAt (sym e) (within_fit draft words fit)
leads_fit text behind (Among draft) words next fit leads = among_fit text behind draft words next (is_skipped words) fit leads
