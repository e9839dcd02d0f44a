-- Each script that is read keeps within the limits.
use Rattle.std.proofs.Common.{◌≡◌, ℕ, ◌+◌, ◌≤◌, List, [], ◌∷◌, ◌++◌, length, Bool, true, false, refl, sym, ◌∙◌, ap, subst, arith}
use Rattle.run_script.specs.declared.fault.ScriptFault.{ScriptFault}
use Rattle.std.specs.Prelude.{Result, Ok, Err, IfOk, ⊤, All, nat_lt, count_by, if◌then◌else◌, ◌&&◌, not}
use Rattle.std.specs.List.{list_any, filter_map, flat_map}
use Rattle.std.proofs.lemmas.Bool.Decides.{nat_tests}
use Rattle.std.proofs.lemmas.List.{length-append}
use Rattle.std.proofs.lemmas.List.Sums.{sum_by-append}
use Rattle.std.proofs.lemmas.List.Elements.{All-head, All-tail, All-nil, All-cons, All-append, All-push, filter_map-append}
use Rattle.nav_text.specs.declared.span.Span.{Span}
use Rattle.mission_model.specs.declared.limits.TheConstants.{MAX_LINKS, MAX_WATCHERS, MAX_TKO_LAND, MAX_RTL_TYPE, MAX_PLANS, MAX_BOOTS}
use Rattle.mission_model.specs.declared.flight_line.Actor.{Actor}
use Rattle.mission_model.specs.declared.flight_line.Actor.TheVariants as actor
use Rattle.mission_model.specs.declared.schedule.InputLine.{InputLine}
use Rattle.mission_model.specs.declared.schedule.Script.{Script}
use Rattle.mission_model.specs.BootScripts.{ActorInput, ParamsInLimits}
use Rattle.run_script.specs.Statements.{Statement, Begins, TkoLand, TakeoffMin, MaxAlt, RtlType, NoDistance, HomeIs, Plan, Unclosed, Boot, Input, Turns, is_boot, is_begin, is_unclosed, plan_of, input_of, tko_land_of, rtl_type_of, last_of, actors_of, links_to, watchers_to, greatest}
use Rattle.run_script.specs.Forms.{Before, before_of}
use Rattle.run_script.specs.Told.{Told, told_lines}
use Rattle.run_script.specs.Gathered.{Gathered}
use Rattle.run_script.specs.Scripts.{LinesState, ScriptText, params_of, links_of, watchers_of, until_boot, boot_of, boots_of, script_of, is_finished}
use Rattle.run_script.specs.Limits.{IsCut, IsBootOf, ScriptInLimits}
use Rattle.run_script.proofs.Running.{count_cons, greatest-append}
use Rattle.run_script.proofs.Meaning.{some_passes, links, watchers}
use Rattle.run_script.proofs.Reading.{ReadTo}
use Rattle.run_script.proofs.SafeLines.{ActorSafe, PlanSafe, Safe, line_safe}

-- a statement within the limits
abbrev Kept : Statement → Type 0
Kept (TkoLand n) = n ≤ MAX_TKO_LAND
Kept (RtlType n) = n ≤ MAX_RTL_TYPE
Kept (Plan plan) = PlanSafe plan
Kept (Boot cut) = IsCut cut
Kept (Input actor given) = ActorInput MAX_LINKS MAX_WATCHERS (actor, given)
Kept (Turns actors) = All ActorSafe actors
Kept _ = ⊤

-- statements within the limits
record Good (statements : List Statement) : Type 0 where
  kept : All Kept statements
  boots : count_by is_boot statements ≤ MAX_BOOTS
  plans : length (filter_map plan_of statements) ≤ MAX_PLANS

kept_of : (before : Before) (s : Statement) → Safe before s → Kept s
kept_of before Begins h = h
kept_of before (TkoLand n) h = h
kept_of before (TakeoffMin n) h = h
kept_of before (MaxAlt n) h = h
kept_of before (RtlType n) h = h
kept_of before NoDistance h = h
kept_of before (HomeIs home) h = h
kept_of before (Plan plan) h = h.0
kept_of before Unclosed h = h
kept_of before (Boot cut) h = h.0
kept_of before (Input actor given) h = h
kept_of before (Turns actors) h = h

boot_counted : (before : List Statement) (s : Statement) → Safe (before_of before) s → count_by is_boot before ≤ MAX_BOOTS → (if is_boot s then 1 else 0) + count_by is_boot before ≤ MAX_BOOTS
unfolding before_of
boot_counted before Begins h few = omega (arith, few)
boot_counted before (TkoLand n) h few = omega (arith, few)
boot_counted before (TakeoffMin n) h few = omega (arith, few)
boot_counted before (MaxAlt n) h few = omega (arith, few)
boot_counted before (RtlType n) h few = omega (arith, few)
boot_counted before NoDistance h few = omega (arith, few)
boot_counted before (HomeIs home) h few = omega (arith, few)
boot_counted before (Plan plan) h few = omega (arith, few)
boot_counted before Unclosed h few = omega (arith, few)
boot_counted before (Boot cut) h few = omega (arith, h.1)
boot_counted before (Input actor given) h few = omega (arith, few)
boot_counted before (Turns actors) h few = omega (arith, few)

plan_counted : (before : List Statement) (s : Statement) → Safe (before_of before) s → length (filter_map plan_of before) ≤ MAX_PLANS → length (filter_map plan_of (s ∷ [])) + length (filter_map plan_of before) ≤ MAX_PLANS
unfolding before_of
plan_counted before Begins h few = omega (arith, few)
plan_counted before (TkoLand n) h few = omega (arith, few)
plan_counted before (TakeoffMin n) h few = omega (arith, few)
plan_counted before (MaxAlt n) h few = omega (arith, few)
plan_counted before (RtlType n) h few = omega (arith, few)
plan_counted before NoDistance h few = omega (arith, few)
plan_counted before (HomeIs home) h few = omega (arith, few)
plan_counted before (Plan plan) h few = omega (arith, h.1)
plan_counted before Unclosed h few = omega (arith, few)
plan_counted before (Boot cut) h few = omega (arith, few)
plan_counted before (Input actor given) h few = omega (arith, few)
plan_counted before (Turns actors) h few = omega (arith, few)

good_more : (before : List Statement) (s : Statement) → Good before → Safe (before_of before) s → Good (before ++ s ∷ [])
good_more before s good h =
    let boots = sum_by-append (λ (x : Statement). if is_boot x then 1 else 0) before (s ∷ []) in
    let one = count_cons is_boot s [] in
    let plans = length-append (filter_map plan_of before) (filter_map plan_of (s ∷ [])) in
    let joined = ap length (filter_map-append plan_of before (s ∷ [])) in
    record {
      kept = All-push Kept before s good.kept (kept_of (before_of before) s h);
      boots = omega (arith, boots, one, boot_counted before s h good.boots);
      plans = omega (arith, plans, joined, plan_counted before s h good.plans);
    }

plans_kept : (xs : List Statement) → All Kept xs → All PlanSafe (filter_map plan_of xs)
plans_kept [] h = All-nil PlanSafe
plans_kept (Begins ∷ more) h = plans_kept more (All-tail Kept Begins more h)
plans_kept ((TkoLand n) ∷ more) h = plans_kept more (All-tail Kept (TkoLand n) more h)
plans_kept ((TakeoffMin n) ∷ more) h = plans_kept more (All-tail Kept (TakeoffMin n) more h)
plans_kept ((MaxAlt n) ∷ more) h = plans_kept more (All-tail Kept (MaxAlt n) more h)
plans_kept ((RtlType n) ∷ more) h = plans_kept more (All-tail Kept (RtlType n) more h)
plans_kept (NoDistance ∷ more) h = plans_kept more (All-tail Kept NoDistance more h)
plans_kept ((HomeIs home) ∷ more) h = plans_kept more (All-tail Kept (HomeIs home) more h)
plans_kept ((Plan plan) ∷ more) h = All-cons PlanSafe plan (filter_map plan_of more) (All-head Kept (Plan plan) more h) (plans_kept more (All-tail Kept (Plan plan) more h))
plans_kept (Unclosed ∷ more) h = plans_kept more (All-tail Kept Unclosed more h)
plans_kept ((Boot cut) ∷ more) h = plans_kept more (All-tail Kept (Boot cut) more h)
plans_kept ((Input actor given) ∷ more) h = plans_kept more (All-tail Kept (Input actor given) more h)
plans_kept ((Turns actors) ∷ more) h = plans_kept more (All-tail Kept (Turns actors) more h)

plans_before : (xs : List Statement) → All Kept xs → All PlanSafe (before_of xs).plans
unfolding before_of
plans_before xs h = plans_kept xs h

lines_good : (text : List ℕ) (before : List Statement) (lines : List Told) (statements : List Statement) → Good before → LinesState text before lines statements → Good statements
lines_good text before [] statements good h = subst (λ (xs : List Statement). Good xs) (sym h) good
lines_good text before (line ∷ lines) statements good h =
    lines_good text (before ++ h.0 ∷ []) lines statements (good_more before h.0 good (line_safe (before_of before) (plans_before before good.kept) (list_any is_begin before) text line.behind line.words h.0 h.1)) h.2

none_good : Good []
none_good = record { kept = All-nil Kept; boots = omega arith; plans = omega arith }

actor_kept : (who : Actor) (given : InputLine) → ActorInput MAX_LINKS MAX_WATCHERS (who, given) → ActorSafe who
actor_kept actor.Nav given h = tt
actor_kept (actor.Link number) given h = h.0
actor_kept (actor.Watch number) given h = h.0
actor_kept actor.Worker given h = tt

actors_kept : (xs : List Statement) → All Kept xs → All ActorSafe (flat_map actors_of xs)
actors_kept [] h = All-nil ActorSafe
actors_kept (Begins ∷ more) h = actors_kept more (All-tail Kept Begins more h)
actors_kept ((TkoLand n) ∷ more) h = actors_kept more (All-tail Kept (TkoLand n) more h)
actors_kept ((TakeoffMin n) ∷ more) h = actors_kept more (All-tail Kept (TakeoffMin n) more h)
actors_kept ((MaxAlt n) ∷ more) h = actors_kept more (All-tail Kept (MaxAlt n) more h)
actors_kept ((RtlType n) ∷ more) h = actors_kept more (All-tail Kept (RtlType n) more h)
actors_kept (NoDistance ∷ more) h = actors_kept more (All-tail Kept NoDistance more h)
actors_kept ((HomeIs home) ∷ more) h = actors_kept more (All-tail Kept (HomeIs home) more h)
actors_kept ((Plan plan) ∷ more) h = actors_kept more (All-tail Kept (Plan plan) more h)
actors_kept (Unclosed ∷ more) h = actors_kept more (All-tail Kept Unclosed more h)
actors_kept ((Boot cut) ∷ more) h = actors_kept more (All-tail Kept (Boot cut) more h)
actors_kept ((Input actor given) ∷ more) h = All-cons ActorSafe actor (flat_map actors_of more) (actor_kept actor given (All-head Kept (Input actor given) more h)) (actors_kept more (All-tail Kept (Input actor given) more h))
actors_kept ((Turns actors) ∷ more) h = All-append ActorSafe actors (flat_map actors_of more) (All-head Kept (Turns actors) more h) (actors_kept more (All-tail Kept (Turns actors) more h))

link_below : (who : Actor) → ActorSafe who → links_to who ≤ MAX_LINKS
link_below actor.Nav h = omega arith
link_below (actor.Link number) h = omega (arith, h)
link_below (actor.Watch number) h = omega arith
link_below actor.Worker h = omega arith

watcher_below : (who : Actor) → ActorSafe who → watchers_to who ≤ MAX_WATCHERS
watcher_below actor.Nav h = omega arith
watcher_below (actor.Link number) h = omega arith
watcher_below (actor.Watch number) h = omega (arith, h)
watcher_below actor.Worker h = omega arith

links_below : (actors : List Actor) → All ActorSafe actors → greatest links_to actors ≤ MAX_LINKS
links_below [] h = omega arith
links_below (who ∷ actors) h = omega (arith, link_below who (All-head ActorSafe who actors h), links_below actors (All-tail ActorSafe who actors h))

watchers_below : (actors : List Actor) → All ActorSafe actors → greatest watchers_to actors ≤ MAX_WATCHERS
watchers_below [] h = omega arith
watchers_below (who ∷ actors) h = omega (arith, watcher_below who (All-head ActorSafe who actors h), watchers_below actors (All-tail ActorSafe who actors h))

-- a statement whose actors are among so many links and watchers
abbrev Fits : ℕ → ℕ → Statement → Type 0
Fits m k (Boot cut) = IsCut cut
Fits m k (Input actor given) = ActorInput m k (actor, given)
Fits m k _ = ⊤

input_fits : (m k : ℕ) (who : Actor) (given : InputLine) → links_to who ≤ m → watchers_to who ≤ k → ActorInput MAX_LINKS MAX_WATCHERS (who, given) → ActorInput m k (who, given)
input_fits m k actor.Nav given few some h = h
input_fits m k (actor.Link number) given few some h = (omega (arith, few), h.1)
input_fits m k (actor.Watch number) given few some h = (omega (arith, some), h.1)
input_fits m k actor.Worker given few some h = h

all_fit : (m k : ℕ) (xs : List Statement) → greatest links_to (flat_map actors_of xs) ≤ m → greatest watchers_to (flat_map actors_of xs) ≤ k → All Kept xs → All (Fits m k) xs
all_fit m k [] few some h = All-nil (Fits m k)
all_fit m k (Begins ∷ more) few some h = All-cons (Fits m k) Begins more tt (all_fit m k more few some (All-tail Kept Begins more h))
all_fit m k ((TkoLand n) ∷ more) few some h = All-cons (Fits m k) (TkoLand n) more tt (all_fit m k more few some (All-tail Kept (TkoLand n) more h))
all_fit m k ((TakeoffMin n) ∷ more) few some h = All-cons (Fits m k) (TakeoffMin n) more tt (all_fit m k more few some (All-tail Kept (TakeoffMin n) more h))
all_fit m k ((MaxAlt n) ∷ more) few some h = All-cons (Fits m k) (MaxAlt n) more tt (all_fit m k more few some (All-tail Kept (MaxAlt n) more h))
all_fit m k ((RtlType n) ∷ more) few some h = All-cons (Fits m k) (RtlType n) more tt (all_fit m k more few some (All-tail Kept (RtlType n) more h))
all_fit m k (NoDistance ∷ more) few some h = All-cons (Fits m k) NoDistance more tt (all_fit m k more few some (All-tail Kept NoDistance more h))
all_fit m k ((HomeIs home) ∷ more) few some h = All-cons (Fits m k) (HomeIs home) more tt (all_fit m k more few some (All-tail Kept (HomeIs home) more h))
all_fit m k ((Plan plan) ∷ more) few some h = All-cons (Fits m k) (Plan plan) more tt (all_fit m k more few some (All-tail Kept (Plan plan) more h))
all_fit m k (Unclosed ∷ more) few some h = All-cons (Fits m k) Unclosed more tt (all_fit m k more few some (All-tail Kept Unclosed more h))
all_fit m k ((Boot cut) ∷ more) few some h = All-cons (Fits m k) (Boot cut) more (All-head Kept (Boot cut) more h) (all_fit m k more few some (All-tail Kept (Boot cut) more h))
all_fit m k ((Input actor given) ∷ more) few some h = All-cons (Fits m k) (Input actor given) more (input_fits m k actor given (omega (arith, few)) (omega (arith, some)) (All-head Kept (Input actor given) more h)) (all_fit m k more (omega (arith, few)) (omega (arith, some)) (All-tail Kept (Input actor given) more h))
all_fit m k ((Turns actors) ∷ more) few some h = let ls = greatest-append links_to actors (flat_map actors_of more) in let ws = greatest-append watchers_to actors (flat_map actors_of more) in All-cons (Fits m k) (Turns actors) more tt (all_fit m k more (omega (arith, few, ls)) (omega (arith, some, ws)) (All-tail Kept (Turns actors) more h))

inputs_fit : (m k : ℕ) (xs : List Statement) → All (Fits m k) xs → All (ActorInput m k) (filter_map input_of (until_boot xs))
inputs_fit m k [] h = All-nil (ActorInput m k)
inputs_fit m k (Begins ∷ more) h = inputs_fit m k more (All-tail (Fits m k) Begins more h)
inputs_fit m k ((TkoLand n) ∷ more) h = inputs_fit m k more (All-tail (Fits m k) (TkoLand n) more h)
inputs_fit m k ((TakeoffMin n) ∷ more) h = inputs_fit m k more (All-tail (Fits m k) (TakeoffMin n) more h)
inputs_fit m k ((MaxAlt n) ∷ more) h = inputs_fit m k more (All-tail (Fits m k) (MaxAlt n) more h)
inputs_fit m k ((RtlType n) ∷ more) h = inputs_fit m k more (All-tail (Fits m k) (RtlType n) more h)
inputs_fit m k (NoDistance ∷ more) h = inputs_fit m k more (All-tail (Fits m k) NoDistance more h)
inputs_fit m k ((HomeIs home) ∷ more) h = inputs_fit m k more (All-tail (Fits m k) (HomeIs home) more h)
inputs_fit m k ((Plan plan) ∷ more) h = inputs_fit m k more (All-tail (Fits m k) (Plan plan) more h)
inputs_fit m k (Unclosed ∷ more) h = inputs_fit m k more (All-tail (Fits m k) Unclosed more h)
inputs_fit m k ((Boot cut) ∷ more) h = All-nil (ActorInput m k)
inputs_fit m k ((Input actor given) ∷ more) h = All-cons (ActorInput m k) (actor, given) (filter_map input_of (until_boot more)) (All-head (Fits m k) (Input actor given) more h) (inputs_fit m k more (All-tail (Fits m k) (Input actor given) more h))
inputs_fit m k ((Turns actors) ∷ more) h = inputs_fit m k more (All-tail (Fits m k) (Turns actors) more h)

tko_kept : (d : ℕ) (xs : List Statement) → d ≤ MAX_TKO_LAND → All Kept xs → last_of tko_land_of d xs ≤ MAX_TKO_LAND
tko_kept d [] e h = e
tko_kept d (Begins ∷ more) e h = tko_kept d more e (All-tail Kept Begins more h)
tko_kept d ((TkoLand n) ∷ more) e h = tko_kept n more (All-head Kept (TkoLand n) more h) (All-tail Kept (TkoLand n) more h)
tko_kept d ((TakeoffMin n) ∷ more) e h = tko_kept d more e (All-tail Kept (TakeoffMin n) more h)
tko_kept d ((MaxAlt n) ∷ more) e h = tko_kept d more e (All-tail Kept (MaxAlt n) more h)
tko_kept d ((RtlType n) ∷ more) e h = tko_kept d more e (All-tail Kept (RtlType n) more h)
tko_kept d (NoDistance ∷ more) e h = tko_kept d more e (All-tail Kept NoDistance more h)
tko_kept d ((HomeIs home) ∷ more) e h = tko_kept d more e (All-tail Kept (HomeIs home) more h)
tko_kept d ((Plan plan) ∷ more) e h = tko_kept d more e (All-tail Kept (Plan plan) more h)
tko_kept d (Unclosed ∷ more) e h = tko_kept d more e (All-tail Kept Unclosed more h)
tko_kept d ((Boot cut) ∷ more) e h = tko_kept d more e (All-tail Kept (Boot cut) more h)
tko_kept d ((Input actor given) ∷ more) e h = tko_kept d more e (All-tail Kept (Input actor given) more h)
tko_kept d ((Turns actors) ∷ more) e h = tko_kept d more e (All-tail Kept (Turns actors) more h)

rtl_kept : (d : ℕ) (xs : List Statement) → d ≤ MAX_RTL_TYPE → All Kept xs → last_of rtl_type_of d xs ≤ MAX_RTL_TYPE
rtl_kept d [] e h = e
rtl_kept d (Begins ∷ more) e h = rtl_kept d more e (All-tail Kept Begins more h)
rtl_kept d ((TkoLand n) ∷ more) e h = rtl_kept d more e (All-tail Kept (TkoLand n) more h)
rtl_kept d ((TakeoffMin n) ∷ more) e h = rtl_kept d more e (All-tail Kept (TakeoffMin n) more h)
rtl_kept d ((MaxAlt n) ∷ more) e h = rtl_kept d more e (All-tail Kept (MaxAlt n) more h)
rtl_kept d ((RtlType n) ∷ more) e h = rtl_kept n more (All-head Kept (RtlType n) more h) (All-tail Kept (RtlType n) more h)
rtl_kept d (NoDistance ∷ more) e h = rtl_kept d more e (All-tail Kept NoDistance more h)
rtl_kept d ((HomeIs home) ∷ more) e h = rtl_kept d more e (All-tail Kept (HomeIs home) more h)
rtl_kept d ((Plan plan) ∷ more) e h = rtl_kept d more e (All-tail Kept (Plan plan) more h)
rtl_kept d (Unclosed ∷ more) e h = rtl_kept d more e (All-tail Kept Unclosed more h)
rtl_kept d ((Boot cut) ∷ more) e h = rtl_kept d more e (All-tail Kept (Boot cut) more h)
rtl_kept d ((Input actor given) ∷ more) e h = rtl_kept d more e (All-tail Kept (Input actor given) more h)
rtl_kept d ((Turns actors) ∷ more) e h = rtl_kept d more e (All-tail Kept (Turns actors) more h)

boots_fit : (script xs : List Statement) → ParamsInLimits (params_of script) → links_of script ≤ MAX_LINKS → watchers_of script ≤ MAX_WATCHERS → All (Fits (links_of script) (watchers_of script)) xs → All (IsBootOf (script_of script)) (boots_of script xs)
boots_fit script [] params few some h = All-nil (IsBootOf (script_of script))
boots_fit script (Begins ∷ more) params few some h = boots_fit script more params few some (All-tail (Fits (links_of script) (watchers_of script)) Begins more h)
boots_fit script ((TkoLand n) ∷ more) params few some h = boots_fit script more params few some (All-tail (Fits (links_of script) (watchers_of script)) (TkoLand n) more h)
boots_fit script ((TakeoffMin n) ∷ more) params few some h = boots_fit script more params few some (All-tail (Fits (links_of script) (watchers_of script)) (TakeoffMin n) more h)
boots_fit script ((MaxAlt n) ∷ more) params few some h = boots_fit script more params few some (All-tail (Fits (links_of script) (watchers_of script)) (MaxAlt n) more h)
boots_fit script ((RtlType n) ∷ more) params few some h = boots_fit script more params few some (All-tail (Fits (links_of script) (watchers_of script)) (RtlType n) more h)
boots_fit script (NoDistance ∷ more) params few some h = boots_fit script more params few some (All-tail (Fits (links_of script) (watchers_of script)) NoDistance more h)
boots_fit script ((HomeIs home) ∷ more) params few some h = boots_fit script more params few some (All-tail (Fits (links_of script) (watchers_of script)) (HomeIs home) more h)
boots_fit script ((Plan plan) ∷ more) params few some h = boots_fit script more params few some (All-tail (Fits (links_of script) (watchers_of script)) (Plan plan) more h)
boots_fit script (Unclosed ∷ more) params few some h = boots_fit script more params few some (All-tail (Fits (links_of script) (watchers_of script)) Unclosed more h)
boots_fit script ((Boot cut) ∷ more) params few some h =
    All-cons (IsBootOf (script_of script)) (boot_of script cut (until_boot more)) (boots_of script more)
    (record {
      limits = record { params = params; links = few; watchers = some; inputs = inputs_fit (links_of script) (watchers_of script) more (All-tail (Fits (links_of script) (watchers_of script)) (Boot cut) more h) };
      cut = All-head (Fits (links_of script) (watchers_of script)) (Boot cut) more h;
      params = refl;
      home = refl;
    })
    (boots_fit script more params few some (All-tail (Fits (links_of script) (watchers_of script)) (Boot cut) more h))
boots_fit script ((Input actor given) ∷ more) params few some h = boots_fit script more params few some (All-tail (Fits (links_of script) (watchers_of script)) (Input actor given) more h)
boots_fit script ((Turns actors) ∷ more) params few some h = boots_fit script more params few some (All-tail (Fits (links_of script) (watchers_of script)) (Turns actors) more h)

boots_counted : (script xs : List Statement) → length (boots_of script xs) ≡ count_by is_boot xs
boots_counted script [] = refl
boots_counted script (Begins ∷ more) = boots_counted script more
boots_counted script ((TkoLand n) ∷ more) = boots_counted script more
boots_counted script ((TakeoffMin n) ∷ more) = boots_counted script more
boots_counted script ((MaxAlt n) ∷ more) = boots_counted script more
boots_counted script ((RtlType n) ∷ more) = boots_counted script more
boots_counted script (NoDistance ∷ more) = boots_counted script more
boots_counted script ((HomeIs home) ∷ more) = boots_counted script more
boots_counted script ((Plan plan) ∷ more) = boots_counted script more
boots_counted script (Unclosed ∷ more) = boots_counted script more
boots_counted script ((Boot cut) ∷ more) = let one = count_cons is_boot (Boot cut) more in let rec = boots_counted script more in omega (arith, one, rec)
boots_counted script ((Input actor given) ∷ more) = boots_counted script more
boots_counted script ((Turns actors) ∷ more) = boots_counted script more

both_true : (a b : Bool) → (a && b) ≡ true → a ≡ true
both_true true b h = refl
both_true false b h = cc

positive : (n : ℕ) → nat_lt 0 n ≡ true → 1 ≤ n
positive n h = grind (arith, nat_tests, h)

script_in_limits : (statements : List Statement) → Good statements → is_finished statements ≡ true → ScriptInLimits (script_of statements)
script_in_limits statements good finished =
    let few = links_below (flat_map actors_of statements) (actors_kept statements good.kept) in
    let some = watchers_below (flat_map actors_of statements) (actors_kept statements good.kept) in
    let fit = all_fit (links_of statements) (watchers_of statements) statements (omega arith) (omega arith) good.kept in
    let counted = boots_counted statements statements in
    let params : ParamsInLimits (params_of statements) = record { tko_land = tko_kept 0 statements (omega arith) good.kept; rtl_type = rtl_kept 0 statements (omega arith) good.kept } in
    record {
      plans = good.plans;
      some = omega (arith, counted, positive (count_by is_boot statements) (some_passes is_boot statements ∙ both_true (list_any is_boot statements) (not (list_any is_unclosed statements)) finished));
      few = omega (arith, counted, good.boots);
      boots = boots_fit statements statements params few some fit;
    }

pub text_in_limits : (text : List ℕ) (script : Script) → ScriptText text script → ScriptInLimits script
text_in_limits text script h =
    let lines = h.lines in
    subst (λ (s : Script). ScriptInLimits s) (sym lines.script_is) (script_in_limits lines.statements (lines_good text [] _ lines.statements none_good lines.states) lines.finished)

pub few_links : (text : List ℕ) (lines : List Span) (number : ℕ) (within : Bool) (draft : Gathered) → ReadTo text lines number within [] draft → (draft.links ≤ MAX_LINKS) × (draft.watchers ≤ MAX_WATCHERS)
few_links text lines number within draft read =
    let before = read.before in
    let good = lines_good text [] (told_lines text 1 false lines) before none_good (read.reads before refl) in
    let few = links_below (flat_map actors_of before) (actors_kept before good.kept) in
    let some = watchers_below (flat_map actors_of before) (actors_kept before good.kept) in
    let l : draft.links ≡ links_of before = ap (λ (g : Gathered). g.links) read.holds ∙ links before in
    let w : draft.watchers ≡ watchers_of before = ap (λ (g : Gathered). g.watchers) read.holds ∙ watchers before in
    (omega (arith, few, l), omega (arith, some, w))

pub read_in_limits : (text : List ℕ) (result : Result Script (ℕ × ScriptFault)) → IfOk result (ScriptText text) → IfOk result ScriptInLimits
read_in_limits text (Ok script) h = text_in_limits text script h
read_in_limits text (Err at) h = tt
