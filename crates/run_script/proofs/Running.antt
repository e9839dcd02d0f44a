-- What a list of statements comes to, against what is read off the list.
use Rattle.std.proofs.Common.{◌≡◌, ℕ, ◌+◌, List, [], ◌∷◌, ◌++◌, length, max, Bool, true, false, refl, sym, ◌∙◌, ap, arith, append_assoc}
use Rattle.std.specs.Prelude.{◌||◌, Some, count_by, option_map, if◌then◌else◌}
use Rattle.std.specs.List.{list_any, filter_map, flat_map}
use Rattle.std.proofs.lemmas.List.{append-nil, length-append}
use Rattle.std.proofs.lemmas.List.Sums.{sum_by-cons}
use Rattle.run_script.specs.Statements.{Statement, Begins, TkoLand, TakeoffMin, MaxAlt, RtlType, NoDistance, HomeIs, Plan, Unclosed, Boot, Input, Turns, is_begin, is_boot, is_unclosed, is_upload, is_upload_line, plan_of, input_of, turns_of, actors_of, home_of, tko_land_of, takeoff_min_of, max_alt_of, rtl_type_of, last_of, links_to, watchers_to, greatest}
use Rattle.run_script.specs.Gathered.{Gathered, after}

-- one statement after another
abbrev pub run : Gathered → List Statement → Gathered
run g [] = g
run g (statement ∷ more) = run (after g statement) more

pub run_more : (g : Gathered) (before : List Statement) (statement : Statement) → run g (before ++ statement ∷ []) ≡ after (run g before) statement
run_more g [] statement = refl
run_more g (first ∷ more) statement = run_more (after g first) more statement

pub count_cons : (p : Statement → Bool) (x : Statement) (xs : List Statement) → count_by p (x ∷ xs) ≡ (if p x then 1 else 0) + count_by p xs
count_cons p x xs = sum_by-cons (λ (s : Statement). if p s then 1 else 0) x xs

begun_true : (a b : Bool) → (true || b) ≡ (a || (true || b))
begun_true true b = refl
begun_true false b = refl

or_false : (a : Bool) → (a || false) ≡ a
or_false true = refl
or_false false = refl

max_assoc : (a b c : ℕ) → max (max a b) c ≡ max a (max b c)
max_assoc a b c = omega arith

pub greatest-append : {A : Type 0} (f : A → ℕ) (xs ys : List A) → greatest f (xs ++ ys) ≡ max (greatest f xs) (greatest f ys)
greatest-append f [] ys = omega arith
greatest-append f (x ∷ xs) ys = ap (λ (n : ℕ). max (f x) n) (greatest-append f xs ys) ∙ sym (max_assoc (f x) (greatest f xs) (greatest f ys))

pub plans_are : (g : Gathered) (statements : List Statement) → (run g statements).plans ≡ g.plans ++ filter_map plan_of statements
plans_are g [] = sym (append-nil g.plans)
plans_are g (Begins ∷ more) = plans_are (after g Begins) more
plans_are g ((TkoLand n) ∷ more) = plans_are (after g (TkoLand n)) more
plans_are g ((TakeoffMin n) ∷ more) = plans_are (after g (TakeoffMin n)) more
plans_are g ((MaxAlt n) ∷ more) = plans_are (after g (MaxAlt n)) more
plans_are g ((RtlType n) ∷ more) = plans_are (after g (RtlType n)) more
plans_are g (NoDistance ∷ more) = plans_are (after g NoDistance) more
plans_are g ((HomeIs home) ∷ more) = plans_are (after g (HomeIs home)) more
plans_are g ((Plan plan) ∷ more) = plans_are (after g (Plan plan)) more ∙ append_assoc g.plans (plan ∷ []) (filter_map plan_of more)
plans_are g (Unclosed ∷ more) = plans_are (after g Unclosed) more
plans_are g ((Boot cut) ∷ more) = plans_are (after g (Boot cut)) more
plans_are g ((Input actor given) ∷ more) = plans_are (after g (Input actor given)) more
plans_are g ((Turns actors) ∷ more) = plans_are (after g (Turns actors)) more

pub boots_are : (g : Gathered) (statements : List Statement) → (run g statements).boots ≡ g.boots + count_by is_boot statements
boots_are g [] = omega arith
boots_are g (Begins ∷ more) = boots_are (after g Begins) more
boots_are g ((TkoLand n) ∷ more) = boots_are (after g (TkoLand n)) more
boots_are g ((TakeoffMin n) ∷ more) = boots_are (after g (TakeoffMin n)) more
boots_are g ((MaxAlt n) ∷ more) = boots_are (after g (MaxAlt n)) more
boots_are g ((RtlType n) ∷ more) = boots_are (after g (RtlType n)) more
boots_are g (NoDistance ∷ more) = boots_are (after g NoDistance) more
boots_are g ((HomeIs home) ∷ more) = boots_are (after g (HomeIs home)) more
boots_are g ((Plan plan) ∷ more) = boots_are (after g (Plan plan)) more
boots_are g (Unclosed ∷ more) = boots_are (after g Unclosed) more
boots_are g ((Boot cut) ∷ more) = let rec = boots_are (after g (Boot cut)) more in let one = count_cons is_boot (Boot cut) more in omega (arith, rec, one)
boots_are g ((Input actor given) ∷ more) = boots_are (after g (Input actor given)) more
boots_are g ((Turns actors) ∷ more) = boots_are (after g (Turns actors)) more

pub schedule_is : (g : Gathered) (statements : List Statement) → (run g statements).schedule ≡ g.schedule + length (filter_map input_of statements)
schedule_is g [] = omega arith
schedule_is g (Begins ∷ more) = schedule_is (after g Begins) more
schedule_is g ((TkoLand n) ∷ more) = schedule_is (after g (TkoLand n)) more
schedule_is g ((TakeoffMin n) ∷ more) = schedule_is (after g (TakeoffMin n)) more
schedule_is g ((MaxAlt n) ∷ more) = schedule_is (after g (MaxAlt n)) more
schedule_is g ((RtlType n) ∷ more) = schedule_is (after g (RtlType n)) more
schedule_is g (NoDistance ∷ more) = schedule_is (after g NoDistance) more
schedule_is g ((HomeIs home) ∷ more) = schedule_is (after g (HomeIs home)) more
schedule_is g ((Plan plan) ∷ more) = schedule_is (after g (Plan plan)) more
schedule_is g (Unclosed ∷ more) = schedule_is (after g Unclosed) more
schedule_is g ((Boot cut) ∷ more) = schedule_is (after g (Boot cut)) more
schedule_is g ((Input actor given) ∷ more) = let rec = schedule_is (after g (Input actor given)) more in omega (arith, rec)
schedule_is g ((Turns actors) ∷ more) = schedule_is (after g (Turns actors)) more

pub turn_words_are : (g : Gathered) (statements : List Statement) → (run g statements).turn_words ≡ g.turn_words + length (flat_map turns_of statements)
turn_words_are g [] = omega arith
turn_words_are g (Begins ∷ more) = turn_words_are (after g Begins) more
turn_words_are g ((TkoLand n) ∷ more) = turn_words_are (after g (TkoLand n)) more
turn_words_are g ((TakeoffMin n) ∷ more) = turn_words_are (after g (TakeoffMin n)) more
turn_words_are g ((MaxAlt n) ∷ more) = turn_words_are (after g (MaxAlt n)) more
turn_words_are g ((RtlType n) ∷ more) = turn_words_are (after g (RtlType n)) more
turn_words_are g (NoDistance ∷ more) = turn_words_are (after g NoDistance) more
turn_words_are g ((HomeIs home) ∷ more) = turn_words_are (after g (HomeIs home)) more
turn_words_are g ((Plan plan) ∷ more) = turn_words_are (after g (Plan plan)) more
turn_words_are g (Unclosed ∷ more) = turn_words_are (after g Unclosed) more
turn_words_are g ((Boot cut) ∷ more) = turn_words_are (after g (Boot cut)) more
turn_words_are g ((Input actor given) ∷ more) = turn_words_are (after g (Input actor given)) more
turn_words_are g ((Turns actors) ∷ more) = let rec = turn_words_are (after g (Turns actors)) more in let all = length-append actors (flat_map turns_of more) in omega (arith, rec, all)

pub begun_is : (g : Gathered) (statements : List Statement) → (run g statements).begun ≡ (g.begun || list_any is_begin statements)
begun_is g [] = sym (or_false g.begun)
begun_is g (Begins ∷ more) = begun_is (after g Begins) more ∙ begun_true g.begun (list_any is_begin more)
begun_is g ((TkoLand n) ∷ more) = begun_is (after g (TkoLand n)) more
begun_is g ((TakeoffMin n) ∷ more) = begun_is (after g (TakeoffMin n)) more
begun_is g ((MaxAlt n) ∷ more) = begun_is (after g (MaxAlt n)) more
begun_is g ((RtlType n) ∷ more) = begun_is (after g (RtlType n)) more
begun_is g (NoDistance ∷ more) = begun_is (after g NoDistance) more
begun_is g ((HomeIs home) ∷ more) = begun_is (after g (HomeIs home)) more
begun_is g ((Plan plan) ∷ more) = begun_is (after g (Plan plan)) more
begun_is g (Unclosed ∷ more) = begun_is (after g Unclosed) more
begun_is g ((Boot cut) ∷ more) = begun_is (after g (Boot cut)) more
begun_is g ((Input actor given) ∷ more) = begun_is (after g (Input actor given)) more
begun_is g ((Turns actors) ∷ more) = begun_is (after g (Turns actors)) more

pub unclosed_is : (g : Gathered) (statements : List Statement) → (run g statements).unclosed ≡ (g.unclosed || list_any is_unclosed statements)
unclosed_is g [] = sym (or_false g.unclosed)
unclosed_is g (Begins ∷ more) = unclosed_is (after g Begins) more
unclosed_is g ((TkoLand n) ∷ more) = unclosed_is (after g (TkoLand n)) more
unclosed_is g ((TakeoffMin n) ∷ more) = unclosed_is (after g (TakeoffMin n)) more
unclosed_is g ((MaxAlt n) ∷ more) = unclosed_is (after g (MaxAlt n)) more
unclosed_is g ((RtlType n) ∷ more) = unclosed_is (after g (RtlType n)) more
unclosed_is g (NoDistance ∷ more) = unclosed_is (after g NoDistance) more
unclosed_is g ((HomeIs home) ∷ more) = unclosed_is (after g (HomeIs home)) more
unclosed_is g ((Plan plan) ∷ more) = unclosed_is (after g (Plan plan)) more
unclosed_is g (Unclosed ∷ more) = unclosed_is (after g Unclosed) more ∙ begun_true g.unclosed (list_any is_unclosed more)
unclosed_is g ((Boot cut) ∷ more) = unclosed_is (after g (Boot cut)) more
unclosed_is g ((Input actor given) ∷ more) = unclosed_is (after g (Input actor given)) more
unclosed_is g ((Turns actors) ∷ more) = unclosed_is (after g (Turns actors)) more

pub tko_land_is : (g : Gathered) (statements : List Statement) → (run g statements).params.tko_land ≡ last_of tko_land_of g.params.tko_land statements
tko_land_is g [] = refl
tko_land_is g (Begins ∷ more) = tko_land_is (after g Begins) more
tko_land_is g ((TkoLand n) ∷ more) = tko_land_is (after g (TkoLand n)) more
tko_land_is g ((TakeoffMin n) ∷ more) = tko_land_is (after g (TakeoffMin n)) more
tko_land_is g ((MaxAlt n) ∷ more) = tko_land_is (after g (MaxAlt n)) more
tko_land_is g ((RtlType n) ∷ more) = tko_land_is (after g (RtlType n)) more
tko_land_is g (NoDistance ∷ more) = tko_land_is (after g NoDistance) more
tko_land_is g ((HomeIs home) ∷ more) = tko_land_is (after g (HomeIs home)) more
tko_land_is g ((Plan plan) ∷ more) = tko_land_is (after g (Plan plan)) more
tko_land_is g (Unclosed ∷ more) = tko_land_is (after g Unclosed) more
tko_land_is g ((Boot cut) ∷ more) = tko_land_is (after g (Boot cut)) more
tko_land_is g ((Input actor given) ∷ more) = tko_land_is (after g (Input actor given)) more
tko_land_is g ((Turns actors) ∷ more) = tko_land_is (after g (Turns actors)) more

pub takeoff_min_is : (g : Gathered) (statements : List Statement) → (run g statements).params.takeoff_min ≡ last_of takeoff_min_of g.params.takeoff_min statements
takeoff_min_is g [] = refl
takeoff_min_is g (Begins ∷ more) = takeoff_min_is (after g Begins) more
takeoff_min_is g ((TkoLand n) ∷ more) = takeoff_min_is (after g (TkoLand n)) more
takeoff_min_is g ((TakeoffMin n) ∷ more) = takeoff_min_is (after g (TakeoffMin n)) more
takeoff_min_is g ((MaxAlt n) ∷ more) = takeoff_min_is (after g (MaxAlt n)) more
takeoff_min_is g ((RtlType n) ∷ more) = takeoff_min_is (after g (RtlType n)) more
takeoff_min_is g (NoDistance ∷ more) = takeoff_min_is (after g NoDistance) more
takeoff_min_is g ((HomeIs home) ∷ more) = takeoff_min_is (after g (HomeIs home)) more
takeoff_min_is g ((Plan plan) ∷ more) = takeoff_min_is (after g (Plan plan)) more
takeoff_min_is g (Unclosed ∷ more) = takeoff_min_is (after g Unclosed) more
takeoff_min_is g ((Boot cut) ∷ more) = takeoff_min_is (after g (Boot cut)) more
takeoff_min_is g ((Input actor given) ∷ more) = takeoff_min_is (after g (Input actor given)) more
takeoff_min_is g ((Turns actors) ∷ more) = takeoff_min_is (after g (Turns actors)) more

pub max_alt_is : (g : Gathered) (statements : List Statement) → (run g statements).params.max_alt ≡ last_of max_alt_of g.params.max_alt statements
max_alt_is g [] = refl
max_alt_is g (Begins ∷ more) = max_alt_is (after g Begins) more
max_alt_is g ((TkoLand n) ∷ more) = max_alt_is (after g (TkoLand n)) more
max_alt_is g ((TakeoffMin n) ∷ more) = max_alt_is (after g (TakeoffMin n)) more
max_alt_is g ((MaxAlt n) ∷ more) = max_alt_is (after g (MaxAlt n)) more
max_alt_is g ((RtlType n) ∷ more) = max_alt_is (after g (RtlType n)) more
max_alt_is g (NoDistance ∷ more) = max_alt_is (after g NoDistance) more
max_alt_is g ((HomeIs home) ∷ more) = max_alt_is (after g (HomeIs home)) more
max_alt_is g ((Plan plan) ∷ more) = max_alt_is (after g (Plan plan)) more
max_alt_is g (Unclosed ∷ more) = max_alt_is (after g Unclosed) more
max_alt_is g ((Boot cut) ∷ more) = max_alt_is (after g (Boot cut)) more
max_alt_is g ((Input actor given) ∷ more) = max_alt_is (after g (Input actor given)) more
max_alt_is g ((Turns actors) ∷ more) = max_alt_is (after g (Turns actors)) more

pub rtl_type_is : (g : Gathered) (statements : List Statement) → (run g statements).params.rtl_type ≡ last_of rtl_type_of g.params.rtl_type statements
rtl_type_is g [] = refl
rtl_type_is g (Begins ∷ more) = rtl_type_is (after g Begins) more
rtl_type_is g ((TkoLand n) ∷ more) = rtl_type_is (after g (TkoLand n)) more
rtl_type_is g ((TakeoffMin n) ∷ more) = rtl_type_is (after g (TakeoffMin n)) more
rtl_type_is g ((MaxAlt n) ∷ more) = rtl_type_is (after g (MaxAlt n)) more
rtl_type_is g ((RtlType n) ∷ more) = rtl_type_is (after g (RtlType n)) more
rtl_type_is g (NoDistance ∷ more) = rtl_type_is (after g NoDistance) more
rtl_type_is g ((HomeIs home) ∷ more) = rtl_type_is (after g (HomeIs home)) more
rtl_type_is g ((Plan plan) ∷ more) = rtl_type_is (after g (Plan plan)) more
rtl_type_is g (Unclosed ∷ more) = rtl_type_is (after g Unclosed) more
rtl_type_is g ((Boot cut) ∷ more) = rtl_type_is (after g (Boot cut)) more
rtl_type_is g ((Input actor given) ∷ more) = rtl_type_is (after g (Input actor given)) more
rtl_type_is g ((Turns actors) ∷ more) = rtl_type_is (after g (Turns actors)) more

pub home_is : (g : Gathered) (statements : List Statement) → (run g statements).home ≡ last_of (λ (statement : Statement). option_map Some (home_of statement)) g.home statements
home_is g [] = refl
home_is g (Begins ∷ more) = home_is (after g Begins) more
home_is g ((TkoLand n) ∷ more) = home_is (after g (TkoLand n)) more
home_is g ((TakeoffMin n) ∷ more) = home_is (after g (TakeoffMin n)) more
home_is g ((MaxAlt n) ∷ more) = home_is (after g (MaxAlt n)) more
home_is g ((RtlType n) ∷ more) = home_is (after g (RtlType n)) more
home_is g (NoDistance ∷ more) = home_is (after g NoDistance) more
home_is g ((HomeIs home) ∷ more) = home_is (after g (HomeIs home)) more
home_is g ((Plan plan) ∷ more) = home_is (after g (Plan plan)) more
home_is g (Unclosed ∷ more) = home_is (after g Unclosed) more
home_is g ((Boot cut) ∷ more) = home_is (after g (Boot cut)) more
home_is g ((Input actor given) ∷ more) = home_is (after g (Input actor given)) more
home_is g ((Turns actors) ∷ more) = home_is (after g (Turns actors)) more

pub links_are : (g : Gathered) (statements : List Statement) → (run g statements).links ≡ max g.links (greatest links_to (flat_map actors_of statements))
links_are g [] = omega arith
links_are g (Begins ∷ more) = links_are (after g Begins) more
links_are g ((TkoLand n) ∷ more) = links_are (after g (TkoLand n)) more
links_are g ((TakeoffMin n) ∷ more) = links_are (after g (TakeoffMin n)) more
links_are g ((MaxAlt n) ∷ more) = links_are (after g (MaxAlt n)) more
links_are g ((RtlType n) ∷ more) = links_are (after g (RtlType n)) more
links_are g (NoDistance ∷ more) = links_are (after g NoDistance) more
links_are g ((HomeIs home) ∷ more) = links_are (after g (HomeIs home)) more
links_are g ((Plan plan) ∷ more) = links_are (after g (Plan plan)) more
links_are g (Unclosed ∷ more) = links_are (after g Unclosed) more
links_are g ((Boot cut) ∷ more) = links_are (after g (Boot cut)) more
links_are g ((Input actor given) ∷ more) = links_are (after g (Input actor given)) more ∙ (max_assoc g.links (links_to actor) (greatest links_to (flat_map actors_of more)))
links_are g ((Turns actors) ∷ more) = links_are (after g (Turns actors)) more ∙ max_assoc g.links (greatest links_to actors) (greatest links_to (flat_map actors_of more)) ∙ ap (λ (n : ℕ). max g.links n) (sym (greatest-append links_to actors (flat_map actors_of more)))

pub watchers_are : (g : Gathered) (statements : List Statement) → (run g statements).watchers ≡ max g.watchers (greatest watchers_to (flat_map actors_of statements))
watchers_are g [] = omega arith
watchers_are g (Begins ∷ more) = watchers_are (after g Begins) more
watchers_are g ((TkoLand n) ∷ more) = watchers_are (after g (TkoLand n)) more
watchers_are g ((TakeoffMin n) ∷ more) = watchers_are (after g (TakeoffMin n)) more
watchers_are g ((MaxAlt n) ∷ more) = watchers_are (after g (MaxAlt n)) more
watchers_are g ((RtlType n) ∷ more) = watchers_are (after g (RtlType n)) more
watchers_are g (NoDistance ∷ more) = watchers_are (after g NoDistance) more
watchers_are g ((HomeIs home) ∷ more) = watchers_are (after g (HomeIs home)) more
watchers_are g ((Plan plan) ∷ more) = watchers_are (after g (Plan plan)) more
watchers_are g (Unclosed ∷ more) = watchers_are (after g Unclosed) more
watchers_are g ((Boot cut) ∷ more) = watchers_are (after g (Boot cut)) more
watchers_are g ((Input actor given) ∷ more) = watchers_are (after g (Input actor given)) more ∙ (max_assoc g.watchers (watchers_to actor) (greatest watchers_to (flat_map actors_of more)))
watchers_are g ((Turns actors) ∷ more) = watchers_are (after g (Turns actors)) more ∙ max_assoc g.watchers (greatest watchers_to actors) (greatest watchers_to (flat_map actors_of more)) ∙ ap (λ (n : ℕ). max g.watchers n) (sym (greatest-append watchers_to actors (flat_map actors_of more)))

counted : (b : Bool) (n m : ℕ) → (if b then n + 1 else n) + m ≡ n + ((if b then 1 else 0) + m)
counted true n m = omega arith
counted false n m = omega arith

pub uploads_are : (g : Gathered) (statements : List Statement) → (run g statements).uploads ≡ g.uploads + count_by is_upload_line statements
uploads_are g [] = omega arith
uploads_are g (Begins ∷ more) = uploads_are (after g Begins) more
uploads_are g ((TkoLand n) ∷ more) = uploads_are (after g (TkoLand n)) more
uploads_are g ((TakeoffMin n) ∷ more) = uploads_are (after g (TakeoffMin n)) more
uploads_are g ((MaxAlt n) ∷ more) = uploads_are (after g (MaxAlt n)) more
uploads_are g ((RtlType n) ∷ more) = uploads_are (after g (RtlType n)) more
uploads_are g (NoDistance ∷ more) = uploads_are (after g NoDistance) more
uploads_are g ((HomeIs home) ∷ more) = uploads_are (after g (HomeIs home)) more
uploads_are g ((Plan plan) ∷ more) = uploads_are (after g (Plan plan)) more
uploads_are g (Unclosed ∷ more) = uploads_are (after g Unclosed) more
uploads_are g ((Boot cut) ∷ more) = uploads_are (after g (Boot cut)) more
uploads_are g ((Input actor given) ∷ more) = uploads_are (after g (Input actor given)) more ∙ counted (is_upload given) g.uploads (count_by is_upload_line more) ∙ ap (λ (n : ℕ). g.uploads + n) (sym (count_cons is_upload_line (Input actor given) more))
uploads_are g ((Turns actors) ∷ more) = uploads_are (after g (Turns actors)) more
