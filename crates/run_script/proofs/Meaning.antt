-- What is gathered from a list of statements is what the list comes to.
use Rattle.std.proofs.Common.{◌≡◌, ℕ, ◌+◌, List, [], map, Bool, true, false, refl, ◌∙◌, ap, arith, zero-add, ◌∷◌}
use Rattle.std.specs.Prelude.{◌||◌, ◌&&◌, not, nat_lt, count_by, Option, ℤ, if◌then◌else◌}
use Rattle.std.specs.List.{list_any}
use Rattle.std.proofs.lemmas.Bool.Decides.{nat_tests}
use Rattle.mission_model.specs.declared.plan.Home.{Home}
use Rattle.mission_model.specs.declared.plan.Params.{Params}
use Rattle.mission_model.specs.declared.schedule.BootScript.{BootScript}
use Rattle.mission_model.specs.declared.schedule.NamedPlan.{NamedPlan}
use Rattle.mission_model.specs.declared.schedule.Script.{Script}
use Rattle.run_script.specs.Statements.{Statement, is_begin, is_boot}
use Rattle.run_script.specs.Forms.{Before, before_of}
use Rattle.run_script.specs.Gathered.{nothing_gathered, known, script_in, is_whole, filled_with, all_boots}
use Rattle.run_script.specs.Scripts.{params_of, home_in, links_of, watchers_of, script_of, is_finished}
use Rattle.run_script.proofs.Running.{run, count_cons, plans_are, boots_are, schedule_is, turn_words_are, uploads_are, begun_is, unclosed_is, tko_land_is, takeoff_min_is, max_alt_is, rtl_type_is, home_is, links_are, watchers_are}
use Rattle.run_script.proofs.BootLists.{boots_filled, gathered_boots}

by_head : (b : Bool) (n : ℕ) (a : Bool) → nat_lt 0 n ≡ a → nat_lt 0 ((if b then 1 else 0) + n) ≡ (b || a)
by_head true n a h = grind (arith, nat_tests)
by_head false n a h = ap (nat_lt 0) (zero-add n) ∙ h

pub some_passes : (p : Statement → Bool) (xs : List Statement) → nat_lt 0 (count_by p xs) ≡ list_any p xs
some_passes p [] = refl
some_passes p (x ∷ xs) = ap (nat_lt 0) (count_cons p x xs) ∙ by_head (p x) (count_by p xs) (list_any p xs) (some_passes p xs)

module _ (statements : List Statement) where
  same_before : (p q : List NamedPlan) (b c s t u v w x : ℕ) → p ≡ q → b ≡ c → s ≡ t → u ≡ v → w ≡ x → ◌≡◌ {A = Before} (record { plans = p; boots = b; schedule = s; uploads = u; turns = w }) (record { plans = q; boots = c; schedule = t; uploads = v; turns = x })
  same_before p q b c s t u v w x e1 e2 e3 e4 e5 = cc

  pub known_is : known (run nothing_gathered statements) ≡ before_of statements
  unfolding before_of
  known_is = same_before _ _ _ _ _ _ _ _ _ _ (plans_are nothing_gathered statements) (boots_are nothing_gathered statements ∙ (omega arith)) (schedule_is nothing_gathered statements ∙ (omega arith)) (uploads_are nothing_gathered statements ∙ (omega arith)) (turn_words_are nothing_gathered statements ∙ (omega arith))

  pub begun : (run nothing_gathered statements).begun ≡ list_any is_begin statements
  begun = begun_is nothing_gathered statements

  same_params : (a b : ℕ) (c d e f : ℤ) (g h : ℕ) → a ≡ b → c ≡ d → e ≡ f → g ≡ h → ◌≡◌ {A = Params} (record { tko_land = a; takeoff_min = c; max_alt = e; rtl_type = g }) (record { tko_land = b; takeoff_min = d; max_alt = f; rtl_type = h })
  same_params a b c d e f g h e1 e2 e3 e4 = cc

  pub params_are : (run nothing_gathered statements).params ≡ params_of statements
  params_are = same_params _ _ _ _ _ _ _ _ (tko_land_is nothing_gathered statements) (takeoff_min_is nothing_gathered statements) (max_alt_is nothing_gathered statements) (rtl_type_is nothing_gathered statements)

  pub homes_are : (run nothing_gathered statements).home ≡ home_in statements
  homes_are = home_is nothing_gathered statements

  pub links : (run nothing_gathered statements).links ≡ links_of statements
  links = links_are nothing_gathered statements ∙ (omega arith)

  pub watchers : (run nothing_gathered statements).watchers ≡ watchers_of statements
  watchers = watchers_are nothing_gathered statements ∙ (omega arith)

  filled_same : (p q : Params) (h k : Option Home) (l m v w : ℕ) (boots : List BootScript) → p ≡ q → h ≡ k → l ≡ m → v ≡ w → map (filled_with p h l v) boots ≡ map (filled_with q k m w) boots
  filled_same p q h k l m v w boots e1 e2 e3 e4 = cc

  pub boots : map (filled_with (run nothing_gathered statements).params (run nothing_gathered statements).home (run nothing_gathered statements).links (run nothing_gathered statements).watchers) (all_boots (run nothing_gathered statements)) ≡ (script_of statements).boots
  boots =
      filled_same _ _ _ _ _ _ _ _ (all_boots (run nothing_gathered statements)) params_are homes_are links watchers
      ∙ ap (map (filled_with (params_of statements) (home_in statements) (links_of statements) (watchers_of statements))) (gathered_boots nothing_gathered statements)
      ∙ boots_filled statements statements

  same_script : (p q : Params) (h k : Option Home) (l m : List NamedPlan) (b c : List BootScript) → p ≡ q → h ≡ k → l ≡ m → b ≡ c → ◌≡◌ {A = Script} (record { params = p; home = h; plans = l; boots = b }) (record { params = q; home = k; plans = m; boots = c })
  same_script p q h k l m b c e1 e2 e3 e4 = cc

  pub script_is : script_in (run nothing_gathered statements) ≡ script_of statements
  script_is = same_script _ _ _ _ _ _ _ _ params_are homes_are (plans_are nothing_gathered statements) boots

  pub whole_is : is_whole (run nothing_gathered statements) ≡ is_finished statements
  whole_is =
      ap (λ (n : ℕ). nat_lt 0 n && not (run nothing_gathered statements).unclosed) (boots_are nothing_gathered statements ∙ (omega arith))
      ∙ ap (λ (b : Bool). b && not (run nothing_gathered statements).unclosed) (some_passes is_boot statements)
      ∙ ap (λ (b : Bool). list_any is_boot statements && not b) (unclosed_is nothing_gathered statements)
