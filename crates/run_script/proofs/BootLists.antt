-- The boots that are gathered, against those that are cut at the lines `boot`.
use Rattle.std.proofs.Common.{◌≡◌, ℕ, ◌+◌, List, [], ◌∷◌, ◌++◌, map, Bool, true, false, refl, sym, ◌∙◌, ap, arith, append_assoc}
use Rattle.std.specs.Prelude.{nat_lt, if◌then◌else◌}
use Rattle.std.specs.List.{filter_map, flat_map}
use Rattle.std.proofs.lemmas.List.{append-nil}
use Rattle.std.proofs.lemmas.Bool.Decides.{nat_tests}
use Rattle.mission_model.specs.declared.flight_line.Actor.{Actor}
use Rattle.mission_model.specs.declared.schedule.BootScript.{BootScript}
use Rattle.mission_model.specs.declared.schedule.InputLine.{InputLine}
use Rattle.run_script.specs.Statements.{Statement, Begins, TkoLand, TakeoffMin, MaxAlt, RtlType, NoDistance, HomeIs, Plan, Unclosed, Boot, Input, Turns, input_of, turns_of}
use Rattle.run_script.specs.Gathered.{Gathered, after, own_boot, all_boots, filled_with}
use Rattle.run_script.specs.Scripts.{params_of, home_in, links_of, watchers_of, until_boot, boot_of, boots_of}
use Rattle.run_script.proofs.Running.{run}

-- the boots of which only their own lines are known
abbrev pub plain_boots : List Statement → List BootScript
plain_boots [] = []
plain_boots (Begins ∷ more) = plain_boots more
plain_boots ((TkoLand n) ∷ more) = plain_boots more
plain_boots ((TakeoffMin n) ∷ more) = plain_boots more
plain_boots ((MaxAlt n) ∷ more) = plain_boots more
plain_boots ((RtlType n) ∷ more) = plain_boots more
plain_boots (NoDistance ∷ more) = plain_boots more
plain_boots ((HomeIs home) ∷ more) = plain_boots more
plain_boots ((Plan plan) ∷ more) = plain_boots more
plain_boots (Unclosed ∷ more) = plain_boots more
plain_boots (Boot cut ∷ more) = own_boot cut (filter_map input_of (until_boot more)) (flat_map turns_of (until_boot more)) ∷ plain_boots more
plain_boots ((Input actor given) ∷ more) = plain_boots more
plain_boots ((Turns actors) ∷ more) = plain_boots more

pub boots_filled : (script statements : List Statement) → map (filled_with (params_of script) (home_in script) (links_of script) (watchers_of script)) (plain_boots statements) ≡ boots_of script statements
boots_filled script [] = refl
boots_filled script (Begins ∷ more) = boots_filled script more
boots_filled script ((TkoLand n) ∷ more) = boots_filled script more
boots_filled script ((TakeoffMin n) ∷ more) = boots_filled script more
boots_filled script ((MaxAlt n) ∷ more) = boots_filled script more
boots_filled script ((RtlType n) ∷ more) = boots_filled script more
boots_filled script (NoDistance ∷ more) = boots_filled script more
boots_filled script ((HomeIs home) ∷ more) = boots_filled script more
boots_filled script ((Plan plan) ∷ more) = boots_filled script more
boots_filled script (Unclosed ∷ more) = boots_filled script more
boots_filled script (Boot cut ∷ more) = ap (λ (boots : List BootScript). boot_of script cut (until_boot more) ∷ boots) (boots_filled script more)
boots_filled script ((Input actor given) ∷ more) = boots_filled script more
boots_filled script ((Turns actors) ∷ more) = boots_filled script more

-- the boots gathered, with those of more statements, where a boot has begun or not
abbrev opened : Bool → Gathered → List Statement → List BootScript
opened true g statements = g.ended ++ own_boot g.cut (g.inputs ++ filter_map input_of (until_boot statements)) (g.turns ++ flat_map turns_of (until_boot statements)) ∷ plain_boots statements
opened false g statements = g.ended ++ plain_boots statements

abbrev boots_if : Bool → Gathered → List BootScript
boots_if true g = g.ended ++ own_boot g.cut g.inputs g.turns ∷ []
boots_if false g = g.ended

boots_if_is : (g : Gathered) → all_boots g ≡ boots_if (nat_lt 0 g.boots) g
boots_if_is g = elim (nat_lt 0 g.boots) as (λ b. (if b then g.ended ++ own_boot g.cut g.inputs g.turns ∷ [] else g.ended) ≡ boots_if b g) [ true ↦ refl | false ↦ refl ]

open_end : (b : Bool) (g : Gathered) → boots_if b g ≡ opened b g []
open_end true g = ap (λ (inputs : List (Actor × InputLine)). g.ended ++ own_boot g.cut inputs g.turns ∷ []) (sym (append-nil g.inputs)) ∙ ap (λ (turns : List Actor). g.ended ++ own_boot g.cut (g.inputs ++ []) turns ∷ []) (sym (append-nil g.turns))
open_end false g = sym (append-nil g.ended)

open_boot : (b : Bool) (g : Gathered) (rest : List BootScript) → boots_if b g ++ rest ≡ (elim b as (λ _. List BootScript) [ true ↦ g.ended ++ own_boot g.cut (g.inputs ++ []) (g.turns ++ []) ∷ rest | false ↦ g.ended ++ rest ])
open_boot true g rest = append_assoc g.ended (own_boot g.cut g.inputs g.turns ∷ []) rest ∙ ap (λ (inputs : List (Actor × InputLine)). g.ended ++ own_boot g.cut inputs g.turns ∷ rest) (sym (append-nil g.inputs)) ∙ ap (λ (turns : List Actor). g.ended ++ own_boot g.cut (g.inputs ++ []) turns ∷ rest) (sym (append-nil g.turns))
open_boot false g rest = refl

booted : (n : ℕ) → nat_lt 0 (n + 1) ≡ true
booted n = grind (arith, nat_tests)

pub gathered_boots : (g : Gathered) (statements : List Statement) → all_boots (run g statements) ≡ opened (nat_lt 0 g.boots) g statements
gathered_boots g [] = boots_if_is g ∙ open_end (nat_lt 0 g.boots) g
gathered_boots g (Begins ∷ more) = gathered_boots (after g Begins) more ∙ (elim (nat_lt 0 g.boots) as (λ b. opened b (after g Begins) more ≡ opened b g (Begins ∷ more)) [ true ↦ refl | false ↦ refl ])
gathered_boots g ((TkoLand n) ∷ more) = gathered_boots (after g (TkoLand n)) more ∙ (elim (nat_lt 0 g.boots) as (λ b. opened b (after g (TkoLand n)) more ≡ opened b g ((TkoLand n) ∷ more)) [ true ↦ refl | false ↦ refl ])
gathered_boots g ((TakeoffMin n) ∷ more) = gathered_boots (after g (TakeoffMin n)) more ∙ (elim (nat_lt 0 g.boots) as (λ b. opened b (after g (TakeoffMin n)) more ≡ opened b g ((TakeoffMin n) ∷ more)) [ true ↦ refl | false ↦ refl ])
gathered_boots g ((MaxAlt n) ∷ more) = gathered_boots (after g (MaxAlt n)) more ∙ (elim (nat_lt 0 g.boots) as (λ b. opened b (after g (MaxAlt n)) more ≡ opened b g ((MaxAlt n) ∷ more)) [ true ↦ refl | false ↦ refl ])
gathered_boots g ((RtlType n) ∷ more) = gathered_boots (after g (RtlType n)) more ∙ (elim (nat_lt 0 g.boots) as (λ b. opened b (after g (RtlType n)) more ≡ opened b g ((RtlType n) ∷ more)) [ true ↦ refl | false ↦ refl ])
gathered_boots g (NoDistance ∷ more) = gathered_boots (after g NoDistance) more ∙ (elim (nat_lt 0 g.boots) as (λ b. opened b (after g NoDistance) more ≡ opened b g (NoDistance ∷ more)) [ true ↦ refl | false ↦ refl ])
gathered_boots g ((HomeIs home) ∷ more) = gathered_boots (after g (HomeIs home)) more ∙ (elim (nat_lt 0 g.boots) as (λ b. opened b (after g (HomeIs home)) more ≡ opened b g ((HomeIs home) ∷ more)) [ true ↦ refl | false ↦ refl ])
gathered_boots g ((Plan plan) ∷ more) = gathered_boots (after g (Plan plan)) more ∙ (elim (nat_lt 0 g.boots) as (λ b. opened b (after g (Plan plan)) more ≡ opened b g ((Plan plan) ∷ more)) [ true ↦ refl | false ↦ refl ])
gathered_boots g (Unclosed ∷ more) = gathered_boots (after g Unclosed) more ∙ (elim (nat_lt 0 g.boots) as (λ b. opened b (after g Unclosed) more ≡ opened b g (Unclosed ∷ more)) [ true ↦ refl | false ↦ refl ])
gathered_boots g (Boot cut ∷ more) =
    let rest = own_boot cut (filter_map input_of (until_boot more)) (flat_map turns_of (until_boot more)) ∷ plain_boots more in
    gathered_boots (after g (Boot cut)) more ∙ ap (λ (b : Bool). opened b (after g (Boot cut)) more) (booted g.boots) ∙ ap (λ (boots : List BootScript). boots ++ rest) (boots_if_is g)
    ∙ (elim (nat_lt 0 g.boots) as (λ b. boots_if b g ++ rest ≡ opened b g (Boot cut ∷ more)) [ true ↦ open_boot true g rest | false ↦ refl ])
gathered_boots g (Input actor given ∷ more) = gathered_boots (after g (Input actor given)) more ∙ (elim (nat_lt 0 g.boots) as (λ b. opened b (after g (Input actor given)) more ≡ opened b g (Input actor given ∷ more))
    [ true ↦ ap (λ (inputs : List (Actor × InputLine)). g.ended ++ own_boot g.cut inputs (g.turns ++ flat_map turns_of (until_boot more)) ∷ plain_boots more) (append_assoc g.inputs ((actor, given) ∷ []) (filter_map input_of (until_boot more))) | false ↦ refl ])
gathered_boots g (Turns actors ∷ more) = gathered_boots (after g (Turns actors)) more ∙ (elim (nat_lt 0 g.boots) as (λ b. opened b (after g (Turns actors)) more ≡ opened b g (Turns actors ∷ more))
    [ true ↦ ap (λ (turns : List Actor). g.ended ++ own_boot g.cut (g.inputs ++ filter_map input_of (until_boot more)) turns ∷ plain_boots more) (append_assoc g.turns actors (flat_map turns_of (until_boot more))) | false ↦ refl ])
