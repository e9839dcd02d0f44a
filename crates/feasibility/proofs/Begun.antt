-- What a judge stands for before the first item, and once it was shown one more.
use Rattle.std.proofs.Common.{◌≡◌, ℕ, zero, suc, ◌==◌, false, true, cond, List, [], ◌∷◌, ◌++◌, Option, Some, None, nat_lt, refl, sym, ap, ◌∙◌, arith}
use Rattle.std.proofs.lemmas.Bool.Decides.{nat_tests}
use Rattle.mission_model.specs.declared.plan.Home.{Home}
use Rattle.mission_model.specs.declared.plan.Item.{Item}
use Rattle.mission_model.specs.declared.plan.Params.{Params}
use Rattle.mission_model.specs.Feasible.{FirstBroken}
use Rattle.feasibility.specs.declared.judge.Judge.{Judge}
use Rattle.feasibility.specs.declared.judge.Verdict.{Verdict}
use Rattle.feasibility.specs.declared.judge.Verdict.TheVariants as verdict
use Rattle.feasibility.specs.declared.seen.Seen.{Seen}
use Rattle.feasibility.specs.declared.faults.Faults.{Faults}
use Rattle.feasibility.specs.declared.land_starts.LandStarts.{LandStarts}
use Rattle.feasibility.specs.SoFar.{nothing_seen, no_faults, no_land_starts}
use Rattle.feasibility.specs.Verdicts.{answer_of, verdict_of, verdict_at_begin}
use Rattle.feasibility.specs.Judged.{SeenIn, FaultsIn, LandStartsIn, Judged, TakesItem, FindsVerdict}

seen_nothing : (seen : Seen) → seen ≡ nothing_seen → SeenIn seen []
seen_nothing seen h = record { positions = ap (λ (s : Seen). s.position) h; takeoffs = ap (λ (s : Seen). s.takeoff) h; landings = ap (λ (s : Seen). s.landing) h }

free_of_faults : (faults : Faults) (params : Params) (home : Option Home) (fence : List Item) → faults ≡ no_faults → FaultsIn faults params home fence []
free_of_faults faults params home fence h = record {
  takeoff_first = ap (λ (f : Faults). f.takeoff_first) h;
  takeoff_height = ap (λ (f : Faults). f.takeoff_height) h;
  allowed = ap (λ (f : Faults). f.allowed) h;
  greatest_height = ap (λ (f : Faults). f.greatest_height) h;
  home_set = ap (λ (f : Faults). f.home_set) h;
}

without_land_starts : (starts : LandStarts) → starts ≡ no_land_starts → LandStartsIn starts []
without_land_starts starts h = record { first = ap (λ (s : LandStarts). s.first) h; second = ap (λ (s : LandStarts). s.second) h; landing = ap (λ (s : LandStarts). s.landing) h }

none_before : (n : ℕ) (first answer : Verdict) → cond (suc n == 0) (Some first) None ≡ cond (nat_lt 0 (suc n)) None (Some answer)
none_before n first answer = ap (λ b. cond b (Some first) None) (some_items n) ∙ sym (ap (λ b. cond b None (Some answer)) (positive n))
  where
    some_items : (n : ℕ) → (suc n == 0) ≡ false
    some_items n = grind (arith, nat_tests)

    positive : (n : ℕ) → nat_lt 0 (suc n) ≡ true
    positive n = grind (arith, nat_tests)

verdict_of-begun : (params : Params) (home : Option Home) (fence : List Item) (count : ℕ) → verdict_at_begin count ≡ verdict_of params home fence count []
unfolding FirstBroken
verdict_of-begun params home fence zero = refl
verdict_of-begun params home fence (suc n) = none_before n (verdict.Broken 1 0) (answer_of (FirstBroken params home [] fence))

-- a judge that keeps nothing yet was shown nothing
pub Judged-begun : (judge : Judge) (params : Params) (home : Option Home) (fence : List Item) (count : ℕ) → judge.params ≡ params → judge.home ≡ home → judge.fence ≡ fence → judge.count ≡ count → judge.fed ≡ 0 → judge.seen ≡ nothing_seen → judge.faults ≡ no_faults → judge.land_starts ≡ no_land_starts → judge.jumps.list.items ≡ [] → judge.loiters.list.items ≡ [] → judge.loiters.last ≡ None → judge.verdict ≡ verdict_at_begin count → Judged judge params home fence count []
Judged-begun judge params home fence count by_params by_home by_fence of fed seen faults starts jumps loiters last verdict = record {
  shown = record {
    same_params = by_params;
    same_home = by_home;
    same_fence = by_fence;
    same_count = of;
    fed = fed;
    within = omega arith;
    seen = seen_nothing judge.seen seen;
    faults = free_of_faults judge.faults params home fence faults;
    land_starts = without_land_starts judge.land_starts starts;
    jumps = jumps;
    few_jumps = omega arith;
    loiters = loiters;
    last_loiter = last;
  };
  verdict = verdict ∙ verdict_of-begun params home fence count;
}

-- a judge that keeps one more item, and the verdict that is found with it
pub Judged-found : (old : Judge) (item : Item) (next : Judge) (verdict : Option Verdict) → TakesItem old item next → FindsVerdict next verdict → (params : Params) (home : Option Home) (fence : List Item) (count : ℕ) (items : List Item) → Judged old params home fence count items → Judged (record next { verdict = verdict }) params home fence count (items ++ item ∷ [])
Judged-found old item next verdict takes finds params home fence count items h =
    let s = takes params home fence count items h.shown in
    record {
      shown = record {
        same_params = s.same_params;
        same_home = s.same_home;
        same_fence = s.same_fence;
        same_count = s.same_count;
        fed = s.fed;
        within = s.within;
        seen = s.seen;
        faults = s.faults;
        land_starts = s.land_starts;
        jumps = s.jumps;
        few_jumps = s.few_jumps;
        loiters = s.loiters;
        last_loiter = s.last_loiter;
      };
      verdict = finds params home fence count (items ++ item ∷ []) s;
    }
