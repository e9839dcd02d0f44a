-- What a judge's steps make of its parts.
use Rattle.std.specs.Prelude.{ℕ, ◌==◌, ◌&&◌, List, [], ◌∷◌, Option}
use Rattle.mission_model.specs.declared.plan.Item.{Item}
use Rattle.mission_model.specs.Feasible.{at_start, lacks_asked, is_takeoff, breaks_takeoff_height, breaks_allowed, breaks_greatest_height, breaks_home_set}
use Rattle.feasibility.specs.declared.faults.Faults.{Faults}
use Rattle.feasibility.specs.declared.judge.Judge.{Judge}
use Rattle.feasibility.specs.SoFar.{or_place, fault_of, first_to_jump, first_not_left}

-- the first items that break the rules on single items, with one more item
abbrev pub faults_with : Judge → Item → Faults
faults_with judge item = record {
  takeoff_first = or_place judge.faults.takeoff_first (is_takeoff item && judge.seen.position) judge.fed;
  takeoff_height = or_place judge.faults.takeoff_height (breaks_takeoff_height judge.params judge.home [] item []) judge.fed;
  allowed = or_place judge.faults.allowed (breaks_allowed judge.fence [] item []) judge.fed;
  greatest_height = or_place judge.faults.greatest_height (breaks_greatest_height judge.params judge.home [] item []) judge.fed;
  home_set = or_place judge.faults.home_set (breaks_home_set judge.home [] item []) judge.fed;
}

-- the first place that breaks each rule
abbrev pub places_of : Judge → List (Option ℕ)
places_of judge =
    at_start (judge.fed == 0) ∷
    judge.faults.takeoff_first ∷
    judge.faults.takeoff_height ∷
    at_start (lacks_asked judge.params.tko_land judge.seen.takeoff judge.seen.landing) ∷
    fault_of judge.land_starts ∷
    first_to_jump judge.jumps.list.items judge.jumps.list.items ∷
    judge.faults.allowed ∷
    judge.faults.greatest_height ∷
    judge.faults.home_set ∷
    first_not_left judge.jumps.list.items judge.loiters.list.items ∷ []
