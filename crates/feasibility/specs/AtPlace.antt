-- A valid mission that is shown to a judge: for callers that have the mission as a list.
use Rattle.std.specs.Prelude.{◌≡◌, ℕ, zero, suc, ◌+◌, ◌<◌, List, [], ◌∷◌, ◌++◌, Option, Some, length, take, drop, slice_get}
use Rattle.std.proofs.Common.{sym, ap, subst, ◌∙◌, arith}
use Rattle.std.proofs.lemmas.List.{length-take-le}
use Rattle.std.proofs.lemmas.Option.{slice_get_within, same_Some}
use Rattle.mission_model.specs.declared.plan.Home.{Home}
use Rattle.mission_model.specs.declared.plan.Item.{Item}
use Rattle.mission_model.specs.declared.plan.Params.{Params}
use Rattle.mission_model.specs.declared.plan.PlanType.TheVariants.{Mission}
use Rattle.mission_model.specs.PlanCode.{PlanValid}
use Rattle.feasibility.specs.declared.judge.Judge.{Judge}
use Rattle.feasibility.specs.Judged.{Judged, CanFeed, JoinsItem}

split_at : (mission : List Item) (place : ℕ) (item : Item) → slice_get mission place ≡ Some item → take place mission ++ item ∷ drop (suc place) mission ≡ mission
split_at [] place item h = absurd cc
split_at (first ∷ rest) zero item h = ap (λ i. i ∷ rest) (sym (same_Some first item h))
split_at (first ∷ rest) (suc place) item h = ap (λ l. first ∷ l) (split_at rest place item h)

take-suc_at : (mission : List Item) (place : ℕ) (item : Item) → slice_get mission place ≡ Some item → take (suc place) mission ≡ take place mission ++ item ∷ []
take-suc_at [] place item h = absurd cc
take-suc_at (first ∷ rest) zero item h = ap (λ i. i ∷ []) (same_Some first item h)
take-suc_at (first ∷ rest) (suc place) item h = ap (λ l. first ∷ l) (take-suc_at rest place item h)

-- a judge that was shown the items of a valid mission before a place may be shown the item there
pub CanFeed-at : (judge : Judge) (params : Params) (home : Option Home) (fence mission : List Item) (place : ℕ) (item : Item) → PlanValid Mission mission → slice_get mission place ≡ Some item → Judged judge params home fence (length mission) (take place mission) → CanFeed judge item
CanFeed-at judge params home fence mission place item valid at h =
    let within : place < length mission = slice_get_within mission place item at in
    let before : length (take place mission) ≡ place = length-take-le place mission (omega arith) in
    record {
      params = params;
      home = home;
      fence = fence;
      count = length mission;
      items = take place mission;
      rest = drop (suc place) mission;
      judged = h;
      room = omega arith;
      valid = subst (PlanValid Mission) (sym (split_at mission place item at)) valid;
    }

-- and once it was, it was shown the items before the next place
pub Judged-at : (old : Judge) (item : Item) (new : Judge) (params : Params) (home : Option Home) (fence mission : List Item) (place : ℕ) → JoinsItem old item new → slice_get mission place ≡ Some item → Judged old params home fence (length mission) (take place mission) → Judged new params home fence (length mission) (take (place + 1) mission)
Judged-at old item new params home fence mission place joins at h =
    let next : suc place ≡ place + 1 = omega arith in
    subst (Judged new params home fence (length mission)) (sym (take-suc_at mission place item at) ∙ ap (λ n. take n mission) next) (joins params home fence (length mission) (take place mission) h)
