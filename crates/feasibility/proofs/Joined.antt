-- What a judge stands for once it was shown one more item, and what its places say.
use Rattle.std.proofs.Common.{◌≡◌, ℕ, ◌+◌, ◌<◌, ◌≤◌, ◌==◌, Bool, true, cond, ◌&&◌, ◌||◌, List, [], ◌∷◌, ◌++◌, Option, Some, None, is_some, length, take, refl, sym, ap, subst, ◌∙◌, arith, length-append}
use Rattle.std.specs.List.{slice_get, position_from}
use Rattle.std.proofs.lemmas.List.{length_push, take_at}
use Rattle.mission_model.specs.declared.limits.TheConstants.{MAX_JUMPS}
use Rattle.mission_model.specs.declared.plan.PlanType.TheVariants.{Mission}
use Rattle.mission_model.specs.declared.plan.Home.{Home}
use Rattle.mission_model.specs.declared.plan.Item.{Item}
use Rattle.mission_model.specs.declared.plan.Params.{Params}
use Rattle.mission_model.specs.declared.command.Jump.{Jump}
use Rattle.mission_model.specs.Command.{has_position, jump_of}
use Rattle.mission_model.specs.Feasible.{first_place, at_start, broken_places, is_takeoff, is_unlimited_loiter, breaks_takeoff_first, breaks_takeoff_height, breaks_allowed, breaks_greatest_height, breaks_home_set, breaks_one_land_start}
use Rattle.mission_model.specs.Landing.{is_landing, is_land_start, landing_of}
use Rattle.mission_model.specs.PlanCode.{PlanValid, jumps_in}
use Rattle.mission_model.specs.ValidPlan.{PlanValid-jump}
use Rattle.feasibility.specs.declared.seen.Seen.{Seen}
use Rattle.feasibility.specs.declared.faults.Faults.{Faults}
use Rattle.feasibility.specs.declared.land_starts.LandStarts.{LandStarts}
use Rattle.feasibility.specs.declared.jumps.Jumps.{Jumps}
use Rattle.feasibility.specs.declared.loiters.Loiters.{Loiters}
use Rattle.feasibility.specs.declared.judge.Judge.{Judge}
use Rattle.feasibility.specs.SoFar.{or_place, seen_with, land_starts_with, landing_with, fault_of, is_second_land_start, jump_at, jumps_from, first_to_jump, stuck_with, stuck_from, kept_with, most_loiters, first_not_left}
use Rattle.feasibility.specs.Parts.{faults_with, places_of}
use Rattle.feasibility.specs.Judged.{SeenIn, FaultsIn, LandStartsIn, Shown, CanFeed, TakesItem}
use Rattle.feasibility.proofs.Places.{IgnoresAfter, first_place-push, list_any-push, position_from-push, is_some-position_from}
use Rattle.feasibility.proofs.LandStartFault.{landing_of-push, fault_in}
use Rattle.feasibility.proofs.JumpTargets.{jumps_from-more, first_to_jump-in, length-jumps_from}
use Rattle.feasibility.proofs.LoitersLeft.{stuck_from-more, last_loiter_from-more, first_not_left-in}
use Rattle.feasibility.proofs.FewLoiters.{first_not_left-kept, kept-more}

SeenIn-push : (seen : Seen) (items : List Item) (item : Item) → SeenIn seen items → SeenIn (seen_with seen item) (items ++ item ∷ [])
SeenIn-push seen items item h = record {
  positions = ap (λ b. b || has_position item) h.positions ∙ sym (list_any-push has_position items item);
  takeoffs = ap (λ b. b || is_takeoff item) h.takeoffs ∙ sym (list_any-push is_takeoff items item);
  landings = ap (λ b. b || is_landing item) h.landings ∙ sym (list_any-push is_landing items item);
}

-- a first place that is kept, with one more item
kept-push : (breaks : List Item → Item → List Item → Bool) → IgnoresAfter breaks → (items : List Item) (item : Item) (first : Option ℕ) (now : Bool) (place : ℕ) → first ≡ first_place breaks items → now ≡ breaks items item [] → place ≡ length items → or_place first now place ≡ first_place breaks (items ++ item ∷ [])
kept-push breaks ignores items item first now place is breaks_now at =
    ap (λ f. or_place f now place) is
    ∙ ap (λ b. or_place (first_place breaks items) b place) breaks_now
    ∙ ap (λ k. or_place (first_place breaks items) (breaks items item []) k) at
    ∙ sym (first_place-push breaks ignores items item)

FaultsIn-push : (judge : Judge) (params : Params) (home : Option Home) (fence : List Item) (count : ℕ) (items : List Item) (item : Item) → Shown judge params home fence count items → FaultsIn (faults_with judge item) params home fence (items ++ item ∷ [])
FaultsIn-push judge params home fence count items item h = record {
  takeoff_first = kept-push breaks_takeoff_first (λ _ _ _. refl) items item _ _ _ h.faults.takeoff_first (ap (λ b. is_takeoff item && b) h.seen.positions) h.fed;
  takeoff_height = kept-push (breaks_takeoff_height params home) (λ _ _ _. refl) items item _ _ _ h.faults.takeoff_height (ap (λ p. breaks_takeoff_height p judge.home [] item []) h.same_params ∙ ap (λ p. breaks_takeoff_height params p [] item []) h.same_home) h.fed;
  allowed = kept-push (breaks_allowed fence) (λ _ _ _. refl) items item _ _ _ h.faults.allowed (ap (λ f. breaks_allowed f [] item []) h.same_fence) h.fed;
  greatest_height = kept-push (breaks_greatest_height params home) (λ _ _ _. refl) items item _ _ _ h.faults.greatest_height (ap (λ p. breaks_greatest_height p judge.home [] item []) h.same_params ∙ ap (λ p. breaks_greatest_height params p [] item []) h.same_home) h.fed;
  home_set = kept-push (breaks_home_set home) (λ _ _ _. refl) items item _ _ _ h.faults.home_set (ap (λ p. breaks_home_set p [] item []) h.same_home) h.fed;
}

LandStartsIn-push : (starts : LandStarts) (items : List Item) (item : Item) (place : ℕ) → place ≡ length items → LandStartsIn starts items → LandStartsIn (land_starts_with starts place item) (items ++ item ∷ [])
LandStartsIn-push starts items item place at h =
    let zeroed : 0 + length items ≡ length items = omega arith in
    record {
      first = ap (λ f. or_place f (is_land_start item) place) h.first ∙ ap (λ k. or_place (position_from is_land_start 0 items) (is_land_start item) k) (at ∙ sym zeroed) ∙ sym (position_from-push is_land_start 0 items item);
      second = kept-push is_second_land_start (λ _ _ _. refl) items item _ _ _ h.second (ap (λ f. is_land_start item && is_some f) h.first ∙ ap (λ b. is_land_start item && b) (is_some-position_from is_land_start 0 items)) at;
      landing = ap (λ l. landing_with l starts.first place item) h.landing ∙ ap (λ f. landing_with (landing_of items) f place item) h.first ∙ ap (λ k. landing_with (landing_of items) (position_from is_land_start 0 items) k item) at ∙ sym (landing_of-push items item);
    }

slice_get-at : (items : List Item) (item : Item) (rest : List Item) → slice_get (items ++ item ∷ rest) (length items) ≡ Some item
slice_get-at [] item rest = refl
slice_get-at (first ∷ items) item rest = slice_get-at items item rest

-- a jump of a valid mission has room among the jumps before it
pub jumps_room : (items : List Item) (item : Item) (rest : List Item) → PlanValid Mission (items ++ item ∷ rest) → is_some (jump_of item) ≡ true → length (jumps_from 0 items) < MAX_JUMPS
jumps_room items item rest valid jumps =
    elim (jump_of item) as (λ jump. jump_of item ≡ jump → is_some jump ≡ true → length (jumps_from 0 items) < MAX_JUMPS) [
      | None ↦ λ is none. absurd cc
      | Some jump ↦ λ is some.
          let room = (PlanValid-jump (items ++ item ∷ rest) (length items) item jump valid (slice_get-at items item rest) is).0 in
          let before = subst (λ l. jumps_in l < MAX_JUMPS) (take_at items (item ∷ rest) (length items) refl) room in
          subst (λ n. n < MAX_JUMPS) (sym (length-jumps_from 0 items)) before
    ] refl jumps

few_jumps-push : (items : List Item) (item : Item) → (is_some (jump_of item) ≡ true → length (jumps_from 0 items) < MAX_JUMPS) → length (jumps_from 0 items) ≤ MAX_JUMPS → length (jumps_from 0 (items ++ item ∷ [])) ≤ MAX_JUMPS
few_jumps-push items item room few =
    subst (λ (l : List (ℕ × ℕ)). length l ≤ MAX_JUMPS) (sym (jumps_from-more items item)) (by (jump_of item) room)
  where
    by : (jump : Option Jump) → (is_some jump ≡ true → length (jumps_from 0 items) < MAX_JUMPS) → length (jumps_from 0 items ++ jump_at (length items) jump) ≤ MAX_JUMPS
    by None room = omega (arith, few, length-append (jumps_from 0 items) [])
    by (Some jump) room = let less : length (jumps_from 0 items) < MAX_JUMPS = room refl in omega (arith, less, length_push (jumps_from 0 items) (length items, jump.target))

-- the judge with one more item, by what its steps make of its parts
pub Shown-push : (old : Judge) (item : Item) (seen : Seen) (faults : Faults) (starts : LandStarts) (jumps : Jumps) (loiters : Loiters) → seen ≡ seen_with old.seen item → faults ≡ faults_with old item → starts ≡ land_starts_with old.land_starts old.fed item → jumps.list.items ≡ old.jumps.list.items ++ jump_at old.fed (jump_of item) → loiters.list.items ≡ kept_with old.loiters.list.items (stuck_with old.loiters.last item) → loiters.last ≡ or_place None (is_unlimited_loiter item) old.fed → CanFeed old item → TakesItem old item (record old { fed = old.fed + 1; seen = seen; faults = faults; land_starts = starts; jumps = jumps; loiters = loiters })
Shown-push old item seen faults starts jumps loiters seen_is faults_are starts_are more stuck last may params home fence count items h =
    let room : length items < count = omega (arith, may.room, may.judged.shown.fed, may.judged.shown.same_count, h.fed, h.same_count) in
    let fewer : is_some (jump_of item) ≡ true → length (jumps_from 0 items) < MAX_JUMPS = λ is. subst (λ l. length l < MAX_JUMPS) (sym may.judged.shown.jumps ∙ h.jumps) (jumps_room may.items item may.rest may.valid is) in
    record {
      same_params = h.same_params;
      same_home = h.same_home;
      same_fence = h.same_fence;
      same_count = h.same_count;
      fed = ap (λ n. n + 1) h.fed ∙ sym (length_push items item);
      within = omega (arith, room, length_push items item);
      seen = subst (λ s. SeenIn s (items ++ item ∷ [])) (sym seen_is) (SeenIn-push old.seen items item h.seen);
      faults = subst (λ f. FaultsIn f params home fence (items ++ item ∷ [])) (sym faults_are) (FaultsIn-push old params home fence count items item h);
      land_starts = subst (λ s. LandStartsIn s (items ++ item ∷ [])) (sym starts_are) (LandStartsIn-push old.land_starts items item old.fed h.fed h.land_starts);
      jumps = more ∙ ap (λ l. l ++ jump_at old.fed (jump_of item)) h.jumps ∙ ap (λ k. jumps_from 0 items ++ jump_at k (jump_of item)) h.fed ∙ sym (jumps_from-more items item);
      few_jumps = few_jumps-push items item fewer h.few_jumps;
      loiters = stuck ∙ ap (λ l. kept_with l (stuck_with old.loiters.last item)) h.loiters ∙ kept-more (stuck_from 0 items) old.loiters.last item ∙ ap (take most_loiters) (ap (λ l. stuck_from 0 items ++ stuck_with l item) h.last_loiter ∙ sym (stuck_from-more items item));
      last_loiter = last ∙ ap (or_place None (is_unlimited_loiter item)) h.fed ∙ sym (last_loiter_from-more items item);
    }

-- the same where the faults were noted before
pub Shown-next : (old noted : Judge) (item : Item) (seen : Seen) (starts : LandStarts) (jumps : Jumps) (loiters : Loiters) → noted ≡ record old { faults = faults_with old item } → seen ≡ seen_with noted.seen item → starts ≡ land_starts_with noted.land_starts old.fed item → jumps.list.items ≡ noted.jumps.list.items ++ jump_at old.fed (jump_of item) → loiters.list.items ≡ kept_with noted.loiters.list.items (stuck_with noted.loiters.last item) → loiters.last ≡ or_place None (is_unlimited_loiter item) old.fed → CanFeed old item → TakesItem old item (record noted { fed = old.fed + 1; seen = seen; land_starts = starts; jumps = jumps; loiters = loiters })
Shown-next old noted item seen starts jumps loiters is seen_is starts_are more stuck last may =
    subst (λ (j : Judge). seen ≡ seen_with j.seen item → starts ≡ land_starts_with j.land_starts old.fed item → jumps.list.items ≡ j.jumps.list.items ++ jump_at old.fed (jump_of item) → loiters.list.items ≡ kept_with j.loiters.list.items (stuck_with j.loiters.last item) → TakesItem old item (record j { fed = old.fed + 1; seen = seen; land_starts = starts; jumps = jumps; loiters = loiters }))
    (sym is) (λ s l j k. Shown-push old item seen (faults_with old item) starts jumps loiters s refl l j k last may) seen_is starts_are more stuck

-- the first land start at fault, by what is kept of them
fault_of-in : (starts : LandStarts) (items : List Item) → LandStartsIn starts items → fault_of starts ≡ first_place breaks_one_land_start items
fault_of-in starts items h =
    ap (λ l. cond (is_some l) starts.second starts.first) h.landing
    ∙ ap (λ s. cond (is_some (landing_of items)) s starts.first) h.second
    ∙ ap (λ f. cond (is_some (landing_of items)) (first_place is_second_land_start items) f) h.first
    ∙ sym (fault_in items)

-- the places that a judge names are those that break the rules
pub places_of-shown : (judge : Judge) (params : Params) (home : Option Home) (fence : List Item) (count : ℕ) (items : List Item) → Shown judge params home fence count items → places_of judge ≡ broken_places params home items fence
places_of-shown judge params home fence count items h =
    let empty = ap (λ n. at_start (n == 0)) h.fed in
    let starts = fault_of-in judge.land_starts items h.land_starts in
    let jumps = ap (λ l. first_to_jump l l) h.jumps ∙ sym (first_to_jump-in items) in
    let loiters = ap (λ l. first_not_left l judge.loiters.list.items) h.jumps ∙ ap (first_not_left (jumps_from 0 items)) h.loiters ∙ first_not_left-kept (jumps_from 0 items) items h.few_jumps ∙ sym (first_not_left-in items) in
    cc (empty, starts, jumps, loiters, h.faults.takeoff_first, h.faults.takeoff_height, h.faults.allowed, h.faults.greatest_height, h.faults.home_set)
