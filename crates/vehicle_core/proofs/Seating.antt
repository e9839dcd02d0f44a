-- The locals of a boot are seated one after another, each with the next schedule.
use Rattle.std.proofs.Common.{◌≡◌, ℕ, zero, suc, ◌+◌, ◌<◌, List, [], ◌∷◌, ◌++◌, length, refl, sym, subst, ap, ◌∙◌, arith, append_assoc, append-nil}
use Rattle.navigator.specs.NavState.{NavState}
use Rattle.vehicle_core.specs.declared.local.Local.{Local}
use Rattle.vehicle_core.specs.ScheduleState.{ScheduleState}
use Rattle.vehicle_core.specs.Crew.{link_local, nav_local, watch_local, watch_crew, link_crew}

none_left : (schedules : List ScheduleState) → length schedules ≡ 0 → schedules ≡ []
none_left [] h = refl
none_left (s ∷ schedules) h = absurd (omega (arith, h))

module _ {W : Type 0} where
  -- the links from a number on are left to be seated, and the Navigator and the watchers
  pub record LinksLeft (number links : ℕ) (locals : List (Local W)) (navigator : NavState) (schedules : List ScheduleState) (watchers : List W) (whole : List (Local W)) : Type 0 where
    pub left : ℕ
    pub sum : number + left ≡ links
    pub count : length schedules ≡ left + 1 + length watchers
    pub items : locals ++ link_crew number left navigator schedules watchers ≡ whole

  -- the watchers from a number on are left to be seated
  pub record WatchersLeft (number links : ℕ) (locals : List (Local W)) (schedules : List ScheduleState) (watchers : List W) (whole : List (Local W)) : Type 0 where
    pub count : length schedules ≡ length watchers
    pub items : locals ++ watch_crew links number schedules watchers ≡ whole

  link_by : (left number links : ℕ) (locals : List (Local W)) (navigator : NavState) (schedule : ScheduleState) (schedules : List ScheduleState) (watchers : List W) (whole : List (Local W)) → number + left ≡ links → length (schedule ∷ schedules) ≡ left + 1 + length watchers → locals ++ link_crew number left navigator (schedule ∷ schedules) watchers ≡ whole → number < links
      → LinksLeft (number + 1) links (locals ++ link_local number schedule ∷ []) navigator schedules watchers whole
  link_by zero number links locals navigator schedule schedules watchers whole sum count items less = absurd (omega (arith, sum, less))
  link_by (suc left) number links locals navigator schedule schedules watchers whole sum count items less =
      let next : number + 1 ≡ suc number = omega arith in
      record {
        left = left;
        sum = omega (arith, sum);
        count = omega (arith, count);
        items = ap (λ (n : ℕ). (locals ++ link_local number schedule ∷ []) ++ link_crew n left navigator schedules watchers) next ∙ append_assoc locals (link_local number schedule ∷ []) (link_crew (suc number) left navigator schedules watchers) ∙ items;
      }

  pub link_seated : (number links : ℕ) (locals : List (Local W)) (navigator : NavState) (all : List ScheduleState) (schedule : ScheduleState) (schedules : List ScheduleState) (watchers : List W) (whole : List (Local W)) → all ≡ schedule ∷ schedules → LinksLeft number links locals navigator all watchers whole → number < links
      → LinksLeft (number + 1) links (locals ++ link_local number schedule ∷ []) navigator schedules watchers whole
  link_seated number links locals navigator all schedule schedules watchers whole is h less =
      let g : LinksLeft number links locals navigator (schedule ∷ schedules) watchers whole = subst (λ (ss : List ScheduleState). LinksLeft number links locals navigator ss watchers whole) is h in
      link_by g.left number links locals navigator schedule schedules watchers whole g.sum g.count g.items less

  nav_by : (left links : ℕ) (locals : List (Local W)) (navigator : NavState) (schedule : ScheduleState) (schedules : List ScheduleState) (watchers : List W) (whole : List (Local W)) → links + left ≡ links → length (schedule ∷ schedules) ≡ left + 1 + length watchers → locals ++ link_crew links left navigator (schedule ∷ schedules) watchers ≡ whole
      → WatchersLeft 0 links (locals ++ nav_local links navigator schedule ∷ []) schedules watchers whole
  nav_by (suc left) links locals navigator schedule schedules watchers whole sum count items = absurd (omega (arith, sum))
  nav_by zero links locals navigator schedule schedules watchers whole sum count items = record {
    count = omega (arith, count);
    items = append_assoc locals (nav_local links navigator schedule ∷ []) (watch_crew links 0 schedules watchers) ∙ items;
  }

  pub nav_seated : (links : ℕ) (locals : List (Local W)) (navigator : NavState) (all : List ScheduleState) (schedule : ScheduleState) (schedules : List ScheduleState) (watchers : List W) (whole : List (Local W)) → all ≡ schedule ∷ schedules → LinksLeft links links locals navigator all watchers whole
      → WatchersLeft 0 links (locals ++ nav_local links navigator schedule ∷ []) schedules watchers whole
  nav_seated links locals navigator all schedule schedules watchers whole is h =
      let g : LinksLeft links links locals navigator (schedule ∷ schedules) watchers whole = subst (λ (ss : List ScheduleState). LinksLeft links links locals navigator ss watchers whole) is h in
      nav_by g.left links locals navigator schedule schedules watchers whole g.sum g.count g.items

  pub watch_seated : (number links : ℕ) (locals : List (Local W)) (all : List ScheduleState) (schedule : ScheduleState) (schedules : List ScheduleState) (rest : List W) (watcher : W) (watchers : List W) (whole : List (Local W)) → all ≡ schedule ∷ schedules → rest ≡ watcher ∷ watchers → WatchersLeft number links locals all rest whole
      → WatchersLeft (number + 1) links (locals ++ watch_local links number watcher schedule ∷ []) schedules watchers whole
  watch_seated number links locals all schedule schedules rest watcher watchers whole is are h =
      let g : WatchersLeft number links locals (schedule ∷ schedules) (watcher ∷ watchers) whole = subst (λ (x : List ScheduleState × List W). WatchersLeft number links locals x.0 x.1 whole) (λ i. (is i, are i)) h in
      let next : number + 1 ≡ suc number = omega arith in
      record {
        count = omega (arith, g.count);
        items = ap (λ (n : ℕ). (locals ++ watch_local links number watcher schedule ∷ []) ++ watch_crew links n schedules watchers) next
            ∙ append_assoc locals (watch_local links number watcher schedule ∷ []) (watch_crew links (suc number) schedules watchers)
            ∙ g.items;
      }

  no_watcher : (rest : List W) → length rest ≡ 0 → rest ≡ []
  no_watcher [] h = refl
  no_watcher (w ∷ rest) h = absurd (omega (arith, h))

  pub all_seated : (number links : ℕ) (locals : List (Local W)) (schedules : List ScheduleState) (rest : List W) (whole : List (Local W)) → length rest ≡ 0 → WatchersLeft number links locals schedules rest whole → locals ≡ whole
  all_seated number links locals schedules rest whole nobody h =
      let none : rest ≡ [] = no_watcher rest nobody in
      let empty : schedules ≡ [] = none_left schedules (h.count ∙ nobody) in
      sym (append-nil locals) ∙ ap (λ (x : List ScheduleState × List W). locals ++ watch_crew links number x.0 x.1) (λ i. (sym empty i, sym none i)) ∙ h.items
