-- Runs, one behind another, are one, and each beginning of a run is one as far as it came.
use Rattle.std.proofs.Common.{◌≡◌, ◌⊎◌, inl, inr, List, [], ◌∷◌, ◌++◌, refl, sym, subst, ap, ◌∙◌, append_assoc, append-nil}
use Rattle.mission_model.specs.declared.flight_line.Line.{Line}
use Rattle.mission_model.specs.declared.flight_line.Line.TheVariants as line
use Rattle.mission_model.specs.declared.schedule.BootScript.{BootScript}
use Rattle.request_board.specs.WatchLaw.{WatchRules}
use Rattle.vehicle_core.specs.Told.{BootTold, begun}
use Rattle.vehicle_core.specs.CoreRun.{LineStep, Leads, BootCut, BootUp, BootEnded, Ended, Part, CoreRun, CoreSoFar}

-- where a list is cut in two places, one of them is not behind the other
pub cut_twice : {X : Type 0} (a b c d : List X) → a ++ b ≡ c ++ d → ((e : List X) × (c ≡ a ++ e) × (b ≡ e ++ d)) ⊎ ((e : List X) × (a ≡ c ++ e) × (d ≡ e ++ b))
cut_twice [] b c d h = inl (c, refl, h)
cut_twice (x ∷ a) b [] d h = inr (x ∷ a, refl, sym h)
cut_twice (x ∷ a) b (y ∷ c) d h =
    let head : x ≡ y = cc in
    elim (cut_twice a b c d cc) [
      | inl first ↦ inl (first.0, ap (λ z. z ∷ c) (sym head) ∙ ap (λ l. x ∷ l) first.1, first.2)
      | inr second ↦ inr (second.0, ap (λ z. z ∷ a) head ∙ ap (λ l. y ∷ l) second.1, second.2)
    ]

-- a list with another in front of it is empty only where both are
pub both_empty : {X : Type 0} (a b : List X) → a ++ b ≡ [] → (a ≡ []) × (b ≡ [])
both_empty [] b h = (refl, h)
both_empty (x ∷ a) b h = absurd cc

module _ {W : Type 0} where
  -- a whole run is a run so far
  pub whole_so_far : (rules : WatchRules W) (boots : List BootScript) (others : List (List W)) (lines : List Line) → CoreRun rules boots others lines → CoreSoFar rules boots others lines
  whole_so_far rules [] [] lines run = run
  whole_so_far rules [] (own ∷ others) lines run = elim run [ ]
  whole_so_far rules (boot ∷ boots) [] lines run = elim run [ ]
  whole_so_far rules (boot ∷ boots) (own ∷ others) lines run = inr (inr (run.0, run.1, run.2, run.3, whole_so_far rules boots others run.1 run.4))

  -- a run behind a whole run is a whole run of all boots
  pub runs_append : (rules : WatchRules W) (boots : List BootScript) (others : List (List W)) (first : List Line) (more : List BootScript) (watchers : List (List W)) (second : List Line) → CoreRun rules boots others first → CoreRun rules more watchers second → CoreRun rules (boots ++ more) (others ++ watchers) (first ++ second)
  runs_append rules [] [] first more watchers second one two = subst (λ (lines : List Line). CoreRun rules more watchers (lines ++ second)) (sym one) two
  runs_append rules [] (own ∷ others) first more watchers second one two = elim one [ ]
  runs_append rules (boot ∷ boots) [] first more watchers second one two = elim one [ ]
  runs_append rules (boot ∷ boots) (own ∷ others) first more watchers second one two =
      (one.0, one.1 ++ second, ap (λ (lines : List Line). lines ++ second) one.2 ∙ append_assoc one.0 one.1 second, one.3, runs_append rules boots others one.1 more watchers second one.4 two)

  -- and a run so far behind it is a run so far
  pub so_far_append : (rules : WatchRules W) (boots : List BootScript) (others : List (List W)) (first : List Line) (more : List BootScript) (watchers : List (List W)) (second : List Line) → CoreRun rules boots others first → CoreSoFar rules more watchers second → CoreSoFar rules (boots ++ more) (others ++ watchers) (first ++ second)
  so_far_append rules [] [] first more watchers second one two = subst (λ (lines : List Line). CoreSoFar rules more watchers (lines ++ second)) (sym one) two
  so_far_append rules [] (own ∷ others) first more watchers second one two = elim one [ ]
  so_far_append rules (boot ∷ boots) [] first more watchers second one two = elim one [ ]
  so_far_append rules (boot ∷ boots) (own ∷ others) first more watchers second one two =
      inr (inr (one.0, one.1 ++ second, ap (λ (lines : List Line). lines ++ second) one.2 ∙ append_assoc one.0 one.1 second, one.3, so_far_append rules boots others one.1 more watchers second one.4 two))

  -- the empty record is a run so far
  pub nothing_so_far : (rules : WatchRules W) (boots : List BootScript) (others : List (List W)) → CoreSoFar rules boots others []
  nothing_so_far rules [] [] = refl
  nothing_so_far rules [] (own ∷ others) = refl
  nothing_so_far rules (boot ∷ boots) [] = refl
  nothing_so_far rules (boot ∷ boots) (own ∷ others) = inl refl

  -- lines that lead on do so up to each place and from there
  pub leads_cut : (rules : WatchRules W) (t t' : BootTold W) (first second : List Line) → Leads rules t (first ++ second) t' → (mid : BootTold W) × Leads rules t first mid × Leads rules mid second t'
  leads_cut rules t t' [] second run = (t, refl, run)
  leads_cut rules t t' (made ∷ first) second run =
      let rest = leads_cut rules run.0 t' first second run.2 in
      (rest.0, (run.0, run.1, rest.1), rest.2)

  -- a beginning of a boot that is up
  pub up_begins : (rules : WatchRules W) (boot : BootScript) (own : List W) (first second : List Line) → BootUp rules boot own (first ++ second) → (first ≡ []) ⊎ BootUp rules boot own first
  up_begins rules boot own [] second up = inl refl
  up_begins rules boot own (made ∷ first) second up =
      let is : made ∷ first ++ second ≡ line.Boot up.number up.state.heads up.state.mark ∷ up.made = up.lines_are in
      let tail : up.made ≡ first ++ second = cc in
      let cut = leads_cut rules (begun boot up.state own) up.told first second (subst (λ (lines : List Line). Leads rules (begun boot up.state own) lines up.told) tail up.leads) in
      let head : made ≡ line.Boot up.number up.state.heads up.state.mark = cc in
      inr (record { number = up.number; state = up.state; made = first; told = cut.0; lines_are = ap (λ (l : Line). l ∷ first) head; state_fits = up.state_fits; leads = cut.1 })

  -- nothing stands behind an ending line
  pub ended_last : (t : BootTold W) (made next : Line) (lines : List Line) → Ended t (made ∷ next ∷ lines) → ⊥
  ended_last t line.End next lines h = h
  ended_last t line.Stuck next lines h = h
  ended_last t other next lines h = h

  ended_begins : (rules : WatchRules W) (boot : BootScript) (own : List W) (front first second : List Line) (up : BootUp rules boot own front) → Ended up.told (first ++ second) → BootUp rules boot own (front ++ first) ⊎ Part rules boot own (front ++ first)
  ended_begins rules boot own front [] second up ended = inl (subst (λ (lines : List Line). BootUp rules boot own lines) (sym (append-nil front)) up)
  ended_begins rules boot own front (made ∷ []) [] up ended = inr (inr (record { front = front; ending = made ∷ []; up = up; ended = ended; lines_are = refl }))
  ended_begins rules boot own front (made ∷ []) (next ∷ second) up ended = absurd (ended_last up.told made next second ended)
  ended_begins rules boot own front (made ∷ next ∷ first) second up ended = absurd (ended_last up.told made next (first ++ second) ended)

  cut_begins : (rules : WatchRules W) (boot : BootScript) (own : List W) (first second : List Line) → BootCut (first ++ second) → (first ≡ []) ⊎ (BootUp rules boot own first ⊎ Part rules boot own first)
  cut_begins rules boot own [] second is = inl refl
  cut_begins rules boot own (made ∷ first) second is =
      let whole : made ∷ first ++ second ≡ line.BootCut is.number ∷ [] = is.lines_are in
      let tail : first ++ second ≡ [] = cc in
      let head : made ≡ line.BootCut is.number = cc in
      let none : first ≡ [] = (both_empty first second tail).0 in
      inr (inr (inl (record { number = is.number; lines_are = ap (λ (l : Line). l ∷ first) head ∙ ap (λ (ls : List Line). line.BootCut is.number ∷ ls) none })))

  -- a beginning of a part is nothing, or it is up, or the whole part
  pub part_begins : (rules : WatchRules W) (boot : BootScript) (own : List W) (first second : List Line) → Part rules boot own (first ++ second) → (first ≡ []) ⊎ (BootUp rules boot own first ⊎ Part rules boot own first)
  part_begins rules boot own first second (inl cut) = cut_begins rules boot own first second cut
  part_begins rules boot own first second (inr whole) = elim (cut_twice first second whole.front whole.ending whole.lines_are) [
    | inl e ↦ elim (up_begins rules boot own first e.0 (subst (λ (lines : List Line). BootUp rules boot own lines) e.1 whole.up)) [ inl none ↦ inl none | inr up ↦ inr (inl up) ]
    | inr e ↦ inr (subst (λ (lines : List Line). BootUp rules boot own lines ⊎ Part rules boot own lines) (sym e.1) (ended_begins rules boot own whole.front e.0 second whole.up (subst (λ (lines : List Line). Ended whole.up.told lines) e.2 whole.ended)))
  ]

  -- a beginning of a run so far is one
  pub so_far_begins : (rules : WatchRules W) (boots : List BootScript) (others : List (List W)) (first second : List Line) → CoreSoFar rules boots others (first ++ second) → CoreSoFar rules boots others first
  so_far_begins rules [] [] first second run = (both_empty first second run).0
  so_far_begins rules [] (own ∷ others) first second run = (both_empty first second run).0
  so_far_begins rules (boot ∷ boots) [] first second run = (both_empty first second run).0
  so_far_begins rules (boot ∷ boots) (own ∷ others) first second (inl none) = inl (both_empty first second none).0
  so_far_begins rules (boot ∷ boots) (own ∷ others) first second (inr (inl up)) = elim (up_begins rules boot own first second up) [ inl none ↦ inl none | inr begins ↦ inr (inl begins) ]
  so_far_begins rules (boot ∷ boots) (own ∷ others) first second (inr (inr run)) = elim (cut_twice first second run.0 run.1 run.2) [
    | inl e ↦ elim (part_begins rules boot own first e.0 (subst (λ (lines : List Line). Part rules boot own lines) e.1 run.3)) [
      | inl none ↦ inl none
      | inr (inl up) ↦ inr (inl up)
      | inr (inr part) ↦ inr (inr (first, [], sym (append-nil first), part, nothing_so_far rules boots others))
    ]
    | inr e ↦ inr (inr (run.0, e.0, e.1, run.3, so_far_begins rules boots others e.0 second (subst (λ (lines : List Line). CoreSoFar rules boots others lines) e.2 run.4)))
  ]
