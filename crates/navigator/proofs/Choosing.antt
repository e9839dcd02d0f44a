-- A return is chosen over what was taken; its targets are there, and each has an entry.
use Rattle.std.proofs.Common.{◌≡◌, ℕ, ℤ, ◌≤◌, ◌==◌, Bool, true, false, List, [], ◌∷◌, Option, Some, None, length, refl, sym, ap, subst, ◌∙◌, arith}
use Rattle.std.specs.Prelude.{if◌then◌else◌, slice_get}
use Rattle.std.proofs.lemmas.Bool.{eqb-true}
use Rattle.mission_model.specs.declared.plan.Home.{Home}
use Rattle.mission_model.specs.declared.plan.Item.{Item}
use Rattle.mission_model.specs.declared.plan.Params.{Params}
use Rattle.mission_model.specs.declared.plan.PlanType.{PlanType}
use Rattle.mission_model.specs.declared.plan.PlanType.TheVariants.{Mission, Fence, Safe}
use Rattle.mission_model.specs.declared.vehicle.Look.TheVariants.{Here, Pending}
use Rattle.mission_model.specs.declared.vehicle.NavWhat.{NavWhat}
use Rattle.mission_model.specs.declared.vehicle.NavWhat.TheVariants as what
use Rattle.mission_model.specs.Returns.{ReturnTarget, to_item, to_home, to_safe, ReturnList, is_return_leg, is_feasible, landing_where}
use Rattle.request_board.specs.BoardState.{BoardState}
use Rattle.client_cache.specs.CacheState.{count_of, known_at}
use Rattle.return_mode.specs.declared.plan.ReturnOut.TheVariants as out
use Rattle.return_mode.specs.ReturnState.{ReturnState, begun, seq_at, seq_of, shown_at_end, out_at, out_of}
use Rattle.return_mode.specs.There.{Places, AreThere}
use Rattle.return_mode.specs.Laws.{ReturnList-nearest, ReturnList-there}
use Rattle.navigator.specs.Taking.{PlanTaken, cache_past}
use Rattle.navigator.specs.Judging.{ShownTo, is_whole, lacking, or_else, first_lacking, mission_plan}
use Rattle.navigator.specs.NavState.{NavState, NavTaken, with_taken, HasShown, with_cache, with_own_cache, places, LeadsThere}
use Rattle.navigator.specs.OnMission.{standing, uses_of, found_at, looked_up}
use Rattle.navigator.specs.OnReturn.{choice_kept, ShowsIfFound, ShowsAt, ShowsPresent, HasEntry, return_lacking, return_chosen}

-- what is lacking of nothing is whole
whole_if : (kind : PlanType) (p : PlanTaken) (b : Bool) → is_whole p ≡ b → if◌then◌else◌ {A = Option (PlanType × ℕ)} b None (Some (kind, length p.taken)) ≡ None → is_whole p ≡ true
whole_if kind p true is h = is
whole_if kind p false is h = absurd cc

pub whole-lacking : (kind : PlanType) (p : PlanTaken) → lacking kind p ≡ None → length p.taken ≡ count_of p.cache.head
whole-lacking kind p h = eqb-true (length p.taken) (count_of p.cache.head) (whole_if kind p (is_whole p) refl h)

pub both-lacking : (a b : Option (PlanType × ℕ)) → or_else a b ≡ None → (a ≡ None) × (b ≡ None)
both-lacking None b h = (refl, h)
both-lacking (Some x) b h = absurd cc

-- there are more places the more items the mission has
AreThere-more : (home : Option Home) (points few many : ℕ) (targets : List ReturnTarget) → few ≤ many → AreThere (record { home = home; items = few; points = points }) targets → AreThere (record { home = home; items = many; points = points }) targets
AreThere-more home points few many [] more h = tt
AreThere-more home points few many (to_item seq ∷ rest) more h = (omega (arith, h.0, more), AreThere-more home points few many rest more h.1)
AreThere-more home points few many (to_home ∷ rest) more h = (h.0, AreThere-more home points few many rest more h.1)
AreThere-more home points few many (to_safe seq ∷ rest) more h = (h.0, AreThere-more home points few many rest more h.1)

-- the targets of type 0 are there whatever the mission is
there-nearest : (params : Params) (home : Option Home) (position : Option (ℤ × ℤ)) (points mission fence : List Item) (index items : ℕ) → params.rtl_type ≡ 0 → AreThere (record { home = home; items = items; points = length points }) (ReturnList params home position points mission fence index)
there-nearest params home position points mission fence index items type =
    let same : ReturnList params home position points [] fence 0 ≡ ReturnList params home position points mission fence index =
    sym (ReturnList-nearest params home position fence points [] 0 0 None false type) ∙ ReturnList-nearest params home position fence points mission index 0 None false type in
    subst (AreThere (record { home = home; items = items; points = length points })) same
    (AreThere-more home (length points) 0 items (ReturnList params home position points [] fence 0) (omega arith) (ReturnList-there params home position points [] fence 0 (λ _. omega arith)))

there_by : (n : NavState) (items : List Item) (b : Bool) → (n.params.rtl_type == 0) ≡ b → n.flight.legs.count ≡ count_of n.mission.cache.head → n.flight.legs.index ≤ n.flight.legs.count → (if b then or_else (lacking Fence n.fence) (lacking Safe n.safe) else first_lacking n.fence (mission_plan n.mission items)) ≡ None → AreThere (places n.home n.flight n.safe) (return_chosen (with_taken n items)).left
there_by n items true type count within need = there-nearest n.params n.home n.position n.safe.taken items n.fence.taken n.flight.legs.index n.flight.legs.count (eqb-true n.params.rtl_type 0 type)
there_by n items false type count within need =
    let none = both-lacking (lacking Fence n.fence) (lacking Mission (mission_plan n.mission items)) need in
    let whole : length items ≡ n.flight.legs.count = whole-lacking Mission (mission_plan n.mission items) none.1 ∙ sym count in
    subst (λ (k : ℕ). AreThere (record { home = n.home; items = k; points = length n.safe.taken }) (ReturnList n.params n.home n.position n.safe.taken items n.fence.taken n.flight.legs.index)) whole
    (ReturnList-there n.params n.home n.position n.safe.taken items n.fence.taken n.flight.legs.index (λ _. omega (arith, whole, within)))

pub chosen-there : (n : NavState) (items : List Item) → n.flight.legs.count ≡ count_of n.mission.cache.head → n.flight.legs.index ≤ n.flight.legs.count → return_lacking (with_taken n items) ≡ None → AreThere (places n.home n.flight n.safe) (return_chosen (with_taken n items)).left
chosen-there n items count within need = there_by n items (n.params.rtl_type == 0) refl count within need

-- the choice of the code is that return
fence_whole : (n : NavState) (items : List Item) (b : Bool) → (if b then or_else (lacking Fence n.fence) (lacking Safe n.safe) else first_lacking n.fence (mission_plan n.mission items)) ≡ None → length n.fence.taken ≡ count_of n.fence.cache.head
fence_whole n items true need = whole-lacking Fence n.fence (both-lacking (lacking Fence n.fence) (lacking Safe n.safe) need).0
fence_whole n items false need = whole-lacking Fence n.fence (both-lacking (lacking Fence n.fence) (lacking Mission (mission_plan n.mission items)) need).0

pub shown-whole : (n : NavState) (items : List Item) → HasShown n items → return_lacking (with_taken n items) ≡ None → ShownTo n.mission n.params n.home n.fence.taken items
shown-whole n items h need = h.fed.whole (fence_whole n items (n.params.rtl_type == 0) need)

chosen_by : (n : NavState) (items : List Item) (answer : ReturnState) (feasible : Bool) (landing : Option (ℕ × ℕ)) (b : Bool) → (n.params.rtl_type == 0) ≡ b → (if b then or_else (lacking Fence n.fence) (lacking Safe n.safe) else first_lacking n.fence (mission_plan n.mission items)) ≡ None
    → (length items ≡ count_of n.mission.cache.head → (feasible ≡ is_feasible n.params n.home items n.fence.taken) × (landing ≡ landing_where (is_feasible n.params n.home items n.fence.taken) items))
    → (n.params.rtl_type ≡ 0 → (mission : List Item) (seq : ℕ) → answer ≡ begun (ReturnList n.params n.home n.position n.safe.taken mission n.fence.taken seq))
    → ((mission : List Item) → feasible ≡ is_feasible n.params n.home mission n.fence.taken → landing ≡ landing_where feasible mission → answer ≡ begun (ReturnList n.params n.home n.position n.safe.taken mission n.fence.taken n.flight.legs.index))
    → answer ≡ return_chosen (with_taken n items)
chosen_by n items answer feasible landing true type need told nearest over = nearest (eqb-true n.params.rtl_type 0 type) items n.flight.legs.index
chosen_by n items answer feasible landing false type need told nearest over =
    let none = both-lacking (lacking Fence n.fence) (lacking Mission (mission_plan n.mission items)) need in
    let t = told (whole-lacking Mission (mission_plan n.mission items) none.1) in
    over items t.0 (t.1 ∙ ap (λ b. landing_where b items) (sym t.0))

pub chosen-is : (n : NavState) (items : List Item) (answer : ReturnState) (feasible : Bool) (landing : Option (ℕ × ℕ)) → return_lacking (with_taken n items) ≡ None
    → (length items ≡ count_of n.mission.cache.head → (feasible ≡ is_feasible n.params n.home items n.fence.taken) × (landing ≡ landing_where (is_feasible n.params n.home items n.fence.taken) items))
    → (n.params.rtl_type ≡ 0 → (mission : List Item) (seq : ℕ) → answer ≡ begun (ReturnList n.params n.home n.position n.safe.taken mission n.fence.taken seq))
    → ((mission : List Item) → feasible ≡ is_feasible n.params n.home mission n.fence.taken → landing ≡ landing_where feasible mission → answer ≡ begun (ReturnList n.params n.home n.position n.safe.taken mission n.fence.taken n.flight.legs.index))
    → answer ≡ return_chosen (with_taken n items)
chosen-is n items answer feasible landing need told nearest over = chosen_by n items answer feasible landing (n.params.rtl_type == 0) refl need told nearest over

-- a target that is no item of the mission has an entry
at_end : (there : Places) (is_none : Bool) → HasEntry there (shown_at_end is_none) None
at_end there true = tt
at_end there false = tt

entry_apart : (there : Places) (left : List ReturnTarget) (is_none : Bool) → AreThere there left → seq_at (slice_get left 0) ≡ None → HasEntry there (out_at is_none (slice_get left 0) Pending) None
entry_apart there [] is_none h is = at_end there is_none
entry_apart there (to_item seq ∷ rest) is_none h is = absurd cc
entry_apart there (to_home ∷ rest) is_none h is = h.0
entry_apart there (to_safe seq ∷ rest) is_none h is = h.0

pub HasEntry-apart : (there : Places) (r : ReturnState) → AreThere there r.left → None ≡ seq_of r → HasEntry there (out_of r Pending) None
HasEntry-apart there r h is = entry_apart there r.left r.is_none h (sym is)

-- and so has one that is an item that was found
leg_or_skip : (there : Places) (leg : Bool) (seq : ℕ) (item : Item) → HasEntry there (if leg then out.Leg seq else out.Skip seq) (Some item)
leg_or_skip there true seq item = refl
leg_or_skip there false seq item = tt

entry_found : (there : Places) (left : List ReturnTarget) (is_none : Bool) (item : Item) (seq : ℕ) → seq_at (slice_get left 0) ≡ Some seq → HasEntry there (out_at is_none (slice_get left 0) (Here item)) (Some item)
entry_found there [] is_none item seq is = absurd cc
entry_found there (to_item first ∷ rest) is_none item seq is = leg_or_skip there (is_return_leg item) first item
entry_found there (to_home ∷ rest) is_none item seq is = absurd cc
entry_found there (to_safe first ∷ rest) is_none item seq is = absurd cc

pub HasEntry-found : (there : Places) (r : ReturnState) (item : Item) (seq : ℕ) → Some seq ≡ seq_of r → HasEntry there (out_of r (Here item)) (Some item)
HasEntry-found there r item seq is = entry_found there r.left r.is_none item seq (sym is)

-- a target that is an item of the mission is shown by what the look for it found
pub ShowsPresent-found : (n n1 : NavState) (items : List Item) (b : BoardState) (o : Option Item) (given : NavWhat) (v' : NavTaken) (b' : BoardState) (seq : ℕ) (r r' : ReturnState) → Some seq ≡ seq_of r → o ≡ standing (uses_of n.flight) (count_of n.mission.cache.head) seq (known_at n.mission.cache seq) → n1 ≡ with_own_cache Mission (cache_past n.mission.cache seq o) n → ShowsIfFound o seq r (with_taken n1 items) b given v' b' r' → ShowsPresent r (with_taken n items) b given v' b' r'
ShowsPresent-found n n1 items b o given v' b' seq r r' at is leaves shows =
    let left : with_taken n1 items ≡ with_cache Mission (cache_past n.mission.cache seq o) (with_taken n items) = ap (λ (m : NavState). with_taken m items) leaves in
    let now : ShowsIfFound o seq r (with_cache Mission (cache_past n.mission.cache seq o) (with_taken n items)) b given v' b' r' = subst (λ (v : NavTaken). ShowsIfFound o seq r v b given v' b' r') left shows in
    let inner : ShowsIfFound (found_at (with_taken n items) seq) seq r (looked_up (with_taken n items) seq) b given v' b' r' = subst (λ (x : Option Item). ShowsIfFound x seq r (with_cache Mission (cache_past n.mission.cache seq x) (with_taken n items)) b given v' b' r') is now in
    subst (λ (x : Option ℕ). ShowsAt x r (with_taken n items) b given v' b' r') at inner

-- a choice that is kept leads where its targets are there
pub LeadsThere-kept : (there : Places) (given : NavWhat) (r : ReturnState) → AreThere there r.left → LeadsThere there (choice_kept given r)
LeadsThere-kept there (what.Pending kind seq) r h = tt
LeadsThere-kept there (what.Leg a b d e) r h = h
LeadsThere-kept there (what.Action a b d e) r h = h
LeadsThere-kept there (what.Jump a b d e f) r h = h
LeadsThere-kept there (what.JumpSpent a b d) r h = h
LeadsThere-kept there (what.Done a b) r h = h
LeadsThere-kept there (what.Hold a b d e) r h = h
LeadsThere-kept there what.HoldEmpty r h = h
LeadsThere-kept there what.Idle r h = h
LeadsThere-kept there what.Taken r h = h
LeadsThere-kept there (what.Next a) r h = h
LeadsThere-kept there what.NextReturn r h = h
LeadsThere-kept there what.Ignored r h = h
LeadsThere-kept there (what.ReturnLeg a b d e) r h = h
LeadsThere-kept there (what.ReturnSkip a b d) r h = h
LeadsThere-kept there (what.ReturnHome a) r h = h
LeadsThere-kept there (what.ReturnSafe a b d e) r h = h
LeadsThere-kept there what.ReturnNone r h = h
LeadsThere-kept there what.ReturnDone r h = h
