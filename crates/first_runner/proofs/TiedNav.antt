-- The Navigator's lines: the replies that it takes, each event, its meetings and waits.
use Rattle.std.proofs.Common.{◌≡◌, ◌≢◌, ◌⊎◌, inl, inr, ℕ, ◌-◌, ◌==◌, ◌&&◌, Bool, true, false, List, [], ◌∷◌, length, Option, Some, None, refl, sym, ap, ◌∙◌, subst, arith, zero, suc, get_or, set, replicate}
use Rattle.std.specs.Prelude.{slice_index_or, if◌then◌else◌}
use Rattle.std.specs.List.{All}
use Rattle.std.proofs.lemmas.Bool.{and_parts, eqb-true}
use Rattle.std.proofs.lemmas.Bool.Decides.{eqb_tells}
use Rattle.std.proofs.lemmas.List.Elements.{All-head, All-tail}
use Rattle.std.proofs.lemmas.Option.{same_Some}
use Rattle.first_model.specs.declared.plan.Item.{Item}
use Rattle.first_model.specs.declared.plan.PlanHead.{PlanHead}
use Rattle.first_model.specs.declared.plan.PlanType.{PlanType}
use Rattle.first_model.specs.declared.plan.PlanType.TheVariants.{Mission, Fence, Safe}
use Rattle.first_model.specs.declared.request.Client.TheVariants.{Nav}
use Rattle.first_model.specs.declared.request.Asked.{Asked}
use Rattle.first_model.specs.declared.request.Asked.TheVariants as about
use Rattle.first_model.specs.declared.request.Reply.{Reply}
use Rattle.first_model.specs.declared.request.Reply.TheVariants as reply
use Rattle.first_model.specs.declared.vehicle.Mode.{Mode}
use Rattle.first_model.specs.declared.flight_line.Line.TheVariants as line
use Rattle.first_board.specs.BoardCalls.{heard}
use Rattle.first_cache.specs.CacheState.{CacheState, in_window, same_kind, answered_at, known_with, kept, got}
use Rattle.first_vehicle.specs.PlanState.{PlanState}
use Rattle.first_vehicle.specs.VehicleState.{VehicleState}
use Rattle.first_core.specs.declared.StepOut.TheVariants.{Made}
use Rattle.first_core.specs.ScheduleState.{ScheduleState}
use Rattle.first_core.specs.SharedState.{SharedState, with_board, no_head}
use Rattle.first_core.specs.NavState.{NavState, met}
use Rattle.first_core.specs.NavLaw as law
use Rattle.first_core.specs.CoreState.{CoreState, CoreFits}
use Rattle.first_store.specs.StoreState as store
use Rattle.first_runner.specs.Tied.{PlanTied, KnownAt, ReplyFits, NavTied, LinkTied, Tied}
use Rattle.first_runner.proofs.TiedSteps.{Next, navigated}

-- the Navigator has moved: its mode, index and leg are the vehicle's
pub nav_moved : (v : VehicleState) (mode : Mode) (index : ℕ) (counts : List (ℕ × ℕ)) (at_leg : Bool) (st : store.StoreState) (c : CoreState) (s : SharedState) (n : NavState) → Tied v st c → s.board.link_posted ≡ c.shared.board.link_posted → s.board.published ≡ c.shared.board.published → s.ids ≡ c.shared.ids → All (ReplyFits v.mission) s.board.nav_posted → NavTied v.mission mode index at_leg n → Tied (record v { mode = mode; index = index; counts = counts; at_leg = at_leg }) st (navigated c s n)
nav_moved v mode index counts at_leg st c s n tied links published ids replies nav = record {
  service = tied.service;
  mission = subst (λ heads. PlanTied v.mission st.mission.plan (slice_index_or heads 0 no_head)) (sym published) tied.mission;
  fence = tied.fence ∙ sym (ap (λ heads. (slice_index_or heads 1 no_head).id) published);
  wanted = tied.wanted;
  replies = replies;
  nav = nav;
  unused = λ id above. tied.unused id (omega (arith, above, ap (λ xs. slice_index_or xs 0 0) ids));
  links = λ k d within. subst (λ xs. LinkTied v.mission.id v.drafts v.served st.mission.drafts (slice_index_or xs k []) (get_or c.links k d)) (sym links) (tied.links k d within);
}

-- only the Navigator's schedule moved
pub nav_schedule : (p : PlanState) (mode : Mode) (index : ℕ) (at_leg : Bool) (n : NavState) (schedule : ScheduleState) → NavTied p mode index at_leg n → NavTied p mode index at_leg (record n { schedule = schedule })
nav_schedule p mode index at_leg n schedule nav = record { mode_is = nav.mode_is; earlier = nav.earlier; cache = nav.cache; index_is = nav.index_is; leg_is = nav.leg_is; fresh = nav.fresh }

pub of_nav : (P : SharedState → NavState → Type 0) (s' s : SharedState) (n' n : NavState) → s' ≡ s → n' ≡ n → P s n → P s' n'
of_nav P s' s n' n es en h = subst (λ x. P x n') (sym es) (subst (P s) (sym en) h)

-- nothing of the vehicle moved
pub nav_still : (v : VehicleState) (st : store.StoreState) (c : CoreState) (s : SharedState) (schedule : ScheduleState) → Tied v st c → s.board ≡ c.shared.board → s.ids ≡ c.shared.ids → Tied v st (navigated c s (record c.nav { schedule = schedule }))
nav_still v st c s schedule tied board ids =
    nav_moved v v.mode v.index v.counts v.at_leg st c s (record c.nav { schedule = schedule }) tied (ap (λ b. b.link_posted) board) (ap (λ b. b.published) board) ids (subst (λ b. All (ReplyFits v.mission) b.nav_posted) (sym board) tied.replies) (nav_schedule v.mission v.mode v.index v.at_leg c.nav schedule tied.nav)

-- an item that is known after another became known
set_known : (xs : List (Option Item)) (i j : ℕ) (y z : Item) → get_or (set xs i (Some y)) j None ≡ Some z → ((i ≡ j) × (y ≡ z)) ⊎ (get_or xs j None ≡ Some z)
set_known [] i j y z h = inr h
set_known (x ∷ xs) zero zero y z h = inl (refl, same_Some y z h)
set_known (x ∷ xs) zero (suc j) y z h = inr h
set_known (x ∷ xs) (suc i) zero y z h = inr h
set_known (x ∷ xs) (suc i) (suc j) y z h = elim (set_known xs i j y z h) [ inl at ↦ inl (ap suc at.0, at.1) | inr was ↦ inr was ]

-- the Navigator with another cache of the same mission
with_cache : (p : PlanState) (mode : Mode) (index : ℕ) (at_leg : Bool) (n : NavState) (cache : CacheState) → NavTied p mode index at_leg n → cache.id ≡ n.cache.id → ((seq : ℕ) (item : Item) → slice_index_or cache.known seq None ≡ Some item → KnownAt p n.cache.id seq item) → NavTied p mode index at_leg (record n { cache = cache })
with_cache p mode index at_leg n cache nav same known = record {
  mode_is = nav.mode_is;
  earlier = omega (arith, nav.earlier, same);
  cache = λ seq item e. subst (λ id. KnownAt p id seq item) (sym same) (known seq item e);
  index_is = λ e. nav.index_is (sym same ∙ e);
  leg_is = λ e. nav.leg_is (sym same ∙ e);
  fresh = λ lt. nav.fresh (omega (arith, lt, same));
}

item_kept : (p : PlanState) (mode : Mode) (index : ℕ) (at_leg : Bool) (n : NavState) (id seq : ℕ) (item : Item) → NavTied p mode index at_leg n → n.cache.from ≡ 0 → id ≡ n.cache.id → KnownAt p id seq item → NavTied p mode index at_leg (record n { cache = known_with (answered_at n.cache seq) seq item })
item_kept p mode index at_leg n id seq item nav from same known =
    with_cache p mode index at_leg n (known_with (answered_at n.cache seq) seq item) nav refl (λ k other e. elim (set_known n.cache.known (seq - n.cache.from) k item other e) [
      | inl at ↦
          let place : seq ≡ k = omega (arith, at.0, from) in
          subst (λ i. KnownAt p n.cache.id i other) place (subst (λ x. KnownAt p n.cache.id seq x) at.1 (subst (λ i. KnownAt p i seq item) same known))
      | inr was ↦ nav.cache k other was
    ])

kept_if : (p : PlanState) (mode : Mode) (index : ℕ) (at_leg : Bool) (n : NavState) (id seq : ℕ) (item : Item) (inside : Bool) → NavTied p mode index at_leg n → n.cache.from ≡ 0 → id ≡ n.cache.id → KnownAt p id seq item → NavTied p mode index at_leg (record n { cache = if inside then known_with (answered_at n.cache seq) seq item else answered_at n.cache seq })
kept_if p mode index at_leg n id seq item true nav from same known = item_kept p mode index at_leg n id seq item nav from same known
kept_if p mode index at_leg n id seq item false nav from same known = with_cache p mode index at_leg n (answered_at n.cache seq) nav refl nav.cache

kept_by : (p : PlanState) (mode : Mode) (index : ℕ) (at_leg : Bool) (n : NavState) (id seq : ℕ) (given : Reply) → NavTied p mode index at_leg n → n.cache.from ≡ 0 → id ≡ n.cache.id → ReplyFits p (about.Read Mission id seq, given) → NavTied p mode index at_leg (record n { cache = kept n.cache seq given })
kept_by p mode index at_leg n id seq (reply.Item item) nav from same fits = kept_if p mode index at_leg n id seq item (in_window n.cache seq) nav from same fits
kept_by p mode index at_leg n id seq reply.Done nav from same fits = with_cache p mode index at_leg n (answered_at n.cache seq) nav refl nav.cache
kept_by p mode index at_leg n id seq (reply.Stale now) nav from same fits = with_cache p mode index at_leg n (answered_at n.cache seq) nav refl nav.cache
kept_by p mode index at_leg n id seq reply.DiskFailed nav from same fits = with_cache p mode index at_leg n (answered_at n.cache seq) nav refl nav.cache
kept_by p mode index at_leg n id seq reply.PowerOff nav from same fits = with_cache p mode index at_leg n (answered_at n.cache seq) nav refl nav.cache
kept_by p mode index at_leg n id seq (reply.Spent last) nav from same fits = with_cache p mode index at_leg n (answered_at n.cache seq) nav refl nav.cache

-- a reply to a read of the adopted mission is kept, and no other
same_mission : (kind : PlanType) → same_kind kind Mission ≡ true → kind ≡ Mission
same_mission Mission e = refl
same_mission Fence e = cc
same_mission Safe e = cc

got_if : (p : PlanState) (mode : Mode) (index : ℕ) (at_leg : Bool) (n : NavState) (kind : PlanType) (id seq : ℕ) (given : Reply) (own : Bool) → (same_kind kind n.cache.kind && id == n.cache.id) ≡ own → NavTied p mode index at_leg n → n.cache.from ≡ 0 → n.cache.kind ≡ Mission → ReplyFits p (about.Read kind id seq, given) → NavTied p mode index at_leg (record n { cache = if own then kept n.cache seq given else n.cache })
got_if p mode index at_leg n kind id seq given true own nav from mission fits =
    let parts = and_parts (same_kind kind n.cache.kind) (id == n.cache.id) own in
    let is : kind ≡ Mission = same_mission kind (subst (λ k. same_kind kind k ≡ true) mission parts.0) in
    kept_by p mode index at_leg n id seq given nav from (eqb-true id n.cache.id parts.1) (subst (λ k. ReplyFits p (about.Read k id seq, given)) is fits)
got_if p mode index at_leg n kind id seq given false own nav from mission fits = nav

got_tied : (p : PlanState) (mode : Mode) (index : ℕ) (at_leg : Bool) (n : NavState) (asked : Asked) (given : Reply) → NavTied p mode index at_leg n → n.cache.from ≡ 0 → n.cache.kind ≡ Mission → ReplyFits p (asked, given) → NavTied p mode index at_leg (record n { cache = got n.cache asked given })
got_tied p mode index at_leg n (about.Read kind id seq) given nav from mission fits = got_if p mode index at_leg n kind id seq given (same_kind kind n.cache.kind && id == n.cache.id) refl nav from mission fits
got_tied p mode index at_leg n (about.Write kind id seq) given nav from mission fits = nav
got_tied p mode index at_leg n (about.Commit kind id count) given nav from mission fits = nav
got_tied p mode index at_leg n (about.SetMark mark) given nav from mission fits = nav

-- a reply is taken
pub gets_next : (v : VehicleState) (st : store.StoreState) (c : CoreState) (asked : Asked) (given : Reply) (s' : SharedState) (n' : NavState) → CoreFits c → Tied v st c → law.Gets c.shared c.nav asked given s' n' → Next v (Made (line.Got asked given)) st (navigated c s' n')
gets_next v st c asked given s' n' fits tied gets =
    let rest : List (Asked × Reply) = s'.board.nav_posted in
    let next : SharedState = with_board c.shared (heard c.shared.board Nav rest) in
    let new : NavState = record c.nav { cache = got c.nav.cache asked given } in
    let all : All (ReplyFits v.mission) ((asked, given) ∷ rest) = subst (All (ReplyFits v.mission)) gets.first tied.replies in
    let fit : ReplyFits v.mission (asked, given) = All-head (ReplyFits v.mission) (asked, given) rest all in
    let nav : NavTied v.mission v.mode v.index v.at_leg new = got_tied v.mission v.mode v.index v.at_leg c.nav asked given tied.nav fits.nav.window fits.nav.kind fit in (
      v,
      refl,
      of_nav (λ s x. Tied v st (navigated c s x)) s' next n' new gets.shared gets.nav (nav_moved v v.mode v.index v.counts v.at_leg st c next new tied refl refl refl (All-tail (ReplyFits v.mission) (asked, given) rest all) nav),
    )

-- the Navigator has the mission in force, and is where the vehicle is
pub record InForce (p : PlanState) (mode : Mode) (index : ℕ) (at_leg : Bool) (n : NavState) : Type 0 where
  pub tied : NavTied p mode index at_leg n
  pub id : n.cache.id ≡ p.id
  pub count : n.cache.count ≡ length p.items
  pub from : n.cache.from ≡ 0

-- nothing is known of a mission that was just adopted
pub nothing_known : (k seq : ℕ) (item : Item) → get_or (replicate k (let none : Option Item = None in none)) seq None ≡ Some item → ⊥
nothing_known zero seq item h = cc
nothing_known (suc k) zero item h = cc
nothing_known (suc k) (suc seq) item h = nothing_known k seq item h

-- the Navigator after a head was met, where its id is the adopted one and where it is another
abbrev met_if : NavState → PlanHead → Bool → NavState
met_if n head same = if same then n else record n {
  cache = if same then n.cache else record { client = n.cache.client; kind = n.cache.kind; id = head.id; count = head.count; from = 0; known = replicate (length n.cache.known) None; in_flight = replicate (length n.cache.in_flight) false };
  index = 0;
  at_leg = false;
}

pub met_in_force : (p : PlanState) (mode : Mode) (index : ℕ) (at_leg : Bool) (n : NavState) (head : PlanHead) → NavTied p mode index at_leg n → head.id ≡ p.id → head.count ≡ length p.items → (n.cache.id ≡ head.id → n.cache.count ≡ head.count) → n.cache.from ≡ 0 → InForce p mode index at_leg (met n head)
met_in_force p mode index at_leg n head nav id count counts from = elim (eqb_tells n.cache.id head.id) [
  | inl same ↦ subst (λ b. InForce p mode index at_leg (met_if n head b)) (sym same.0) (record { tied = nav; id = same.1 ∙ id; count = counts same.1 ∙ count; from = from })
  | inr other ↦ subst (λ b. InForce p mode index at_leg (met_if n head b)) (sym other.0) (
      let fresh = nav.fresh (let apart : n.cache.id ≢ p.id = λ e. other.1 (e ∙ sym id) in omega (arith, apart, nav.earlier)) in
      record {
        tied = record {
          mode_is = nav.mode_is;
          earlier = omega (arith, id);
          cache = λ seq item e. absurd (nothing_known (length n.cache.known) seq item e);
          index_is = λ _. fresh.0;
          leg_is = λ _. fresh.1;
          fresh = λ lt. absurd (omega (arith, id, lt));
        };
        id = id;
        count = count;
        from = refl;
      }
      )
]
