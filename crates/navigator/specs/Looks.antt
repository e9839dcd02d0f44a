-- What a look of the Navigator asks, told over the whole decision: reads of one plan, of seqs that it has. All else leaves
-- the adopted plans and the marks.
use Rattle.std.proofs.Common.{◌≡◌, ℕ, ℤ, zero, suc, ◌+◌, ◌-◌, ◌<◌, ◌≤◌, ◌==◌, ◌&&◌, Bool, true, false, List, [], ◌∷◌, ◌++◌, length, Option, Some, None, is_some, refl, sym, ap, subst, ◌∙◌, arith, append-nil}
use Rattle.std.specs.Prelude.{min, nat_lt, if◌then◌else◌}
use Rattle.std.specs.List.{All}
use Rattle.std.proofs.lemmas.Bool.Decides.{nat_tests}
use Rattle.std.proofs.lemmas.List.Elements.{All-nil, All-cons, All-append, All-take}
use Rattle.std.proofs.Math.Nat.{min-le_left}
use Rattle.mission_model.specs.declared.plan.Item.{Item}
use Rattle.mission_model.specs.declared.plan.PlanHead.{PlanHead}
use Rattle.mission_model.specs.declared.plan.PlanType.{PlanType}
use Rattle.mission_model.specs.declared.plan.PlanType.TheVariants.{Mission, Fence, Safe}
use Rattle.mission_model.specs.declared.request.Client.{Client}
use Rattle.mission_model.specs.declared.request.Client.TheVariants.{Nav}
use Rattle.mission_model.specs.declared.request.Request.{Request}
use Rattle.mission_model.specs.declared.vehicle.Mode.{Mode}
use Rattle.mission_model.specs.declared.vehicle.Mode.TheVariants as mode
use Rattle.mission_model.specs.declared.vehicle.NavWhat.{NavWhat}
use Rattle.mission_model.specs.declared.vehicle.VehicleLine.{VehicleLine}
use Rattle.mission_model.specs.declared.vehicle.VehicleLine.TheVariants as event
use Rattle.mission_model.specs.Feasible.{FirstBroken}
use Rattle.request_board.specs.BoardState.{BoardState}
use Rattle.client_cache.specs.CacheState.{CacheState, forgotten, id_of, count_of, known_at, in_window, window_end}
use Rattle.client_cache.specs.Wants.{missing, missing_at, wanted, looked, reads, flying, Asks}
use Rattle.leg_machine.specs.MachineState.{MachineState, after_reached}
use Rattle.return_mode.specs.ReturnState.{ReturnState, seq_of}
use Rattle.return_mode.specs.ReturnState as back
use Rattle.client_cache.specs.History.{CacheEvent, Looks, Aims, Forgets, CacheCall, Brings}
use Rattle.client_cache.specs.Knowing.{Knows, view_of, knows_after}
use Rattle.client_cache.specs.Moves.{moved}
use Rattle.navigator.specs.Begins.{Begins, whole_taking-begins}
use Rattle.navigator.specs.Caches.{SamePlan, SamePlan-forgotten}
use Rattle.navigator.specs.Uses.{JumpUses}
use Rattle.navigator.specs.Taking.{PlanTaken, taking, whole_taking, cache_behind, cache_past}
use Rattle.navigator.specs.Judging.{no_uses, is_whole, mission_behind, first_lacking}
use Rattle.navigator.specs.Standing.{MarksState}
use Rattle.navigator.specs.NavState.{NavTaken, cache_of, with_cache}
use Rattle.navigator.specs.OnMission.{WaitsFor, IfFound, UnlessDone, ByVerdict, IfLacking, UnlessEmpty, plans_taken, found_at, looked_up, mission_count, uses_of, mode_after}
use Rattle.navigator.specs.OnReturn.{ShowsIfFound, ShowsAt, points_behind, points_taken, return_taken, return_lacking, return_chosen, choice_kept, GoesAlong, SetsOut, IfReturnLacking, ByChoice}
use Rattle.navigator.specs.EventLaw.{LooksBy, ReachesOn, ReachesBack, Reaches, ActsOn, mode_taken}
use Rattle.navigator.specs.Asking.{OwnWindows}

-- Which seqs a look asks.

one_missing : (b : Bool) (seq n : ℕ) → seq < n → All (λ s. s < n) (if b then [] else seq ∷ [])
one_missing true seq n lt = All-nil (λ (s : ℕ). s < n)
one_missing false seq n lt = All-cons (λ (s : ℕ). s < n) seq [] lt (All-nil (λ (s : ℕ). s < n))

All-later : (n m : ℕ) (seqs : List ℕ) → n ≤ m → All (λ s. s < n) seqs → All (λ s. s < m) seqs
All-later n m seqs le h k d lt = omega (arith, le, h k d lt)

missing-below : (c : CacheState) (seq n : ℕ) → All (λ s. s < seq + n) (missing c seq n)
missing-below c seq zero = All-nil (λ (s : ℕ). s < seq + 0)
missing-below c seq (suc n) =
    All-append (λ s. s < seq + suc n) (missing c seq n) (missing_at c (seq + n))
    (All-later (seq + n) (seq + suc n) (missing c seq n) (omega arith) (missing-below c seq n))
    (one_missing _ (seq + n) (seq + suc n) (omega arith))

below_count : (count end seq : ℕ) → seq < count → seq + (min count end - seq) ≤ count
below_count count end seq lt = omega (arith, lt, min-le_left count end)

looked_if : (b : Bool) (c : CacheState) (b' : BoardState) (seq : ℕ) → (b ≡ true → seq < count_of c.head) → All (λ s. s < count_of c.head) (if b then wanted c b' seq else [])
looked_if true c b' seq lt =
    let n : ℕ = min (count_of c.head) (window_end c) - seq in
    All-take (λ s. s < count_of c.head) _ (missing c seq n) (All-later (seq + n) (count_of c.head) (missing c seq n) (below_count (count_of c.head) (window_end c) seq (lt refl)) (missing-below c seq n))
looked_if false c b' seq lt = All-nil (λ (s : ℕ). s < count_of c.head)

first_true : (a b : Bool) → (a && b) ≡ true → a ≡ true
first_true true b h = refl
first_true false b h = absurd cc

lt_true : (a b : ℕ) → nat_lt a b ≡ true → a < b
lt_true a b h = grind (arith, nat_tests, h)

-- only items that the plan has
pub looked-has : (c : CacheState) (b : BoardState) (seq : ℕ) → All (λ s. s < count_of c.head) (looked c b seq)
looked-has c b seq = looked_if (nat_lt seq (count_of c.head) && in_window c seq) c b seq (λ h. lt_true seq (count_of c.head) (first_true (nat_lt seq (count_of c.head)) (in_window c seq) h))

-- What leaves the adopted plans and the marks.

-- a plan is of the same head, and nothing was taken of it or is known of it but what it brings: where what is known is of one
-- plan, that stays so, and what was taken stays a beginning of it
pub record KeepsPlan (p p' : PlanTaken) : Type 0 where
  pub same : SamePlan p.cache p'.cache
  pub knows : (plan : List Item) → Knows p.cache plan → Knows p'.cache plan
  pub begins : (plan : List Item) → Knows p.cache plan → Begins p.taken plan → Begins p'.taken plan

-- so it is with all three plans, and the marks are the same
pub record KeepsPlans (v v' : NavTaken) : Type 0 where
  pub mission : KeepsPlan v.mission v'.mission
  pub fence : KeepsPlan v.fence v'.fence
  pub safe : KeepsPlan v.safe v'.safe
  pub marks : v'.flight.marks ≡ v.flight.marks

pub keeps_same : (v v' : NavTaken) → KeepsPlans v v' → (kind : PlanType) → SamePlan (cache_of kind v) (cache_of kind v')
keeps_same v v' h Mission = h.mission.same
keeps_same v v' h Fence = h.fence.same
keeps_same v v' h Safe = h.safe.same

same_itself : (c : CacheState) → SamePlan c c
same_itself c = record { client = refl; kind = refl; head = refl }

pub keeps_plan : (p : PlanTaken) → KeepsPlan p p
keeps_plan p = record { same = same_itself p.cache; knows = λ plan h. h; begins = λ plan h b. b }

plan_trans : (p q r : PlanTaken) → KeepsPlan p q → KeepsPlan q r → KeepsPlan p r
plan_trans p q r h k = record {
  same = record { client = k.same.client ∙ h.same.client; kind = k.same.kind ∙ h.same.kind; head = k.same.head ∙ h.same.head };
  knows = λ plan n. k.knows plan (h.knows plan n);
  begins = λ plan n b. k.begins plan (h.knows plan n) (h.begins plan n b);
}

pub keeps_itself : (v : NavTaken) → KeepsPlans v v
keeps_itself v = record { mission = keeps_plan v.mission; fence = keeps_plan v.fence; safe = keeps_plan v.safe; marks = refl }

pub keeps_trans : (u v w : NavTaken) → KeepsPlans u v → KeepsPlans v w → KeepsPlans u w
keeps_trans u v w h k = record {
  mission = plan_trans u.mission v.mission w.mission h.mission k.mission;
  fence = plan_trans u.fence v.fence w.fence h.fence k.fence;
  safe = plan_trans u.safe v.safe w.safe h.safe k.safe;
  marks = k.marks ∙ h.marks;
}

-- another cache of the same plan
pub record KeepsCache (c c' : CacheState) : Type 0 where
  pub same : SamePlan c c'
  pub knows : (plan : List Item) → Knows c plan → Knows c' plan

cache_itself : (c : CacheState) → KeepsCache c c
cache_itself c = record { same = same_itself c; knows = λ plan h. h }

-- a call on the cache that brings nothing
quiet : (c c' : CacheState) (event : CacheEvent) → SamePlan c c' → CacheCall c event c' → ((seq : ℕ) (item : Item) → Brings c.kind (view_of c) seq item event → ⊥) → KeepsCache c c'
quiet c c' event same call none = record { same = same; knows = λ plan. knows_after event c c' plan call (λ seq item brings. absurd (none seq item brings)) }

forgotten_quiet : (c : CacheState) (seq : ℕ) → KeepsCache c (forgotten c seq)
forgotten_quiet c seq = quiet c (forgotten c seq) (Forgets seq) (SamePlan-forgotten c seq) refl (λ s item none. none)

cache_if : (b : Bool) (c d e : CacheState) → KeepsCache c d → KeepsCache c e → KeepsCache c (if b then d else e)
cache_if true c d e h k = h
cache_if false c d e h k = k

behind_quiet : (c : CacheState) (seq : ℕ) → KeepsCache c (cache_behind c seq)
behind_quiet c seq = cache_if (nat_lt seq (count_of c.head) && is_some (known_at c seq)) c (forgotten c seq) c (forgotten_quiet c seq) (cache_itself c)

past_quiet : (c : CacheState) (seq : ℕ) (o : Option Item) → KeepsCache c (cache_past c seq o)
past_quiet c seq (Some item) = cache_itself c
past_quiet c seq None = cache_if (is_some (known_at c seq)) c (forgotten c seq) c (forgotten_quiet c seq) (cache_itself c)

flying_quiet : (c c' : CacheState) (seqs : List ℕ) → c' ≡ flying c seqs → KeepsCache c c'
flying_quiet c c' seqs is = subst (KeepsCache c) (sym is) (quiet c (flying c seqs) (Looks seqs) (record { client = refl; kind = refl; head = refl }) refl (λ s item none. none))

pub moved_quiet : (c : CacheState) (seq : ℕ) → KeepsCache c (moved c seq (length c.known))
moved_quiet c seq = quiet c (moved c seq (length c.known)) (Aims seq) (record { client = refl; kind = refl; head = refl }) refl (λ s item none. none)

plan_cache : (p : PlanTaken) (c : CacheState) → KeepsCache p.cache c → KeepsPlan p (record p { cache = c })
plan_cache p c h = record { same = h.same; knows = h.knows; begins = λ plan n b. b }

pub keeps_with : (kind : PlanType) (c : CacheState) (v : NavTaken) → KeepsCache (cache_of kind v) c → KeepsPlans v (with_cache kind c v)
keeps_with Mission c v h = record { mission = plan_cache v.mission c h; fence = keeps_plan v.fence; safe = keeps_plan v.safe; marks = refl }
keeps_with Fence c v h = record { mission = keeps_plan v.mission; fence = plan_cache v.fence c h; safe = keeps_plan v.safe; marks = refl }
keeps_with Safe c v h = record { mission = keeps_plan v.mission; fence = keeps_plan v.fence; safe = plan_cache v.safe c h; marks = refl }

-- a plan is taken on
plan_taking : (uses : JumpUses) (p : PlanTaken) → KeepsPlan p (taking uses p)
plan_taking uses p =
    let behind : KeepsCache p.cache (cache_behind p.cache (length (whole_taking p.kind uses p.cache p.taken))) = behind_quiet p.cache (length (whole_taking p.kind uses p.cache p.taken)) in
    record { same = behind.same; knows = behind.knows; begins = λ plan n b. whole_taking-begins p.kind uses p.cache p.taken plan n b }

mission_taking : (b : Bool) (uses : JumpUses) (p : PlanTaken) → KeepsPlan p (mission_behind b uses p)
mission_taking true uses p = plan_taking uses p
mission_taking false uses p = keeps_plan p

points_taking : (b : Bool) (p : PlanTaken) → KeepsPlan p (points_behind b p)
points_taking true p = plan_taking no_uses p
points_taking false p = keeps_plan p

pub keeps_taking : (v : NavTaken) → KeepsPlans v (plans_taken v)
keeps_taking v = record { mission = mission_taking (is_whole (taking no_uses v.fence)) (uses_of v.flight) v.mission; fence = plan_taking no_uses v.fence; safe = keeps_plan v.safe; marks = refl }

pub keeps_points : (v : NavTaken) → KeepsPlans v (points_taken v)
keeps_points v = record { mission = keeps_plan v.mission; fence = plan_taking no_uses v.fence; safe = points_taking (is_whole (taking no_uses v.fence)) v.safe; marks = refl }

keeps_if : (b : Bool) (v u w : NavTaken) → KeepsPlans v u → KeepsPlans v w → KeepsPlans v (if b then u else w)
keeps_if true v u w h k = h
keeps_if false v u w h k = k

pub keeps_return : (v : NavTaken) → KeepsPlans v (return_taken v)
keeps_return v = keeps_if (v.params.rtl_type == 0) v (points_taken v) (plans_taken v) (keeps_points v) (keeps_taking v)

pub keeps_looked_up : (v : NavTaken) (seq : ℕ) → KeepsPlans v (looked_up v seq)
keeps_looked_up v seq = keeps_with Mission (cache_past v.mission.cache seq (found_at v seq)) v (past_quiet v.mission.cache seq (found_at v seq))

pub keeps_windows : (v v' : NavTaken) → KeepsPlans v v' → OwnWindows v → OwnWindows v'
keeps_windows v v' keeps own = record { client = λ k. (keeps_same v v' keeps k).client ∙ own.client k; kind = λ k. (keeps_same v v' keeps k).kind ∙ own.kind k }

-- other marks
pub own_marks : (v : NavTaken) (m : MarksState) → OwnWindows v → OwnWindows (record v { flight = record v.flight { marks = m } })
own_marks v m own = record { client = client; kind = kind }
  where
    client : (k : PlanType) → (cache_of k (record v { flight = record v.flight { marks = m } })).client ≡ Nav
    client Mission = own.client Mission
    client Fence = own.client Fence
    client Safe = own.client Safe

    kind : (k : PlanType) → (cache_of k (record v { flight = record v.flight { marks = m } })).kind ≡ k
    kind Mission = own.kind Mission
    kind Fence = own.kind Fence
    kind Safe = own.kind Safe

-- What is asked.

-- reads of items of one adopted plan are asked, and nothing else; the plans and the marks stay
pub record AsksReads (v : NavTaken) (b : BoardState) (v' : NavTaken) (b' : BoardState) : Type 0 where
  pub kind : PlanType
  pub seqs : List ℕ
  pub board : b' ≡ record b { waiting = b.waiting ++ reads Nav kind (id_of (cache_of kind v).head) seqs }
  pub has : All (λ seq. seq < count_of (cache_of kind v).head) seqs
  pub keeps : KeepsPlans v v'

none_asked : (v v' : NavTaken) (b b' : BoardState) → b' ≡ b → KeepsPlans v v' → AsksReads v b v' b'
none_asked v v' b b' same keeps = record {
  kind = Mission;
  seqs = [];
  board = same ∙ ap (λ (w : List (Client × Request)). record b { waiting = w }) (sym (append-nil b.waiting));
  has = All-nil (λ (seq : ℕ). seq < count_of v.mission.cache.head);
  keeps = keeps;
}

-- before and behind what leaves the plans
asks_after : (v u v' : NavTaken) (b b' : BoardState) → KeepsPlans v u → AsksReads u b v' b' → AsksReads v b v' b'
asks_after v u v' b b' keeps a = record {
  kind = a.kind;
  seqs = a.seqs;
  board = a.board ∙ ap (λ (h : Option PlanHead). record b { waiting = b.waiting ++ reads Nav a.kind (id_of h) a.seqs }) (keeps_same v u keeps a.kind).head;
  has = subst (λ (h : Option PlanHead). All (λ seq. seq < count_of h) a.seqs) (keeps_same v u keeps a.kind).head a.has;
  keeps = keeps_trans v u v' keeps a.keeps;
}

asks_before : (v u v' : NavTaken) (b b' : BoardState) → AsksReads v b u b' → KeepsPlans u v' → AsksReads v b v' b'
asks_before v u v' b b' a keeps = record { kind = a.kind; seqs = a.seqs; board = a.board; has = a.has; keeps = keeps_trans v u v' a.keeps keeps }

-- a look at an item of the plan of a type
look_asks : (kind : PlanType) (seq : ℕ) (v u v' : NavTaken) (b b' : BoardState) → OwnWindows v → KeepsPlans v u → cache_of kind u ≡ cache_of kind v → Asks (cache_of kind v) b (looked (cache_of kind v) b seq) (cache_of kind v') b' → v' ≡ with_cache kind (cache_of kind v') u → AsksReads v b v' b'
look_asks kind seq v u v' b b' own keeps cache asks rest =
    let c : CacheState = cache_of kind v in
    let c' : CacheState = cache_of kind v' in
    let seqs : List ℕ = looked c b seq in
    let flown : KeepsCache (cache_of kind u) c' = subst (λ (k : CacheState). KeepsCache k c') (sym cache) (flying_quiet c c' seqs asks.cache) in
    record {
      kind = kind;
      seqs = seqs;
      board = asks.board
          ∙ ap (λ (who : Client). record b { waiting = b.waiting ++ reads who c.kind (id_of c.head) seqs }) (own.client kind)
          ∙ ap (λ (k : PlanType). record b { waiting = b.waiting ++ reads Nav k (id_of c.head) seqs }) (own.kind kind);
      has = looked-has c b seq;
      keeps = keeps_trans v u v' keeps (subst (KeepsPlans u) (sym rest) (keeps_with kind c' u flown));
    }

owed_same : (k : PlanType) (v : NavTaken) (o : Option (PlanType × ℕ)) → cache_of k (record v { owed = o }) ≡ cache_of k v
owed_same Mission v o = refl
owed_same Fence v o = refl
owed_same Safe v o = refl

pub keeps_owed : (v : NavTaken) (o : Option (PlanType × ℕ)) → KeepsPlans v (record v { owed = o })
keeps_owed v o = record { mission = keeps_plan v.mission; fence = keeps_plan v.fence; safe = keeps_plan v.safe; marks = refl }

wait_asks : (kind : PlanType) (seq : ℕ) (v : NavTaken) (b : BoardState) (given : NavWhat) (v' : NavTaken) (b' : BoardState) → OwnWindows v → WaitsFor kind seq v b given v' b' → AsksReads v b v' b'
wait_asks kind seq v b given v' b' own w =
    let o : Option (PlanType × ℕ) = if in_window (cache_of kind v) seq then v.owed else Some (kind, seq) in
    look_asks kind seq v (record v { owed = o }) v' b b' own (keeps_owed v o) (owed_same kind v o) w.asks w.rest

-- Mode Mission.

keeps_flight : (v : NavTaken) (mode : Mode) (legs : MachineState) → KeepsPlans v (record v { mode = mode; flight = record v.flight { legs = legs } })
keeps_flight v mode legs = record { mission = keeps_plan v.mission; fence = keeps_plan v.fence; safe = keeps_plan v.safe; marks = refl }

found_asks : (o : Option Item) (v : NavTaken) (b : BoardState) (given : NavWhat) (v' : NavTaken) (b' : BoardState) → OwnWindows v → IfFound o v b given v' b' → AsksReads v b v' b'
found_asks None v b given v' b' own w = wait_asks Mission v.flight.legs.index v b given v' b' own w
found_asks (Some item) v b given v' b' own s =
    let to : Mode = mode_after v.mode s.answer item in
    look_asks Mission v.flight.legs.index v (record v { mode = to; flight = record v.flight { legs = v'.flight.legs } }) v' b b' own (keeps_flight v to v'.flight.legs) refl s.asks s.rest

fly_asks : (done : Bool) (v : NavTaken) (b : BoardState) (given : NavWhat) (v' : NavTaken) (b' : BoardState) → OwnWindows v → UnlessDone done v b given v' b' → AsksReads v b v' b'
fly_asks true v b given v' b' own h = none_asked v v' b b' h.2 (subst (KeepsPlans v) (sym h.1) (keeps_itself v))
fly_asks false v b given v' b' own h =
    let seq : ℕ = v.flight.legs.index in
    let u : NavTaken = looked_up v seq in
    asks_after v u v' b b' (keeps_looked_up v seq) (found_asks (found_at v seq) u b given v' b' (keeps_windows v u (keeps_looked_up v seq) own) h)

verdict_asks : (o : Option (ℕ × ℕ)) (v : NavTaken) (b : BoardState) (given : NavWhat) (v' : NavTaken) (b' : BoardState) → OwnWindows v → ByVerdict o v b given v' b' → AsksReads v b v' b'
verdict_asks (Some (rule, seq)) v b given v' b' own h = none_asked v v' b b' h.2 (subst (KeepsPlans v) (sym h.1) (keeps_itself v))
verdict_asks None v b given v' b' own h = fly_asks (v.flight.legs.index == mission_count v) v b given v' b' own h

lacking_asks : (o : Option (PlanType × ℕ)) (v : NavTaken) (b : BoardState) (given : NavWhat) (v' : NavTaken) (b' : BoardState) → OwnWindows v → IfLacking o v b given v' b' → AsksReads v b v' b'
lacking_asks (Some (kind, seq)) v b given v' b' own h = wait_asks kind seq v b given v' b' own h
lacking_asks None v b given v' b' own h = verdict_asks (FirstBroken v.params v.home v.mission.taken v.fence.taken) v b given v' b' own h

on_asks : (empty : Bool) (v : NavTaken) (b : BoardState) (given : NavWhat) (v' : NavTaken) (b' : BoardState) → OwnWindows v → UnlessEmpty empty v b given v' b' → AsksReads v b v' b'
on_asks true v b given v' b' own h = none_asked v v' b b' h.2 (subst (KeepsPlans v) (sym h.1) (keeps_itself v))
on_asks false v b given v' b' own h =
    let u : NavTaken = plans_taken v in
    asks_after v u v' b b' (keeps_taking v) (lacking_asks (first_lacking u.fence u.mission) u b given v' b' (keeps_windows v u (keeps_taking v) own) h)

-- Mode Return.

keeps_way : (v : NavTaken) (way : Option ReturnState) → KeepsPlans v (record v { way = way })
keeps_way v way = record { mission = keeps_plan v.mission; fence = keeps_plan v.fence; safe = keeps_plan v.safe; marks = refl }

target_asks : (o : Option Item) (seq : ℕ) (r : ReturnState) (v : NavTaken) (b : BoardState) (given : NavWhat) (v' : NavTaken) (b' : BoardState) (r' : ReturnState) → OwnWindows v → ShowsIfFound o seq r v b given v' b' r' → AsksReads v b v' b'
target_asks None seq r v b given v' b' r' own h = wait_asks Mission seq v b given v' b' own h.0
target_asks (Some item) seq r v b given v' b' r' own h = look_asks Mission seq v v v' b b' own (keeps_itself v) refl h.asks h.rest

at_asks : (o : Option ℕ) (r : ReturnState) (v : NavTaken) (b : BoardState) (given : NavWhat) (v' : NavTaken) (b' : BoardState) (r' : ReturnState) → OwnWindows v → ShowsAt o r v b given v' b' r' → AsksReads v b v' b'
at_asks None r v b given v' b' r' own h = none_asked v v' b b' h.3 (subst (KeepsPlans v) (sym h.2) (keeps_itself v))
at_asks (Some seq) r v b given v' b' r' own h =
    let u : NavTaken = looked_up v seq in
    asks_after v u v' b b' (keeps_looked_up v seq) (target_asks (found_at v seq) seq r u b given v' b' r' (keeps_windows v u (keeps_looked_up v seq) own) h)

out_asks : (v : NavTaken) (b : BoardState) (given : NavWhat) (v' : NavTaken) (b' : BoardState) → OwnWindows v → SetsOut v b given v' b' → AsksReads v b v' b'
out_asks v b given v' b' own h =
    asks_before v h.mid v' b b' (at_asks (seq_of (return_chosen v)) (return_chosen v) v b given h.mid b' h.r' own h.shows)
    (subst (KeepsPlans h.mid) (sym h.rest) (keeps_way h.mid (choice_kept given h.r')))

along_asks : (r : ReturnState) (v : NavTaken) (b : BoardState) (given : NavWhat) (v' : NavTaken) (b' : BoardState) → OwnWindows v → GoesAlong r v b given v' b' → AsksReads v b v' b'
along_asks r v b given v' b' own h =
    let u : NavTaken = record v { way = None } in
    asks_after v u v' b b' (keeps_way v None) (asks_before u h.mid v' b b' (at_asks (seq_of r) r u b given h.mid b' h.r' (keeps_windows v u (keeps_way v None) own) h.shows)
    (subst (KeepsPlans h.mid) (sym h.rest) (keeps_way h.mid (Some h.r'))))

return_asks : (o : Option (PlanType × ℕ)) (v : NavTaken) (b : BoardState) (given : NavWhat) (v' : NavTaken) (b' : BoardState) → OwnWindows v → IfReturnLacking o v b given v' b' → AsksReads v b v' b'
return_asks (Some (kind, seq)) v b given v' b' own h = wait_asks kind seq v b given v' b' own h
return_asks None v b given v' b' own h = out_asks v b given v' b' own h

back_asks : (way : Option ReturnState) (v : NavTaken) (b : BoardState) (given : NavWhat) (v' : NavTaken) (b' : BoardState) → OwnWindows v → ByChoice way v b given v' b' → AsksReads v b v' b'
back_asks (Some r) v b given v' b' own h = along_asks r v b given v' b' own h
back_asks None v b given v' b' own h =
    let u : NavTaken = return_taken v in
    asks_after v u v' b b' (keeps_return v) (return_asks (return_lacking u) u b given v' b' (keeps_windows v u (keeps_return v) own) h)

-- Any line.

by_asks : (m : Mode) (v : NavTaken) (b : BoardState) (given : NavWhat) (v' : NavTaken) (b' : BoardState) → OwnWindows v → LooksBy m v b given v' b' → AsksReads v b v' b'
by_asks mode.Hold v b given v' b' own h = none_asked v v' b b' h.2 (subst (KeepsPlans v) (sym h.1) (keeps_itself v))
by_asks mode.Mission v b given v' b' own h = on_asks (mission_count v == 0) v b given v' b' own h
by_asks mode.Return v b given v' b' own h = back_asks v.way v b given v' b' own h

keeps_back : (o : Option ReturnState) (v : NavTaken) (given : NavWhat) (v' : NavTaken) → ReachesBack o v given v' → KeepsPlans v v'
keeps_back None v given v' h = subst (KeepsPlans v) (sym h.1) (keeps_itself v)
keeps_back (Some r) v given v' h = subst (KeepsPlans v) (sym h.1) (keeps_way v (Some (back.after_reached r)))

keeps_on : (v : NavTaken) (given : NavWhat) (v' : NavTaken) → ReachesOn v given v' → KeepsPlans v v'
keeps_on v given v' h = subst (KeepsPlans v) (sym h.1) (keeps_flight v v.mode (after_reached v.flight.legs))

keeps_reached : (m : Mode) (v : NavTaken) (given : NavWhat) (v' : NavTaken) → Reaches m v given v' → KeepsPlans v v'
keeps_reached mode.Return v given v' h = keeps_back v.way v given v' h
keeps_reached mode.Hold v given v' h = keeps_on v given v' h
keeps_reached mode.Mission v given v' h = keeps_on v given v' h

keeps_position : (v : NavTaken) (p : Option (ℤ × ℤ)) → KeepsPlans v (record v { position = p })
keeps_position v p = record { mission = keeps_plan v.mission; fence = keeps_plan v.fence; safe = keeps_plan v.safe; marks = refl }

keeps_mode : (v : NavTaken) (to : Mode) → KeepsPlans v (mode_taken v to)
keeps_mode v to = record { mission = keeps_plan v.mission; fence = keeps_plan v.fence; safe = keeps_plan v.safe; marks = refl }

pub act_asks : (line : VehicleLine) (v : NavTaken) (b : BoardState) (given : NavWhat) (v' : NavTaken) (b' : BoardState) → OwnWindows v → ActsOn line v b given v' b' → AsksReads v b v' b'
act_asks event.Tick v b given v' b' own h = by_asks v.mode v b given v' b' own h
act_asks event.Go v b given v' b' own h = by_asks v.mode v b given v' b' own h
act_asks event.Reached v b given v' b' own h = none_asked v v' b b' h.1 (keeps_reached v.mode v given v' h.0)
act_asks (event.Mode to) v b given v' b' own h = none_asked v v' b b' h.2 (subst (KeepsPlans v) (sym h.1) (keeps_mode v to))
act_asks (event.Position x y) v b given v' b' own h = none_asked v v' b b' h.2 (subst (KeepsPlans v) (sym h.1) (keeps_position v (Some (x, y))))
