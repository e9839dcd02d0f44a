-- What a change of one cache leaves of the Navigator, and what a look for an item of the mission finds.
use Rattle.std.proofs.Common.{◌≡◌, ◌≢◌, ℕ, ◌<◌, ◌==◌, Bool, true, false, List, Option, Some, None, length, refl, sym, ap, subst, ◌∙◌, arith}
use Rattle.std.specs.Prelude.{if◌then◌else◌}
use Rattle.std.proofs.lemmas.Bool.Decides.{nat_tests}
use Rattle.mission_model.specs.declared.plan.Home.{Home}
use Rattle.mission_model.specs.declared.plan.Item.{Item}
use Rattle.mission_model.specs.declared.plan.Params.{Params}
use Rattle.mission_model.specs.declared.plan.PlanType.{PlanType}
use Rattle.mission_model.specs.declared.plan.PlanType.TheVariants.{Mission, Fence, Safe}
use Rattle.mission_model.specs.declared.request.Asked.{Asked}
use Rattle.mission_model.specs.declared.request.Reply.{Reply}
use Rattle.mission_model.specs.declared.vehicle.NavWhat.{NavWhat}
use Rattle.request_board.specs.BoardState.{BoardState}
use Rattle.client_cache.specs.CacheState.{CacheState, count_of, known_at, got}
use Rattle.navigator.specs.Caches.{SamePlan-past, SamePlan-got, count-same}
use Rattle.navigator.specs.Uses.{JumpUses}
use Rattle.navigator.specs.Taking.{PlanTaken, cache_past}
use Rattle.navigator.specs.Judging.{MissionTaken, FedBy}
use Rattle.navigator.specs.NavState.{NavState, NavTaken, with_taken, HasShown, own_cache, with_own_cache, with_cache}
use Rattle.navigator.specs.OnMission.{IfFound, UnlessDone, FliesOn, can_stand, standing, uses_of, found_at, looked_up}
use Rattle.navigator.proofs.Feeds.{ShownTo-same}

-- another cache of the same count
FedBy-mission : (params : Params) (home : Option Home) (fence : PlanTaken) (m : MissionTaken) (items : List Item) (c : CacheState) → count_of c.head ≡ count_of m.cache.head → FedBy params home fence m items → FedBy params home fence (record m { cache = c }) items
FedBy-mission params home fence m items c same h = record { whole = λ w. ShownTo-same m c params home fence.taken items same (h.whole w); part = h.part }

FedBy-fence : (params : Params) (home : Option Home) (fence : PlanTaken) (m : MissionTaken) (items : List Item) (c : CacheState) → count_of c.head ≡ count_of fence.cache.head → FedBy params home fence m items → FedBy params home (record fence { cache = c }) m items
FedBy-fence params home fence m items c same h = record {
  whole = λ w. h.whole (w ∙ same);
  part = λ lt. h.part (subst (λ (n : ℕ). length fence.taken < n) same lt);
}

pub HasShown-cache : (kind : PlanType) (c : CacheState) (n : NavState) (items : List Item) → count_of c.head ≡ count_of (own_cache kind n).head → HasShown n items → HasShown (with_own_cache kind c n) items
HasShown-cache Mission c n items same h = record { fed = FedBy-mission n.params n.home n.fence n.mission items c same h.fed; there = h.there }
HasShown-cache Fence c n items same h = record { fed = FedBy-fence n.params n.home n.fence n.mission items c same h.fed; there = h.there }
HasShown-cache Safe c n items same h = record { fed = h.fed; there = h.there }

-- a reply is taken by all three caches
pub HasShown-got : (n : NavState) (items : List Item) (asked : Asked) (reply : Reply) → HasShown n items → HasShown (record n { mission = record n.mission { cache = got n.mission.cache asked reply }; fence = record n.fence { cache = got n.fence.cache asked reply }; safe = record n.safe { cache = got n.safe.cache asked reply } }) items
HasShown-got n items asked reply h = record {
  fed = FedBy-mission n.params n.home (record n.fence { cache = got n.fence.cache asked reply }) n.mission items (got n.mission.cache asked reply) (count-same n.mission.cache (got n.mission.cache asked reply) (SamePlan-got n.mission.cache asked reply))
      (FedBy-fence n.params n.home n.fence n.mission items (got n.fence.cache asked reply) (count-same n.fence.cache (got n.fence.cache asked reply) (SamePlan-got n.fence.cache asked reply)) h.fed);
  there = h.there;
}

-- an item that is known and can stand there is found, and any other is not
pub standing-is : (uses : JumpUses) (count seq : ℕ) (c : CacheState) (item : Item) (b : Bool) → Some item ≡ known_at c seq → b ≡ can_stand uses count seq item → standing uses count seq (known_at c seq) ≡ (if b then Some item else None)
standing-is uses count seq c item b here is = ap (standing uses count seq) (sym here) ∙ ap (λ x. if x then Some item else None) (sym is)

standing_if : (b : Bool) (item other : Item) → Some item ≡ (if b then Some other else None) → (b ≡ true) × (other ≡ item)
standing_if true item other h = (refl, cc)
standing_if false item other h = absurd cc

pub can_stand-found : (uses : JumpUses) (count seq : ℕ) (o : Option Item) (item : Item) → Some item ≡ standing uses count seq o → can_stand uses count seq item ≡ true
can_stand-found uses count seq None item h = absurd cc
can_stand-found uses count seq (Some other) item h =
    let both = standing_if (can_stand uses count seq other) item other h in
    ap (can_stand uses count seq) (sym both.1) ∙ both.0

pub count-past : (c : CacheState) (seq : ℕ) (o : Option Item) → count_of (cache_past c seq o).head ≡ count_of c.head
count-past c seq o = count-same c (cache_past c seq o) (SamePlan-past c seq o)

pub HasShown-found : (n n1 : NavState) (items : List Item) (o : Option Item) (seq : ℕ) → n1 ≡ with_own_cache Mission (cache_past n.mission.cache seq o) n → HasShown n items → HasShown n1 items
HasShown-found n n1 items o seq leaves h = subst (λ (m : NavState). HasShown m items) (sym leaves) (HasShown-cache Mission (cache_past n.mission.cache seq o) n items (count-past n.mission.cache seq o) h)

-- what was found at the index is stepped at or waited for
eq_false : (a b : ℕ) → a ≢ b → (a == b) ≡ false
eq_false a b h = grind (arith, nat_tests, h)

FliesOn-view : (v : NavTaken) (b : BoardState) (given : NavWhat) (v' : NavTaken) (b' : BoardState) (o : Option Item) → v.flight.legs.index ≢ count_of v.mission.cache.head → found_at v v.flight.legs.index ≡ o → IfFound o (with_cache Mission (cache_past v.mission.cache v.flight.legs.index o) v) b given v' b' → FliesOn v b given v' b'
FliesOn-view v b given v' b' o inside is flies =
    let inner : IfFound (found_at v v.flight.legs.index) (looked_up v v.flight.legs.index) b given v' b' = subst (λ (x : Option Item). IfFound x (with_cache Mission (cache_past v.mission.cache v.flight.legs.index x) v) b given v' b') (sym is) flies in
    subst (λ (x : Bool). UnlessDone x v b given v' b') (sym (eq_false v.flight.legs.index (count_of v.mission.cache.head) inside)) inner

pub FliesOn-found : (n n1 : NavState) (items : List Item) (b : BoardState) (o : Option Item) (given : NavWhat) (n' : NavState) (b' : BoardState) (seq : ℕ) → seq ≡ n.flight.legs.index → seq ≢ count_of n.mission.cache.head → o ≡ standing (uses_of n.flight) (count_of n.mission.cache.head) seq (known_at n.mission.cache seq) → n1 ≡ with_own_cache Mission (cache_past n.mission.cache seq o) n → IfFound o (with_taken n1 items) b given (with_taken n' items) b' → FliesOn (with_taken n items) b given (with_taken n' items) b'
FliesOn-found n n1 items b o given n' b' seq at inside is leaves flies =
    let out : n.flight.legs.index ≢ count_of n.mission.cache.head = λ e. inside (at ∙ e) in
    let found : found_at (with_taken n items) n.flight.legs.index ≡ o = ap (λ (k : ℕ). standing (uses_of n.flight) (count_of n.mission.cache.head) k (known_at n.mission.cache k)) (sym at) ∙ sym is in
    let left : with_taken n1 items ≡ with_cache Mission (cache_past n.mission.cache n.flight.legs.index o) (with_taken n items) = ap (λ (m : NavState). with_taken m items) leaves ∙ ap (λ (k : ℕ). with_cache Mission (cache_past n.mission.cache k o) (with_taken n items)) at in
    FliesOn-view (with_taken n items) b given (with_taken n' items) b' o out found (subst (λ (v : NavTaken). IfFound o v b given (with_taken n' items) b') left flies)
