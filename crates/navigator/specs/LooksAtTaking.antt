-- A plan that is taken on: looks at its items in turn, from the first that was not taken before up to the first that is lacking
-- still, ask what a look at that one alone asks.
use Rattle.std.proofs.Common.{◌≡◌, ◌≢◌, ℕ, zero, suc, ◌+◌, ◌-◌, ◌<◌, ◌≤◌, ◌&&◌, inl, inr, ◌⊎◌, Bool, true, false, List, [], ◌∷◌, ◌++◌, length, Option, Some, None, is_some, refl, sym, ap, subst, ◌∙◌, arith, length-append}
use Rattle.std.specs.Prelude.{nat_lt, if◌then◌else◌}
use Rattle.std.proofs.lemmas.Bool.Decides.{nat_tests}
use Rattle.mission_model.specs.declared.plan.Item.{Item}
use Rattle.mission_model.specs.declared.plan.PlanHead.{PlanHead}
use Rattle.mission_model.specs.declared.plan.PlanType.{PlanType}
use Rattle.request_board.specs.BoardState.{BoardState}
use Rattle.client_cache.specs.CacheState.{CacheState, known_at, known_with, in_window, forgotten, count_of}
use Rattle.client_cache.specs.History as history
use Rattle.client_cache.specs.Knowing.{step_to}
use Rattle.client_cache.specs.Wants.{looked, Asks}
use Rattle.navigator.specs.Caches.{SamePlan-behind, count-same}
use Rattle.navigator.specs.Uses.{JumpUses}
use Rattle.navigator.specs.Begins.{known_next}
use Rattle.navigator.specs.Taking.{PlanTaken, next_of, added, with_up_to, whole_taking, cache_behind, taking}
use Rattle.navigator.specs.LooksInTurn.{LooksInTurn, KnownUpTo, looks-as-one}

some_is : (o : Option Item) (item : Item) → o ≡ Some item → is_some o ≡ true
some_is o item is = ap (λ (x : Option Item). is_some x) is

there_is : (o : Option Item) → is_some o ≡ true → (item : Item) × (o ≡ Some item)
there_is None h = absurd cc
there_is (Some item) h = (item, refl)

-- one more, or none
pub record Longer (c : CacheState) (from : ℕ) (items : List Item) (most : ℕ) : Type 0 where
  pub known : KnownUpTo c from (length items)
  pub least : from ≤ length items
  pub most_is : length items ≤ most

one-longer : (kind : PlanType) (uses : JumpUses) (c : CacheState) (from : ℕ) (items : List Item) (most : ℕ) (o : Option Item) → next_of kind uses c items ≡ o → Longer c from items most → Longer c from (added items o) (suc most)
one-longer kind uses c from items most None is h = record { known = h.known; least = h.least; most_is = omega (arith, h.most_is) }
one-longer kind uses c from items most (Some item) is h =
    let long : length (items ++ item ∷ []) ≡ length items + 1 = length-append items (item ∷ []) in
    record {
      known = λ seq ge lt. at seq ge lt long (nat_lt seq (length items)) refl;
      least = omega (arith, h.least, long);
      most_is = omega (arith, h.most_is, long);
    }
  where
    last : known_at c (length items) ≡ Some item
    last = known_next kind uses (count_of c.head) items (known_at c (length items)) item is

    at : (seq : ℕ) → from ≤ seq → seq < length (items ++ item ∷ []) → length (items ++ item ∷ []) ≡ length items + 1 → (b : Bool) → nat_lt seq (length items) ≡ b → is_some (known_at c seq) ≡ true
    at seq ge lt long true below = h.known seq ge (grind (arith, nat_tests, below))
    at seq ge lt long false above =
        let same : seq ≡ length items = grind (arith, nat_tests, above, lt, long) in
        ap (λ (k : ℕ). is_some (known_at c k)) same ∙ some_is (known_at c (length items)) item last

all-longer : (n : ℕ) (kind : PlanType) (uses : JumpUses) (c : CacheState) (items : List Item) → Longer c (length items) (with_up_to n kind uses c items) (n + length items)
all-longer zero kind uses c items = record { known = λ seq ge lt. absurd (omega (arith, ge, lt)); least = omega arith; most_is = omega arith }
all-longer (suc n) kind uses c items =
    let more : suc n + length items ≡ suc (n + length items) = omega arith in
    subst (λ (m : ℕ). Longer c (length items) (with_up_to (suc n) kind uses c items) m) (sym more) (one-longer kind uses c (length items) (with_up_to n kind uses c items) (n + length items) (next_of kind uses c (with_up_to n kind uses c items)) refl (all-longer n kind uses c items))

whole-longer : (kind : PlanType) (uses : JumpUses) (c : CacheState) (items : List Item) → length items ≤ count_of c.head → Longer c (length items) (whole_taking kind uses c items) (count_of c.head)
unfolding whole_taking
whole-longer kind uses c items within =
    let most : count_of c.head - length items + length items ≡ count_of c.head = omega (arith, within) in
    subst (λ (m : ℕ). Longer c (length items) (with_up_to (count_of c.head - length items) kind uses c items) m) most (all-longer (count_of c.head - length items) kind uses c items)

-- what is forgotten behind what was taken leaves that
forgotten-known : (c : CacheState) (from to : ℕ) → KnownUpTo c from to → KnownUpTo (forgotten c to) from to
forgotten-known c from to h seq ge lt =
    let here = there_is (known_at c seq) (h seq ge lt) in
    let apart : to ≢ seq = λ (e : to ≡ seq). absurd (omega (arith, e, lt)) in
    some_is (known_at (forgotten c to) seq) here.0 ((step_to (history.Forgets to) c seq here.0 (forgotten c to) refl).1 (inl (here.1, apart)))

known-if : (b : Bool) (c d : CacheState) (from to : ℕ) → KnownUpTo c from to → KnownUpTo d from to → KnownUpTo (if b then c else d) from to
known-if true c d from to h k = h
known-if false c d from to h k = k

-- the cache has a flag for each seq of its plan
abbrev pub HasFlags : CacheState → Type 0
HasFlags c = count_of c.head ≤ length c.in_flight

flags-if : (b : Bool) (c d : CacheState) → HasFlags c → HasFlags d → HasFlags (if b then c else d)
flags-if true c d h k = h
flags-if false c d h k = k

flags-behind : (c : CacheState) (seq : ℕ) → HasFlags c → HasFlags (cache_behind c seq)
flags-behind c seq h = flags-if (nat_lt seq (count_of c.head) && is_some (known_at c seq)) (forgotten c seq) c (flags-if (in_window c seq) (known_with c seq None) c h h) h

pub looks-at-taking : (uses : JumpUses) (p : PlanTaken) (b : BoardState) (c' : CacheState) (b' : BoardState) → HasFlags p.cache → length p.taken ≤ count_of p.cache.head → LooksInTurn (taking uses p).cache b (length p.taken) (suc (length (taking uses p).taken - length p.taken)) c' b' → Asks (taking uses p).cache b (looked (taking uses p).cache b (length (taking uses p).taken)) c' b'
looks-at-taking uses p b c' b' flags within looks =
    let all : List Item = whole_taking p.kind uses p.cache p.taken in
    let c : CacheState = cache_behind p.cache (length all) in
    let long : Longer p.cache (length p.taken) all (count_of p.cache.head) = whole-longer p.kind uses p.cache p.taken within in
    let n : ℕ = length all - length p.taken in
    let same : length p.taken + n ≡ length all = omega (arith, long.least) in
    let known : KnownUpTo c (length p.taken) (length all) = known-if (nat_lt (length all) (count_of p.cache.head) && is_some (known_at p.cache (length all))) (forgotten p.cache (length all)) p.cache (length p.taken) (length all) (forgotten-known p.cache (length p.taken) (length all) long.known) long.known in
    let count : count_of c.head ≡ count_of p.cache.head = count-same p.cache c (SamePlan-behind p.cache (length all)) in
    let known' : KnownUpTo c (length p.taken) (length p.taken + n) = subst (KnownUpTo c (length p.taken)) (sym same) known in
    let within' : length p.taken + n ≤ count_of c.head = omega (arith, same, count, long.most_is) in
    subst (λ (k : ℕ). Asks c b (looked c b k) c' b') same (looks-as-one n c b (length p.taken) c' b' (flags-behind p.cache (length all) flags) known' within' looks)
