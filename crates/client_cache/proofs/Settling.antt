-- What stays known or in flight, and that a look finds nothing missing there.
use Rattle.std.proofs.Common.{◌≡◌, ℕ, zero, suc, ◌+◌, ◌-◌, ◌<◌, ◌≤◌, Bool, true, false, List, [], ◌∷◌, Some, refl, ◌∙◌, arith, is_some, ◌||◌}
use Rattle.std.specs.Prelude.{slice_index_or, slice_set, if◌then◌else◌}
use Rattle.std.proofs.lemmas.Grind.{common_steps}
use Rattle.mission_model.specs.declared.plan.Item.{Item}
use Rattle.client_cache.specs.CacheState.{CacheState, known_at, is_in_flight, in_window, answered_at, known_with}
use Rattle.client_cache.specs.Settled.{Settled, is_settled}
use Rattle.client_cache.specs.Wants.{missing, missing_at, flags_with, flying}

pub or-more : (known flag more : Bool) → (flag ≡ true → more ≡ true) → (known || flag) ≡ true → (known || more) ≡ true
or-more true flag more up h = refl
or-more false flag more up h = up h

flag-stays : (flags : List Bool) (x k : ℕ) → slice_index_or flags k false ≡ true → slice_index_or (slice_set flags x true) k false ≡ true
flag-stays flags x k h = grind (arith, common_steps, h)

flags_with-stay : (flags : List Bool) (xs : List ℕ) (k : ℕ) → slice_index_or flags k false ≡ true → slice_index_or (flags_with flags xs) k false ≡ true
flags_with-stay flags [] k h = h
flags_with-stay flags (x ∷ xs) k h = flags_with-stay (slice_set flags x true) xs k (flag-stays flags x k h)

pub is_settled-flying : (c : CacheState) (xs : List ℕ) (k : ℕ) → is_settled c k ≡ true → is_settled (flying c xs) k ≡ true
is_settled-flying c xs k h = or-more (is_some (known_at c k)) (is_in_flight c k) (is_in_flight (flying c xs) k) (flags_with-stay c.in_flight xs k) h

-- either way
cases : (k n : ℕ) (b : Bool) → (k < n → b ≡ true) → (n ≤ k → b ≡ true) → b ≡ true
cases k n b below above = grind (arith, below, above)

-- settled up to a seq before more was asked, and from there on after it
pub Settled-on : (c c1 : CacheState) (xs : List ℕ) (from mid to : ℕ) → c1 ≡ flying c xs → Settled c from mid → Settled c1 mid to → Settled c1 from to
Settled-on c c1 xs from mid to is first next = λ k ge lt. cases k mid (is_settled c1 k) (λ (below : k < mid). rw is (is_settled-flying c xs k (first k ge below))) (λ (above : mid ≤ k). next k above lt)

-- one seq
pub Settled-one : (c : CacheState) (seq to : ℕ) → to ≡ seq + 1 → is_settled c seq ≡ true → Settled c seq to
Settled-one c seq to is h = λ k ge lt. let e : k ≡ seq = omega (arith, is, ge, lt) in rw e h

pub is_settled-answered : (c : CacheState) (seq k : ℕ) → k < seq → is_settled c k ≡ true → is_settled (answered_at c seq) k ≡ true
is_settled-answered c seq k lt h = grind (arith, common_steps, lt, h)

pub is_settled-kept : (c : CacheState) (seq k : ℕ) (item : Item) → in_window c seq ≡ true → is_settled c k ≡ true → is_settled (known_with (answered_at c seq) seq (Some item)) k ≡ true
is_settled-kept c seq k item inside h = grind (arith, common_steps, inside, h)

if-settled : (b : Bool) (seq : ℕ) → b ≡ true → (if b then [] else seq ∷ []) ≡ []
if-settled b seq h = rw h refl

pub missing_at-settled : (c : CacheState) (seq : ℕ) → is_settled c seq ≡ true → missing_at c seq ≡ []
missing_at-settled c seq h = if-settled (is_settled c seq) seq h

pub missing-settled : (c : CacheState) (seq d : ℕ) → Settled c seq (seq + d) → missing c seq d ≡ []
missing-settled c seq zero h = refl
missing-settled c seq (suc d) h =
    let first : missing c seq d ≡ [] = missing-settled c seq d (λ (k : ℕ) (ge : seq ≤ k) (lt : k < seq + d). h k ge (omega (arith, lt))) in
    let last : missing_at c (seq + d) ≡ [] = missing_at-settled c (seq + d) (h (seq + d) (omega arith) (omega arith)) in
    rw (first, last) refl

missing-behind : (c : CacheState) (seq d n : ℕ) → Settled c seq (seq + d) → missing c seq (d + n) ≡ missing c (seq + d) n
missing-behind c seq d zero h = let e : d + 0 ≡ d = omega arith in rw e (missing-settled c seq d h)
missing-behind c seq d (suc n) h =
    let e : d + suc n ≡ suc (d + n) = omega arith in
    let at : seq + (d + n) ≡ seq + d + n = omega arith in
    rw (e, missing-behind c seq d n h, at) refl

-- what is missing from a seq on is what is missing behind what is settled
pub missing-from : (c : CacheState) (seq mid to : ℕ) → seq ≤ mid → mid ≤ to → Settled c seq mid → missing c seq (to - seq) ≡ missing c mid (to - mid)
missing-from c seq mid to le le' h =
    let e : to - seq ≡ (mid - seq) + (to - mid) = omega (arith, le, le') in
    let m : seq + (mid - seq) ≡ mid = omega (arith, le) in
    let h' : Settled c seq (seq + (mid - seq)) = rw m h in
    rw e (missing-behind c seq (mid - seq) (to - mid) h' ∙ rw m refl)
