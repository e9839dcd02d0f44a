-- Looks at all items of a plan in turn, from one on up to the first that is not known, ask together what a look at that one
-- alone asks: the first look asks it, and the others find nothing to ask.
use Rattle.std.proofs.Common.{◌≡◌, ℕ, zero, suc, ◌+◌, ◌-◌, ◌<◌, ◌≤◌, ◌&&◌, ◌||◌, inl, inr, ◌⊎◌, Bool, true, false, List, [], ◌∷◌, ◌++◌, length, Option, Some, None, is_some, refl, sym, ap, subst, ◌∙◌, arith, append-nil, take}
use Rattle.std.specs.Prelude.{min, nat_lt, nat_le, slice_index_or, slice_set, if◌then◌else◌}
use Rattle.std.proofs.lemmas.Grind.{common_steps}
use Rattle.std.proofs.lemmas.Bool.Decides.{nat_tests}
use Rattle.std.proofs.Math.Nat.{min-le_left, min-le_right, le-min}
use Rattle.mission_model.specs.declared.plan.Item.{Item}
use Rattle.mission_model.specs.declared.request.Client.{Client}
use Rattle.mission_model.specs.declared.request.Request.{Request}
use Rattle.request_board.specs.BoardState.{BoardState, limit, outstanding}
use Rattle.client_cache.specs.CacheState.{CacheState, known_at, in_window, is_in_flight, window_end, count_of}
use Rattle.client_cache.specs.Settled.{Settled, is_settled}
use Rattle.client_cache.specs.Knowing.{known_covers, true_covers}
use Rattle.client_cache.specs.Looking.{asking_outstanding}
use Rattle.client_cache.specs.Wants.{missing, missing_at, wanted, looked, flags_with, flying, asking, Asks}

-- looks at so many seqs from one on, one behind another
abbrev pub LooksInTurn : CacheState → BoardState → ℕ → ℕ → CacheState → BoardState → Type 0
LooksInTurn c b seq zero c' b' = (c' ≡ c) × (b' ≡ b)
LooksInTurn c b seq (suc n) c' b' = (mid : CacheState) × (board : BoardState) × Asks c b (looked c b seq) mid board × LooksInTurn mid board (seq + 1) n c' b'

-- each item from a seq on up to another is known
abbrev pub KnownUpTo : CacheState → ℕ → ℕ → Type 0
KnownUpTo c from to = (seq : ℕ) → from ≤ seq → seq < to → is_some (known_at c seq) ≡ true

-- What is settled is not missing.

or-first : (a b : Bool) → a ≡ true → (a || b) ≡ true
or-first true b h = refl
or-first false b h = absurd cc

known_settled : (c : CacheState) (from to : ℕ) → KnownUpTo c from to → Settled c from to
known_settled c from to h seq ge lt = or-first (is_some (known_at c seq)) (is_in_flight c seq) (h seq ge lt)

if-settled : (b : Bool) (seq : ℕ) → b ≡ true → (if b then [] else seq ∷ []) ≡ []
if-settled true seq h = refl
if-settled false seq h = absurd cc

settled-none : (c : CacheState) (seq n : ℕ) → Settled c seq (seq + n) → missing c seq n ≡ []
settled-none c seq zero h = refl
settled-none c seq (suc n) h =
    let first : missing c seq n ≡ [] = settled-none c seq n (λ (k : ℕ) (ge : seq ≤ k) (lt : k < seq + n). h k ge (omega (arith, lt))) in
    let last : missing_at c (seq + n) ≡ [] = if-settled (is_settled c (seq + n)) (seq + n) (h (seq + n) (omega arith) (omega arith)) in
    rw (first, last) refl

settled-behind : (c : CacheState) (seq d n : ℕ) → Settled c seq (seq + d) → missing c seq (d + n) ≡ missing c (seq + d) n
settled-behind c seq d zero h = let e : d + 0 ≡ d = omega arith in rw e (settled-none c seq d h)
settled-behind c seq d (suc n) h =
    let e : d + suc n ≡ suc (d + n) = omega arith in
    let at : seq + (d + n) ≡ seq + d + n = omega arith in
    rw (e, settled-behind c seq d n h, at) refl

-- What is asked is settled then.

length-flags : (flags : List Bool) (xs : List ℕ) → length (flags_with flags xs) ≡ length flags
length-flags flags [] = refl
length-flags flags (x ∷ xs) = length-flags (slice_set flags x true) xs ∙ grind (arith, common_steps)

flags-append : (flags : List Bool) (xs ys : List ℕ) → flags_with flags (xs ++ ys) ≡ flags_with (flags_with flags xs) ys
flags-append flags [] ys = refl
flags-append flags (x ∷ xs) ys = flags-append (slice_set flags x true) xs ys

or-more : (known flag more : Bool) → (flag ≡ true → more ≡ true) → (known || flag) ≡ true → (known || more) ≡ true
or-more true flag more up h = refl
or-more false flag more up h = up h

or-second : (known more : Bool) → more ≡ true → (known || more) ≡ true
or-second true more h = refl
or-second false more h = h

one-stays : (b : Bool) (flags : List Bool) (x k : ℕ) → slice_index_or flags k false ≡ true → slice_index_or (flags_with flags (if b then [] else x ∷ [])) k false ≡ true
one-stays true flags x k h = h
one-stays false flags x k h = grind (arith, common_steps, h)

flags-stay : (flags : List Bool) (xs : List ℕ) (k : ℕ) → slice_index_or flags k false ≡ true → slice_index_or (flags_with flags xs) k false ≡ true
flags-stay flags [] k h = h
flags-stay flags (x ∷ xs) k h = flags-stay (slice_set flags x true) xs k (grind (arith, common_steps, h))

one-asked : (b : Bool) (flags : List Bool) (k : ℕ) → b ≡ false → k < length flags → slice_index_or (flags_with flags (if b then [] else k ∷ [])) k false ≡ true
one-asked true flags k is lt = absurd cc
one-asked false flags k is lt = grind (arith, common_steps, lt)

either : (b : Bool) → (b ≡ true) ⊎ (b ≡ false)
either true = inl refl
either false = inr refl

asked-settled : (c : CacheState) (seq n : ℕ) → seq + n ≤ length c.in_flight → Settled (flying c (missing c seq n)) seq (seq + n)
asked-settled c seq zero room k ge lt = absurd (omega (arith, ge, lt))
asked-settled c seq (suc n) room k ge lt =
    let xs : List ℕ = missing c seq n in
    let flags : List Bool = flags_with c.in_flight xs in
    let at : ℕ = seq + n in
    let more : flags_with c.in_flight (xs ++ missing_at c at) ≡ flags_with flags (missing_at c at) = flags-append c.in_flight xs (missing_at c at) in
    let long : length flags ≡ length c.in_flight = length-flags c.in_flight xs in
    subst (λ (f : List Bool). (is_some (known_at c k) || slice_index_or f k false) ≡ true) (sym more) (elim (nat_cases k at) [
      | inl below ↦ or-more (is_some (known_at c k)) (slice_index_or flags k false) (slice_index_or (flags_with flags (missing_at c at)) k false) (one-stays (is_settled c at) flags at k) (asked-settled c seq n (omega (arith, room)) k ge below)
      | inr above ↦
          let same : k ≡ at = omega (arith, above, lt) in
          subst (λ (j : ℕ). (is_some (known_at c j) || slice_index_or (flags_with flags (missing_at c at)) j false) ≡ true) (sym same) (elim (either (is_settled c at)) [
            | inl settled ↦ or-more (is_some (known_at c at)) (is_in_flight c at) (slice_index_or (flags_with flags (missing_at c at)) at false) (λ h. one-stays (is_settled c at) flags at at (flags-stay c.in_flight xs at h)) settled
            | inr missed ↦ or-second (is_some (known_at c at)) (slice_index_or (flags_with flags (missing_at c at)) at false) (one-asked (is_settled c at) flags at missed (omega (arith, long, room)))
          ])
    ])
  where
    nat_cases : (a b : ℕ) → (a < b) ⊎ (b ≤ a)
    nat_cases a b = pick (nat_lt a b) (λ h. grind (arith, nat_tests, h)) (λ h. grind (arith, nat_tests, h))
      where
        pick : (t : Bool) → (t ≡ true → a < b) → (t ≡ false → b ≤ a) → (a < b) ⊎ (b ≤ a)
        pick true lt ge = inl (lt refl)
        pick false lt ge = inr (ge refl)

-- The first look.

looked-there : (c : CacheState) (b : BoardState) (seq : ℕ) → seq < count_of c.head → in_window c seq ≡ true → looked c b seq ≡ wanted c b seq
looked-there c b seq lt inside = test (nat_lt seq (count_of c.head)) (in_window c seq) (grind (arith, nat_tests, lt)) inside
  where
    test : (s t : Bool) → s ≡ true → t ≡ true → (if s && t then wanted c b seq else []) ≡ wanted c b seq
    test true true h k = refl
    test true false h k = absurd cc
    test false t h k = absurd cc

known-inside : (c : CacheState) (seq : ℕ) (o : Option Item) → known_at c seq ≡ o → is_some o ≡ true → in_window c seq ≡ true
known-inside c seq None is h = absurd cc
known-inside c seq (Some item) is h = true_covers c seq (known_covers c seq item is)

looked-end : (c : CacheState) (b : BoardState) (seq : ℕ) → min (count_of c.head) (window_end c) ≤ seq → looked c b seq ≡ []
looked-end c b seq le = test (nat_lt seq (count_of c.head)) (nat_le c.from seq) (nat_lt seq (window_end c)) (λ h k. beyond (lt_of h) (lt_of' k))
  where
    beyond : seq < count_of c.head → seq < window_end c → ⊥
    beyond h k = let m : suc seq ≤ min (count_of c.head) (window_end c) = le-min (omega (arith, h)) (omega (arith, k)) in omega (arith, m, le)

    lt_of : nat_lt seq (count_of c.head) ≡ true → seq < count_of c.head
    lt_of h = grind (arith, nat_tests, h)

    lt_of' : nat_lt seq (window_end c) ≡ true → seq < window_end c
    lt_of' h = grind (arith, nat_tests, h)

    test : (r s t : Bool) → (r ≡ true → t ≡ true → ⊥) → (if r && (s && t) then wanted c b seq else []) ≡ []
    test true true true h = absurd (h refl refl)
    test true true false h = refl
    test true false t h = refl
    test false s t h = refl

inside_end : (c : CacheState) (seq to : ℕ) → in_window c seq ≡ true → to ≡ seq + 1 → to ≤ window_end c
inside_end c seq to h is = grind (arith, nat_tests, h, is)

inside_from : (c : CacheState) (seq : ℕ) → in_window c seq ≡ true → c.from ≤ seq
inside_from c seq h = grind (arith, nat_tests, h)

inside_of : (c : CacheState) (seq : ℕ) → c.from ≤ seq → seq < window_end c → in_window c seq ≡ true
inside_of c seq h k = grind (arith, nat_tests, h, k)

take_empty : (n : ℕ) → take {A = ℕ} n [] ≡ []
take_empty zero = refl
take_empty (suc n) = refl

ends : (a b : ℕ) → a ≤ b → (a < b) ⊎ (b ≡ a)
ends a b le = pick (nat_lt a b) (λ h. grind (arith, nat_tests, h)) (λ h. grind (arith, nat_tests, h, le))
  where
    pick : (t : Bool) → (t ≡ true → a < b) → (t ≡ false → b ≡ a) → (a < b) ⊎ (b ≡ a)
    pick true lt ge = inl (lt refl)
    pick false lt ge = inr (ge refl)

-- at the seq behind what is known
last-look : (c : CacheState) (b : BoardState) (to : ℕ) → c.from ≤ to → to ≤ min (count_of c.head) (window_end c) → wanted c b to ≡ looked c b to
last-look c b to begin le =
    let bound : ℕ = min (count_of c.head) (window_end c) in
    let room : ℕ = limit c.client - outstanding b c.client - 1 in
    let in_count : bound ≤ count_of c.head = min-le_left (count_of c.head) (window_end c) in
    let in_end : bound ≤ window_end c = min-le_right (count_of c.head) (window_end c) in
    elim (ends to bound le) [
      | inl lt ↦
          let below : to < count_of c.head = omega (arith, lt, in_count) in
          let before : to < window_end c = omega (arith, lt, in_end) in
          sym (looked-there c b to below (inside_of c to begin before))
      | inr is ↦
          let none : bound - to ≡ 0 = omega (arith, is) in
          let at : bound ≤ to = omega (arith, is) in
          ap (λ (d : ℕ). take room (missing c to d)) none ∙ take_empty room ∙ sym (looked-end c b to at)
    ]

first-look : (c : CacheState) (b : BoardState) (from n : ℕ) → KnownUpTo c from (from + suc n) → from + suc n ≤ count_of c.head → looked c b from ≡ looked c b (from + suc n)
first-look c b from n known within =
    let to : ℕ = from + suc n in
    let bound : ℕ = min (count_of c.head) (window_end c) in
    let room : ℕ = limit c.client - outstanding b c.client - 1 in
    let up : from + n < to = omega arith in
    let up' : from < to = omega arith in
    let first : in_window c from ≡ true = known-inside c from (known_at c from) refl (known from (omega arith) up') in
    let last : in_window c (from + n) ≡ true = known-inside c (from + n) (known_at c (from + n)) refl (known (from + n) (omega arith) up) in
    let next : to ≡ from + n + 1 = omega arith in
    let end : to ≤ window_end c = inside_end c (from + n) to last next in
    let begin : c.from ≤ from = inside_from c from first in
    let begin' : c.from ≤ to = omega (arith, begin) in
    let le : to ≤ bound = le-min within end in
    let settled : Settled c from to = known_settled c from to known in
    let split : bound - from ≡ suc n + (bound - to) = omega (arith, le) in
    let same : missing c from (bound - from) ≡ missing c to (bound - to) = ap (missing c from) split ∙ settled-behind c from (suc n) (bound - to) settled in
    let lt : from < count_of c.head = omega (arith, within) in
    looked-there c b from lt first ∙ ap (take room) same ∙ last-look c b to begin' le

-- The looks behind it.

take_nothing : (n : ℕ) (xs : List ℕ) → n ≡ 0 → take n xs ≡ []
take_nothing zero xs is = refl
take_nothing (suc n) xs is = absurd (omega (arith, is))

take_short : (r : ℕ) (xs : List ℕ) → (take r xs ≡ xs) ⊎ (length (take r xs) ≡ r)
take_short zero xs = inr refl
take_short (suc r) [] = inl refl
take_short (suc r) (x ∷ xs) = elim (take_short r xs) [ inl all ↦ inl (ap (λ l. x ∷ l) all) | inr cut ↦ inr (ap suc cut) ]

looked-if : (c : CacheState) (b : BoardState) (seq : ℕ) → wanted c b seq ≡ [] → looked c b seq ≡ []
looked-if c b seq none = test (nat_lt seq (count_of c.head) && in_window c seq)
  where
    test : (t : Bool) → (if t then wanted c b seq else []) ≡ []
    test true = none
    test false = refl

-- once one look has asked, no seq behind it has anything to ask
nothing-wanted : (c : CacheState) (b : BoardState) (from seq : ℕ) (xs : List ℕ) → xs ≡ wanted c b from → count_of c.head ≤ length c.in_flight → from ≤ seq → from ≤ min (count_of c.head) (window_end c) → wanted (flying c xs) (asking c b xs) seq ≡ []
nothing-wanted c b from seq xs is flags le inside =
    let bound : ℕ = min (count_of c.head) (window_end c) in
    let room : ℕ = limit c.client - outstanding b c.client - 1 in
    let later : ℕ = limit c.client - outstanding (asking c b xs) c.client - 1 in
    let all : List ℕ = missing c from (bound - from) in
    elim (take_short room all) [
      | inl whole ↦
          let settled : Settled (flying c all) from (from + (bound - from)) = asked-settled c from (bound - from) (omega (arith, inside, flags, min-le_left (count_of c.head) (window_end c))) in
          let settled' : Settled (flying c xs) from (from + (bound - from)) = subst (λ (l : List ℕ). Settled (flying c l) from (from + (bound - from))) (sym (is ∙ whole)) settled in
          let empty : missing (flying c xs) seq (bound - seq) ≡ [] = settled-none (flying c xs) seq (bound - seq) (λ (k : ℕ) (ge : seq ≤ k) (lt : k < seq + (bound - seq)). settled' k (omega (arith, ge, le)) (omega (arith, ge, lt, inside))) in
          ap (take later) empty ∙ take_empty later
      | inr cut ↦ take_nothing later (missing (flying c xs) seq (bound - seq)) (omega (arith, asking_outstanding c b xs, ap (λ (l : List ℕ). length l) is, cut))
    ]

nothing-more : (c : CacheState) (b : BoardState) (from seq : ℕ) (mid : CacheState) (board : BoardState) → count_of c.head ≤ length c.in_flight → from ≤ seq → from ≤ min (count_of c.head) (window_end c) → Asks c b (wanted c b from) mid board → looked mid board seq ≡ []
nothing-more c b from seq mid board flags le inside asks =
    let xs : List ℕ = wanted c b from in
    subst (λ (m : CacheState). looked m board seq ≡ []) (sym asks.cache) (subst (λ (x : BoardState). looked (flying c xs) x seq ≡ []) (sym asks.board) (looked-if (flying c xs) (asking c b xs) seq (nothing-wanted c b from seq xs refl flags le inside)))

asks-none : (c : CacheState) (b : BoardState) (xs : List ℕ) (c' : CacheState) (b' : BoardState) → xs ≡ [] → Asks c b xs c' b' → (c' ≡ c) × (b' ≡ b)
asks-none c b [] c' b' is asks = (asks.cache, asks.board ∙ ap (λ (w : List (Client × Request)). record b { waiting = w }) (append-nil b.waiting))
asks-none c b (x ∷ xs) c' b' is asks = absurd cc

turns-none : (n : ℕ) (c : CacheState) (b : BoardState) (seq : ℕ) (c' : CacheState) (b' : BoardState) → ((k : ℕ) → seq ≤ k → looked c b k ≡ []) → LooksInTurn c b seq n c' b' → (c' ≡ c) × (b' ≡ b)
turns-none zero c b seq c' b' none looks = looks
turns-none (suc n) c b seq c' b' none (mid, board, asks, rest) =
    let here = asks-none c b (looked c b seq) mid board (none seq (omega arith)) asks in
    let rest' : LooksInTurn c b (seq + 1) n c' b' = subst (λ (m : CacheState). LooksInTurn m b (seq + 1) n c' b') here.0 (subst (λ (x : BoardState). LooksInTurn mid x (seq + 1) n c' b') here.1 rest) in
    turns-none n c b (seq + 1) c' b' (λ (k : ℕ) (le : seq + 1 ≤ k). none k (omega (arith, le))) rest'

-- looks in turn at known items and at the one behind them ask what a look at that one asks
pub looks-as-one : (n : ℕ) (c : CacheState) (b : BoardState) (from : ℕ) (c' : CacheState) (b' : BoardState) → count_of c.head ≤ length c.in_flight → KnownUpTo c from (from + n) → from + n ≤ count_of c.head → LooksInTurn c b from (suc n) c' b' → Asks c b (looked c b (from + n)) c' b'
looks-as-one zero c b from c' b' flags known within (mid, board, asks, rest) =
    let same : from + 0 ≡ from = omega arith in
    rw same (subst (λ (m : CacheState). Asks c b (looked c b from) m b') (sym rest.0) (subst (λ (x : BoardState). Asks c b (looked c b from) mid x) (sym rest.1) asks))
looks-as-one (suc n) c b from c' b' flags known within (mid, board, asks, rest) =
    let first : in_window c from ≡ true = known-inside c from (known_at c from) refl (known from (omega arith) (omega arith)) in
    let lt : from < count_of c.head = omega (arith, within) in
    let inside : from ≤ min (count_of c.head) (window_end c) = le-min (omega (arith, lt)) (inside_before c from first) in
    let asks' : Asks c b (wanted c b from) mid board = subst (λ (xs : List ℕ). Asks c b xs mid board) (looked-there c b from lt first) asks in
    let none = turns-none (suc n) mid board (from + 1) c' b' (λ (k : ℕ) (le : from + 1 ≤ k). nothing-more c b from k mid board flags (omega (arith, le)) inside asks') rest in
    subst (λ (xs : List ℕ). Asks c b xs c' b') (first-look c b from n known within) (subst (λ (m : CacheState). Asks c b (looked c b from) m b') (sym none.0) (subst (λ (x : BoardState). Asks c b (looked c b from) mid x) (sym none.1) asks))
  where
    inside_before : (c : CacheState) (seq : ℕ) → in_window c seq ≡ true → seq ≤ window_end c
    inside_before c seq h = grind (arith, nat_tests, h)
