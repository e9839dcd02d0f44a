-- One more seq looked at: what is asked of the board, and what is in flight then.
use Rattle.std.proofs.Common.{◌≡◌, ℕ, zero, suc, ◌+◌, ◌<◌, ◌≤◌, Bool, true, false, List, [], ◌∷◌, ◌++◌, length, take, refl, ◌∙◌, arith, append_assoc, is_some, ◌||◌, ap, sym, subst}
use Rattle.std.specs.Prelude.{slice_set, slice_index_or, if◌then◌else◌}
use Rattle.std.proofs.lemmas.Grind.{common_steps}
use Rattle.mission_model.specs.declared.plan.PlanType.{PlanType}
use Rattle.mission_model.specs.declared.request.Client.{Client}
use Rattle.request_board.specs.BoardState.{BoardState, HasClient, outstanding}
use Rattle.client_cache.specs.CacheState.{CacheState, known_at, is_in_flight, id_of}
use Rattle.client_cache.specs.Looking.{asking_outstanding}
use Rattle.client_cache.specs.Wants.{missing, missing_at, reads, asking, flags_with, flying, Asks}

pub reads-append : (client : Client) (kind : PlanType) (id : ℕ) (xs ys : List ℕ) → reads client kind id (xs ++ ys) ≡ reads client kind id xs ++ reads client kind id ys
reads-append client kind id [] ys = refl
reads-append client kind id (x ∷ xs) ys = rw (reads-append client kind id xs ys) refl

pub flags_with-append : (flags : List Bool) (xs ys : List ℕ) → flags_with flags (xs ++ ys) ≡ flags_with (flags_with flags xs) ys
flags_with-append flags [] ys = refl
flags_with-append flags (x ∷ xs) ys = flags_with-append (slice_set flags x true) xs ys

-- all of these seqs are below one
abbrev pub AllBelow : ℕ → List ℕ → Type 0
AllBelow n [] = Unit {0}
AllBelow n (x ∷ xs) = (x < n) × AllBelow n xs

pub AllBelow-append : (n : ℕ) (xs ys : List ℕ) → AllBelow n xs → AllBelow n ys → AllBelow n (xs ++ ys)
AllBelow-append n [] ys a b = b
AllBelow-append n (x ∷ xs) ys a b = (a.0, AllBelow-append n xs ys a.1 b)

pub AllBelow-le : (m n : ℕ) (xs : List ℕ) → m ≤ n → AllBelow m xs → AllBelow n xs
AllBelow-le m n [] le a = tt
AllBelow-le m n (x ∷ xs) le a = (omega (arith, a.0, le), AllBelow-le m n xs le a.1)

pub flag-other : (flags : List Bool) (x n : ℕ) → x < n → slice_index_or (slice_set flags x true) n false ≡ slice_index_or flags n false
flag-other flags x n below = grind (arith, common_steps, below)

-- seqs below one leave its flag
pub flags_with-above : (flags : List Bool) (xs : List ℕ) (n : ℕ) → AllBelow n xs → slice_index_or (flags_with flags xs) n false ≡ slice_index_or flags n false
flags_with-above flags [] n a = refl
flags_with-above flags (x ∷ xs) n a = flags_with-above (slice_set flags x true) xs n a.1 ∙ flag-other flags x n a.0

pub missing_if-below : (known : Bool) (seq : ℕ) → AllBelow (seq + 1) (if known then [] else seq ∷ [])
missing_if-below true seq = tt
missing_if-below false seq = (omega arith, tt)

pub missing_if-one : (known : Bool) (seq : ℕ) → length (if known then [] else seq ∷ []) ≤ 1
missing_if-one true seq = omega arith
missing_if-one false seq = omega arith

pub missing-below : (c : CacheState) (seq n : ℕ) → AllBelow (seq + n) (missing c seq n)
missing-below c seq zero = tt
missing-below c seq (suc n) = AllBelow-append (seq + suc n) (missing c seq n) (missing_at c (seq + n)) (AllBelow-le (seq + n) (seq + suc n) (missing c seq n) (omega arith) (missing-below c seq n)) (AllBelow-le (seq + n + 1) (seq + suc n) (missing_at c (seq + n)) (omega arith) (missing_if-below (is_some (known_at c (seq + n)) || is_in_flight c (seq + n)) (seq + n)))

-- a seq above those in flight is missing as before
pub missing_at-flying : (c : CacheState) (xs : List ℕ) (n : ℕ) → AllBelow n xs → missing_at (flying c xs) n ≡ missing_at c n
missing_at-flying c xs n a = rw (flags_with-above c.in_flight xs n a) refl

pub take-front : (xs ys : List ℕ) → take (length xs) (xs ++ ys) ≡ xs
take-front xs ys = grind (arith, common_steps)

-- a look further on begins with what was missing before
pub missing-split : (c : CacheState) (seq n d : ℕ) → (more : List ℕ) × (missing c seq (n + d) ≡ missing c seq n ++ more)
missing-split c seq n zero = ([], grind (arith, common_steps))
missing-split c seq n (suc d) =
    let (more, is) = missing-split c seq n d in
    let e : n + suc d ≡ suc (n + d) = omega arith in
    (more ++ missing_at c (seq + (n + d)), rw (e, is) (append_assoc (missing c seq n) more (missing_at c (seq + (n + d)))))

pub missing-more : (c : CacheState) (seq n d r : ℕ) → r ≡ length (missing c seq n) → take r (missing c seq (n + d)) ≡ missing c seq n
missing-more c seq n d r e = let (more, is) = missing-split c seq n d in rw (e, is) (take-front (missing c seq n) more)

pub take-whole : (r : ℕ) (xs : List ℕ) → length xs ≤ r → take r xs ≡ xs
take-whole r xs le = grind (arith, common_steps, le)

-- nothing asked
pub Asks-none : (c : CacheState) (b : BoardState) → Asks c b [] c b
Asks-none c b = record { cache = refl; board = grind (arith, common_steps) }

-- some asked, and then some more
pub Asks-trans : (c : CacheState) (b : BoardState) (xs : List ℕ) (c1 : CacheState) (b1 : BoardState) (ys : List ℕ) (c2 : CacheState) (b2 : BoardState) → Asks c b xs c1 b1 → Asks c1 b1 ys c2 b2 → Asks c b (xs ++ ys) c2 b2
Asks-trans c b xs c1 b1 ys c2 b2 first next =
    let q : Asks (flying c xs) (asking c b xs) ys c2 b2 = rw (← first.cache, ← first.board) next in
    record {
      cache = rw (flags_with-append c.in_flight xs ys) q.cache;
      board = rw (reads-append c.client c.kind (id_of c.head) xs ys, ← append_assoc b.waiting (reads c.client c.kind (id_of c.head) xs) (reads c.client c.kind (id_of c.head) ys)) q.board;
    }

-- how many requests are outstanding then
pub outstanding-asks : (c : CacheState) (b : BoardState) (xs : List ℕ) (c1 : CacheState) (b1 : BoardState) → Asks c b xs c1 b1 → outstanding b1 c.client ≡ outstanding b c.client + length xs
outstanding-asks c b xs c1 b1 asks = ap (λ (s : BoardState). outstanding s c.client) asks.board ∙ asking_outstanding c b xs

pub clients-asks : (c : CacheState) (b : BoardState) (xs : List ℕ) (c1 : CacheState) (b1 : BoardState) → Asks c b xs c1 b1 → HasClient b c.client → HasClient b1 c1.client
clients-asks c b xs c1 b1 asks has =
    let there : HasClient b1 c.client = subst (λ (s : BoardState). HasClient s c.client) (sym asks.board) has in
    subst (λ (k : Client). HasClient b1 k) (sym (ap (λ (x : CacheState). x.client) asks.cache)) there
