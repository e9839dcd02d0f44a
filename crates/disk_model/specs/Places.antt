-- Fields of two lists of which one is the other but for some bytes.
use Rattle.std.specs.Prelude.{◌≡◌, ◌⊎◌, ℕ, zero, suc, ◌+◌, ◌<◌, ◌≤◌, List, [], ◌∷◌, length, get_or, take, drop}
use Rattle.std.proofs.Common.{inl, inr, ⊎_elim, refl, sym, ◌∙◌, ap, arith}
use Rattle.std.proofs.lemmas.Bool.{cases_lt}
use Rattle.disk_model.specs.Bytes.{field, Outside, Torn}

-- a field of n bytes has n bytes
pub length-field : (bytes : List ℕ) (n at : ℕ) → length (field at n bytes) ≡ n
length-field bytes zero at = refl
length-field bytes (suc n) at = omega (arith, length-field bytes n (suc at))

-- two lists with the same bytes in a range have the same field there
pub field_same : (c d : List ℕ) (n at : ℕ) → ((k : ℕ) → at ≤ k → k < at + n → get_or c k 0 ≡ get_or d k 0) → field at n c ≡ field at n d
field_same c d zero at same = refl
field_same c d (suc n) at same =
    let here : get_or c at 0 ≡ get_or d at 0 = same at (omega arith) (omega arith) in
    let rest : field (suc at) n c ≡ field (suc at) n d = field_same c d n (suc at) (λ k low high. same k (omega arith) (omega arith)) in
    λ i. here i ∷ rest i

-- a byte of a field
pub get_or-field : (bytes : List ℕ) (n at k : ℕ) → k < n → get_or (field at n bytes) k 0 ≡ get_or bytes (at + k) 0
get_or-field bytes zero at k below = absurd (omega arith)
get_or-field bytes (suc n) at zero below =
    let same : at ≡ at + 0 = omega arith in
    ap (λ (j : ℕ). get_or bytes j 0) same
get_or-field bytes (suc n) at (suc k) below =
    let same : suc at + k ≡ at + suc k = omega arith in
    get_or-field bytes n (suc at) k (omega arith) ∙ ap (λ (j : ℕ). get_or bytes j 0) same

-- bytes that stand at a place are the field there
pub is_field : (bytes xs : List ℕ) (at : ℕ) → ((k : ℕ) → k < length xs → get_or xs k 0 ≡ get_or bytes (at + k) 0) → field at (length xs) bytes ≡ xs
is_field bytes [] at same = refl
is_field bytes (x ∷ xs) at same =
    let no_step : at + 0 ≡ at = omega arith in
    let first : get_or bytes at 0 ≡ x = ap (λ (n : ℕ). get_or bytes n 0) (sym no_step) ∙ sym (same 0 (omega arith)) in
    let rest : field (suc at) (length xs) bytes ≡ xs = is_field bytes xs (suc at) (λ k below.
    let step : at + suc k ≡ suc at + k = omega arith in
    same (suc k) (omega arith) ∙ ap (λ (n : ℕ). get_or bytes n 0) step) in
    λ i. first i ∷ rest i

-- ranges with no place in common
abbrev pub Apart : ℕ → ℕ → ℕ → ℕ → Type 0
Apart a m at n = (a + m ≤ at) ⊎ (at + n ≤ a)

-- a field apart from a written range stays
pub field_apart : (a m at n : ℕ) (old new : List ℕ) → Apart a m at n → Torn at n old new → field a m new ≡ field a m old
field_apart a m at n old new (inl before) torn = field_same new old m a (λ k low high. torn.others k (inl (omega arith)))
field_apart a m at n old new (inr behind) torn = field_same new old m a (λ k low high. torn.others k (inr (omega arith)))

-- the first m bytes of a field of t
pub field_take : (bytes : List ℕ) (m n at t : ℕ) → t ≡ m + n → field at m bytes ≡ take m (field at t bytes)
field_take bytes zero n at t e = refl
field_take bytes (suc m) n at zero e = absurd (omega arith)
field_take bytes (suc m) n at (suc t) e = ap (λ (l : List ℕ). get_or bytes at 0 ∷ l) (field_take bytes m n (suc at) t (omega arith))

-- the other n bytes of a field of t, which begin at b
pub field_drop : (bytes : List ℕ) (m n at t b : ℕ) → t ≡ m + n → b ≡ at + m → field b n bytes ≡ drop m (field at t bytes)
field_drop bytes zero n at t b e f =
    let same_n : n ≡ t = omega arith in
    let same_at : b ≡ at = omega arith in
    λ i. field (same_at i) (same_n i) bytes
field_drop bytes (suc m) n at zero b e f = absurd (omega arith)
field_drop bytes (suc m) n at (suc t) b e f = field_drop bytes m n (suc at) t b (omega arith) (omega arith)

-- nothing is written
pub torn_none : (at n : ℕ) (bytes : List ℕ) → Torn at n bytes bytes
torn_none at n bytes = record { size = refl; others = λ k outside. refl }

-- a range inside another
pub torn_wider : (a m at n : ℕ) (old new : List ℕ) → at ≤ a → a + m ≤ at + n → Torn a m old new → Torn at n old new
torn_wider a m at n old new low high torn = record { size = torn.size; others = λ k outside. torn.others k (wider k outside) }
  where
    wider : (k : ℕ) → Outside at n k → Outside a m k
    wider k (inl before) = inl (omega arith)
    wider k (inr behind) = inr (omega arith)

-- two writes in one range
pub torn_trans : (at n : ℕ) (a b c : List ℕ) → Torn at n a b → Torn at n b c → Torn at n a c
torn_trans at n a b c first second = record { size = second.size ∙ first.size; others = λ k outside. second.others k outside ∙ first.others k outside }

-- a place is in a range or outside it
pub sides : (at n k : ℕ) → (at ≤ k) × (k < at + n) ⊎ Outside at n k
sides at n k = ⊎_elim (λ before. inr (inl before)) (λ low. ⊎_elim (λ high. inl (low, high)) (λ behind. inr (inr behind)) (cases_lt k (at + n))) (cases_lt k at)

-- lists of one size with the same byte at each place are the same
pub same_bytes : (c b : List ℕ) → length c ≡ length b → ((k : ℕ) → get_or c k 0 ≡ get_or b k 0) → c ≡ b
same_bytes [] [] long same = refl
same_bytes [] (y ∷ b) long same = absurd (omega arith)
same_bytes (x ∷ c) [] long same = absurd (omega arith)
same_bytes (x ∷ c) (y ∷ b) long same =
    let first : x ≡ y = same 0 in
    let rest : c ≡ b = same_bytes c b (omega arith) (λ k. same (suc k)) in
    λ i. first i ∷ rest i
