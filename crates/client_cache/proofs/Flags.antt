-- Flags, and those behind them that are not kept since they are all false.
use Rattle.std.proofs.Common.{◌≡◌, ℕ, zero, suc, ◌+◌, ◌-◌, ◌<◌, ◌≤◌, Bool, false, List, [], ◌∷◌, ◌++◌, length, refl, ap, ◌∙◌, arith, append_assoc, length-append, replicate, set}
use Rattle.std.proofs.lemmas.List.{length-replicate}

pub set-front : (xs ys : List Bool) (k : ℕ) (flag : Bool) → k < length xs → set (xs ++ ys) k flag ≡ set xs k flag ++ ys
set-front [] ys k flag lt = absurd (omega (arith, lt))
set-front (x ∷ xs) ys zero flag lt = refl
set-front (x ∷ xs) ys (suc k) flag lt = ap (λ l. x ∷ l) (set-front xs ys k flag (omega (arith, lt)))

set-none : (n k : ℕ) → set (replicate n false) k false ≡ replicate n false
set-none zero k = refl
set-none (suc n) zero = refl
set-none (suc n) (suc k) = ap (λ l. false ∷ l) (set-none n k)

pub set-behind : (xs : List Bool) (n k : ℕ) → length xs ≤ k → set (xs ++ replicate n false) k false ≡ xs ++ replicate n false
set-behind [] n k le = set-none n k
set-behind (x ∷ xs) n zero le = absurd (omega (arith, le))
set-behind (x ∷ xs) n (suc k) le = ap (λ l. x ∷ l) (set-behind xs n k (omega (arith, le)))

pub replicate-add : (m n : ℕ) → replicate m false ++ replicate n false ≡ replicate (m + n) false
replicate-add zero n = ap (λ k. replicate k false) (omega arith)
replicate-add (suc m) n =
    let e : suc (m + n) ≡ suc m + n = omega arith in
    ap (λ l. false ∷ l) (replicate-add m n) ∙ ap (λ k. replicate k false) e

-- more of the flags are kept
pub more-kept : (xs : List Bool) (k count : ℕ) → length xs + k ≤ count → (xs ++ replicate k false) ++ replicate (count - length (xs ++ replicate k false)) false ≡ xs ++ replicate (count - length xs) false
more-kept xs k count le =
    let long : length (xs ++ replicate k false) ≡ length xs + k = length-append xs (replicate k false) ∙ ap (λ n. length xs + n) (length-replicate {A = Bool} k false) in
    let left : k + (count - length (xs ++ replicate k false)) ≡ count - length xs = omega (arith, long, le) in
    append_assoc xs (replicate k false) (replicate (count - length (xs ++ replicate k false)) false)
    ∙ ap (λ l. xs ++ l) (replicate-add k (count - length (xs ++ replicate k false)) ∙ ap (λ n. replicate n false) left)
