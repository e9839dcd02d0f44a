-- What stands at the front of what is left of a list.
use Rattle.std.proofs.Common.{◌≡◌, ℕ, zero, suc, ◌+◌, ◌<◌, ◌≤◌, List, [], ◌∷◌, length, drop, get_or, arith, add-one}

front_suc : {A : Type 0} (xs : List A) (n : ℕ) (x : A) (rest : List A) (d : A) → drop n xs ≡ x ∷ rest → (get_or xs n d ≡ x) × (drop (suc n) xs ≡ rest) × (n < length xs)
front_suc [] zero x rest d h = absurd cc
front_suc [] (suc n) x rest d h = absurd cc
front_suc (y ∷ ys) zero x rest d h = (cc, cc, omega arith)
front_suc (y ∷ ys) (suc n) x rest d h = let more = front_suc ys n x rest d h in (more.0, more.1, omega (arith, more.2))

pub front : {A : Type 0} (xs : List A) (n : ℕ) (x : A) (rest : List A) (d : A) → drop n xs ≡ x ∷ rest → (get_or xs n d ≡ x) × (drop (n + 1) xs ≡ rest) × (n < length xs)
front xs n x rest d h = rw add-one (front_suc xs n x rest d h)

pub at_end : {A : Type 0} (xs : List A) (n : ℕ) → drop n xs ≡ [] → length xs ≤ n
at_end [] n h = omega arith
at_end (y ∷ ys) zero h = absurd cc
at_end (y ∷ ys) (suc n) h = omega (arith, at_end ys n h)
