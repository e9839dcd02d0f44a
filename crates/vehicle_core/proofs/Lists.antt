-- What holds of each element holds of the first, and of the others.
use Rattle.std.proofs.Common.{◌≡◌, ◌⊎◌, inl, inr, ℕ, zero, suc, ◌<◌, List, [], ◌∷◌, drop, length, slice_index_or, arith, subst, sym, refl}
use Rattle.std.specs.List.{All}

pub first_of : {X : Type 0} (P : X → Type 0) (x : X) (xs : List X) → All P (x ∷ xs) → P x
first_of P x xs h = h 0 x (omega arith)

pub rest_of : {X : Type 0} (P : X → Type 0) (x : X) (xs : List X) → All P (x ∷ xs) → All P xs
rest_of P x xs h = λ k d below. h (suc k) d (omega (arith, below))

pub behind : {X : Type 0} (P : X → Type 0) (xs : List X) → All P xs → All P (drop 1 xs)
behind P [] h = h
behind P (x ∷ xs) h = rest_of P x xs h

pub kept_or_behind : {X : Type 0} (P : X → Type 0) (xs ys : List X) → (ys ≡ xs) ⊎ (ys ≡ drop 1 xs) → All P xs → All P ys
kept_or_behind P xs ys is h = elim is [ inl same ↦ subst (All P) (sym same) h | inr less ↦ subst (All P) (sym less) (behind P xs h) ]

-- an element that is there is the same, whatever stands for one that is not
pub at_any : {X : Type 0} (xs : List X) (k : ℕ) (d e : X) → k < length xs → slice_index_or xs k d ≡ slice_index_or xs k e
at_any [] k d e below = absurd (omega (arith, below))
at_any (x ∷ xs) zero d e below = refl
at_any (x ∷ xs) (suc k) d e below = at_any xs k d e (omega (arith, below))
