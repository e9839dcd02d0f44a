-- Tests of all elements of a list, one after another.
use Rattle.std.specs.Prelude.{◌≡◌, ℕ, zero, suc, ◌+◌, ◌<◌, ◌≤◌, ◌&&◌, Bool, true, false, List, [], ◌∷◌, ◌++◌, length, take, drop, Option, Some, None, slice_get, unwrap_or}
use Rattle.std.specs.List.{list_all}
use Rattle.std.proofs.Common.{refl, sym, ap, ◌∙◌, arith}

-- the elements from a place on: the one there, and those behind it
all_from : {X : Type 0} (f : X → Bool) (xs : List X) (k : ℕ) (x : X) → slice_get xs k ≡ Some x → list_all f (drop k xs) ≡ (f x && list_all f (drop (suc k) xs))
all_from f [] zero x at = absurd cc
all_from f [] (suc k) x at = absurd cc
all_from f (y ∷ xs) zero x at = ap (λ (o : Option _). f (unwrap_or o x) && list_all f xs) at
all_from f (y ∷ xs) (suc k) x at = all_from f xs k x at

pub stops : {X : Type 0} (f : X → Bool) (xs : List X) (k : ℕ) (x : X) → slice_get xs k ≡ Some x → f x ≡ false → list_all f (drop k xs) ≡ list_all f xs → false ≡ list_all f xs
stops f xs k x at failing rest = ap (λ (b : Bool). b && list_all f (drop (suc k) xs)) (sym failing) ∙ sym (all_from f xs k x at) ∙ rest

pub goes : {X : Type 0} (f : X → Bool) (xs : List X) (k j : ℕ) (x : X) → j ≡ k + 1 → slice_get xs k ≡ Some x → f x ≡ true → list_all f (drop k xs) ≡ list_all f xs → list_all f (drop j xs) ≡ list_all f xs
goes f xs k j x is at passing rest =
    let same : j ≡ suc k = omega (arith, is) in
    ap (λ (n : ℕ). list_all f (drop n xs)) same ∙ ap (λ (b : Bool). b && list_all f (drop (suc k) xs)) (sym passing) ∙ sym (all_from f xs k x at) ∙ rest

-- the same test of each
pub same_tests : {X : Type 0} (f g : X → Bool) (xs : List X) → ((x : X) → f x ≡ g x) → list_all f xs ≡ list_all g xs
same_tests f g xs same = λ i. list_all (λ x. same x i) xs

-- a list with one element more
pub get_push : {X : Type 0} (xs : List X) (x : X) (k : ℕ) → k < length xs → slice_get (xs ++ x ∷ []) k ≡ slice_get xs k
get_push [] x k below = absurd (omega (arith, below))
get_push (y ∷ xs) x zero below = refl
get_push (y ∷ xs) x (suc k) below = get_push xs x k (omega (arith, below))

pub get_last : {X : Type 0} (xs : List X) (x : X) (k : ℕ) → k ≡ length xs → slice_get (xs ++ x ∷ []) k ≡ Some x
get_last [] x zero is = refl
get_last [] x (suc k) is = absurd (omega (arith, is))
get_last (y ∷ xs) x zero is = absurd (omega (arith, is))
get_last (y ∷ xs) x (suc k) is = get_last xs x k (omega (arith, is))

pub get_behind : {X : Type 0} (xs : List X) (k : ℕ) → length xs ≤ k → slice_get xs k ≡ None
get_behind [] zero past = refl
get_behind [] (suc k) past = refl
get_behind (x ∷ xs) zero past = absurd (omega (arith, past))
get_behind (x ∷ xs) (suc k) past = get_behind xs k (omega (arith, past))

pub length-push : {X : Type 0} (xs : List X) (x : X) → length (xs ++ x ∷ []) ≡ length xs + 1
length-push [] x = refl
length-push (y ∷ xs) x = omega (arith, length-push xs x)

pub take-push : {X : Type 0} (xs : List X) (x : X) (k : ℕ) → k ≤ length xs → take k (xs ++ x ∷ []) ≡ take k xs
take-push xs x zero low = refl
take-push [] x (suc k) low = absurd (omega (arith, low))
take-push (y ∷ xs) x (suc k) low = ap (λ (l : List _). y ∷ l) (take-push xs x k (omega (arith, low)))

-- one more of the first elements
pub take_one : {X : Type 0} (xs : List X) (k : ℕ) (x : X) → slice_get xs k ≡ Some x → take (suc k) xs ≡ take k xs ++ x ∷ []
take_one [] zero x at = absurd cc
take_one [] (suc k) x at = absurd cc
take_one (y ∷ xs) zero x at = ap (λ (o : Option _). unwrap_or o x ∷ []) at
take_one (y ∷ xs) (suc k) x at = ap (λ (l : List _). y ∷ l) (take_one xs k x at)
