-- What `position` gives, as `position_or_len`.
use Rattle.std.proofs.Common.{◌≡◌, ℕ, ◌≤◌, Bool, true, false, List, length, Some, None, arith}
use Rattle.std.specs.Prelude.{cond, position}
use Rattle.std.specs.List.{position_or_len}
use Rattle.std.proofs.lemmas.List.Sums.{prefix_len-le-length}
use Rattle.std.proofs.lemmas.Bool.{ltb-false}
use mathlib.Core.Bool.{not}

place_by : (k n place : ℕ) (b : Bool) → Some place ≡ cond b (Some k) None → place ≡ k
place_by k n place true e = cc
place_by k n place false e = cc

end_by : (k n : ℕ) (b : Bool) → None ≡ cond b (Some k) None → b ≡ false
end_by k n true e = cc
end_by k n false e = cc

-- where a byte passes, its place
pub place_is : {X : Type 0} (p : X → Bool) (xs : List X) (place : ℕ) → Some place ≡ position p xs → place ≡ position_or_len p xs
place_is p xs place e = place_by (position_or_len p xs) (length xs) place _ e

-- where none does, the length
pub end_is : {X : Type 0} (p : X → Bool) (xs : List X) → None ≡ position p xs → position_or_len p xs ≡ length xs
end_is {X} p xs e =
    let past = ltb-false (position_or_len p xs) (length xs) (end_by (position_or_len p xs) (length xs) _ e) in
    let within : position_or_len p xs ≤ length xs = prefix_len-le-length (λ (x : X). not (p x)) xs in
    omega arith

-- a place that was found lies within the list
pub place_within : {X : Type 0} (p : X → Bool) (xs : List X) (place : ℕ) → Some place ≡ position p xs → place ≤ length xs
place_within {X} p xs place e =
    let found = place_is p xs place e in
    let within : position_or_len p xs ≤ length xs = prefix_len-le-length (λ (x : X). not (p x)) xs in
    omega arith
