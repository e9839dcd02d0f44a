-- A part of a list that was moved on by one place, with a value put at its beginning.
use Rattle.std.proofs.Common.{◌≡◌, ℕ, suc, ◌+◌, ◌-◌, ◌<◌, ◌≤◌, List, [], ◌∷◌, ◌++◌, length, take, drop, set, get_or, refl, arith, length-take, length-drop, take-take}
use Rattle.std.proofs.Math.Seq.{drop-cons}
use Rattle.std.proofs.Math.ListN.{drop_of_length-le}
use Rattle.std.proofs.lemmas.List.{drop-take}

-- the last element in front of the others, and a value in its place
pub set-moved : {X : Type 0} (ys : List X) (m : ℕ) (v d : X) → length ys ≡ suc m → set (drop m ys ++ take m ys) 0 v ≡ v ∷ take m ys
set-moved ys m v d h =
    let last : drop m ys ≡ get_or ys m d ∷ drop (suc m) ys = drop-cons ys m d (omega (arith, h)) in
    let none : drop (suc m) ys ≡ [] = drop_of_length-le ys {i = suc m} (omega (arith, h)) in
    rw (last, none) refl

pub moved_part : {X : Type 0} (xs : List X) (at len : ℕ) → at ≤ len → take (len - at) (take (len + 1 - at) (drop at xs)) ≡ drop at (take len xs)
moved_part xs at len a = grind (arith, take-take, drop-take at (len - at) xs)

-- the part that was moved on
pub moved : {X : Type 0} (xs : List X) (at len : ℕ) (v d : X) → at ≤ len → len < length xs → set (drop (length (take (len + 1 - at) (drop at xs)) - 1) (take (len + 1 - at) (drop at xs)) ++ take (length (take (len + 1 - at) (drop at xs)) - 1) (take (len + 1 - at) (drop at xs))) 0 v ≡ v ∷ drop at (take len xs)
moved xs at len v d a l =
    let n : length (take (len + 1 - at) (drop at xs)) ≡ suc (len - at) = grind (arith, length-take, length-drop) in
    let e : length (take (len + 1 - at) (drop at xs)) - 1 ≡ len - at = omega (arith, n) in
    let f : take (len - at) (take (len + 1 - at) (drop at xs)) ≡ drop at (take len xs) = moved_part xs at len a in
    rw (e, set-moved (take (len + 1 - at) (drop at xs)) (len - at) v d n, f) refl
