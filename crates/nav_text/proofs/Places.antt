-- What `position` gives, as `position_or_len`.
use Rattle.std.proofs.Common.{◌≡◌, ℕ, ◌≤◌, Bool, true, false, List, length, get_or, Some, None, arith, refl, sym, ap, ◌∙◌}
use Rattle.std.specs.Prelude.{cond, position, nat_lt, Option}
use Rattle.std.specs.Str.{IsAscii}
use Rattle.std.proofs.lemmas.Str.Ascii.{All-from_ascii}
use Rattle.std.proofs.lemmas.Bool.{lt-ltb, le-ltb}
use Rattle.std.proofs.lemmas.List.Sums.{position_or_len_is}
use Rattle.memchr.specs.Find.{IsFirstByte}
use Rattle.nav_text.specs.Faults.{is_high}
use Rattle.std.specs.List.{position_or_len}
use Rattle.std.proofs.lemmas.List.Sums.{prefix_len-le-length}
use Rattle.std.proofs.lemmas.Bool.{ltb-false}
use mathlib.Core.Bool.{not}

place_by : (k n place : ℕ) (b : Bool) → Some place ≡ cond b (Some k) None → place ≡ k
place_by k n place true e = cc
place_by k n place false e = cc

end_by : (k n : ℕ) (b : Bool) → None ≡ cond b (Some k) None → b ≡ false
end_by k n true e = cc
end_by k n false e = cc

-- where a byte passes, its place
pub place_is : {X : Type 0} (p : X → Bool) (xs : List X) (place : ℕ) → Some place ≡ position p xs → place ≡ position_or_len p xs
place_is p xs place e = place_by (position_or_len p xs) (length xs) place _ e

-- where none does, the length
pub end_is : {X : Type 0} (p : X → Bool) (xs : List X) → None ≡ position p xs → position_or_len p xs ≡ length xs
end_is {X} p xs e =
    let past = ltb-false (position_or_len p xs) (length xs) (end_by (position_or_len p xs) (length xs) _ e) in
    let within : position_or_len p xs ≤ length xs = prefix_len-le-length (λ (x : X). not (p x)) xs in
    omega arith

-- a test that does not pass fails
fails : (b : Bool) → (b ≡ true → ⊥) → b ≡ false
fails true h = absurd (h refl)
fails false h = refl

-- what a search for a byte gives is the first place
pub first_is : (p : ℕ → Bool) (xs : List ℕ) (found : Option ℕ) → IsFirstByte p xs found → found ≡ position p xs
first_is p xs (Some k) h =
    let at : position_or_len p xs ≡ k = position_or_len_is p xs k 0 (omega (arith, h.0.high)) (λ j below. fails (p (get_or xs j 0)) (h.0.before j (omega arith) below)) (λ below. h.1) in
    sym (ap (λ n. cond (nat_lt n (length xs)) (Some n) None) at ∙ ap (λ b. cond b (Some k) None) (lt-ltb k (length xs) h.0.high))
first_is p xs None h =
    let at : position_or_len p xs ≡ length xs = position_or_len_is p xs (length xs) 0 (omega arith) (λ j below. fails (p (get_or xs j 0)) (h j (omega arith) below)) (λ below. absurd (omega arith)) in
    sym (ap (λ n. cond (nat_lt n (length xs)) (Some n) None) at ∙ ap (λ b. cond b (Some (length xs)) None) (le-ltb (length xs) (length xs) (omega arith)))

-- a text of ASCII alone has no byte that is none
pub none_high : (text : List ℕ) → IsAscii text → None ≡ position is_high text
none_high text ascii =
    let at : position_or_len is_high text ≡ length text = position_or_len_is is_high text (length text) 0 (omega arith) (λ k below. le-ltb 127 (get_or text k 0) (omega (arith, All-from_ascii text ascii k 0 below))) (λ below. absurd (omega arith)) in
    sym (ap (λ n. cond (nat_lt n (length text)) (Some n) None) at ∙ ap (λ b. cond b (Some (length text)) None) (le-ltb (length text) (length text) (omega arith)))

-- a place that was found lies within the list
pub place_within : {X : Type 0} (p : X → Bool) (xs : List X) (place : ℕ) → Some place ≡ position p xs → place ≤ length xs
place_within {X} p xs place e =
    let found = place_is p xs place e in
    let within : position_or_len p xs ≤ length xs = prefix_len-le-length (λ (x : X). not (p x)) xs in
    omega arith
