-- The first of a list that passes a test: where it stands, and what is put in its place.
use Rattle.std.proofs.Common.{◌≡◌, ℕ, zero, suc, ◌<◌, Bool, true, false, cond, List, [], ◌∷◌, ◌++◌, length, get_or, set, Some, None, find, nat_lt, refl, ap, ◌∙◌, arith}
use Rattle.std.specs.List.{position, position_or_len, list_any}
use Rattle.std.proofs.lemmas.Bool.{cond-true, cond-false, or_left, or_right, or_from}
use Rattle.std.proofs.lemmas.Bool.Decides.{nat_tests}
use Rattle.std.proofs.lemmas.List.Quantifiers.{position-Some}
use Rattle.std.proofs.lemmas.List.Sums.{fails_before_first}
use Rattle.plan_vehicle.specs.Drafts.{put_by, put_first}

not_some : (b : Bool) (n : ℕ) → cond b (Some n) None ≡ None → b ≡ false
not_some true n h = absurd cc
not_some false n h = refl

-- where no place is found, each element fails
fails_everywhere : {A : Type 0} (test : A → Bool) (xs : List A) → position test xs ≡ None → (k : ℕ) (d : A) → k < length xs → test (get_or xs k d) ≡ false
fails_everywhere test xs none k d within =
    let past : nat_lt (position_or_len test xs) (length xs) ≡ false = not_some _ _ none in
    fails_before_first test xs k d (grind (arith, nat_tests))

put_at : {A : Type 0} (test : A → Bool) (new d : A) (xs : List A) (i : ℕ) → i < length xs → test (get_or xs i d) ≡ true → ((k : ℕ) → k < i → test (get_or xs k d) ≡ false) → put_by test new xs ≡ set xs i new
put_at test new d [] i within passes before = absurd (omega (arith, within))
put_at test new d (x ∷ xs) zero within passes before = rw passes refl
put_at test new d (x ∷ xs) (suc i) within passes before =
    let first : test x ≡ false = before 0 (omega arith) in
    rw first (ap (λ rest. x ∷ rest) (put_at test new d xs i (omega (arith, within)) passes (λ k h. before (suc k) (omega (arith, h)))))

put_behind : {A : Type 0} (test : A → Bool) (new d : A) (xs : List A) → ((k : ℕ) → k < length xs → test (get_or xs k d) ≡ false) → put_by test new xs ≡ xs ++ new ∷ []
put_behind test new d [] fails = refl
put_behind test new d (x ∷ xs) fails =
    let first : test x ≡ false = fails 0 (omega arith) in
    rw first (ap (λ rest. x ∷ rest) (put_behind test new d xs (λ k h. fails (suc k) (omega (arith, h)))))

find_at : {A : Type 0} (test : A → Bool) (d : A) (xs : List A) (i : ℕ) → i < length xs → test (get_or xs i d) ≡ true → ((k : ℕ) → k < i → test (get_or xs k d) ≡ false) → find test xs ≡ Some (get_or xs i d)
find_at test d [] i within passes before = absurd (omega (arith, within))
find_at test d (x ∷ xs) zero within passes before = rw passes refl
find_at test d (x ∷ xs) (suc i) within passes before =
    let first : test x ≡ false = before 0 (omega arith) in
    rw first (find_at test d xs i (omega (arith, within)) passes (λ k h. before (suc k) (omega (arith, h))))

find_nothing : {A : Type 0} (test : A → Bool) (xs : List A) → ((k : ℕ) (d : A) → k < length xs → test (get_or xs k d) ≡ false) → find test xs ≡ None
find_nothing test [] fails = refl
find_nothing test (x ∷ xs) fails =
    let first : test x ≡ false = fails 0 x (omega arith) in
    rw first (find_nothing test xs (λ k d h. fails (suc k) d (omega (arith, h))))

-- an element is put in the place that is found
pub put_by-Some : {A : Type 0} (test : A → Bool) (new d : A) (xs : List A) (i : ℕ) → position test xs ≡ Some i → put_by test new xs ≡ set xs i new
put_by-Some test new d xs i found =
    let at = position-Some test xs i d found in
    put_at test new d xs i at.0 at.1 at.2

-- an element is put behind the others where no place is found
pub put_by-None : {A : Type 0} (test : A → Bool) (new : A) (xs : List A) → position test xs ≡ None → put_by test new xs ≡ xs ++ new ∷ []
put_by-None test new xs none = put_behind test new new xs (λ k h. fails_everywhere test xs none k new h)

-- the first that passes stands in the place that is found, and passes
pub find-Some : {A : Type 0} (test : A → Bool) (d : A) (xs : List A) (i : ℕ) → position test xs ≡ Some i → (i < length xs) × (find test xs ≡ Some (get_or xs i d)) × (test (get_or xs i d) ≡ true)
find-Some test d xs i found =
    let at = position-Some test xs i d found in
    (at.0, find_at test d xs i at.0 at.1 at.2, at.1)

-- none passes where no place is found
pub find-None : {A : Type 0} (test : A → Bool) (xs : List A) → position test xs ≡ None → find test xs ≡ None
find-None test xs none = find_nothing test xs (fails_everywhere test xs none)

any_at : {A : Type 0} (test : A → Bool) (d : A) (xs : List A) (i : ℕ) → i < length xs → test (get_or xs i d) ≡ true → list_any test xs ≡ true
any_at test d [] i within passes = absurd (omega (arith, within))
any_at test d (x ∷ xs) zero within passes = or_left (test x) (list_any test xs) passes
any_at test d (x ∷ xs) (suc i) within passes = or_right (test x) (list_any test xs) (any_at test d xs i (omega (arith, within)) passes)

none_passes : {A : Type 0} (test : A → Bool) (xs : List A) → ((k : ℕ) (d : A) → k < length xs → test (get_or xs k d) ≡ false) → list_any test xs ≡ false
none_passes test [] fails = refl
none_passes test (x ∷ xs) fails =
    or_from (test x) (list_any test xs) (fails 0 x (omega arith)) (none_passes test xs (λ k d h. fails (suc k) d (omega (arith, h))))

-- the same with elements that are put first
pub put_first-Some : {A : Type 0} (test : A → Bool) (new d : A) (xs : List A) (i : ℕ) → position test xs ≡ Some i → put_first test new xs ≡ set xs i new
put_first-Some test new d xs i found =
    let at = position-Some test xs i d found in
    cond-true (list_any test xs) (put_by test new xs) (new ∷ xs) (any_at test d xs i at.0 at.1) ∙ put_by-Some test new d xs i found

pub put_first-None : {A : Type 0} (test : A → Bool) (new : A) (xs : List A) → position test xs ≡ None → put_first test new xs ≡ new ∷ xs
put_first-None test new xs none = cond-false (list_any test xs) (put_by test new xs) (new ∷ xs) (none_passes test xs (fails_everywhere test xs none))
