-- A field that was put at a place of a list of bytes.
use Rattle.std.proofs.Common.{◌≡◌, ℕ, ◌+◌, ◌-◌, ◌≤◌, List, ◌++◌, length, take, drop, ap, ◌∙◌, arith}
use Rattle.std.proofs.lemmas.List.{append-nil, drop_all, take_rest}
use Rattle.dataman_layout.specs.Fields.{is_zeros}
use Rattle.std.proofs.lemmas.Slice.{take-put_mid, drop-put_mid}
use borrow.Rule.Slice.PartMut.{put_mid, mid_of, mid_len}

-- a part of n bytes that holds a field of n bytes holds nothing else
whole : (n : ℕ) (field part new : List ℕ) → length part ≡ n → new ≡ field ++ drop n part → new ≡ field
whole n field part new size e = e ∙ ap (λ l. field ++ l) (drop_all n part (omega arith)) ∙ append-nil field

-- the bytes up to the end of the field
pub put-front : (at n : ℕ) (xs ys field : List ℕ) → at + n ≤ length xs → length ys ≡ n
    → ys ≡ field ++ drop n (mid_of at (at + n - at) xs) → take (at + n) (put_mid at (at + n - at) xs ys) ≡ take at xs ++ field
put-front at n xs ys field room size e =
    let part : length (mid_of at (at + n - at) xs) ≡ n = omega (arith, mid_len at (at + n) xs room) in
    take-put_mid at (at + n - at) xs ys (at + n) (omega arith) (omega arith)
    ∙ ap (λ l. take at xs ++ l) (whole n field (mid_of at (at + n - at) xs) ys part e)

-- the bytes behind it
pub put-rest : (at n k : ℕ) (xs ys : List ℕ) → at + n ≤ length xs → length ys ≡ n → at + n ≤ k
    → drop k (put_mid at (at + n - at) xs ys) ≡ drop k xs
put-rest at n k xs ys room size behind = drop-put_mid at (at + n - at) xs ys k (omega arith) (omega arith) (omega arith)

-- the bytes from a place on as a part of a slice
pub rest_is : (xs : List ℕ) (i : ℕ) → is_zeros (take (length xs - i) (drop i xs)) ≡ is_zeros (drop i xs)
rest_is xs i = ap is_zeros (take_rest xs i)

pub ruleset rests = (rest_is)
