-- The two slots of a new cell, put over zeros.
use Rattle.std.specs.Prelude.{◌≡◌, ◌+◌, ◌*◌, ◌-◌, ℕ, suc, List, ◌∷◌, ◌++◌, length, take, drop, replicate, slice_set}
use Rattle.std.proofs.Common.{sym, ap, arith, ◌∙◌}
use Rattle.std.proofs.lemmas.List.{take-append-drop, drop-replicate, length-replicate}
use Rattle.std.proofs.lemmas.Slice.{take-put_mid, drop-put_mid}
use borrow.Rule.Slice.PartMut.{put_mid}
use Rattle.recovery.specs.Migration.{new_slots}

-- zeros with the gate and the generation
abbrev begun : ℕ → List ℕ
begun n = 165 ∷ 1 ∷ 0 ∷ 0 ∷ 0 ∷ 0 ∷ 0 ∷ 0 ∷ 0 ∷ replicate n 0

length-begun : (n : ℕ) → length (begun n) ≡ 9 + n
length-begun n = omega (arith, length-replicate {A = ℕ} n 0)

pub slots_put : (slots payload ys : List ℕ) → slots ≡ replicate (length slots) 0 → length slots ≡ 2 * (9 + length payload) → ys ≡ payload → put_mid 9 (9 + length payload - 9) (slice_set (slice_set slots 0 165) 1 1) ys ≡ new_slots payload
slots_put slots payload ys zeros size same =
    let n = length payload in
    let long : length ys ≡ n = ap (λ (l : List ℕ). length l) same in
    let all : length slots ≡ suc (suc (suc (suc (suc (suc (suc (suc (suc (9 + n + n))))))))) = omega (arith, size) in
    let first : slice_set (slice_set slots 0 165) 1 1 ≡ begun (9 + n + n) = ap (λ (l : List ℕ). slice_set (slice_set l 0 165) 1 1) (zeros ∙ ap (λ (k : ℕ). replicate k 0) all) in
    let bytes = length-begun (9 + n + n) in
    let front : take (9 + n) (put_mid 9 (9 + n - 9) (begun (9 + n + n)) ys) ≡ take 9 (begun (9 + n + n)) ++ ys = take-put_mid 9 (9 + n - 9) (begun (9 + n + n)) ys (9 + n) (omega (arith, bytes)) (omega (arith, long)) in
    let back : drop (9 + n) (put_mid 9 (9 + n - 9) (begun (9 + n + n)) ys) ≡ drop (9 + n) (begun (9 + n + n)) = drop-put_mid 9 (9 + n - 9) (begun (9 + n + n)) ys (9 + n) (omega (arith, bytes)) (omega (arith, long)) (omega arith) in
    let step : 9 + n ≡ suc (suc (suc (suc (suc (suc (suc (suc (suc n)))))))) = omega arith in
    let left : 9 + n + n - n ≡ 9 + n = omega arith in
    let rest : drop (9 + n) (begun (9 + n + n)) ≡ replicate (9 + n) 0 = ap (λ (k : ℕ). drop k (begun (9 + n + n))) step ∙ drop-replicate n (9 + n + n) 0 ∙ ap (λ (k : ℕ). replicate k 0) left in
    ap (λ (l : List ℕ). put_mid 9 (9 + n - 9) l ys) first ∙ sym (take-append-drop (9 + n) (put_mid 9 (9 + n - 9) (begun (9 + n + n)) ys))
    ∙ (λ i. front i ++ (back ∙ rest) i) ∙ ap (λ (l : List ℕ). (165 ∷ 1 ∷ 0 ∷ 0 ∷ 0 ∷ 0 ∷ 0 ∷ 0 ∷ 0 ∷ l) ++ replicate (9 + n) 0) same
