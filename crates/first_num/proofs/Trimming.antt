-- Digits by their last one, and the zeros at their end.
use Rattle.std.proofs.Common.{◌≡◌, ◌≢◌, ℕ, zero, suc, ◌+◌, ◌-◌, ◌/◌, ◌%◌, ◌<◌, ◌⊎◌, ◌&&◌, cond, ◌==◌, List, [], ◌∷◌, ◌++◌, length, refl, sym, ap, ◌∙◌, inl, inr, ⊎_elim, arith}
use Rattle.std.proofs.lemmas.List.{append_assoc, length-append}
use Rattle.std.proofs.lemmas.Bool.{cases_lt, ne_eqb}
use Rattle.first_num.specs.Decimal.{last_digits, without_last_zeros, behind_point}

pub last_digits_step : (count n : ℕ) → 0 < count → last_digits count n ≡ last_digits (count - 1) (n / 10) ++ ((48 + n % 10) ∷ [])
last_digits_step zero n h = absurd (omega arith)
last_digits_step (suc count) n h = let e : count ≡ suc count - 1 = omega arith in ap (λ k. last_digits k (n / 10) ++ ((48 + n % 10) ∷ [])) e

pub without_last_zeros-zero : (ds : List ℕ) → without_last_zeros (ds ++ (48 ∷ [])) ≡ without_last_zeros ds
without_last_zeros-zero [] = refl
without_last_zeros-zero (d ∷ ds) = ap (λ rest. cond ((length rest == 0) && (d == 48)) [] (d ∷ rest)) (without_last_zeros-zero ds)

pub without_last_zeros-digit : (ds : List ℕ) (d : ℕ) → d ≢ 48 → without_last_zeros (ds ++ (d ∷ [])) ≡ ds ++ (d ∷ [])
without_last_zeros-digit [] d h = ap (λ b. cond b [] (d ∷ [])) (ne_eqb d 48 h)
without_last_zeros-digit (e ∷ ds) d h = ap (λ rest. cond ((length rest == 0) && (e == 48)) [] (e ∷ rest)) (without_last_zeros-digit ds d h)
    ∙ ap (λ b. cond (b && (e == 48)) [] (e ∷ (ds ++ (d ∷ [])))) (ne_eqb (length (ds ++ (d ∷ []))) 0 (λ z. absurd (omega (arith, length-append ds (d ∷ [])))))

pub zero_dropped : (count n : ℕ) → 0 < count → n % 10 ≡ 0 → without_last_zeros (last_digits (count - 1) (n / 10)) ≡ without_last_zeros (last_digits count n)
zero_dropped count n some h = sym (ap without_last_zeros (last_digits_step count n some ∙ ap (λ d. last_digits (count - 1) (n / 10) ++ ((48 + d) ∷ [])) h) ∙ without_last_zeros-zero (last_digits (count - 1) (n / 10)))

pub none_dropped : (count n : ℕ) → (count ≡ 0) ⊎ (n % 10 ≢ 0) → last_digits count n ≡ without_last_zeros (last_digits count n)
none_dropped count n (inl e) = ap (λ k. last_digits k n) e ∙ ap (λ k. without_last_zeros (last_digits k n)) (sym e)
none_dropped count n (inr h) = ⊎_elim
    (λ none. let e : count ≡ 0 = omega arith in none_dropped_at count e)
    (λ some. last_digits_step count n some ∙ (sym (without_last_zeros-digit (last_digits (count - 1) (n / 10)) (48 + n % 10) (λ z. h (omega arith))) ∙ ap without_last_zeros (sym (last_digits_step count n some))))
    (cases_lt count 1)
  where
    none_dropped_at : (k : ℕ) → k ≡ 0 → last_digits k n ≡ without_last_zeros (last_digits k n)
    none_dropped_at k e = ap (λ k. last_digits k n) e ∙ ap (λ k. without_last_zeros (last_digits k n)) (sym e)

-- one byte more behind what was appended
pub one_behind : (old before front whole : List ℕ) (byte digit : ℕ) → before ≡ old ++ front → byte ≡ digit → whole ≡ front ++ (digit ∷ []) → before ++ (byte ∷ []) ≡ old ++ whole
one_behind old before front whole byte digit e b w =
    ap (λ v. v ++ (byte ∷ [])) e ∙ (append_assoc old front (byte ∷ []) ∙ ap (λ v. old ++ v) (ap (λ d. front ++ (d ∷ [])) b ∙ sym w))

pub length-last_digits : (count n : ℕ) → length (last_digits count n) ≡ count
length-last_digits zero n = refl
length-last_digits (suc count) n = length-append (last_digits count (n / 10)) ((48 + n % 10) ∷ []) ∙ (ap (λ k. k + 1) (length-last_digits count (n / 10)) ∙ omega arith)

pub behind_point-some : (ds : List ℕ) → 0 < length ds → behind_point ds ≡ 46 ∷ ds
behind_point-some [] h = absurd (omega arith)
behind_point-some (d ∷ ds) h = refl

-- a point and digits behind what was there
pub point_behind : (old dotted ds whole : List ℕ) → dotted ≡ old ++ (46 ∷ []) → ds ≡ whole → 0 < length ds → dotted ++ ds ≡ old ++ behind_point whole
point_behind old dotted ds whole e d some =
    ap (λ v. v ++ ds) e ∙ (append_assoc old (46 ∷ []) ds ∙ ap (λ v. old ++ v) (sym (behind_point-some ds some) ∙ ap behind_point d))
