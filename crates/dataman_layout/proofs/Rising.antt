-- Pairs whose seqs rise, with one more at their end.
use Rattle.std.proofs.Common.{◌≡◌, ◌⊎◌, inl, inr, ℕ, zero, suc, ◌+◌, ◌-◌, ◌<◌, ◌≤◌, ◌&&◌, Bool, true, false, List, [], ◌∷◌, ◌++◌, nat_lt, nat_le, ◌==◌, cond, refl, sym, ap, ◌∙◌, arith}
use Rattle.std.proofs.lemmas.Bool.Decides.{nat_tests}
use Rattle.std.proofs.Math.Bool.{and-true, and-false}
use Rattle.mission_model.specs.Pairs.{rises_from, with_pair}
use Rattle.dataman_layout.specs.FieldLaws.{both}
use Rattle.dataman_layout.specs.Mark.{pair_at, pairs_in}

-- the least seq of a pair behind pairs that rise from this one on
abbrev pub least_from : ℕ → List (ℕ × ℕ) → ℕ
least_from low [] = low
least_from low ((seq, used) ∷ pairs) = least_from (seq + 1) pairs

and_assoc : (a b c : Bool) → (a && (b && c)) ≡ (a && b && c)
and_assoc true b c = refl
and_assoc false b c = refl

-- one more pair
pub rises_from-push : (low : ℕ) (pairs : List (ℕ × ℕ)) (seq used : ℕ)
    → rises_from low (pairs ++ (seq, used) ∷ []) ≡ (rises_from low pairs && (nat_le (least_from low pairs) seq && nat_le 1 used))
rises_from-push low [] seq used = and-true (nat_le low seq && nat_le 1 used)
rises_from-push low ((s, u) ∷ pairs) seq used =
    ap (λ (r : Bool). nat_le low s && nat_le 1 u && r) (rises_from-push (s + 1) pairs seq used)
    ∙ and_assoc (nat_le low s && nat_le 1 u) (rises_from (s + 1) pairs) (nat_le (least_from (s + 1) pairs) seq && nat_le 1 used)

pub least_from-push : (low : ℕ) (pairs : List (ℕ × ℕ)) (seq used : ℕ) → least_from low (pairs ++ (seq, used) ∷ []) ≡ seq + 1
least_from-push low [] seq used = refl
least_from-push low ((s, u) ∷ pairs) seq used = least_from-push (s + 1) pairs seq used

-- the least seq is above each of the pairs
low-least_from : (low : ℕ) (pairs : List (ℕ × ℕ)) → rises_from low pairs ≡ true → low ≤ least_from low pairs
low-least_from low [] rise = omega arith
low-least_from low ((s, u) ∷ pairs) rise =
    let parts = both (nat_le low s && nat_le 1 u) (rises_from (s + 1) pairs) rise in
    let first = both (nat_le low s) (nat_le 1 u) parts.0 in
    let above : low ≤ s = grind (arith, nat_tests, first.0) in
    omega (arith, above, low-least_from (s + 1) pairs parts.1)

-- such a pair goes to the end
pub with_pair-push : (low : ℕ) (pairs : List (ℕ × ℕ)) (seq used : ℕ) → rises_from low pairs ≡ true → least_from low pairs ≤ seq → with_pair pairs seq used ≡ pairs ++ (seq, used) ∷ []
with_pair-push low [] seq used rise above = refl
with_pair-push low ((s, u) ∷ pairs) seq used rise above =
    let parts = both (nat_le low s && nat_le 1 u) (rises_from (s + 1) pairs) rise in
    let before : s < seq = omega (arith, low-least_from (s + 1) pairs parts.1, above) in
    let other : (s == seq) ≡ false = grind (arith, nat_tests) in
    let behind : nat_lt seq s ≡ false = grind (arith, nat_tests) in
    let rest = with_pair-push (s + 1) pairs seq used parts.1 above in
    λ i. cond (other i) ((seq, used) ∷ pairs) (cond (behind i) ((seq, used) ∷ (s, u) ∷ pairs) ((s, u) ∷ rest i))

-- where the first pairs do not rise, none with more do
pub never_rises : (bytes : List ℕ) (m n : ℕ) → rises_from 0 (pairs_in bytes m) ≡ false → rises_from 0 (pairs_in bytes (m + n)) ≡ false
never_rises bytes m zero e =
    let sum : m + 0 ≡ m = omega arith in
    ap (λ (k : ℕ). rises_from 0 (pairs_in bytes k)) sum ∙ e
never_rises bytes m (suc n) e =
    let sum : m + suc n ≡ suc (m + n) = omega arith in
    let p = pair_at bytes (m + n) in
    ap (λ (k : ℕ). rises_from 0 (pairs_in bytes k)) sum ∙ rises_from-push 0 (pairs_in bytes (m + n)) p.0 p.1
    ∙ ap (λ (r : Bool). r && (nat_le (least_from 0 (pairs_in bytes (m + n))) p.0 && nat_le 1 p.1)) (never_rises bytes m n e)

-- a pair of a seq that is too low, or that is not used
abbrev pub IsOut : List ℕ → ℕ → ℕ → ℕ → Type 0
IsOut bytes k seq used = (seq < least_from 0 (pairs_in bytes k)) ⊎ (used ≡ 0)

out_is : (least seq used : ℕ) → (seq < least) ⊎ (used ≡ 0) → (nat_le least seq && nat_le 1 used) ≡ false
out_is least seq used (inl low) =
    let first : nat_le least seq ≡ false = grind (arith, nat_tests) in
    ap (λ (r : Bool). r && nat_le 1 used) first
out_is least seq used (inr none) =
    let second : nat_le 1 used ≡ false = grind (arith, nat_tests) in
    ap (λ (r : Bool). nat_le least seq && r) second ∙ and-false (nat_le least seq)

-- with it the pairs do not rise
pub stops_rising : (bytes : List ℕ) (k n seq used : ℕ) → k < n → seq ≡ (pair_at bytes k).0 → used ≡ (pair_at bytes k).1 → IsOut bytes k seq used → rises_from 0 (pairs_in bytes n) ≡ false
stops_rising bytes k n seq used within first second out =
    let sum : suc k + (n - suc k) ≡ n = omega arith in
    let here : rises_from 0 (pairs_in bytes (suc k)) ≡ false =
    (λ i. rises_from 0 (pairs_in bytes k ++ (sym first i, sym second i) ∷ [])) ∙ rises_from-push 0 (pairs_in bytes k) seq used
    ∙ ap (λ (r : Bool). rises_from 0 (pairs_in bytes k) && r) (out_is (least_from 0 (pairs_in bytes k)) seq used out) ∙ and-false (rises_from 0 (pairs_in bytes k)) in
    sym (ap (λ (m : ℕ). rises_from 0 (pairs_in bytes m)) sum) ∙ never_rises bytes (suc k) (n - suc k) here

-- the pairs with one more that rises
pub goes_on : (bytes : List ℕ) (k seq used : ℕ) → seq ≡ (pair_at bytes k).0 → used ≡ (pair_at bytes k).1 → rises_from 0 (pairs_in bytes k) ≡ true
    → least_from 0 (pairs_in bytes k) ≤ seq → 1 ≤ used
    → (with_pair (pairs_in bytes k) seq used ≡ pairs_in bytes (k + 1)) × (rises_from 0 (pairs_in bytes (k + 1)) ≡ true) × (seq + 1 ≡ least_from 0 (pairs_in bytes (k + 1)))
goes_on bytes k seq used first second rise above some =
    let sum : suc k ≡ k + 1 = omega arith in
    let more : pairs_in bytes k ++ (seq, used) ∷ [] ≡ pairs_in bytes (k + 1) = (λ i. pairs_in bytes k ++ (first i, second i) ∷ []) ∙ ap (pairs_in bytes) sum in
    let high : nat_le (least_from 0 (pairs_in bytes k)) seq ≡ true = grind (arith, nat_tests) in
    let once : nat_le 1 used ≡ true = grind (arith, nat_tests) in (
      with_pair-push 0 (pairs_in bytes k) seq used rise above ∙ more,
      sym (ap (rises_from 0) more) ∙ rises_from-push 0 (pairs_in bytes k) seq used ∙ (λ i. rise i && (high i && once i)),
      sym (least_from-push 0 (pairs_in bytes k) seq used) ∙ ap (least_from 0) more,
    )
