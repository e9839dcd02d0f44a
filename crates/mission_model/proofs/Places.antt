-- Where a seq's pair stands among rising pairs, and what putting one there makes of them.
use Rattle.std.proofs.Common.{◌≡◌, ℕ, zero, suc, ◌+◌, ◌<◌, ◌≤◌, sym, ◌∙◌, length-drop, true, false, List, [], ◌∷◌, ◌++◌, length, take, drop, refl, arith, ◌-◌, drop-drop}
use Rattle.std.specs.Prelude.{slice_set}
use Rattle.std.proofs.lemmas.Bool.Decides.{nat_tests}
use Rattle.std.proofs.lemmas.List.{take-append-drop}
use Rattle.mission_model.specs.declared.limits.TheConstants.{MAX_JUMPS}
use Rattle.mission_model.specs.Pairs.{is_kept, rises_from, are_empty, has_pair, with_pair, pair_place, is_at}

pub pair_place-le : (pairs : List (ℕ × ℕ)) (seq : ℕ) → pair_place pairs seq ≤ length pairs
pair_place-le [] seq = grind arith
pair_place-le ((other, used) ∷ pairs) seq = grind (arith, pair_place-le pairs seq)

pub with_pair-found : (pairs : List (ℕ × ℕ)) (seq used : ℕ) → is_at pairs (pair_place pairs seq) seq ≡ true → with_pair pairs seq used ≡ slice_set pairs (pair_place pairs seq) (seq, used)
with_pair-found [] seq used h = grind (arith, h)
with_pair-found ((other, count) ∷ pairs) seq used h = grind (arith, h, with_pair-found pairs seq used)

pub with_pair-new : (pairs : List (ℕ × ℕ)) (seq used : ℕ) → is_at pairs (pair_place pairs seq) seq ≡ false → with_pair pairs seq used ≡ take (pair_place pairs seq) pairs ++ (seq, used) ∷ drop (pair_place pairs seq) pairs
with_pair-new [] seq used h = grind (arith, h)
with_pair-new ((other, count) ∷ pairs) seq used h = grind (arith, h, with_pair-new pairs seq used)

pub rises_from-with_pair : (low : ℕ) (pairs : List (ℕ × ℕ)) (seq used : ℕ) → rises_from low pairs ≡ true → low ≤ seq → 1 ≤ used → rises_from low (with_pair pairs seq used) ≡ true
rises_from-with_pair low [] seq used h l u = grind (arith, h, l, u)
rises_from-with_pair low ((other, count) ∷ pairs) seq used h l u = grind (arith, h, l, u, rises_from-with_pair (other + 1) pairs seq used)

pub has_pair-low : (low : ℕ) (pairs : List (ℕ × ℕ)) (seq : ℕ) → rises_from low pairs ≡ true → seq < low → has_pair pairs seq ≡ false
has_pair-low low [] seq h b = refl
has_pair-low low ((other, count) ∷ pairs) seq h b = grind (arith, h, b, has_pair-low (other + 1) pairs seq)

pub has_pair-at : (low : ℕ) (pairs : List (ℕ × ℕ)) (seq : ℕ) → rises_from low pairs ≡ true → has_pair pairs seq ≡ true → is_at pairs (pair_place pairs seq) seq ≡ true
has_pair-at low [] seq h p = grind (arith, h, p)
has_pair-at low ((other, count) ∷ pairs) seq h p = grind (arith, h, p, has_pair-at (other + 1) pairs seq, has_pair-low (other + 1) pairs seq)

pub ruleset places = (pair_place-le, with_pair-found, with_pair-new, has_pair-at, rises_from-with_pair)

-- what is kept of the cells, part by part
pub kept-len : (len : ℕ) (cells : List (ℕ × ℕ)) → is_kept len cells ≡ true → len ≤ MAX_JUMPS
kept-len len cells h = grind (arith, h)

pub kept-rises : (len : ℕ) (cells : List (ℕ × ℕ)) → is_kept len cells ≡ true → rises_from 0 (take len cells) ≡ true
kept-rises len cells h = grind (arith, h)

pub kept-empty : (len : ℕ) (cells : List (ℕ × ℕ)) → is_kept len cells ≡ true → are_empty (drop len cells) ≡ true
kept-empty len cells h = grind (arith, h)

pub kept-by : (len : ℕ) (cells : List (ℕ × ℕ)) → len ≤ MAX_JUMPS → rises_from 0 (take len cells) ≡ true → are_empty (drop len cells) ≡ true → is_kept len cells ≡ true
kept-by len cells l r e = grind (arith, l, r, e)

-- fewer cells are empty, too
pub are_empty-drop : (n : ℕ) (cells : List (ℕ × ℕ)) → are_empty cells ≡ true → are_empty (drop n cells) ≡ true
are_empty-drop zero cells h = h
are_empty-drop (suc n) [] h = refl
are_empty-drop (suc n) ((seq, used) ∷ cells) h = are_empty-drop n cells (grind (arith, h))

-- after a pair was put among kept cells, they are kept
pub kept-put : (old new : List (ℕ × ℕ)) (len now seq used : ℕ) → is_kept len old ≡ true → 1 ≤ used → now ≤ MAX_JUMPS → len ≤ now → take now new ≡ with_pair (take len old) seq used → drop now new ≡ drop now old → is_kept now new ≡ true
kept-put old new len now seq used kept one room grows pairs rest =
    let rises : rises_from 0 (take now new) ≡ true = rw pairs (rises_from-with_pair 0 (take len old) seq used (kept-rises len old kept) (omega arith) one) in
    let split : drop now old ≡ drop (now - len) (drop len old) = grind (arith, drop-drop, grows) in
    let empty : are_empty (drop now new) ≡ true = rw (rest, split) (are_empty-drop (now - len) (drop len old) (kept-empty len old kept)) in
    kept-by now new room rises empty

-- as many empty cells are the same cells
are_empty-same : (xs ys : List (ℕ × ℕ)) → are_empty xs ≡ true → are_empty ys ≡ true → length xs ≡ length ys → xs ≡ ys
are_empty-same [] [] a b l = refl
are_empty-same [] (y ∷ ys) a b l = absurd (omega (arith, l))
are_empty-same (x ∷ xs) [] a b l = absurd (omega (arith, l))
are_empty-same ((s, u) ∷ xs) ((t, v) ∷ ys) a b l = grind (arith, nat_tests, a, b, are_empty-same xs ys (grind (arith, a)) (grind (arith, b)) (omega (arith, l)))

-- kept cells are the same where their pairs are
pub kept-same : (len : ℕ) (xs ys : List (ℕ × ℕ)) → is_kept len xs ≡ true → is_kept len ys ≡ true → length xs ≡ length ys → take len xs ≡ take len ys → xs ≡ ys
kept-same len xs ys a b l same =
    let rest : drop len xs ≡ drop len ys = are_empty-same (drop len xs) (drop len ys) (kept-empty len xs a) (kept-empty len ys b) (omega (arith, l, length-drop len xs, length-drop len ys)) in
    sym (take-append-drop len xs) ∙ cc (same, rest) ∙ take-append-drop len ys
