-- Counts are those of their pairs, and pairs that were printed are read again.
use Rattle.std.proofs.Common.{◌≡◌, ℕ, ◌+◌, ◌-◌, ◌^◌, ◌≤◌, Bool, true, false, eqb, leb, ◌&&◌, List, [], ◌∷◌, ◌++◌, length, take, drop, replicate, refl, sym, ap, subst, ◌∙◌, append_assoc, arith}
use Rattle.std.specs.Prelude.{decimal, codes, max}
use Rattle.std.specs.List.{AllByRecursion}
use Rattle.std.proofs.lemmas.List.{take-append-drop, length-take, length-drop, append-nil}
use Rattle.std.proofs.Math.Bool.{Bool-set}
use Rattle.std.proofs.lemmas.Bool.{false≢true, and_parts, leb-true, eqb-true, ne_eqb, le-ltb}
use Rattle.mission_model.specs.CountsList.{pairs_of}
use Rattle.mission_model.specs.Pairs.{is_kept, rises_from, are_empty, with_pair}
use Rattle.mission_model.specs.declared.limits.TheConstants.{MAX_JUMPS}
use Rattle.mission_model.specs.declared.counts.Counts.{Counts}
use Rattle.mission_model.specs.declared.counts.Mark.{Mark}
use Rattle.record_text.specs.Plans.{pair_text, pairs_text}
use Rattle.record_text.specs.Requests.{mark_text}
use Rattle.record_text.specs.Typed.{IsTypedPair, IsTypedCounts, IsTypedMark}
use Rattle.record_text.specs.Numbers.{EndsNumber}
use Rattle.record_text.specs.PlanReading.{begins_pair, pair_at, pairs_from, pairs_at}
use Rattle.record_text.specs.CountsReading.{cells_of, counts_if, counts_of, index_at, mark_at}
use Rattle.record_text.proofs.Numbers.{number_at-again, digit_first}
use Rattle.record_text.proofs.PlanLaws.{pairs_from-stops, pairs_from-more, pair-again}

made : (len : ℕ) (cells : List (ℕ × ℕ)) → is_kept len cells ≡ true → Counts
unfolding counts_if
made len cells kept = record { len = len; pairs = cells; kept = kept }

same_kept : (counts : Counts) (test : Bool) (found : is_kept counts.len counts.pairs ≡ test) → counts ≡ counts_if counts.len counts.pairs test found
unfolding counts_if made
same_kept counts true found = ap (made counts.len counts.pairs) (Bool-set (is_kept counts.len counts.pairs) true counts.kept found)
same_kept counts false found = absurd (false≢true (sym found ∙ counts.kept))

-- counts with these cells are those that are made of them
same_counts : (counts : Counts) (len : ℕ) (cells : List (ℕ × ℕ)) (test : Bool) (found : is_kept len cells ≡ test) → counts.len ≡ len → counts.pairs ≡ cells → counts ≡ counts_if len cells test found
same_counts counts len cells test found same_len same_cells =
    subst (λ (l : ℕ). (f : is_kept l cells ≡ test) → counts ≡ counts_if l cells test f) same_len
    (subst (λ (xs : List (ℕ × ℕ)). (f : is_kept counts.len xs ≡ test) → counts ≡ counts_if counts.len xs test f) same_cells (same_kept counts test)) found

-- empty cells are as many zeros
empty_cells : (cells : List (ℕ × ℕ)) → are_empty cells ≡ true → cells ≡ replicate (length cells) (0, 0)
empty_cells [] empty = refl
empty_cells ((seq, used) ∷ cells) empty =
    let parts = and_parts (eqb seq 0 && eqb used 0) (are_empty cells) empty in
    let zeros = and_parts (eqb seq 0) (eqb used 0) parts.0 in
    let first : seq ≡ 0 = eqb-true seq 0 zeros.0 in
    let second : used ≡ 0 = eqb-true used 0 zeros.1 in
    rw (first, second) (ap (λ (more : List (ℕ × ℕ)). (0, 0) ∷ more) (empty_cells cells parts.1))

-- counts with all their cells are those of their pairs
pub counts_of-pairs : (counts : Counts) → length counts.pairs ≡ MAX_JUMPS → counts ≡ counts_of (pairs_of counts)
unfolding counts_of
counts_of-pairs counts all =
    let parts = and_parts (leb counts.len MAX_JUMPS && rises_from 0 (take counts.len counts.pairs)) (are_empty (drop counts.len counts.pairs)) counts.kept in
    let some : counts.len ≤ MAX_JUMPS = leb-true counts.len MAX_JUMPS (and_parts (leb counts.len MAX_JUMPS) (rises_from 0 (take counts.len counts.pairs)) parts.0).0 in
    let len : length (pairs_of counts) ≡ counts.len = omega (arith, length-take counts.len counts.pairs) in
    let rest : drop counts.len counts.pairs ≡ replicate (MAX_JUMPS - length (pairs_of counts)) (0, 0) =
    empty_cells (drop counts.len counts.pairs) parts.1 ∙ ap (λ (n : ℕ). replicate n (0, 0)) (omega (arith, length-drop counts.len counts.pairs)) in
    let cells : counts.pairs ≡ cells_of (pairs_of counts) =
    sym (take-append-drop counts.len counts.pairs) ∙ ap (λ (more : List (ℕ × ℕ)). take counts.len counts.pairs ++ more) rest in
    same_counts counts (length (pairs_of counts)) (cells_of (pairs_of counts)) (is_kept (length (pairs_of counts)) (cells_of (pairs_of counts))) refl (sym len) cells

-- the tests of the first pair and of those behind it
rises_parts : (low seq used : ℕ) (pairs : List (ℕ × ℕ)) → rises_from low ((seq, used) ∷ pairs) ≡ true → (low ≤ seq) × (1 ≤ used) × (rises_from (seq + 1) pairs ≡ true)
rises_parts low seq used pairs rises =
    let parts = and_parts (leb low seq && leb 1 used) (rises_from (seq + 1) pairs) rises in
    let first = and_parts (leb low seq) (leb 1 used) parts.0 in
    (leb-true low seq first.0, leb-true 1 used first.1, parts.1)

rises_above : (low : ℕ) (pairs more : List (ℕ × ℕ)) (seq used : ℕ) → rises_from low (pairs ++ (seq, used) ∷ more) ≡ true → (low ≤ seq) × (1 ≤ used)
rises_above low [] more seq used rises = let parts = rises_parts low seq used more rises in (parts.0, parts.1)
rises_above low ((other, count) ∷ pairs) more seq used rises =
    let parts = rises_parts low other count (pairs ++ (seq, used) ∷ more) rises in
    let behind = rises_above (other + 1) pairs more seq used parts.2 in
    (omega (arith, parts.0, behind.0), behind.1)

-- a pair behind pairs of lesser seqs goes to their end
with_pair-behind : (low : ℕ) (pairs more : List (ℕ × ℕ)) (seq used : ℕ) → rises_from low (pairs ++ (seq, used) ∷ more) ≡ true → with_pair pairs seq used ≡ pairs ++ (seq, used) ∷ []
with_pair-behind low [] more seq used rises = refl
with_pair-behind low ((other, count) ∷ pairs) more seq used rises =
    let parts = rises_parts low other count (pairs ++ (seq, used) ∷ more) rises in
    let above = rises_above (other + 1) pairs more seq used parts.2 in
    rw (ne_eqb other seq (λ same. omega (arith, above.0)), le-ltb seq other (omega (arith, above.0)))
    (ap (λ (xs : List (ℕ × ℕ)). (other, count) ∷ xs) (with_pair-behind (other + 1) pairs more seq used parts.2))

-- a pair's text begins as a pair does
begins_with_pair : (pair : ℕ × ℕ) (rest : List ℕ) → IsTypedPair pair → begins_pair (pair_text pair ++ rest) ≡ true
begins_with_pair (seq, used) rest fits =
    let text : pair_text (seq, used) ++ rest ≡ codes " " ++ (decimal seq ++ (codes ":" ++ (decimal used ++ rest))) = simp append_assoc in
    ap begins_pair text ∙ digit_first seq (omega (arith, fits.0)) (codes ":" ++ (decimal used ++ rest))

-- no digit stands behind a pair, whether a further one follows or what is behind all
pub ends_pair : (pairs : List (ℕ × ℕ)) (rest : List ℕ) → EndsNumber rest → EndsNumber (pairs_text pairs ++ rest)
ends_pair [] rest ends = ends
ends_pair ((seq, used) ∷ pairs) rest ends = refl

-- the pairs are read behind those that were read
pairs_from-again : (room : ℕ) (before pairs : List (ℕ × ℕ)) (rest : List ℕ) → rises_from 0 (before ++ pairs) ≡ true → AllByRecursion IsTypedPair pairs → length pairs ≤ room → begins_pair rest ≡ false
    → EndsNumber rest → pairs_from room before (pairs_text pairs ++ rest) ≡ (before ++ pairs, rest)
pairs_from-again room before [] rest rises fits few none ends = pairs_from-stops room before rest none ∙ ap (λ (xs : List (ℕ × ℕ)). (xs, rest)) (sym (append-nil before))
pairs_from-again room before ((seq, used) ∷ pairs) rest rises fits few none ends =
    let behind : List ℕ = pairs_text pairs ++ rest in
    let text : pairs_text ((seq, used) ∷ pairs) ++ rest ≡ pair_text (seq, used) ++ behind = simp append_assoc in
    let above = rises_above 0 before pairs seq used rises in
    let read : pair_at (pair_text (seq, used) ++ behind) ≡ ((seq, used), behind) = pair-again (seq, used) behind fits.0 (ends_pair pairs rest ends) in
    let once : max used 1 ≡ used = omega (arith, above.1) in
    let put : with_pair before seq used ≡ before ++ (seq, used) ∷ [] = with_pair-behind 0 before pairs seq used rises in
    let all : (before ++ (seq, used) ∷ []) ++ pairs ≡ before ++ (seq, used) ∷ pairs = simp append_assoc in
    ap (pairs_from room before) text
    ∙ pairs_from-more room (room - 1) before (pair_text (seq, used) ++ behind) (omega (arith, few)) (begins_with_pair (seq, used) behind fits.0)
    ∙ rw (read, once, put) (pairs_from-again (room - 1) (before ++ (seq, used) ∷ []) pairs rest (rw all rises) fits.1 (omega (arith, few)) none ends)
    ∙ ap (λ (xs : List (ℕ × ℕ)). (xs, rest)) all

-- what stands behind the pairs: no digit, and no space with a digit
pub record EndsPairs (bytes : List ℕ) : Type 0 where
  pub number : EndsNumber bytes
  pub pair : begins_pair bytes ≡ false

-- the pairs of counts are read again
pub pairs-again : (counts : Counts) (rest : List ℕ) → IsTypedCounts counts → EndsPairs rest → pairs_at (pairs_text (pairs_of counts) ++ rest) ≡ (pairs_of counts, rest)
unfolding pairs_at
pairs-again counts rest fits ends =
    let parts = and_parts (leb counts.len MAX_JUMPS && rises_from 0 (take counts.len counts.pairs)) (are_empty (drop counts.len counts.pairs)) counts.kept in
    let tests = and_parts (leb counts.len MAX_JUMPS) (rises_from 0 (take counts.len counts.pairs)) parts.0 in
    pairs_from-again MAX_JUMPS [] (pairs_of counts) rest tests.1 fits.1 (omega (arith, length-take counts.len counts.pairs, leb-true counts.len MAX_JUMPS tests.0)) ends.pair ends.number

pub index-again : (mark : Mark) (rest : List ℕ) → IsTypedMark mark → EndsPairs rest → index_at mark.id (decimal mark.index ++ (pairs_text (pairs_of mark.counts) ++ rest)) ≡ (mark, rest)
unfolding index_at
index-again mark rest fits ends =
    rw (
      number_at-again (2 ^ 16) mark.index (pairs_text (pairs_of mark.counts) ++ rest) (omega arith) fits.1 (ends_pair (pairs_of mark.counts) rest ends.number),
      pairs-again mark.counts rest fits.2 ends,
      ← counts_of-pairs mark.counts fits.2.0,
    ) refl

pub mark-again : (mark : Mark) (rest : List ℕ) → IsTypedMark mark → EndsPairs rest → mark_at (mark_text mark ++ rest) ≡ (mark, rest)
unfolding mark_at
mark-again mark rest fits ends =
    let index : List ℕ = decimal mark.index ++ (pairs_text (pairs_of mark.counts) ++ rest) in
    let text : mark_text mark ++ rest ≡ decimal mark.id ++ (codes "/" ++ index) = simp append_assoc in
    ap mark_at text ∙ rw (number_at-again (2 ^ 32) mark.id (codes "/" ++ index) (omega arith) fits.0 refl, index-again mark rest fits ends) refl
