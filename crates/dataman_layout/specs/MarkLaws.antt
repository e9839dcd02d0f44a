-- Bytes and marks correspond one to one.
use Rattle.std.proofs.Common.{◌≡◌, ℕ, zero, suc, ◌+◌, ◌-◌, ◌*◌, ◌^◌, ◌<◌, ◌≤◌, ◌&&◌, true, List, [], ◌∷◌, ◌++◌, length, take, drop, replicate, get_or, Option, Some, None, nat_le, unwrap_or, cond, refl, sym, ap, ◌∙◌, arith, length-drop, length-append, append_assoc}
use Rattle.std.proofs.lemmas.Bool.Decides.{nat_tests}
use Rattle.std.proofs.lemmas.List.{take_all, take_more, drop_at, drop-drop, length_push, length-replicate, flat_map_more}
use Rattle.std.specs.List.{flat_map}
use Rattle.mission_model.specs.Pairs.{rises_from}
use Rattle.dataman_layout.specs.Fields.{number_bytes, number_at, is_zeros, IsBytes}
use Rattle.dataman_layout.specs.FieldLaws.{both, some_test, zeros_are, is_zeros-zeros, number_at-number_bytes, drop-field, length-number_bytes}
use Rattle.dataman_layout.specs.Mark.{PlainMark, pair_bytes, mark_bytes, pair_at, pairs_in, MarkRecord, mark_in}

-- what the fields hold fits their types
pub record FitsMark (most : ℕ) (mark : PlainMark) : Type 0 where
  pub id : mark.id < 2 ^ 32
  pub index : mark.index < 2 ^ 16
  pub byte : most < 256
  pub few : length mark.pairs ≤ most
  pub rise : rises_from 0 mark.pairs ≡ true
  pub fit : (k : ℕ) → ((get_or mark.pairs k (0, 0)).0 < 2 ^ 16) × ((get_or mark.pairs k (0, 0)).1 < 2 ^ 16)

-- a mark of its parts that bytes are read as
pub mark_in-record : (most : ℕ) (bytes : List ℕ) (mark : PlainMark) → MarkRecord most bytes mark → mark_in most bytes ≡ Some mark
unfolding mark_in
mark_in-record most bytes mark is =
    let n = is.number in
    let pairs : pairs_in bytes (number_at 6 1 bytes) ≡ mark.pairs = ap (pairs_in bytes) n ∙ is.pairs in
    let few : nat_le (number_at 6 1 bytes) most ≡ true = grind (arith, nat_tests, is.few, n) in
    let rise : rises_from 0 (pairs_in bytes (number_at 6 1 bytes)) ≡ true = ap (rises_from 0) pairs ∙ is.rise in
    let rest : is_zeros (drop (7 + 4 * number_at 6 1 bytes) bytes) ≡ true = ap (λ (m : ℕ). is_zeros (drop (7 + 4 * m) bytes)) n ∙ is.rest in
    λ i. cond (few i && (rise i && rest i)) (Some (record { id = is.id i; index = is.index i; pairs = pairs i })) None

-- there are so many
pub length-pairs_in : (bytes : List ℕ) (n : ℕ) → length (pairs_in bytes n) ≡ n
length-pairs_in bytes zero = refl
length-pairs_in bytes (suc n) = omega (arith, length_push (pairs_in bytes n) (pair_at bytes n), length-pairs_in bytes n)

-- what bytes are read as is their mark
pub record-mark_in : (most : ℕ) (bytes : List ℕ) (mark : PlainMark) → length bytes ≡ 7 + 4 * most → mark_in most bytes ≡ Some mark → MarkRecord most bytes mark
unfolding mark_in
record-mark_in most bytes mark size e =
    let n = number_at 6 1 bytes in
    let test = some_test (nat_le n most && (rises_from 0 (pairs_in bytes n) && is_zeros (drop (7 + 4 * n) bytes))) _ mark e in
    let first = both (nat_le n most) (rises_from 0 (pairs_in bytes n) && is_zeros (drop (7 + 4 * n) bytes)) test.0 in
    let second = both (rises_from 0 (pairs_in bytes n)) (is_zeros (drop (7 + 4 * n) bytes)) first.1 in
    let same = ap (λ (o : Option PlainMark). unwrap_or o mark) test.1 in
    let pairs : pairs_in bytes n ≡ mark.pairs = ap (λ (m : PlainMark). m.pairs) same in
    let number : n ≡ length mark.pairs = sym (length-pairs_in bytes n) ∙ ap length pairs in
    let low : n ≤ most = grind (arith, nat_tests, first.0) in
    record {
      size = size;
      id = ap (λ (m : PlainMark). m.id) same;
      index = ap (λ (m : PlainMark). m.index) same;
      number = number;
      few = omega (arith, number, low);
      pairs = ap (pairs_in bytes) (sym number) ∙ pairs;
      rise = sym (ap (rises_from 0) pairs) ∙ second.0;
      rest = sym (ap (λ (m : ℕ). is_zeros (drop (7 + 4 * m) bytes)) number) ∙ second.1;
    }

-- bytes are one mark's at most
pub one_mark : (most : ℕ) (bytes : List ℕ) (mark other : PlainMark) → MarkRecord most bytes mark → MarkRecord most bytes other → mark ≡ other
one_mark most bytes mark other first second =
    let a = mark_in-record most bytes mark first in
    let b = mark_in-record most bytes other second in
    ap (λ (o : Option PlainMark). unwrap_or o mark) (sym a ∙ b)

-- one pair more
flat_map_pair : (xs : List (ℕ × ℕ)) (x : ℕ × ℕ) → flat_map pair_bytes xs ++ pair_bytes x ≡ flat_map pair_bytes (xs ++ x ∷ [])
flat_map_pair xs x = flat_map_more pair_bytes [] xs x

regroup : (a b c d : List ℕ) → a ++ (b ++ (c ++ d)) ≡ (a ++ (b ++ c)) ++ d
regroup a b c d = simp append_assoc

-- from the pairs of the bytes on: their bytes, and what is behind them
drop-pairs : (bytes : List ℕ) (n m : ℕ) → IsBytes bytes → m ≤ length bytes → m ≡ 7 + 4 * n → drop 7 bytes ≡ flat_map pair_bytes (pairs_in bytes n) ++ drop m bytes
drop-pairs bytes zero m low room e =
    let first : 7 ≡ m = omega arith in
    ap (λ (k : ℕ). drop k bytes) first
drop-pairs bytes (suc n) m low room e =
    let at = 7 + 4 * n in
    let behind = 9 + 4 * n in
    let before : drop 7 bytes ≡ flat_map pair_bytes (pairs_in bytes n) ++ drop at bytes = drop-pairs bytes n at low (omega arith) refl in
    let from_used = drop-field behind 2 m (number_at behind 2 bytes) bytes (drop m bytes) low (omega arith) room refl refl in
    let from_seq = drop-field at 2 behind (number_at at 2 bytes) bytes _ low (omega arith) (omega arith) refl from_used in
    before ∙ ap (λ (l : List ℕ). flat_map pair_bytes (pairs_in bytes n) ++ l) from_seq
    ∙ regroup (flat_map pair_bytes (pairs_in bytes n)) (number_bytes 2 (number_at at 2 bytes)) (number_bytes 2 (number_at behind 2 bytes)) (drop m bytes)
    ∙ ap (λ (l : List ℕ). l ++ drop m bytes) (flat_map_pair (pairs_in bytes n) (pair_at bytes n))

-- bytes that are a mark's are its bytes
pub mark_bytes-record : (most : ℕ) (bytes : List ℕ) (mark : PlainMark) → IsBytes bytes → MarkRecord most bytes mark → bytes ≡ mark_bytes most mark
unfolding mark_bytes number_bytes
mark_bytes-record most bytes mark low is =
    let size = is.size in
    let few = is.few in
    let n = length mark.pairs in
    let tail : drop (7 + 4 * n) bytes ≡ replicate (4 * most - 4 * n) 0 = zeros_are (drop (7 + 4 * n) bytes) (4 * most - 4 * n) (omega (arith, length-drop (7 + 4 * n) bytes)) is.rest in
    let from_pairs : drop 7 bytes ≡ flat_map pair_bytes mark.pairs ++ replicate (4 * most - 4 * n) 0 =
    drop-pairs bytes n (7 + 4 * n) low (omega arith) refl ∙ (λ i. flat_map pair_bytes (is.pairs i) ++ tail i) in
    let from_number = drop-field 6 1 7 n bytes _ low refl (omega arith) is.number from_pairs in
    let from_index = drop-field 4 2 6 mark.index bytes _ low refl (omega arith) is.index from_number in
    drop-field 0 4 4 mark.id bytes _ low refl (omega arith) is.id from_index

length-pairs : (pairs : List (ℕ × ℕ)) → length (flat_map pair_bytes pairs) ≡ 4 * length pairs
length-pairs [] = refl
length-pairs (p ∷ pairs) =
    omega (arith, length-append (pair_bytes p) (flat_map pair_bytes pairs), length-append (number_bytes 2 p.0) (number_bytes 2 p.1), length-number_bytes 2 p.0, length-number_bytes 2 p.1, length-pairs pairs)

-- the bytes from a pair on
from_pair : (pairs : List (ℕ × ℕ)) (n : ℕ) (rest : List ℕ) → n < length pairs → (more : List ℕ) × (drop (4 * n) (flat_map pair_bytes pairs ++ rest) ≡ pair_bytes (get_or pairs n (0, 0)) ++ more)
unfolding number_bytes
from_pair [] n rest within = absurd (omega arith)
from_pair (p ∷ pairs) zero rest within = (flat_map pair_bytes pairs ++ rest, refl)
from_pair (p ∷ pairs) (suc n) rest within =
    let later = from_pair pairs n rest (omega arith) in
    let step : 4 * suc n ≡ suc (suc (suc (suc (4 * n)))) = omega arith in
    (later.0, ap (λ (k : ℕ). drop k (flat_map pair_bytes (p ∷ pairs) ++ rest)) step ∙ later.1)

-- a pair of the bytes
pair_is : (bytes : List ℕ) (pairs : List (ℕ × ℕ)) (n : ℕ) (rest : List ℕ) → drop 7 bytes ≡ flat_map pair_bytes pairs ++ rest → n < length pairs
    → (get_or pairs n (0, 0)).0 < 2 ^ 16 → (get_or pairs n (0, 0)).1 < 2 ^ 16 → pair_at bytes n ≡ get_or pairs n (0, 0)
unfolding number_bytes
pair_is bytes pairs n rest e within low high =
    let p = get_or pairs n (0, 0) in
    let there = from_pair pairs n rest within in
    let at : drop (7 + 4 * n) bytes ≡ pair_bytes p ++ there.0 = sym (drop-drop (4 * n) 7 bytes) ∙ ap (drop (4 * n)) e ∙ there.1 in
    let sum : 9 + 4 * n ≡ 7 + 4 * n + 2 = omega arith in
    let behind : drop (9 + 4 * n) bytes ≡ number_bytes 2 p.1 ++ there.0 = ap (λ (k : ℕ). drop k bytes) sum ∙ sym (drop-drop 2 (7 + 4 * n) bytes) ∙ ap (drop 2) at in
    let seq : number_at (7 + 4 * n) 2 bytes ≡ p.0 = number_at-number_bytes (7 + 4 * n) 2 p.0 bytes (omega (arith, low)) (ap (take 2) at) in
    let used : number_at (9 + 4 * n) 2 bytes ≡ p.1 = number_at-number_bytes (9 + 4 * n) 2 p.1 bytes (omega (arith, high)) (ap (take 2) behind) in
    λ i. (seq i, used i)

-- the pairs of the bytes
pairs_are : (bytes : List ℕ) (pairs : List (ℕ × ℕ)) (n : ℕ) (rest : List ℕ) → drop 7 bytes ≡ flat_map pair_bytes pairs ++ rest → n ≤ length pairs
    → ((k : ℕ) → ((get_or pairs k (0, 0)).0 < 2 ^ 16) × ((get_or pairs k (0, 0)).1 < 2 ^ 16)) → pairs_in bytes n ≡ take n pairs
pairs_are bytes pairs zero rest e within fit = refl
pairs_are bytes pairs (suc n) rest e within fit =
    let before = pairs_are bytes pairs n rest e (omega arith) fit in
    let pair = pair_is bytes pairs n rest e (omega arith) (fit n).0 (fit n).1 in
    let sum : n + 1 ≡ suc n = omega arith in
    (λ i. before i ++ pair i ∷ []) ∙ sym (take_more pairs n (0, 0) (omega arith)) ∙ ap (λ (k : ℕ). take k pairs) sum

-- the bytes of a mark are the mark's
pub record-mark_bytes : (most : ℕ) (mark : PlainMark) → FitsMark most mark → MarkRecord most (mark_bytes most mark) mark
unfolding mark_bytes number_bytes
record-mark_bytes most mark fits =
    let bytes = mark_bytes most mark in
    let n = length mark.pairs in
    let few = fits.few in
    let byte = fits.byte in
    let size_pairs = length-pairs mark.pairs in
    let pairs = flat_map pair_bytes mark.pairs in
    let zeros : List ℕ = replicate (4 * most - 4 * n) 0 in
    let from_pairs : drop 7 bytes ≡ pairs ++ zeros = refl in
    record {
      size = omega (arith, length-append pairs zeros, length-replicate {A = ℕ} (4 * most - 4 * n) 0, size_pairs);
      id = number_at-number_bytes 0 4 mark.id bytes (omega (arith, fits.id)) refl;
      index = number_at-number_bytes 4 2 mark.index bytes (omega (arith, fits.index)) refl;
      number = number_at-number_bytes 6 1 n bytes (omega arith) refl;
      few = few;
      pairs = pairs_are bytes mark.pairs n zeros from_pairs (omega arith) fits.fit ∙ take_all n mark.pairs (omega arith);
      rise = fits.rise;
      rest = ap is_zeros (sym (drop-drop (4 * n) 7 bytes) ∙ ap (drop (4 * n)) from_pairs ∙ drop_at pairs zeros (4 * n) size_pairs) ∙ is_zeros-zeros (4 * most - 4 * n);
    }

-- the bytes of a mark are read as it
pub mark_in-mark_bytes : (most : ℕ) (mark : PlainMark) → FitsMark most mark → mark_in most (mark_bytes most mark) ≡ Some mark
mark_in-mark_bytes most mark fits = mark_in-record most (mark_bytes most mark) mark (record-mark_bytes most mark fits)
