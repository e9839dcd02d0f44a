-- That the bytes of a field are the bytes of the number that they read as, and the other way round.
use Rattle.std.proofs.Common.{◌≡◌, ℕ, ℤ, zero, suc, ◌+◌, ◌*◌, ◌/◌, ◌%◌, ◌^◌, ◌<◌, ◌≤◌, List, [], ◌∷◌, ◌++◌, length, take, drop, replicate, Bool, true, false, cond, Option, Some, None, ◌&&◌, ◌==◌, refl, sym, ap, ◌∙◌, arith, length-drop}
use Rattle.std.proofs.Math.Nat.{pow-succ', div-div-eq-div-mul}
use Rattle.std.proofs.lemmas.List.{take-append-drop, drop-drop, get_or-drop}
use Rattle.std.specs.Int.{w32, cast_unsigned, cast_signed, byte_at, bytes_low_first}
use Rattle.std.specs.Int.RustNames.{FitsSigned}
use Rattle.std.proofs.lemmas.Int.{ints, to_z-of_z, of_z-to_z}
use Rattle.byteorder.specs.Endian.{little_from}
use Rattle.byteorder.specs.Numbers.{little_from-cons, little_from-lt, little_number-reads_back, length-bytes_low_first}
use Rattle.dataman_layout.specs.Fields.{number_bytes, number_at, signed_bytes, signed_at, is_zeros, IsBytes}
use Rattle.std.proofs.lemmas.Bool.{eqb-true}

-- a number of n bytes has n bytes
pub length-number_bytes : (n x : ℕ) → length (number_bytes n x) ≡ n
unfolding number_bytes
length-number_bytes n x = length-bytes_low_first 0 n x

-- a byte below the others moves their places on
byte_more : (j a r : ℕ) → a < 256 → byte_at (suc j) (a + 256 * r) ≡ byte_at j r
byte_more zero a r low = omega arith
byte_more (suc j) a r low =
    let shift : (a + 256 * r) / 256 ≡ r = omega arith in
    ap (λ (p : ℕ). (a + 256 * r) / p % 256) (pow-succ' 256 (suc j))
    ∙ ap (λ (x : ℕ). x % 256) (sym (div-div-eq-div-mul (a + 256 * r) 256 (256 ^ suc j)))
    ∙ ap (λ (x : ℕ). x / 256 ^ suc j % 256) shift

bytes_more : (k j a r : ℕ) → a < 256 → bytes_low_first (suc j) k (a + 256 * r) ≡ bytes_low_first j k r
bytes_more zero j a r low = refl
bytes_more (suc k) j a r low =
    let first : byte_at (suc j) (a + 256 * r) ≡ byte_at j r = byte_more j a r low in
    let rest : bytes_low_first (suc (suc j)) k (a + 256 * r) ≡ bytes_low_first (suc j) k r = bytes_more k (suc j) a r low in
    λ i. first i ∷ rest i

-- the bytes of the number that the first n bytes read as
bytes_of_front : (n : ℕ) (xs : List ℕ) → IsBytes xs → n ≤ length xs → bytes_low_first 0 n (little_from 0 n xs) ≡ take n xs
bytes_of_front zero xs bytes room = refl
bytes_of_front (suc n) [] bytes room = absurd (omega arith)
bytes_of_front (suc n) (a ∷ xs) bytes room =
    let low : a < 256 = bytes 0 in
    let others : IsBytes xs = λ i. bytes (suc i) in
    let moved : little_from 1 n (a ∷ xs) ≡ little_from 0 n xs = little_from-cons 0 n a xs in
    let r = little_from 0 n xs in
    let number : little_from 0 (suc n) (a ∷ xs) ≡ a + 256 * r = ap (λ (x : ℕ). a + 256 * x) moved in
    let first : byte_at 0 (a + 256 * r) ≡ a = omega arith in
    let rest : bytes_low_first 1 n (a + 256 * r) ≡ take n xs = bytes_more n 0 a r low ∙ bytes_of_front n xs others (omega arith) in
    ap (λ (x : ℕ). bytes_low_first 0 (suc n) x) number ∙ (λ i. first i ∷ rest i)

-- the bytes of a field are those of the number that they read as
pub number_bytes-number_at : (at n : ℕ) (bytes : List ℕ) → IsBytes bytes → at + n ≤ length bytes → number_bytes n (number_at at n bytes) ≡ take n (drop at bytes)
unfolding number_bytes number_at
number_bytes-number_at at n bytes low room =
    bytes_of_front n (drop at bytes) (λ i. omega (arith, get_or-drop at bytes i 0, low (at + i))) (omega (arith, length-drop at bytes))

-- a field with the bytes of a number reads as that number
pub number_at-number_bytes : (at n x : ℕ) (bytes : List ℕ) → x < 256 ^ n → take n (drop at bytes) ≡ number_bytes n x → number_at at n bytes ≡ x
unfolding number_bytes number_at
number_at-number_bytes at n x bytes fits field =
    let joined : drop at bytes ≡ bytes_low_first 0 n x ++ drop n (drop at bytes) = sym (take-append-drop n (drop at bytes)) ∙ ap (λ l. l ++ drop n (drop at bytes)) field in
    ap (λ l. little_from 0 n l) joined ∙ little_number-reads_back n x (drop n (drop at bytes)) fits

-- a number of n bytes fits them
pub number_at-lt : (at n : ℕ) (bytes : List ℕ) → IsBytes bytes → number_at at n bytes < 256 ^ n
unfolding number_at
number_at-lt at n bytes low = little_from-lt 0 n (drop at bytes) (λ i. omega (arith, get_or-drop at bytes i 0, low (at + i)))

-- the bytes from a field on, by its number and the bytes behind it
pub drop-field : (at n next x : ℕ) (bytes rest : List ℕ) → IsBytes bytes → next ≡ at + n → next ≤ length bytes → number_at at n bytes ≡ x → drop next bytes ≡ rest
    → drop at bytes ≡ number_bytes n x ++ rest
drop-field at n next x bytes rest low follows room number behind =
    let field : take n (drop at bytes) ≡ number_bytes n x = sym (number_bytes-number_at at n bytes low (omega arith)) ∙ ap (λ (y : ℕ). number_bytes n y) number in
    let others : drop n (drop at bytes) ≡ rest = drop-drop n at bytes ∙ ap (λ (k : ℕ). drop k bytes) (sym follows) ∙ behind in
    sym (take-append-drop n (drop at bytes)) ∙ (λ i. field i ++ others i)

-- the same of a signed number
pub signed_at-signed_bytes : (at : ℕ) (z : ℤ) (bytes : List ℕ) → FitsSigned w32 z → take 4 (drop at bytes) ≡ signed_bytes z → signed_at at bytes ≡ z
signed_at-signed_bytes at z bytes fits field =
    let below : cast_unsigned w32 z < 256 ^ 4 = omega (arith, ints, fits) in
    ap (cast_signed w32) (number_at-number_bytes at 4 (cast_unsigned w32 z) bytes below field) ∙ to_z-of_z w32 z fits

pub drop-signed : (at next : ℕ) (z : ℤ) (bytes rest : List ℕ) → IsBytes bytes → next ≡ at + 4 → next ≤ length bytes → signed_at at bytes ≡ z → drop next bytes ≡ rest
    → drop at bytes ≡ signed_bytes z ++ rest
drop-signed at next z bytes rest low follows room number behind =
    let same : number_at at 4 bytes ≡ cast_unsigned w32 z = sym (of_z-to_z w32 (number_at at 4 bytes) (omega (arith, number_at-lt at 4 bytes low))) ∙ ap (cast_unsigned w32) number in
    drop-field at 4 next (cast_unsigned w32 z) bytes rest low follows room same behind

-- two tests that pass
pub both : (a b : Bool) → (a && b) ≡ true → (a ≡ true) × (b ≡ true)
both true b e = (refl, e)
both false b e = absurd (cc e)

-- n zeros
pub zeros_are : (bytes : List ℕ) (n : ℕ) → length bytes ≡ n → is_zeros bytes ≡ true → bytes ≡ replicate n 0
zeros_are [] zero size e = refl
zeros_are [] (suc n) size e = absurd (omega arith)
zeros_are (b ∷ bytes) zero size e = absurd (omega arith)
zeros_are (b ∷ bytes) (suc n) size e =
    let parts = both (b == 0) (is_zeros bytes) e in
    let first : b ≡ 0 = eqb-true b 0 parts.0 in
    let rest : bytes ≡ replicate n 0 = zeros_are bytes n (omega arith) parts.1 in
    λ i. first i ∷ rest i

-- zeros are zeros
pub is_zeros-zeros : (n : ℕ) → is_zeros (replicate n 0) ≡ true
is_zeros-zeros zero = refl
is_zeros-zeros (suc n) = is_zeros-zeros n

-- a test before a reading that gave something
pub some_test : {B : Type 0} (test : Bool) (read : Option B) (y : B) → cond test read None ≡ Some y → (test ≡ true) × (read ≡ Some y)
some_test true read y e = (refl, e)
some_test false read y e = absurd (cc e)
