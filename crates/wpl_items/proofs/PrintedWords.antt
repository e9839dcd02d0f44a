-- Written words, told apart and read again.
use Rattle.std.proofs.Common.{◌≡◌, ◌≢◌, ℕ, ℤ, ◌+◌, ◌-◌, ◌<◌, ◌≤◌, Bool, true, false, List, [], ◌∷◌, ◌++◌, length, take, get_or, zero, suc, cond, refl, sym, ap, ◌∙◌, arith, filter, append_assoc, inl, inr, lit<, lit≤}
use Rattle.std.specs.Prelude.{nat_lt, All, codes, decimal, ◌&&◌, ◌||◌, ◌==◌}
use Rattle.std.specs.List.{slice_split, list_all}
use Rattle.std.specs.Str.Lines.{strip_carriage_return}
use Rattle.std.proofs.lemmas.List.Splits.{slice_split_at, slice_split_none}
use Rattle.std.proofs.lemmas.List.Elements.{All-append}
use Rattle.std.proofs.lemmas.List.{length-append, get_or_default}
use Rattle.std.proofs.lemmas.Bool.{ne_eqb, lt-ltb}
use Rattle.std.proofs.lemmas.Fmt.{decimal_is_IsNumeral, length-decimal-le}
use Rattle.std.proofs.lemmas.Str.Parse.{digit_at}
use Rattle.nav_text.specs.Words.{is_blank, words_in}
use Rattle.nav_num.specs.Decimal.{IsDecimalByte, IsShortest}
use Rattle.nav_num.specs.Faults.{ReadsAs}
use Rattle.mission_model.specs.declared.plan.Param.TheVariants.{Unset, Milli}
use Rattle.wpl_items.specs.declared.fields.TheConstants.{PARAM_SCALE}
use Rattle.wpl_items.specs.Fields.{IsWhole, IsNan, ReadsFlag}
use Rattle.wpl_items.specs.Printed.{IsPrinted, IsNumberWord, IsParamWord}
use Rattle.wpl_items.specs.Writing.{tabbed, current_of, flag_of}
use Rattle.wpl_items.specs.Wpl.{is_blank_line}
use Rattle.wpl_items.proofs.Numbers.{reads_short}

-- a visible byte is no blank
solid : (byte : ℕ) → (32 < byte) × (byte < 127) → is_blank byte ≡ false
solid byte visible = ap (λ b. b || (byte == 9)) (ne_eqb byte 32 (λ e. omega (arith, visible.0))) ∙ ne_eqb byte 9 (λ e. omega (arith, visible.0))

-- a decimal's byte is visible, and comes before the letters
decimal_visible : (byte : ℕ) → IsDecimalByte byte → (32 < byte) × (byte < 58)
unfolding IsDecimalByte
decimal_visible byte (inl digit) = (omega (arith, digit.0), omega (arith, digit.1))
decimal_visible byte (inr (inl minus)) = (omega arith, omega arith)
decimal_visible byte (inr (inr point)) = (omega arith, omega arith)

-- a decimal is no `nan`
not_nan : (word : List ℕ) → All IsDecimalByte word → IsNan word → ⊥
not_nan [] bytes nan = cc
not_nan (byte ∷ word) bytes nan =
    let low = decimal_visible byte (bytes 0 byte (omega arith)) in
    let first = ap (λ (l : List ℕ). get_or l 0 0) nan in
    let same : cond (nat_lt byte 65) byte (cond (nat_lt byte 91) (byte + 32) byte) ≡ byte = ap (λ b. cond b byte (cond (nat_lt byte 91) (byte + 32) byte)) (lt-ltb byte 65 (omega (arith, low.1))) in
    let named : byte ≡ 110 = sym same ∙ first in
    omega (arith, low.1, named)

-- the word of a number that was printed
pub number_word : (word : List ℕ) (scale : ℕ) (n : ℤ) → ReadsAs word scale n → IsShortest word n scale → All IsDecimalByte word → IsNumberWord word scale n
number_word word scale n reads shortest bytes = record {
  reads = reads;
  number = not_nan word bytes;
  printed = record {
    some = (let t = shortest.plain.token in
        let size = ap length shortest.plain.is_token.text in
        let parts = simp length-append at size in
        omega (arith, parts, shortest.plain.whole_digit));
    bytes = λ k d h. (let low = decimal_visible (get_or word k d) (bytes k d h) in (low.0, omega (arith, low.1)));
  };
  short = reads_short word scale n reads;
}

nan_bytes : All (λ byte. (32 < byte) × (byte < 127)) (110 ∷ 97 ∷ 110 ∷ [])
nan_bytes zero d h = (lit< tt, lit< tt)
nan_bytes (suc zero) d h = (lit< tt, lit< tt)
nan_bytes (suc (suc zero)) d h = (lit< tt, lit< tt)
nan_bytes (suc (suc (suc k))) d h = absurd (omega arith)

-- the word of a parameter that is not given
pub nan_word : IsParamWord (codes "nan") Unset
nan_word = record {
  reads = refl;
  printed = record {
    some = lit< tt;
    bytes = nan_bytes;
  };
  short = lit≤ tt;
}

-- the word of a parameter that is given
pub milli_word : (word : List ℕ) (n : ℤ) → IsNumberWord word PARAM_SCALE n → IsParamWord word (Milli n)
milli_word word n number = record { reads = (number.number, number.reads); printed = number.printed; short = number.short }

-- a whole number's word
pub decimal_printed : (n : ℕ) → n ≤ 65535 → IsPrinted (decimal n)
decimal_printed n small =
    let numeral = decimal_is_IsNumeral n (omega arith) in
    record {
      some = numeral.0.0;
      bytes = λ k d h.
          let digit = digit_at (decimal n) k numeral.0.1 h in
          let same : get_or (decimal n) k d ≡ get_or (decimal n) k 0 = get_or_default (decimal n) k d 0 h in
          (omega (arith, digit, same), omega (arith, digit, same));
    }

pub decimal_short : (n : ℕ) → n ≤ 65535 → length (decimal n) ≤ 5
decimal_short n small = length-decimal-le 5 n (lit< tt) (omega arith) (omega arith)

pub decimal_whole : (limit n : ℕ) → n ≤ limit → n ≤ 65535 → IsWhole limit (decimal n) n
decimal_whole limit n within small =
    let numeral = decimal_is_IsNumeral n (omega arith) in
    let short = decimal_short n small in
    record { numeral = numeral.0; short = omega arith; value = numeral.1; low = omega arith; high = within }

pub current_small : (place : ℕ) → current_of place ≤ 1
current_small place = elim (place == 0) as (λ b. cond b 1 0 ≤ 1) [ true ↦ lit≤ tt | false ↦ lit≤ tt ]

pub flag_small : (flag : Bool) → flag_of flag ≤ 1
flag_small true = lit≤ tt
flag_small false = lit≤ tt

pub flag_reads : (flag : Bool) → ReadsFlag (decimal (flag_of flag)) flag
flag_reads true = (1, decimal_whole 255 1 (lit≤ tt) (lit≤ tt), refl)
flag_reads false = (0, decimal_whole 255 0 (lit≤ tt) (lit≤ tt), refl)

-- the first word of a line
word_step : (word more : List ℕ) → IsPrinted word → words_in (word ++ 9 ∷ more) ≡ word ∷ words_in more
unfolding words_in
word_step word more printed =
    ap (filter (λ (piece : List ℕ). nat_lt 0 (length piece))) (slice_split_at is_blank word 9 more (λ k d h. solid (get_or word k d) (printed.bytes k d h)) refl)
    ∙ ap (λ b. cond b (word ∷ filter (λ (piece : List ℕ). nat_lt 0 (length piece)) (slice_split is_blank more)) (filter (λ (piece : List ℕ). nat_lt 0 (length piece)) (slice_split is_blank more))) (lt-ltb 0 (length word) printed.some)

-- the last word
pub word_last : (word : List ℕ) → IsPrinted word → words_in word ≡ word ∷ []
unfolding words_in
word_last word printed =
    ap (filter (λ (piece : List ℕ). nat_lt 0 (length piece))) (slice_split_none is_blank word (λ k d h. solid (get_or word k d) (printed.bytes k d h)))
    ∙ ap (λ b. cond b (word ∷ []) []) (lt-ltb 0 (length word) printed.some)

-- words that are all printed
abbrev pub EachPrinted : List (List ℕ) → Type 0
EachPrinted [] = Unit {0}
EachPrinted (word ∷ words) = IsPrinted word × EachPrinted words

apart : (word rest : List ℕ) (words : List (List ℕ)) → tabbed (word ∷ words) ++ rest ≡ word ++ (9 ∷ (tabbed words ++ rest))
apart word rest words = append_assoc (word ++ 9 ∷ []) (tabbed words) rest ∙ append_assoc word (9 ∷ []) (tabbed words ++ rest)

-- the words of a line that begins with words and tabs
pub words_tabbed : (words : List (List ℕ)) (rest : List ℕ) → EachPrinted words → words_in (tabbed words ++ rest) ≡ words ++ words_in rest
words_tabbed [] rest printed = refl
words_tabbed (word ∷ words) rest printed = ap words_in (apart word rest words) ∙ word_step word (tabbed words ++ rest) printed.0 ∙ ap (λ found. word ∷ found) (words_tabbed words rest printed.1)

-- a line that begins with a word is not blank
first_holds : (word more : List ℕ) → IsPrinted word → list_all is_blank (word ++ more) ≡ false
first_holds [] more printed = absurd (omega (arith, printed.some))
first_holds (byte ∷ word) more printed = ap (λ b. b && list_all is_blank (word ++ more)) (solid byte (printed.bytes 0 byte (omega arith)))

pub line_holds : (word rest : List ℕ) (words : List (List ℕ)) → IsPrinted word → is_blank_line (tabbed (word ∷ words) ++ rest) ≡ false
line_holds word rest words printed = ap is_blank_line (apart word rest words) ∙ first_holds word (9 ∷ (tabbed words ++ rest)) printed

-- bytes of a written row
abbrev pub IsRowByte : ℕ → Type 0
IsRowByte byte = (byte ≢ 10) × (byte ≢ 13) × (byte < 128)

pub word_bytes : (word : List ℕ) → IsPrinted word → All IsRowByte word
word_bytes word printed k d h =
    let visible = printed.bytes k d h in
    ((λ e. omega (arith, visible.0)), (λ e. omega (arith, visible.0)), omega (arith, visible.1))

tab_byte : All IsRowByte (9 ∷ [])
tab_byte zero d h = ((λ e. omega arith), (λ e. omega arith), lit< tt)
tab_byte (suc k) d h = absurd (omega arith)

pub tabbed_bytes : (words : List (List ℕ)) → EachPrinted words → All IsRowByte (tabbed words)
tabbed_bytes [] printed k d h = absurd (omega arith)
tabbed_bytes (word ∷ words) printed k d h = All-append IsRowByte (word ++ 9 ∷ []) (tabbed words) (All-append IsRowByte word (9 ∷ []) (word_bytes word printed.0) tab_byte) (tabbed_bytes words printed.1) k d h

-- how long words with tabs are
abbrev pub total : List (List ℕ) → ℕ
total [] = 0
total (word ∷ words) = length word + 1 + total words

pub length-tabbed : (words : List (List ℕ)) → length (tabbed words) ≡ total words
length-tabbed [] = refl
length-tabbed (word ∷ words) = length-append (word ++ 9 ∷ []) (tabbed words) ∙ omega (arith, length-append word (9 ∷ []), length-tabbed words)

-- a line without such bytes keeps its end
pub end_kept : (line : List ℕ) → 0 < length line → All IsRowByte line → strip_carriage_return line ≡ line
end_kept line some bytes = ap (λ b. cond b (take (length line - 1) line) line) (ne_eqb (get_or line (length line - 1) 0) 13 (bytes (length line - 1) 0 (omega arith)).1)
