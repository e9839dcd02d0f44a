-- A written row is read as the row of its item.
use Rattle.std.proofs.Common.{◌≡◌, ℕ, ◌+◌, ◌<◌, ◌≤◌, List, [], ◌∷◌, ◌++◌, length, refl, sym, subst, ap, ◌∙◌, arith}
use Rattle.std.specs.Prelude.{All, decimal}
use Rattle.std.proofs.lemmas.List.Elements.{All-append}
use Rattle.std.proofs.lemmas.List.{length-append}
use Rattle.first_text.specs.Words.{words_in}
use Rattle.first_num.specs.Decimal.{decimal_of}
use Rattle.first_model.specs.declared.plan.Item.{Item}
use Rattle.first_model.specs.declared.limits.TheConstants.{MAX_PLAN_ROWS}
use Rattle.first_wpl.specs.declared.fields.TheConstants.{MAX_SMALL, MAX_NUMBER, PLACE_SCALE, HEIGHT_SCALE}
use Rattle.first_wpl.specs.Printed.{IsPrinted, IsNumberWord, IsParamWord, ReadsBack}
use Rattle.first_wpl.specs.Rows.{RowIs}
use Rattle.first_wpl.specs.Writing.{tabbed, current_of, flag_of, param_text, head_words, param_words, position_words, row_text}
use Rattle.first_wpl.proofs.PrintedWords.{decimal_printed, decimal_short, decimal_whole, current_small, flag_small, flag_reads, word_last, EachPrinted, words_tabbed, line_holds, IsRowByte, word_bytes, tabbed_bytes, length-tabbed, end_kept}

-- what is known of an item's words
pub record WordsOf (item : Item) : Type 0 where
  pub command : item.command ≤ MAX_NUMBER
  pub p1 : IsParamWord (param_text item.p1) item.p1
  pub p2 : IsParamWord (param_text item.p2) item.p2
  pub p3 : IsParamWord (param_text item.p3) item.p3
  pub p4 : IsParamWord (param_text item.p4) item.p4
  pub x : IsNumberWord (decimal_of item.x PLACE_SCALE) PLACE_SCALE item.x
  pub y : IsNumberWord (decimal_of item.y PLACE_SCALE) PLACE_SCALE item.y
  pub z : IsNumberWord (decimal_of item.z HEIGHT_SCALE) HEIGHT_SCALE item.z

-- the words of a row
row_words : (place : ℕ) (item : Item) → EachPrinted (head_words place item) → EachPrinted (param_words item) → EachPrinted (position_words item) → IsPrinted (decimal (flag_of item.auto))
    → words_in (row_text place item) ≡ head_words place item ++ (param_words item ++ (position_words item ++ decimal (flag_of item.auto) ∷ []))
unfolding row_text
row_words place item head params position flag =
    let last = decimal (flag_of item.auto) in
    words_tabbed (head_words place item) (tabbed (param_words item) ++ (tabbed (position_words item) ++ last)) head
    ∙ ap (λ found. head_words place item ++ found) (words_tabbed (param_words item) (tabbed (position_words item) ++ last) params
    ∙ ap (λ found. param_words item ++ found) (words_tabbed (position_words item) last position
    ∙ ap (λ found. position_words item ++ found) (word_last last flag)))

pub row_back : (place : ℕ) (item : Item) → place < MAX_PLAN_ROWS → item.frame ≤ MAX_SMALL → WordsOf item → ReadsBack (row_text place item) place item
unfolding row_text
row_back place item below frame words =
    let current = current_small place in
    let flag = flag_small item.auto in
    let last = decimal (flag_of item.auto) in
    let head : EachPrinted (head_words place item) = (decimal_printed place (omega arith), (decimal_printed (current_of place) (omega arith), (decimal_printed item.frame (omega arith), (decimal_printed item.command words.command, tt)))) in
    let params : EachPrinted (param_words item) = (words.p1.printed, (words.p2.printed, (words.p3.printed, (words.p4.printed, tt)))) in
    let position : EachPrinted (position_words item) = (words.x.printed, (words.y.printed, (words.z.printed, tt))) in
    let end : IsPrinted last = decimal_printed (flag_of item.auto) (omega arith) in
    let P : List (List ℕ) → Type 0 = λ ws. RowIs ws place item in
    let found = row_words place item head params position end in
    let behind : List ℕ = tabbed (param_words item) ++ (tabbed (position_words item) ++ last) in
    let bytes : All IsRowByte (tabbed (head_words place item) ++ behind) =
    All-append IsRowByte (tabbed (head_words place item)) behind (tabbed_bytes (head_words place item) head)
    (All-append IsRowByte (tabbed (param_words item)) (tabbed (position_words item) ++ last) (tabbed_bytes (param_words item) params)
    (All-append IsRowByte (tabbed (position_words item)) last (tabbed_bytes (position_words item) position) (word_bytes last end))) in
    let size1 : length (tabbed (head_words place item)) ≡ length (decimal place) + 1 + (length (decimal (current_of place)) + 1 + (length (decimal item.frame) + 1 + (length (decimal item.command) + 1 + 0))) = length-tabbed (head_words place item) in
    let size2 : length (tabbed (param_words item)) ≡ length (param_text item.p1) + 1 + (length (param_text item.p2) + 1 + (length (param_text item.p3) + 1 + (length (param_text item.p4) + 1 + 0))) = length-tabbed (param_words item) in
    let size3 : length (tabbed (position_words item)) ≡ length (decimal_of item.x PLACE_SCALE) + 1 + (length (decimal_of item.y PLACE_SCALE) + 1 + (length (decimal_of item.z HEIGHT_SCALE) + 1 + 0)) = length-tabbed (position_words item) in
    let all1 = length-append (tabbed (head_words place item)) behind in
    let all2 = length-append (tabbed (param_words item)) (tabbed (position_words item) ++ last) in
    let all3 = length-append (tabbed (position_words item)) last in
    let d1 = decimal_short place (omega arith) in
    let d2 = decimal_short (current_of place) (omega arith) in
    let d3 = decimal_short item.frame (omega arith) in
    let d4 = decimal_short item.command words.command in
    let d5 = decimal_short (flag_of item.auto) (omega arith) in
    let some = decimal_printed place (omega arith) in
    record {
      row = subst P (sym found) (record {
        count = refl;
        head = record {
          index = decimal_whole MAX_NUMBER place (omega arith) (omega arith);
          current = (current_of place, decimal_whole MAX_SMALL (current_of place) (omega arith) (omega arith));
          frame_word = decimal_whole MAX_SMALL item.frame frame (omega arith);
          command_word = decimal_whole MAX_NUMBER item.command words.command words.command;
        };
        params = record { param1 = words.p1.reads; param2 = words.p2.reads; param3 = words.p3.reads; param4 = words.p4.reads };
        position = record { latitude = words.x.reads; longitude = words.y.reads; height = words.z.reads; goes_on = flag_reads item.auto };
      });
      plain = ((λ k d h. (bytes k d h).0), end_kept (tabbed (head_words place item) ++ behind) (omega (arith, all1, size1)) bytes);
      short = omega (arith, all1, all2, all3, size1, size2, size3, d1, d2, d3, d4, d5, words.p1.short, words.p2.short, words.p3.short, words.p4.short, words.x.short, words.y.short, words.z.short);
      ascii = λ k d h. (bytes k d h).2;
      holds = line_holds (decimal place) behind (decimal (current_of place) ∷ decimal item.frame ∷ decimal item.command ∷ []) some;
    }
