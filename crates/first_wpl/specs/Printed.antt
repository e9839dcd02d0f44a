-- Words that are written so that they can be told apart and read again.
use Rattle.std.specs.Prelude.{◌≡◌, ℕ, ℤ, ◌<◌, ◌≤◌, List, length, false, All}
use Rattle.first_text.specs.Words.{words_in}
use Rattle.first_text.specs.Joined.{IsPlainLine}
use Rattle.first_text.specs.declared.lines.TheConstants.{MAX_LINE_BYTES}
use Rattle.first_num.specs.declared.TheConstants.{MOST_BYTES}
use Rattle.first_num.specs.Faults.{ReadsAs}
use Rattle.first_model.specs.declared.plan.Param.{Param}
use Rattle.first_model.specs.declared.plan.Item.{Item}
use Rattle.first_wpl.specs.Fields.{IsNan, ReadsParam}
use Rattle.first_wpl.specs.Rows.{RowIs}
use Rattle.first_wpl.specs.Wpl.{is_blank_line}

-- a word has a byte, and each of its bytes is visible
pub record IsPrinted (word : List ℕ) : Type 0 where
  pub some : 0 < length word
  pub bytes : All (λ byte. (32 < byte) × (byte < 127)) word

-- the word of a number at a scale
pub record IsNumberWord (word : List ℕ) (scale : ℕ) (n : ℤ) : Type 0 where
  pub reads : ReadsAs word scale n
  pub number : ¬ (IsNan word)
  pub printed : IsPrinted word
  pub short : length word ≤ MOST_BYTES

-- the word of a parameter
pub record IsParamWord (word : List ℕ) (param : Param) : Type 0 where
  pub reads : ReadsParam word param
  pub printed : IsPrinted word
  pub short : length word ≤ MOST_BYTES

-- the line is read as the row of the item at a place
pub record ReadsBack (line : List ℕ) (place : ℕ) (item : Item) : Type 0 where
  pub row : RowIs (words_in line) place item
  pub plain : IsPlainLine line
  pub short : length line ≤ MAX_LINE_BYTES
  pub ascii : All (λ byte. byte < 128) line
  pub holds : is_blank_line line ≡ false
