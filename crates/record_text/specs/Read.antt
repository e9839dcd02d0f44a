-- What a record's text says: its lines, or the first line that is no line's text.
use Rattle.std.specs.Prelude.{◌≡◌, ◌≢◌, ℕ, ◌+◌, ⊤, List, [], ◌++◌, length, drop, All, Result, Ok, Err}
use Rattle.std.specs.Global.{Vec}
use Rattle.mission_model.specs.declared.flight_line.Line.{Line}
use Rattle.record_text.specs.declared.fault.RecordFault.{RecordFault}
use Rattle.record_text.specs.declared.fault.RecordFault.TheVariants.{BadLine, Memory}
use Rattle.record_text.specs.Record.{IsPrintable, line_text_of, record_text_of, RecordText}
use Rattle.record_text.specs.Typed.{IsTyped}

-- the line has one text that is read as this line alone
abbrev pub IsWritable : Line → Type 0
IsWritable line = IsPrintable line × IsTyped line

-- the bytes are the text of the record, and each of its lines has one
abbrev pub IsRecord : List ℕ → List Line → Type 0
IsRecord bytes lines = All IsWritable lines × RecordText lines bytes

-- the text is the line's, and it begins the bytes
pub record Begins (line : Line) (text bytes : List ℕ) : Type 0 where
  pub writable : IsWritable line
  pub line_text : text ≡ line_text_of line
  pub front : bytes ≡ text ++ drop (length text) bytes

-- no line's text begins the bytes
abbrev pub BeginsNoLine : List ℕ → Type 0
BeginsNoLine bytes = (line : Line) (more : List ℕ) → IsWritable line → bytes ≢ line_text_of line ++ more

-- the first line that is no line's text is that of this number, counted from 1: before it stand texts of lines, and what begins there is none
pub record IsFirstBad (bytes : List ℕ) (number : ℕ) : Type 0 where
  pub before : List Line
  pub writable : All IsWritable before
  pub rest : List ℕ
  pub text : bytes ≡ record_text_of before ++ rest
  pub there : rest ≢ []
  pub bad : BeginsNoLine rest
  pub counted : number ≡ length before + 1

-- a fault that was told is there; want of memory alone is free
abbrev pub HasFault : List ℕ → RecordFault → Type 0
HasFault bytes (BadLine number) = IsFirstBad bytes number
HasFault bytes (Memory _) = ⊤

-- the answer is these lines, if there is memory
abbrev pub Reads : Result (Vec Line) RecordFault → List Line → Type 0
Reads (Ok found) lines = found.items ≡ lines
Reads (Err (Memory _)) lines = ⊤
Reads (Err (BadLine number)) lines = ⊥

-- no two lists of such lines have one text
abbrev pub TextsDiffer : Type 0
TextsDiffer = (lines others : List Line) → All IsWritable lines → All IsWritable others → record_text_of lines ≡ record_text_of others → lines ≡ others
