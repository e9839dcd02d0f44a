-- The first fault of a text.
use Rattle.std.specs.Prelude.{◌≡◌, ℕ, List, length, Bool, nat_lt, Option, Some, None, position}
use Rattle.std.specs.List.{position_from}
use Rattle.first_text.specs.declared.fault.TextFault.{TextFault}
use Rattle.first_text.specs.declared.fault.TextFault.TheVariants.{NotAscii, LongLine, Memory}
use Rattle.first_text.specs.declared.lines.TheConstants.{MAX_LINE_BYTES}
use Rattle.first_text.specs.Lines.{lines_of}

-- whether a byte is no ASCII
abbrev pub is_high : ℕ → Bool
is_high byte = nat_lt 127 byte

-- whether a line has more bytes than a line may have
abbrev pub is_long : List ℕ → Bool
is_long line = nat_lt MAX_LINE_BYTES (length line)

-- a byte that is no ASCII comes before any long line
abbrev pub fault_of : Option ℕ → Option ℕ → Option TextFault
fault_of (Some place) _ = Some (NotAscii place)
fault_of None (Some number) = Some (LongLine number)
fault_of None None = None

-- the first fault of a text: the first byte above 127, and where there is none, the first long line, counted from 1
unfoldable pub text_fault : List ℕ → Option TextFault
text_fault text = fault_of (position is_high text) (position_from is_long 1 (lines_of text))

-- a fault that was told is the one that was found, if it is not want of memory
abbrev pub IsFaultFound : Option TextFault → TextFault → Type 0
IsFaultFound found (NotAscii place) = found ≡ Some (NotAscii place)
IsFaultFound found (LongLine number) = found ≡ Some (LongLine number)
IsFaultFound found (Memory _) = Unit {0}
