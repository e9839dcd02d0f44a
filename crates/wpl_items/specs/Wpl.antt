-- What makes a text the plan text of some items: how it begins, which of its lines are rows, and that the rows are the items.
use Rattle.std.specs.Prelude.{◌≡◌, ℕ, ◌≤◌, List, [], ◌∷◌, length, drop, Bool, true, false, ◌&&◌, nat_eq, codes, None, Some, if◌then◌else◌}
use Rattle.std.specs.List.{list_all, starts_with}
use Rattle.nav_text.specs.Lines.{lines_of}
use Rattle.nav_text.specs.Words.{is_blank}
use Rattle.nav_text.specs.Faults.{text_fault}
use Rattle.nav_text.specs.declared.lines.TheConstants.{MAX_TEXT_BYTES}
use Rattle.mission_model.specs.declared.plan.Item.{Item}
use Rattle.mission_model.specs.declared.limits.TheConstants.{MAX_PLAN_ROWS}
use Rattle.wpl_items.specs.declared.fault.WplFault.{WplFault}
use Rattle.wpl_items.specs.declared.fault.WplFault.TheVariants.{Text, Header, Memory}
use Rattle.wpl_items.specs.Rows.{RowsAre}
use Rattle.wpl_items.specs.Faults.{FirstRowFault}

-- whether a line holds nothing but spaces and tabs
abbrev pub is_blank_line : List ℕ → Bool
is_blank_line line = list_all is_blank line

-- the first line of a plan text
abbrev pub header_text : List ℕ
header_text = codes "QGC WPL 110"

-- whether a line is the header, with or without blanks behind it
abbrev pub is_header : List ℕ → Bool
is_header line = starts_with nat_eq line header_text && is_blank_line (drop (length header_text) line)

-- whether the first of the lines is the header
abbrev pub is_headed : List (List ℕ) → Bool
is_headed [] = false
is_headed (line ∷ lines) = is_header line

-- lines without the blank ones at their end
abbrev pub without_blank_end : List (List ℕ) → List (List ℕ)
without_blank_end [] = []
without_blank_end (line ∷ lines) = if list_all is_blank_line (line ∷ lines) then [] else line ∷ without_blank_end lines

-- those of the lines of a plan text that hold its rows
unfoldable pub rows_among : List (List ℕ) → List (List ℕ)
rows_among lines = without_blank_end (drop 1 lines)

-- the lines of a plan text that hold its rows
abbrev pub rows_of : List ℕ → List (List ℕ)
rows_of text = rows_among (lines_of text)

-- the text is a plan text of these items, within the limits
pub record Wpl (text : List ℕ) (items : List Item) : Type 0 where
  pub size : length text ≤ MAX_TEXT_BYTES
  pub sound : text_fault text ≡ None
  pub header : is_headed (lines_of text) ≡ true
  pub limit : length items ≤ MAX_PLAN_ROWS
  pub rows : RowsAre 0 (rows_of text) items

-- the first fault of a plan text; want of memory is none of the text
abbrev pub IsWplFault : List ℕ → WplFault → Type 0
IsWplFault text (Memory _) = Unit {0}
IsWplFault text (Text fault) = text_fault text ≡ Some fault
IsWplFault text Header = (text_fault text ≡ None) × (is_headed (lines_of text) ≡ false)
IsWplFault text fault = (text_fault text ≡ None) × (is_headed (lines_of text) ≡ true) × FirstRowFault 0 (rows_of text) fault

-- the lines are those of a plan text of these items: for one that stands within another text
pub record WplLines (lines : List (List ℕ)) (items : List Item) : Type 0 where
  pub header : is_headed lines ≡ true
  pub limit : length items ≤ MAX_PLAN_ROWS
  pub rows : RowsAre 0 (rows_among lines) items

-- the first fault of such lines
abbrev pub IsLinesFault : List (List ℕ) → WplFault → Type 0
IsLinesFault lines (Memory _) = Unit {0}
IsLinesFault lines (Text _) = ⊥
IsLinesFault lines Header = is_headed lines ≡ false
IsLinesFault lines fault = (is_headed lines ≡ true) × FirstRowFault 0 (rows_among lines) fault
