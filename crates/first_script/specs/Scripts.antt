-- The script that a text is, and the first fault of a text that is none.
use Rattle.std.specs.Prelude.{◌≡◌, ◌⊎◌, ℕ, ◌+◌, ◌≤◌, List, [], ◌∷◌, length, take, Bool, true, false, ◌||◌, Option, Some, None, count_by, Result, Ok, Err, if◌then◌else◌}
use Rattle.std.specs.List.{list_any}
use Rattle.first_text.specs.declared.span.Span.{Span}
use Rattle.first_text.specs.declared.lines.TheConstants.{MAX_TEXT_BYTES}
use Rattle.first_text.specs.declared.fault.TextFault.{TextFault}
use Rattle.first_text.specs.declared.fault.TextFault.TheVariants as textual
use Rattle.first_text.specs.Spans.{text_of}
use Rattle.first_text.specs.Lines.{is_line_feed, line_spans}
use Rattle.first_text.specs.Words.{words_in}
use Rattle.first_text.specs.Faults.{text_fault}
use Rattle.first_model.specs.declared.flight_line.Actor.{Actor}
use Rattle.first_model.specs.declared.flight_line.Actor.TheVariants.{Link}
use Rattle.first_model.specs.declared.schedule.InputLine.{InputLine}
use Rattle.first_model.specs.declared.schedule.Script.{Script}
use Rattle.first_script.specs.declared.fault.ScriptFault.{ScriptFault}
use Rattle.first_script.specs.declared.fault.ScriptFault.TheVariants as fault
use Rattle.first_script.specs.declared.draft.Draft.{Draft}
use Rattle.first_script.specs.declared.place.Place.{Place}
use Rattle.first_script.specs.declared.place.Place.TheVariants.{Top, Among}
use Rattle.first_script.specs.Reads.{UnlessMemory}
use Rattle.first_script.specs.Places.{Leads, IsLineFault}

-- whether an actor is a link
abbrev pub is_link : Actor → Bool
is_link (Link _) = true
is_link _ = false

-- how many links the inputs and turns name: 1 where link 0 stands in them
unfoldable pub links_of : List (Actor × InputLine) → List Actor → ℕ
links_of inputs turns = if list_any (λ input. is_link input.0) inputs || list_any is_link turns then 1 else 0

-- the script of what is stated: its one boot has the script's parameters and home
abbrev pub script_of : Draft → Script
script_of draft = record {
  params = draft.params;
  home = draft.home;
  plans = draft.plans;
  boots = record { cut = None; inputs = draft.inputs; turns = draft.turns; params = draft.params; home = draft.home; links = links_of draft.inputs draft.turns; watchers = 0 } ∷ [];
}

-- the script whose lines end at this place
unfoldable pub script_at : Place → Option Script
script_at (Among draft) = if draft.booted then Some (script_of draft) else None
script_at _ = None

-- lines lead from this place to the end of this script
abbrev pub ScriptFrom : List ℕ → Place → List Span → Script → Type 0
ScriptFrom text place [] script = script_at place ≡ Some script
ScriptFrom text place (line ∷ behind) script = (next : Place) × Leads text behind place (words_in (text_of text line)) next × ScriptFrom text next behind script

-- lines that are numbered from this number on have their first fault at another one; a script that they leave unfinished has it behind the last
abbrev pub FaultFrom : List ℕ → ℕ → Place → List Span → ℕ → ScriptFault → Type 0
FaultFrom text number place [] at f = (at ≡ number) × (f ≡ fault.Unfinished) × (script_at place ≡ None)
FaultFrom text number place (line ∷ behind) at f =
    ((at ≡ number) × IsLineFault text behind place (words_in (text_of text line)) f)
    ⊎ ((next : Place) × Leads text behind place (words_in (text_of text line)) next × FaultFrom text (number + 1) next behind at f)

-- the text is this script
pub record ScriptText (text : List ℕ) (script : Script) : Type 0 where
  pub size : length text ≤ MAX_TEXT_BYTES
  pub sound : text_fault text ≡ None
  pub lines : ScriptFrom text Top (line_spans 0 text) script

-- the number of the line that a fault of the text names, or in which the byte lies that it names
abbrev pub fault_line : List ℕ → TextFault → ℕ
fault_line text (textual.NotAscii place) = count_by is_line_feed (take place text) + 1
fault_line text (textual.LongLine number) = number
fault_line text (textual.Memory _) = 0

-- the first fault of a text: a fault of the text itself, or else of its lines
abbrev pub IsFirstFault : Option TextFault → List ℕ → ℕ → ScriptFault → Type 0
IsFirstFault (Some found) text number f = (f ≡ fault.Text found) × (number ≡ fault_line text found)
IsFirstFault None text number f = FaultFrom text 1 Top (line_spans 0 text) number f

-- the text is no script, and this is its first fault, at the line of this number; want of memory is no fault of the text
abbrev pub IsScriptFault : List ℕ → ℕ → ScriptFault → Type 0
IsScriptFault text number f = UnlessMemory (λ g. IsFirstFault (text_fault text) text number g) f

-- what is answered to the text of a script: it, if memory does not run out
abbrev pub GivesScript : Result Script (ℕ × ScriptFault) → Script → Type 0
GivesScript (Ok found) script = found ≡ script
GivesScript (Err at) script = UnlessMemory (λ _. ⊥) at.1
