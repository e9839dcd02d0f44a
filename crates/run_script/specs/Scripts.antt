-- The script that a text is, and the first fault of a text that is none.
use Rattle.std.specs.Prelude.{◌≡◌, ◌⊎◌, ℕ, ◌+◌, ◌≤◌, pos, List, [], ◌∷◌, ◌++◌, length, take, Bool, true, false, not, ◌&&◌, Option, Some, None, option_map, count_by, Result, Ok, Err, if◌then◌else◌}
use Rattle.std.specs.List.{list_any, filter_map, flat_map}
use Rattle.nav_text.specs.declared.lines.TheConstants.{MAX_TEXT_BYTES}
use Rattle.nav_text.specs.declared.span.Span.{Span}
use Rattle.nav_text.specs.declared.fault.TextFault.{TextFault}
use Rattle.nav_text.specs.declared.fault.TextFault.TheVariants as textual
use Rattle.nav_text.specs.Lines.{is_line_feed, line_spans}
use Rattle.nav_text.specs.Faults.{text_fault}
use Rattle.mission_model.specs.declared.plan.Home.{Home}
use Rattle.mission_model.specs.declared.plan.Params.{Params}
use Rattle.mission_model.specs.declared.schedule.BootScript.{BootScript}
use Rattle.mission_model.specs.declared.schedule.CutSpec.{CutSpec}
use Rattle.mission_model.specs.declared.schedule.Script.{Script}
use Rattle.run_script.specs.declared.fault.ScriptFault.{ScriptFault}
use Rattle.run_script.specs.declared.fault.ScriptFault.TheVariants as fault
use Rattle.run_script.specs.Statements.{Statement, Boot, tko_land_of, takeoff_min_of, max_alt_of, rtl_type_of, home_of, plan_of, input_of, turns_of, is_boot, is_unclosed, last_of, links_to, watchers_to, actors_of, greatest}
use Rattle.run_script.specs.Told.{Told, told_lines, States, IsFault}

-- the last value of each parameter
abbrev pub params_of : List Statement → Params
params_of statements = record {
  tko_land = last_of tko_land_of 0 statements;
  takeoff_min = last_of takeoff_min_of (pos 0) statements;
  max_alt = last_of max_alt_of (pos 0) statements;
  rtl_type = last_of rtl_type_of 0 statements;
}

-- the last home
abbrev pub home_in : List Statement → Option Home
home_in statements = last_of (λ (statement : Statement). option_map Some (home_of statement)) None statements

-- one above the greatest link that is named, and the same of the watchers
abbrev pub links_of : List Statement → ℕ
links_of statements = greatest links_to (flat_map actors_of statements)

abbrev pub watchers_of : List Statement → ℕ
watchers_of statements = greatest watchers_to (flat_map actors_of statements)

-- the statements in front of the next boot
abbrev pub until_boot : List Statement → List Statement
until_boot [] = []
until_boot (statement ∷ more) = if is_boot statement then [] else statement ∷ until_boot more

-- a boot with this cut and these statements, in a script of these
abbrev pub boot_of : List Statement → Option CutSpec → List Statement → BootScript
boot_of script cut statements = record {
  cut = cut;
  inputs = filter_map input_of statements;
  turns = flat_map turns_of statements;
  params = params_of script;
  home = home_in script;
  links = links_of script;
  watchers = watchers_of script;
}

-- the boots of these statements, in a script of those
abbrev pub boots_of : List Statement → List Statement → List BootScript
boots_of script [] = []
boots_of script (Boot cut ∷ more) = boot_of script cut (until_boot more) ∷ boots_of script more
boots_of script (_ ∷ more) = boots_of script more

-- the script that is stated
abbrev pub script_of : List Statement → Script
script_of statements = record {
  params = params_of statements;
  home = home_in statements;
  plans = filter_map plan_of statements;
  boots = boots_of statements statements;
}

-- whether nothing is missing: there is a boot, and each plan has its end
abbrev pub is_finished : List Statement → Bool
is_finished statements = list_any is_boot statements && not (list_any is_unclosed statements)

-- the lines lead on from these statements, one by one, to all statements of the script
abbrev pub LinesState : List ℕ → List Statement → List Told → List Statement → Type 0
LinesState text before [] statements = statements ≡ before
LinesState text before (line ∷ lines) statements = (next : Statement) × States text before line next × LinesState text (before ++ next ∷ []) lines statements

-- the lines state one after another up to the first that has this fault, at its number; lines that leave a script unfinished have it behind the last line of the text
abbrev pub FaultFrom : List ℕ → ℕ → List Statement → List Told → ℕ → ScriptFault → Type 0
FaultFrom text last before [] at f = (at ≡ last + 1) × (f ≡ fault.Unfinished) × (is_finished before ≡ false)
FaultFrom text last before (line ∷ lines) at f =
    ((at ≡ line.number) × IsFault text before line f)
    ⊎ ((next : Statement) × States text before line next × FaultFrom text last (before ++ next ∷ []) lines at f)

-- the lines are those of this script
pub record LinesScript (text : List ℕ) (lines : List Span) (script : Script) : Type 0 where
  pub statements : List Statement
  pub states : LinesState text [] (told_lines text 1 false lines) statements
  pub finished : is_finished statements ≡ true
  pub script_is : script ≡ script_of statements

-- the first fault of the lines
abbrev pub LinesFault : List ℕ → List Span → ℕ → ScriptFault → Type 0
LinesFault text lines at f = FaultFrom text (length lines) [] (told_lines text 1 false lines) at f

-- the text is this script
pub record ScriptText (text : List ℕ) (script : Script) : Type 0 where
  pub size : length text ≤ MAX_TEXT_BYTES
  pub sound : text_fault text ≡ None
  pub lines : LinesScript text (line_spans 0 text) script

-- the number of the line that a fault of the text names, or in which the byte lies that it names
abbrev pub fault_line : List ℕ → TextFault → ℕ
fault_line text (textual.NotAscii place) = count_by is_line_feed (take place text) + 1
fault_line text (textual.LongLine number) = number
fault_line text (textual.Memory _) = 0

-- the first fault of a text: a fault of the text itself, or else of its lines
abbrev pub IsFirstFault : Option TextFault → List ℕ → ℕ → ScriptFault → Type 0
IsFirstFault (Some found) text number f = (f ≡ fault.Text found) × (number ≡ fault_line text found)
IsFirstFault None text number f = LinesFault text (line_spans 0 text) number f

-- what is said of every fault but want of memory
abbrev pub UnlessMemory : (ScriptFault → Type 0) → ScriptFault → Type 0
UnlessMemory Q (fault.Memory _) = Unit {0}
UnlessMemory Q f = Q f

-- the text is no script, and this is its first fault, at the line of this number; want of memory is no fault of the text
abbrev pub IsScriptFault : List ℕ → ℕ → ScriptFault → Type 0
IsScriptFault text number f = UnlessMemory (λ g. IsFirstFault (text_fault text) text number g) f

-- what is answered to the text of a script: it, if memory does not run out
abbrev pub GivesScript : Result Script (ℕ × ScriptFault) → Script → Type 0
GivesScript (Ok found) script = found ≡ script
GivesScript (Err at) script = UnlessMemory (λ _. ⊥) at.1
