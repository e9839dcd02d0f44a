-- Which words name a command of the program: what `clap` takes of them, and the table of the commands.
use Rattle.std.specs.Prelude.{◌≡◌, ◌≢◌, ℕ, true, List, [], codes, Result, Ok, Err, Option, Some, None, option_map, option_and_then, if◌then◌else◌}
use Rattle.std.specs.Str.{bytes_eq}
use Rattle.std.specs.Borrow.{Bor}
use Rattle.clap.specs.Walk.{Row, Rule, Text, first_of}
use Rattle.clap.specs.Simple.{App, matches_of, new_app, new_rule, on_top, with_rule}
use Rattle.clap.specs.Faults.{fault_of}
use Rattle.mission_model.specs.declared.plan.PlanType.{PlanType}
use Rattle.mission_model.specs.declared.plan.PlanType.TheVariants as kind
use Rattle.nav_num.specs.declared.fault.NumFault.{NumFault}
use Rattle.nav_num.specs.Whole.{whole_number}
use Rattle.flight_words.specs.declared.command.Command.{Command}
use Rattle.flight_words.specs.declared.command.Command.TheVariants as command
use Rattle.flight_words.specs.declared.command.WordsFault.{WordsFault}
use Rattle.flight_words.specs.declared.command.WordsFault.TheVariants.{Usage, Memory}
use Rattle.flight_words.specs.declared.program.Given.{Given}
use Rattle.flight_words.specs.declared.row.Word.{Word}
use Rattle.flight_words.specs.declared.row.Word.TheVariants as word

-- ---- what `clap` takes

-- the command's name, which must be there
abbrev pub name_rule : Rule
name_rule = record (new_rule (codes "command")) { required = true }

-- `--store P`, or `--store=P`
abbrev pub store_rule : Rule
store_rule = record (new_rule (codes "store")) { long = Some (codes "store") }

-- no word in front is the program's name, and no flag asks for help or a version
abbrev pub bare : App
bare = on_top (λ s. record s { no_binary_name = true; disable_help_flag = true; disable_version_flag = true }) (new_app (codes "px4_flight"))

-- one command, with a name, a value and a store
abbrev pub program : App
program = with_rule (with_rule (with_rule bare name_rule) (new_rule (codes "value"))) store_rule

-- ---- what the words give

-- the command's name, its value and the path of a store, each if it is there
pub record Told : Type 0 where
  pub name : Option Text
  pub value : Option Text
  pub store : Option Text

abbrev pub text_of : Option (Bor Text) → Option Text
text_of = option_map (λ s. s.now)

abbrev pub told : Given → Told
told given = record { name = text_of given.name; value = text_of given.value; store = text_of given.store }

-- what the matches give
abbrev pub told_in : List Row → Told
told_in rows = record { name = first_of (codes "command") rows; value = first_of (codes "value") rows; store = first_of (codes "store") rows }

-- `clap` finds no fault in the words, and they give this
abbrev pub Matches : List Text → Told → Type 0
Matches words given = (fault_of program words ≡ []) × (given ≡ told_in (matches_of program words))

-- words whose fault is not want of memory are those in which `clap` finds one
abbrev pub IsUnmatched : List Text → WordsFault → Type 0
IsUnmatched words Usage = fault_of program words ≢ []
IsUnmatched words Memory = Unit {0}

-- ---- the table

-- a command with its value and its store
pub data Task : Type 0 where
  Fly : Option Text → Task
  Replay : Option Text → Task
  Check : PlanType → Task
  Init : Text → Task
  Case : ℕ → Task
  Survey : Task
  Audit : Task

-- the task that a command is
abbrev pub named : Command → Task
named (command.Fly path) = Fly (text_of path)
named (command.Replay path) = Replay (text_of path)
named (command.Check kind) = Check kind
named (command.Init path) = Init path.now
named (command.Case number) = Case number
named command.Survey = Survey
named command.Audit = Audit

-- the names of the commands
abbrev pub word_named : Text → Option Word
word_named name = if bytes_eq name (codes "fly") then Some word.Fly
    else if bytes_eq name (codes "replay") then Some word.Replay
    else if bytes_eq name (codes "check") then Some word.Check
    else if bytes_eq name (codes "init") then Some word.Init
    else if bytes_eq name (codes "case") then Some word.Case
    else if bytes_eq name (codes "survey") then Some word.Survey
    else if bytes_eq name (codes "audit") then Some word.Audit
    else None

-- the names of the plan types
abbrev pub kind_named : Text → Option PlanType
kind_named name = if bytes_eq name (codes "mission") then Some kind.Mission
    else if bytes_eq name (codes "fence") then Some kind.Fence
    else if bytes_eq name (codes "safe") then Some kind.Safe
    else None

abbrev pub number_in : Result ℕ NumFault → Option ℕ
number_in (Ok number) = Some number
number_in (Err fault) = None

-- a number from 0 to 4294967295 of one to ten digits
abbrev pub number_named : Text → Option ℕ
number_named text = number_in (whole_number 0 4294967295 text)

-- the row holds only where there is no such word
abbrev pub unless : Option Text → Option Task → Option Task
unless None task = task
unless (Some text) task = None

-- the rows: a command's name with a value and a store
abbrev pub row : Word → Option Text → Option Text → Option Task
row word.Fly value store = unless value (Some (Fly store))
row word.Replay value store = unless value (Some (Replay store))
row word.Check value store = unless store (option_and_then (λ name. option_map Check (kind_named name)) value)
row word.Init value store = unless value (option_map Init store)
row word.Case value store = unless store (option_and_then (λ number. option_map Case (number_named number)) value)
row word.Survey value store = unless value (unless store (Some Survey))
row word.Audit value store = unless value (unless store (Some Audit))

-- the task that a name, a value and a store make, if they are a row
abbrev pub task_in : Told → Option Task
task_in given = option_and_then (λ name. option_and_then (λ word. row word given.value given.store) (word_named name)) given.name

-- ---- both

-- the words are this task: `clap` takes them, and what it finds is a row
abbrev pub Asks : List Text → Task → Type 0
Asks words task = (fault_of program words ≡ []) × (task_in (told_in (matches_of program words)) ≡ Some task)

-- words whose fault is not want of memory are no task
abbrev pub IsRefused : List Text → WordsFault → Type 0
IsRefused words Usage = (task : Task) → Asks words task → ⊥
IsRefused words Memory = Unit {0}
