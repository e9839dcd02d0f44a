-- What each outcome of a replay says of what was read, what was flown and what was given.
use Rattle.std.specs.Prelude.{◌≡◌, ℕ, ◌≤◌, ◌⊎◌, List, [], ◌∷◌, length, take, Option, Some}
use Rattle.std.specs.Io.KnownBytes.{Appends, Consumes, IsAtEnd}
use Rattle.io_edges.specs.Bytes.{TakesWithin, TakesMore, GivesFront}
use Rattle.io_edges.specs.Count.{Rose}
use Rattle.first_model.specs.declared.flight_line.Line.{Line}
use Rattle.first_model.specs.declared.schedule.BootScript.{BootScript}
use Rattle.first_model.specs.declared.schedule.Script.{Script}
use Rattle.first_record.specs.Record.{record_text_of}
use Rattle.first_script.specs.Scripts.{ScriptText, IsScriptFault}
use Rattle.first_script.specs.declared.bounds.TheConstants.{MAX_SCRIPT_BYTES}
use Rattle.first_script.specs.declared.fault.ScriptFault.{ScriptFault}
use Rattle.first_script.specs.declared.fault.ScriptFault.TheVariants as fault
use Rattle.first_runner.specs.declared.status.Status.{Status}
use Rattle.first_runner.specs.declared.status.Status.TheVariants as status
use Rattle.first_runner.specs.declared.print.Ungiven.{Ungiven}
use Rattle.first_runner.specs.declared.print.Ungiven.TheVariants as ungiven
use Rattle.first_runner.specs.Flown.{IsFlownBoot, IsFlownPart}

-- the number of a status
abbrev pub number_of : Status → ℕ
number_of status.Ok = 0
number_of status.Usage = 2
number_of (status.Script line fault) = 3
number_of (status.Plan fault) = 3
number_of status.ReadFault = 4
number_of status.WriteFault = 5
number_of status.Memory = 6
number_of status.TooLong = 7

-- the record is that of the script's one boot: a run of its actors in the stated order
abbrev pub IsFlightOf : List BootScript → List Line → Type 0
IsFlightOf (boot ∷ []) lines = IsFlownBoot boot lines
IsFlightOf boots lines = ⊥

-- the record stopped within the script's one boot: it is such a run as far as it came
abbrev pub IsSoFarOf : List BootScript → List Line → Type 0
IsSoFarOf (boot ∷ []) lines = IsFlownPart boot lines
IsSoFarOf boots lines = ⊥

-- the text is a script, and the record is that of its flight
pub record IsFlown (text : List ℕ) (lines : List Line) : Type 0 where
  pub script : Script
  pub read : ScriptText text script
  pub flight : IsFlightOf script.boots lines

-- the text is a script, and the record is that of its flight as far as it came
pub record IsFlownSoFar (text : List ℕ) (lines : List Line) : Type 0 where
  pub script : Script
  pub read : ScriptText text script
  pub flight : IsSoFarOf script.boots lines

-- the text is no script, and this is its first fault, at the line of this number
abbrev pub IsFaultOf : List ℕ → ℕ → ScriptFault → Type 0
IsFaultOf text line (fault.Memory _) = ⊥
IsFaultOf text line f = IsScriptFault text line f

-- what a text and a record are to one another at each status of a run
abbrev pub TextCause : List ℕ → Status → List Line → Type 0
TextCause text status.Ok lines = IsFlown text lines
TextCause text (status.Script line fault) lines = IsFaultOf text line fault × (lines ≡ [])
TextCause text status.WriteFault lines = IsFlown text lines
TextCause text status.Memory lines = (lines ≡ []) ⊎ IsFlownSoFar text lines ⊎ IsFlown text lines
TextCause text other lines = ⊥

-- the next bytes were taken, all that were left and no more than a script may have
pub record TakesAll (before after : Option (List ℕ)) (text : List ℕ) : Type 0 where
  pub taken : Consumes before after text
  pub at_end : IsAtEnd after
  pub within : length text ≤ MAX_SCRIPT_BYTES

-- the text that was read to its end caused this
pub record HasText (before after : Option (List ℕ)) (given : Status) (lines : List Line) : Type 0 where
  pub text : List ℕ
  pub takes : TakesAll before after text
  pub cause : TextCause text given lines

-- want of memory: some text was taken, and there is no record, or one as far as it came, or a whole one
pub record WantsMemory (before after : Option (List ℕ)) (lines : List Line) : Type 0 where
  pub text : List ℕ
  pub taken : Consumes before after text
  pub within : length text ≤ MAX_SCRIPT_BYTES
  pub cause : TextCause text status.Memory lines

-- what the source gave, and what its faults did, at each status of a run
abbrev pub Cause : Status → List Line → ℕ → ℕ → Option (List ℕ) → Option (List ℕ) → Type 0
Cause status.ReadFault lines faults faults' before after = (lines ≡ []) × Rose faults faults' × TakesWithin MAX_SCRIPT_BYTES before after
Cause status.TooLong lines faults faults' before after = (lines ≡ []) × TakesMore MAX_SCRIPT_BYTES before after
Cause status.Memory lines faults faults' before after = WantsMemory before after lines
Cause status.Ok lines faults faults' before after = HasText before after status.Ok lines
Cause status.WriteFault lines faults faults' before after = HasText before after status.WriteFault lines
Cause (status.Script line fault) lines faults faults' before after = HasText before after (status.Script line fault) lines
Cause other lines faults faults' before after = ⊥

-- a part of a text from its beginning was given
abbrev pub GivesPart : List ℕ → Option (List ℕ) → Option (List ℕ) → Type 0
GivesPart text before after = (n : ℕ) × Appends before after (take n text)

-- why a record was not given whole
abbrev pub IsUngiven : List ℕ → ℕ → ℕ → Option (List ℕ) → Option (List ℕ) → Ungiven → Type 0
IsUngiven text faults faults' before after ungiven.Failed = Rose faults faults' × GivesFront text before after
IsUngiven text faults faults' before after ungiven.Memory = GivesPart text before after

-- what was given of the record's text at each status: all, a front where the sink failed, a part where memory was wanted, and else nothing
abbrev pub IsGiven : Status → List Line → ℕ → ℕ → Option (List ℕ) → Option (List ℕ) → Type 0
IsGiven status.Ok lines faults faults' before after = Appends before after (record_text_of lines)
IsGiven status.WriteFault lines faults faults' before after = Rose faults faults' × GivesFront (record_text_of lines) before after
IsGiven status.Memory lines faults faults' before after = GivesPart (record_text_of lines) before after
IsGiven other lines faults faults' before after = (after ≡ before) × (faults' ≡ faults)

-- the run is over, or memory was wanted
abbrev pub IsOver : Status → Type 0
IsOver status.Ok = Unit {0}
IsOver status.Memory = Unit {0}
IsOver other = ⊥

-- a script is flown to its end where the sink does not fail: but for want of memory
abbrev pub CompletesText : List ℕ → ℕ → ℕ → Status → Type 0
CompletesText text sink_faults sink_faults' given = (script : Script) → ScriptText text script → (Rose sink_faults sink_faults' → ⊥) → IsOver given

-- a script that the source tells, within the limit, is flown to its end where neither source nor sink fails: but for want of memory
abbrev pub Completes : Option (List ℕ) → ℕ → ℕ → ℕ → ℕ → Status → Type 0
Completes left faults faults' sink_faults sink_faults' given =
    (text : List ℕ) (script : Script) → left ≡ Some text → length text ≤ MAX_SCRIPT_BYTES → ScriptText text script → (Rose faults faults' → ⊥) → (Rose sink_faults sink_faults' → ⊥) → IsOver given
