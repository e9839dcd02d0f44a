-- One line gone over.
use Rattle.std.specs.Prelude.{◌≡◌, List, ℕ, Bool, true, false, not, Result, Ok, Err}
use Rattle.nav_text.specs.declared.span.Span.{Span}
use Rattle.nav_text.specs.Words.{words_in}
use Rattle.run_script.specs.declared.fault.Stop.{Stop}
use Rattle.run_script.specs.declared.fault.Stop.TheVariants as stop
use Rattle.run_script.specs.declared.fault.ScriptFault.{ScriptFault}
use Rattle.run_script.specs.declared.fault.ScriptFault.TheVariants as fault
use Rattle.run_script.specs.Plans.{is_end}
use Rattle.run_script.specs.Told.{is_skipped, begins_plan, LineStates, IsLineFault}
use Rattle.run_script.specs.Gathered.{Gathered, known, Leads}

-- a line that is told
abbrev pub TellsLine : List ℕ → List Span → List (List ℕ) → Gathered → Result Bool Stop → Gathered → Type 0
TellsLine text behind words old (Ok next) new = (next ≡ begins_plan words) × Leads (LineStates old.begun text behind (known old) words) (IsLineFault old.begun text behind (known old) words) old (Ok tt) new
TellsLine text behind words old (Err given) new = Leads (LineStates old.begun text behind (known old) words) (IsLineFault old.begun text behind (known old) words) old (Err given) new

-- a line that is skipped or told
abbrev pub OutsideIs : Bool → List ℕ → List Span → List (List ℕ) → Gathered → Result Bool Stop → Gathered → Type 0
OutsideIs true text behind words old result new = (result ≡ Ok false) × (new ≡ old)
OutsideIs false text behind words old result new = TellsLine text behind words old result new

-- any line, within a plan's text or not
abbrev pub StepIs : List ℕ → List Span → List ℕ → Bool → Gathered → Result Bool Stop → Gathered → Type 0
StepIs text behind line true old result new = (result ≡ Ok (not (is_end line))) × (new ≡ old)
StepIs text behind line false old result new = OutsideIs (is_skipped (words_in line)) text behind (words_in line) old result new

-- the fault that is told of a line
abbrev pub told : Stop → ScriptFault
told (stop.Fault f) = f
told (stop.Memory source) = fault.Memory source
