-- What a flight leaves is a run of its actors.
use Rattle.std.proofs.Common.{◌≡◌, ◌⊎◌, inl, inr, ℕ, true, List, [], ◌∷◌, sym, subst}
use Rattle.std.specs.Prelude.{All, Result, Ok, Err, OnErr}
use Rattle.std.specs.Result.{is_err}
use Rattle.first_model.specs.declared.flight_line.Line.{Line}
use Rattle.first_model.specs.declared.schedule.BootScript.{BootScript}
use Rattle.first_model.specs.declared.schedule.Script.{Script}
use Rattle.first_record.specs.Record.{IsPrintable}
use Rattle.first_script.specs.Scripts.{ScriptText}
use Rattle.first_core.specs.NewCore.{InLimits}
use Rattle.first_runner.specs.declared.status.Status.TheVariants.{Memory}
use Rattle.first_runner.specs.Outcome.{IsSoFarOf, TextCause}
use Rattle.first_runner.proofs.Whole.{flight_printable}
use Rattle.first_runner.specs.Flight.{IsFlight, IsFlightSoFar}
use Rattle.first_runner.specs.ActorsRun.{WholeIsOfActors, SoFarIsOfActors}
use Rattle.first_runner.specs.Flown.{IsFlownBoot, IsFlownPart}

pub flown_boot : (whole : WholeIsOfActors) (boot : BootScript) (lines : List Line) → InLimits boot → IsFlight boot lines → IsFlownBoot boot lines
flown_boot whole boot lines limits flight = let of_actors = whole boot lines limits flight in record { flight = flight; core = of_actors.0; order = of_actors.1 }

pub flown_part : (so_far : SoFarIsOfActors) (boot : BootScript) (lines : List Line) → InLimits boot → IsFlightSoFar boot lines → IsFlownPart boot lines
flown_part so_far boot lines limits flight = let of_actors = so_far boot lines limits flight in record { flight = flight; core = of_actors.0; order = of_actors.1 }

-- each line of a whole one is printable
pub flown_printable : (boot : BootScript) (lines : List Line) → IsFlownBoot boot lines → All IsPrintable lines
flown_printable boot lines flown = flight_printable boot lines flown.flight

-- a flight that wanted memory left a record as far as it came
part_of : (boots : List BootScript) (boot : BootScript) (lines : List Line) → boots ≡ boot ∷ [] → IsFlownPart boot lines → IsSoFarOf boots lines
part_of boots boot lines only part = subst (λ (l : List BootScript). IsSoFarOf l lines) (sym only) part

pub memory_cause : {T E : Type 0} (text : List ℕ) (script : Script) (boot : BootScript) (lines : List Line) (result : Result T E) → ScriptText text script → script.boots ≡ boot ∷ [] → OnErr result ((lines ≡ []) ⊎ IsFlownPart boot lines) → is_err result ≡ true → TextCause text Memory lines
memory_cause text script boot lines (Ok done) read only left failed = cc
memory_cause text script boot lines (Err error) read only (inl none) failed = inl none
memory_cause text script boot lines (Err error) read only (inr part) failed = inr (inl (record { script = script; read = read; flight = part_of script.boots boot lines only part }))
