-- What a flight leaves is a run of one vehicle, whole or not.
use Rattle.std.proofs.Common.{◌≡◌, ◌⊎◌, inl, inr, List, [], refl, sym, subst}
use Rattle.std.specs.Prelude.{None, Result, Ok, Err, OnOk, OnErr}
use Rattle.first_model.specs.declared.flight_line.Line.{Line}
use Rattle.first_model.specs.declared.schedule.BootScript.{BootScript}
use Rattle.first_vehicle.specs.VehicleRun.{VehicleRun}
use Rattle.first_core.specs.NewCore.{InLimits}
use Rattle.first_runner.specs.Flown.{IsFlownBoot, IsFlownPart}
use Rattle.first_runner.specs.OneVehicle.{WholeIsRun, SoFarIsRun}

-- no line is a run
pub none_run : (lines : List Line) → lines ≡ [] → VehicleRun lines
none_run lines none = subst VehicleRun (sym none) (None, refl)

-- and so is what a flight leaves beside its result
pub flown_run : {T E : Type 0} (whole : WholeIsRun) (so_far : SoFarIsRun) (boot : BootScript) (lines : List Line) (result : Result T E) → InLimits boot → OnOk result (IsFlownBoot boot lines) → OnErr result ((lines ≡ []) ⊎ IsFlownPart boot lines) → VehicleRun lines
flown_run whole so_far boot lines (Ok done) limits ok err = whole boot lines limits ok.flight
flown_run whole so_far boot lines (Err error) limits ok (inl none) = none_run lines none
flown_run whole so_far boot lines (Err error) limits ok (inr part) = so_far boot lines limits part.flight
