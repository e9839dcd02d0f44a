-- Inputs that are whole uploads.
use Rattle.std.specs.Prelude.{Bool, true, false}
use Rattle.first_model.specs.declared.flight_line.Actor.{Actor}
use Rattle.first_model.specs.declared.schedule.InputLine.{InputLine}
use Rattle.first_model.specs.declared.schedule.InputLine.TheVariants.{Upload}

-- whether an input is a whole upload
abbrev pub is_upload : Actor × InputLine → Bool
is_upload (_, Upload _ _) = true
is_upload (_, _) = false
