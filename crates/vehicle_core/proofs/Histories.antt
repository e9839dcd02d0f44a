-- The lines of a history of the actors as a machine lead on.
use Rattle.std.proofs.Common.{◌≡◌, List, [], ◌∷◌, Option, map, slice_set, refl, sym, subst}
use Rattle.mission_model.specs.declared.flight_line.Line.{Line}
use Rattle.mission_model.specs.declared.request.Reply.{Reply}
use Rattle.request_board.specs.WatchLaw.{WatchRules}
use Rattle.turn_cell.specs.declared.seat_view.Entry.{Entry}
use Rattle.turn_cell.specs.Legal.{Follows, locals_left, line_of}
use Rattle.vehicle_core.specs.declared.local.Local.{Local}
use Rattle.vehicle_core.specs.declared.shared.Shared.{Shared}
use Rattle.vehicle_core.specs.Told.{BootTold}
use Rattle.vehicle_core.specs.CoreRun.{Leads}
use Rattle.vehicle_core.specs.Steps.{Steps}
use Rattle.vehicle_core.specs.Fits.{LocalSuits}
use Rattle.vehicle_core.specs.CoreState.{Tells}
use Rattle.vehicle_core.specs.CoreLaws.{line_leads}

module _ {W : Type 0} where
  pub history_leads : (rules : WatchRules W) (s : Shared) (ls : List (Local W)) (h : List (Entry Shared (Local W) (Option Reply) Line)) (s' : Shared) (t : BootTold W) → Tells s ls t → Follows LocalSuits (Steps rules) s ls h s' → (t' : BootTold W) × Leads rules t (map line_of h) t' × Tells s' (locals_left ls h) t'
  history_leads rules s ls [] s' t tells run = (t, refl, subst (λ (x : Shared). Tells x ls t) (sym run) tells)
  history_leads rules s ls (e ∷ h) s' t tells run =
      let here = line_leads rules s ls e.number e.before e.input e.line e.shared e.after t run.0 run.2 tells in
      let rest = history_leads rules e.shared (slice_set ls e.number e.after) h s' here.0 here.2 run.3 in
      (rest.0, (here.0, here.1.step, rest.1), rest.2)
