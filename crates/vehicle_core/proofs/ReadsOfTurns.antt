-- The reads of any turns of a core are of published plans.
use Rattle.std.proofs.Common.{◌≡◌, List, [], ◌∷◌, ◌++◌, refl, sym, subst}
use Rattle.mission_model.specs.declared.flight_line.Actor.{Actor}
use Rattle.mission_model.specs.declared.flight_line.Line.{Line}
use Rattle.request_board.specs.Watching.{Awaited}
use Rattle.request_board.specs.WatchLaw.{WatchRules}
use Rattle.turn_cell.specs.declared.machine.StepOut.{StepOut}
use Rattle.turn_cell.specs.declared.machine.StepOut.TheVariants.{Made, Idle}
use Rattle.vehicle_core.specs.Told.{BootTold}
use Rattle.vehicle_core.specs.WatchKept.{AnswersWell}
use Rattle.vehicle_core.specs.CoreState.{CoreState, CoreFits, CoreSteps, Tells}
use Rattle.vehicle_core.specs.Turns.{Turn, Turns, made_by}
use Rattle.vehicle_core.specs.ReadsAsked.{NavsFit, ReadsAlong}
use Rattle.vehicle_core.proofs.ReadsOfStep.{line_reads}

module _ {W : Type 0} where
  -- what is told behind lines whose reads are of published plans
  pub record HaveRead (rules : WatchRules W) (t : BootTold W) (lines : List Line) (c' : CoreState W) : Type 0 where
    pub told : BootTold W
    pub along : ReadsAlong rules t lines told
    pub tells : Tells c'.shared c'.locals told
    pub navs : NavsFit told

  one_read : (rules : WatchRules W) (waits : W → Awaited) (c mid c' : CoreState W) (who : Actor) (out : StepOut Line) (rest : List Line) (t : BootTold W) → AnswersWell rules waits → CoreFits waits c → Tells c.shared c.locals t → NavsFit t → CoreSteps rules c who out mid → ((u : BootTold W) → Tells mid.shared mid.locals u → NavsFit u → HaveRead rules u rest c') → HaveRead rules t (made_by out ++ rest) c'
  one_read rules waits c mid c' who (Made made) rest t well fits tells navs step others =
      let here = step t tells in
      let reads = line_reads rules waits c t here.0 made well fits tells navs here.1.step in
      let more = others here.0 here.2 reads.1 in
      record { told = more.told; along = (here.0, here.1.step, reads.0, more.along); tells = more.tells; navs = more.navs }
  one_read rules waits c mid c' who Idle rest t well fits tells navs step others =
      others t (subst (λ (x : CoreState W). Tells x.shared x.locals t) (sym step.0) tells) navs

  pub turns_read : (rules : WatchRules W) (waits : W → Awaited) (c c' : CoreState W) (turns : List Turn) (lines : List Line) (t : BootTold W) → AnswersWell rules waits → CoreFits waits c → Tells c.shared c.locals t → NavsFit t → Turns rules waits c turns lines c' → HaveRead rules t lines c'
  turns_read rules waits c c' [] lines t well fits tells navs run =
      record { told = t; along = subst (λ (l : List Line). ReadsAlong rules t l t) (sym run.0) refl; tells = subst (λ (x : CoreState W). Tells x.shared x.locals t) (sym run.1) tells; navs = navs }
  turns_read rules waits c c' (turn ∷ turns) lines t well fits tells navs run =
      subst (λ (l : List Line). HaveRead rules t l c') (sym run.7)
      (one_read rules waits c run.0 c' turn.actor run.1 run.2 t well fits tells navs run.4 (λ u told fit. turns_read rules waits run.0 c' turns run.2 u well run.6 told fit run.8))
