-- Each local is asked in turn.
use Rattle.std.proofs.Common.{◌≡◌, true, sym, ap, ◌∙◌, arith, inl, inr}
use Rattle.std.specs.Prelude.{slice_index_or}
use Rattle.std.proofs.lemmas.Bool.Decides.{eqb_tells}
use Rattle.vehicle_core.specs.LocalState.{finished_of}
use Rattle.vehicle_core.specs.CoreState.{CoreState, finished_among}
use Rattle.vehicle_core.proofs.Lists.{at_any}
use Rattle.vehicle_core.proofs.CoreSteps.{got_at, all_finished, one_unfinished}
use Rattle.vehicle_core.proofs.boot_core.Core.is_finished.Goals as goal

pub loop-local-init : goal.loop-local-init
loop-local-init g c = λ k d less. absurd (omega (arith, less))

pub returns-then-not-is_finished : goal.returns-then-not-is_finished
returns-then-not-is_finished g c =
    let items = c.deref-local-items.result.now in
    let same : items ≡ c.args.self.now.locals = c.deref-local-items.ensures.value ∙ ap (λ (x : CoreState g.row.W.Denot). x.locals) c.self.view_is in
    sym (ap finished_among (sym same) ∙ one_unfinished items c.loop-local.local-index c.local-item.result (got_at items c.loop-local.local-index c.local-item.result c.loop-local-test.true c.local-item.is) (sym c.is_finished.ensures ∙ c.if-not-is_finished.true))

pub loop-local-preserved : goal.loop-local-preserved
loop-local-preserved g c = λ k d less.
    let items = c.deref-local-items.result.now in
    let here : finished_of c.local-item.result ≡ true = sym c.is_finished.ensures ∙ c.if-not-is_finished.false in
    elim (eqb_tells k c.loop-local.local-index) [
      | inl same ↦ ap (λ n. finished_of (slice_index_or items n d)) same.1 ∙ ap finished_of (at_any items c.loop-local.local-index d c.local-item.result c.loop-local-test.true ∙ sym c.local-item.is) ∙ here
      | inr apart ↦ c.loop-local.invariant k d (omega (arith, less, apart.1))
    ]

pub returns : goal.returns
returns g c =
    let items = c.deref-local-items.result.now in
    let same : items ≡ c.args.self.now.locals = c.deref-local-items.ensures.value ∙ ap (λ (x : CoreState g.row.W.Denot). x.locals) c.self.view_is in
    sym (ap finished_among (sym same) ∙ all_finished items (λ k d less. c.loop-local.invariant k d (omega (arith, less, c.loop-local-test.false))))
