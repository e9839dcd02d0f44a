-- The local at the actor's place steps; an actor that the core does not have is idle.
use Rattle.std.proofs.Common.{◌≡◌, ◌<◌, true, Some, length, sym, subst, ap, ◌∙◌, arith}
use Rattle.std.specs.Prelude.{slice_get}
use Rattle.request_board.specs.WatchLaw.{WatchRules}
use Rattle.vehicle_core.specs.ScheduleState.{same_actor}
use Rattle.vehicle_core.specs.Fits.{role_name, LocalSuits}
use Rattle.vehicle_core.specs.CoreState.{CoreState, CoreFits, CoreSteps, InputSuits, core_taken}
use Rattle.vehicle_core.proofs.Given.{step_says, absent_says}
use Rattle.vehicle_core.proofs.CoreSteps.{some_is, got_at, input_suits, core_with, core_fits, core_steps, core_rests, other_there, none_there}
use Rattle.vehicle_core.proofs.boot_core.Core.step.Goals.{else-place-len-via-then-place-len+else-is_named, else-place-len-via-else-place-len}
use Rattle.vehicle_core.proofs.boot_core.Core.step.Goals as goal

pub returns-then-is_named-clause-fits : goal.returns-then-is_named-clause-fits
returns-then-is_named-clause-fits g c =
    let laws = (g.met.W.Watcher g.world.𝓛 g.world.𝓜 g.world.𝓡 ((λ s x. x), (λ x. x), (λ x. x), λ x. x)) in
    let rules : WatchRules g.row.W.Denot = record { works = g.W.Watcher.works; tells = g.W.Watcher.tells } in
    let core : CoreState g.row.W.Denot = record { shared = c.self.inside.shared; locals = c.self.inside.locals.items; links = c.self.inside.links } in
    let fits : CoreFits g.W.Watcher.waits core = subst (CoreFits g.W.Watcher.waits) (sym c.self.view_is) c.requires.fits in
    let place = c.place_of-place.result in
    let less : place < length c.self.inside.locals.items = omega (arith, c.if-place-len.true, c.len.ensures, c.self.inside.locals.ok.0) in
    let l = c.index_mut-local.result.now in
    let at : slice_get c.self.inside.locals.items place ≡ Some l = got_at c.self.inside.locals.items place l less c.index_mut-local.ensures.value in
    let seen : slice_get c.self.inside.locals.items place ≡ Some c.index.result.now = got_at c.self.inside.locals.items place c.index.result.now less c.index.ensures in
    let named : same_actor c.args.actor (role_name l.role) ≡ true = ap (λ x. same_actor c.args.actor (role_name x.role)) (some_is l c.index.result.now (sym at ∙ seen)) ∙ sym c.is_named.ensures ∙ c.if-is_named.true in
    let suits : LocalSuits l c.args.input = input_suits g.W.Watcher.waits core c.args.actor place l c.args.input fits at named (subst (λ x. InputSuits (core_taken x) c.args.actor c.args.input) (sym c.self.view_is) c.requires.suits) in
    core_fits rules g.W.Watcher.waits core place l c.args.input c.step.result c.step.new.shared c.step.new.local (record { works = laws.works_well; tells = laws.tells_well }) fits at suits c.step.ensures

pub returns-then-is_named-clause-steps : goal.returns-then-is_named-clause-steps
returns-then-is_named-clause-steps g c =
    let rules : WatchRules g.row.W.Denot = record { works = g.W.Watcher.works; tells = g.W.Watcher.tells } in
    let core : CoreState g.row.W.Denot = record { shared = c.self.inside.shared; locals = c.self.inside.locals.items; links = c.self.inside.links } in
    let fits : CoreFits g.W.Watcher.waits core = subst (CoreFits g.W.Watcher.waits) (sym c.self.view_is) c.requires.fits in
    let place = c.place_of-place.result in
    let less : place < length c.self.inside.locals.items = omega (arith, c.if-place-len.true, c.len.ensures, c.self.inside.locals.ok.0) in
    let l = c.index_mut-local.result.now in
    let at : slice_get c.self.inside.locals.items place ≡ Some l = got_at c.self.inside.locals.items place l less c.index_mut-local.ensures.value in
    let seen : slice_get c.self.inside.locals.items place ≡ Some c.index.result.now = got_at c.self.inside.locals.items place c.index.result.now less c.index.ensures in
    let named : same_actor c.args.actor (role_name l.role) ≡ true = ap (λ x. same_actor c.args.actor (role_name x.role)) (some_is l c.index.result.now (sym at ∙ seen)) ∙ sym c.is_named.ensures ∙ c.if-is_named.true in
    subst (λ x. CoreSteps rules x c.args.actor c.step.result (core_with core c.step.new.shared place c.step.new.local)) c.self.view_is
    (core_steps rules g.W.Watcher.waits core c.args.actor place l c.args.input c.step.result c.step.new.shared c.step.new.local fits at named c.step.ensures)

pub returns-else-place-len-clause-steps : goal.returns-else-place-len-clause-steps
returns-else-place-len-clause-steps g c =
    let rules : WatchRules g.row.W.Denot = record { works = g.W.Watcher.works; tells = g.W.Watcher.tells } in
    let same : c.self.inside.locals.items ≡ c.args.self.now.locals = ap (λ (x : CoreState g.row.W.Denot). x.locals) c.self.view_is in
    core_rests rules g.W.Watcher.waits c.args.self.now c.args.actor c.requires.fits
    (elim c.else-place-len.branch [
      | else-place-len-via-then-place-len+else-is_named w ↦
          other_there c.args.self.now c.args.actor c.self.inside.locals.items c.place_of-place.result w.index.result.now same c.place_of-place.ensures
          (got_at c.self.inside.locals.items c.place_of-place.result w.index.result.now (omega (arith, w.if-place-len.true, c.len.ensures, c.self.inside.locals.ok.0)) w.index.ensures)
          (sym w.is_named.ensures ∙ w.if-is_named.false)
      | else-place-len-via-else-place-len w ↦ none_there c.args.self.now c.args.actor c.self.inside.locals.items c.place_of-place.result same c.place_of-place.ensures (omega (arith, w.if-place-len.false, c.len.ensures, c.self.inside.locals.ok.0))
    ])

pub returns-then-is_named-clause-given : goal.returns-then-is_named-clause-given
returns-then-is_named-clause-given g c =
    let rules : WatchRules g.row.W.Denot = record { works = g.W.Watcher.works; tells = g.W.Watcher.tells } in
    let core : CoreState g.row.W.Denot = record { shared = c.self.inside.shared; locals = c.self.inside.locals.items; links = c.self.inside.links } in
    let fits : CoreFits g.W.Watcher.waits core = subst (CoreFits g.W.Watcher.waits) (sym c.self.view_is) c.requires.fits in
    let place = c.place_of-place.result in
    let less : place < length c.self.inside.locals.items = omega (arith, c.if-place-len.true, c.len.ensures, c.self.inside.locals.ok.0) in
    let l = c.index_mut-local.result.now in
    let at : slice_get c.self.inside.locals.items place ≡ Some l = got_at c.self.inside.locals.items place l less c.index_mut-local.ensures.value in
    let seen : slice_get c.self.inside.locals.items place ≡ Some c.index.result.now = got_at c.self.inside.locals.items place c.index.result.now less c.index.ensures in
    let named : same_actor c.args.actor (role_name l.role) ≡ true = ap (λ x. same_actor c.args.actor (role_name x.role)) (some_is l c.index.result.now (sym at ∙ seen)) ∙ sym c.is_named.ensures ∙ c.if-is_named.true in
    let suits : LocalSuits l c.args.input = input_suits g.W.Watcher.waits core c.args.actor place l c.args.input fits at named (subst (λ x. InputSuits (core_taken x) c.args.actor c.args.input) (sym c.self.view_is) c.requires.suits) in
    step_says rules g.W.Watcher.waits core.shared l c.args.input c.step.result c.step.new.shared c.step.new.local (fits.each place l at).1 suits c.step.ensures

pub returns-else-place-len-clause-given : goal.returns-else-place-len-clause-given
returns-else-place-len-clause-given g c =
    let same : c.self.inside.locals.items ≡ c.args.self.now.locals = ap (λ (x : CoreState g.row.W.Denot). x.locals) c.self.view_is in
    absent_says g.W.Watcher.waits c.args.self.now c.args.actor c.args.input c.requires.fits
    (elim c.else-place-len.branch [
      | else-place-len-via-then-place-len+else-is_named w ↦
          other_there c.args.self.now c.args.actor c.self.inside.locals.items c.place_of-place.result w.index.result.now same c.place_of-place.ensures
          (got_at c.self.inside.locals.items c.place_of-place.result w.index.result.now (omega (arith, w.if-place-len.true, c.len.ensures, c.self.inside.locals.ok.0)) w.index.ensures)
          (sym w.is_named.ensures ∙ w.if-is_named.false)
      | else-place-len-via-else-place-len w ↦ none_there c.args.self.now c.args.actor c.self.inside.locals.items c.place_of-place.result same c.place_of-place.ensures (omega (arith, w.if-place-len.false, c.len.ensures, c.self.inside.locals.ok.0))
    ]) c.requires.suits
