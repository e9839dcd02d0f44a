-- The local at the actor's place tells it; an actor that the core does not have is never ready.
use Rattle.std.proofs.Common.{◌≡◌, ◌<◌, true, Some, length, sym, subst, ap, ◌∙◌, arith}
use Rattle.std.specs.Prelude.{slice_get}
use Rattle.vehicle_core.specs.ScheduleState.{same_actor}
use Rattle.vehicle_core.specs.Told.{BootTold}
use Rattle.vehicle_core.specs.Ready.{has_ready}
use Rattle.vehicle_core.specs.Fits.{role_name}
use Rattle.vehicle_core.specs.CoreState.{CoreState, CoreFits, Tells}
use Rattle.vehicle_core.proofs.CoreSteps.{some_is, got_at, core_ready, core_lacks, other_there, none_there}
use Rattle.vehicle_core.proofs.boot_core.Core.ready.Goals.{else-place-len-via-then-place-len+else-is_named, else-place-len-via-else-place-len}
use Rattle.vehicle_core.proofs.boot_core.Core.ready.Goals as goal

pub returns-then-is_named : goal.returns-then-is_named
returns-then-is_named g c =
    let core : CoreState g.row.W.Denot = record { shared = c.self.inside.shared; locals = c.self.inside.locals.items; links = c.self.inside.links } in
    let fits : CoreFits g.W.Watcher.waits core = subst (CoreFits g.W.Watcher.waits) (sym c.self.view_is) c.requires in
    let place = c.place_of-place.result in
    let less : place < length c.self.inside.locals.items = omega (arith, c.if-place-len.true, c.len.ensures, c.self.inside.locals.ok.0) in
    let l = c.index-then-is_named.result.now in
    let at : slice_get c.self.inside.locals.items place ≡ Some l = got_at c.self.inside.locals.items place l less c.index-then-is_named.ensures in
    let seen : slice_get c.self.inside.locals.items place ≡ Some c.index.result.now = got_at c.self.inside.locals.items place c.index.result.now less c.index.ensures in
    let named : same_actor c.args.actor (role_name l.role) ≡ true = ap (λ x. same_actor c.args.actor (role_name x.role)) (some_is l c.index.result.now (sym at ∙ seen)) ∙ sym c.is_named.ensures ∙ c.if-is_named.true in
    subst (λ (x : CoreState g.row.W.Denot). (t : BootTold g.row.W.Denot) → Tells x.shared x.locals t → c.is_ready.result ≡ has_ready t.shared c.args.actor t.actors) c.self.view_is
    (core_ready g.W.Watcher.waits core c.args.actor place l c.is_ready.result fits at named c.is_ready.ensures)

pub returns-else-place-len : goal.returns-else-place-len
returns-else-place-len g c = λ t tells.
    let same : c.self.inside.locals.items ≡ c.args.self.now.locals = ap (λ (x : CoreState g.row.W.Denot). x.locals) c.self.view_is in
    sym (core_lacks g.W.Watcher.waits c.args.self.now c.args.actor c.requires
    (elim c.else-place-len.branch [
      | else-place-len-via-then-place-len+else-is_named w ↦
          other_there c.args.self.now c.args.actor c.self.inside.locals.items c.place_of-place.result w.index.result.now same c.place_of-place.ensures
          (got_at c.self.inside.locals.items c.place_of-place.result w.index.result.now (omega (arith, w.if-place-len.true, c.len.ensures, c.self.inside.locals.ok.0)) w.index.ensures)
          (sym w.is_named.ensures ∙ w.if-is_named.false)
      | else-place-len-via-else-place-len w ↦ none_there c.args.self.now c.args.actor c.self.inside.locals.items c.place_of-place.result same c.place_of-place.ensures (omega (arith, w.if-place-len.false, c.len.ensures, c.self.inside.locals.ok.0))
    ]) t tells)
