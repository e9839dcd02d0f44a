use Rattle.std.proofs.Common.{◌≡◌, ◌<◌, sym, refl, length, get_or, Option, None, subst}
use Rattle.std.specs.Prelude.{slice_get}
use Rattle.std.proofs.lemmas.Option.{slice_get_past}
use Rattle.first_model.specs.declared.flight_line.Actor.{Actor}
use Rattle.first_model.specs.declared.flight_line.Actor.TheVariants as actor
use Rattle.first_core.specs.declared.StepOut.TheVariants.{Idle}
use Rattle.first_core.specs.LinkState.{LinkState}
use Rattle.first_core.specs.CoreState.{CoreState}
use Rattle.first_core.specs.CoreLaw.{CoreSuits, CoreStep, LinkMovesIf}
use Rattle.first_core.specs.WorkerLaw.{InputSuits, request_of}
use Rattle.first_core.proofs.CoreStays.{link_at, link_moved, nav_moved, worker_moved}
use Rattle.first_core.proofs.LinkPlans.{plans_link}
use Rattle.first_core.proofs.NavPlans.{plans_nav}
use Rattle.first_core.proofs.WorkerPlans.{plans_worker}
use Rattle.first_core.proofs.boot_core.Core.act.Goals as goal

pub invariant_of-self : goal.invariant_of-self
invariant_of-self c =
    let s : CoreState = record { shared = c.self.inside.shared; taken = c.self.inside.taken; links = c.self.inside.links.items; nav = c.self.inside.nav } in
    let s' : CoreState = record { shared = c.step.new.shared; taken = c.step.new.taken; links = c.self.inside.links.items; nav = c.self.inside.nav } in
    let suits : InputSuits (request_of s.taken) c.args.input = subst (λ (x : CoreState). CoreSuits x actor.Worker c.args.input) (sym c.self.view_is) (subst (λ (a : Actor). CoreSuits c.args.self.now a c.args.input) c.in-Worker.is c.requires.suits) in
    worker_moved s s' c.self.invariant refl refl c.step.ensures.service c.step.ensures.links c.step.ensures.counts (plans_worker s s'.shared s'.taken c.args.input c.step.result c.self.invariant suits c.step.ensures.step)

pub invariant_of-self-in-Some : goal.invariant_of-self-in-Some
invariant_of-self-in-Some c =
    let s : CoreState = record { shared = c.self.inside.shared; taken = c.self.inside.taken; links = c.self.inside.links.items; nav = c.self.inside.nav } in
    let old : LinkState = c.in-Some.link.now in
    let below : c.in-Link.number < length s.links = c.in-Some.ensures.item.3.0 in
    let value : old ≡ get_or s.links c.in-Link.number old = c.in-Some.ensures.value in
    let at = link_at s c.in-Link.number old c.self.invariant below value in
    let plans = plans_link s.shared c.step-in-Some.new.shared s.links s.nav c.in-Link.number old c.step-in-Some.new.link c.step-in-Some.result c.self.invariant.plans below value at.0 at.1 c.step-in-Some.ensures.step in
    link_moved s c.in-Link.number old c.step-in-Some.new.link c.step-in-Some.new.shared c.self.invariant below value c.step-in-Some.ensures.keeps plans

pub invariant_of-self-in-Nav : goal.invariant_of-self-in-Nav
invariant_of-self-in-Nav c =
    let s : CoreState = record { shared = c.self.inside.shared; taken = c.self.inside.taken; links = c.self.inside.links.items; nav = c.self.inside.nav } in
    let s' : CoreState = record { shared = c.step-in-Nav.new.shared; taken = c.self.inside.taken; links = c.self.inside.links.items; nav = c.step-in-Nav.new.nav } in
    nav_moved s s' c.self.invariant refl refl c.step-in-Nav.ensures.fits c.step-in-Nav.ensures.others c.step-in-Nav.ensures.board (plans_nav s.shared s'.shared s.links s.nav s'.nav c.step-in-Nav.result c.self.invariant.plans c.self.invariant.nav c.step-in-Nav.ensures.step)

pub returns-in-None : goal.returns-in-None
returns-in-None c =
    let s : CoreState = record { shared = c.self.inside.shared; taken = c.self.inside.taken; links = c.self.inside.links.items; nav = c.self.inside.nav } in
    let none : slice_get s.links c.in-Link.number ≡ None = slice_get_past s.links c.in-Link.number c.in-None.ensures.item.3 in
    let stands : CoreStep s (actor.Link c.in-Link.number) c.args.input Idle s = subst (λ (found : Option LinkState). LinkMovesIf found s c.in-Link.number Idle s) (sym none) (refl, refl) in
    record { step = subst (λ (x : CoreState). CoreStep x c.args.actor c.args.input Idle s) c.self.view_is (subst (λ (a : Actor). CoreStep s a c.args.input Idle s) (sym c.in-Link.is) stands) }
