-- The schedule goes on: an event, or a meeting or a wait.
use Rattle.std.proofs.Common.{◌≡◌, false, is_some, sym, ap, ◌∙◌}
use Rattle.navigator.specs.Meeting.{drop_owed}
use Rattle.vehicle_core.proofs.NavLines.{acted_made, rests_acts}
use Rattle.vehicle_core.proofs.nav.go_on.Goals as goal

pub returns-in-Some : goal.returns-in-Some
returns-in-Some c =
    let owed : is_some (drop_owed c.args.nav.now.navigator c.args.shared.now.board.published) ≡ false = ap is_some (sym c.owed.ensures) ∙ sym c.is_some.ensures ∙ c.if-is_some.false in
    acted_made c.args.shared.now c.args.nav.now c.in-Some.event c.act-entry.result c.act-entry.new.shared c.act-entry.new.nav
    c.requires.power c.requires.none owed (sym c.next_event.ensures ∙ c.in-Some.is) c.act-entry.ensures

pub returns-in-None : goal.returns-in-None
returns-in-None c =
    let owed : is_some (drop_owed c.args.nav.now.navigator c.args.shared.now.board.published) ≡ false = ap is_some (sym c.owed.ensures) ∙ sym c.is_some.ensures ∙ c.if-is_some.false in
    rests_acts c.args.shared.now c.args.nav.now c.step.result c.step.new.shared c.step.new.schedule c.requires.fits c.requires.power c.requires.none owed (sym c.next_event.ensures ∙ c.in-None.is) c.step.ensures
