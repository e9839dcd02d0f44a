-- The power is on, so the turn decides.
use Rattle.std.proofs.Common.{◌≡◌, ◌&&◌, Bool, true, sym, ap, ◌∙◌}
use Rattle.vehicle_core.specs.LocalState.{role_told}
use Rattle.vehicle_core.specs.Ready.{is_ready, is_turn, turn_of}
use Rattle.vehicle_core.specs.SharedState.{shared_told}
use Rattle.vehicle_core.specs.declared.local.Role.TheVariants as role
use Rattle.vehicle_core.proofs.local.is_ready.Goals as goal

while_on : (power turn : Bool) → power ≡ true → turn ≡ (power && turn)
while_on power turn on = ap (λ (b : Bool). b && turn) (sym on)

pub returns-in-Link : goal.returns-in-Link
returns-in-Link g c = λ arrived items counted.
    c.has_turn-in-Link.ensures arrived items counted
    ∙ while_on c.args.shared.now.power (is_turn (turn_of (shared_told c.args.shared.now arrived) (role_told {W = g.row.W.Denot} (role.Link c.in-Link.link) items))) c.if-not-shared.false
    ∙ ap (λ r. is_ready (shared_told c.args.shared.now arrived) (role_told {W = g.row.W.Denot} r items)) (sym c.in-Link.is)

pub returns-in-Nav : goal.returns-in-Nav
returns-in-Nav g c = λ arrived items counted.
    c.has_turn-in-Nav.ensures arrived items counted
    ∙ while_on c.args.shared.now.power (is_turn (turn_of (shared_told c.args.shared.now arrived) (role_told {W = g.row.W.Denot} (role.Nav c.in-Nav.nav) items))) c.if-not-shared.false
    ∙ ap (λ r. is_ready (shared_told c.args.shared.now arrived) (role_told {W = g.row.W.Denot} r items)) (sym c.in-Nav.is)
