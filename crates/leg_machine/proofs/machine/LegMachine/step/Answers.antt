use Rattle.std.proofs.Common.{◌<◌, subst, rules}
use Rattle.leg_machine.proofs.Items.{LeadsWithin-item, Steps-item}
use Rattle.leg_machine.specs.Stepping.{ShowsItem, ShowsOf}
use Rattle.leg_machine.proofs.machine.LegMachine.step.Goals as goal

pub step_at-requires-clause-target : goal.step_at-requires-clause-target
step_at-requires-clause-target c =
    let s = c.args.self.now in
    let within : s.index < s.count = search rules in
    LeadsWithin-item s.count s.index c.in-Here.item (subst (ShowsItem s) c.in-Here.is c.requires.item within)

pub returns-in-Here-clause-step : goal.returns-in-Here-clause-step
returns-in-Here-clause-step c items shows =
    let s = c.args.self.now in
    let within : s.index < s.count = search rules in
    let stands = subst (ShowsOf items s) c.in-Here.is shows in
    let valid = subst (ShowsItem s) c.in-Here.is c.requires.item in
    Steps-item items c.in-Here.item s c.step_at.result c.step_at.new.self (stands.1 within) (valid within) c.step_at.ensures
