use Rattle.std.proofs.Common.{◌≤◌, length, sym, ◌∙◌, arith}
use Rattle.feasibility.proofs.Landings.{landing_of-within}
use Rattle.feasibility.proofs.judge.Judge.landing.Goals as goal

pub returns-in-Some-Feasible-clause-in_order : goal.returns-in-Some-Feasible-clause-in_order
returns-in-Some-Feasible-clause-in_order c params home fence count items h found is =
    let r = landing_of-within items found (sym h.shown.land_starts.landing ∙ is) in
    let within : length items ≤ count = h.shown.within in
    (r.0, omega (arith, r.1, within))
