-- A flag that is not kept is false already.
use Rattle.std.proofs.Common.{◌∙◌, ℕ, ◌-◌, ◌<◌, ◌≤◌, ◌++◌, List, Bool, length, ap, sym, arith, false, replicate, set, length-set}
use Rattle.client_cache.proofs.Flags.{set-front, set-behind}
use Rattle.client_cache.proofs.flights.Flights.unset.Goals as goal

pub returns-then-seq-len : goal.returns-then-seq-len
returns-then-seq-len c =
    let xs : List Bool = c.self.inside.flags.items in
    let count : ℕ = c.self.inside.count in
    let lt : c.args.seq < length xs = grind (arith, c.if-seq-len.true, c.len.ensures) in
    ap (λ n. set xs c.args.seq false ++ replicate (count - n) false) (length-set xs c.args.seq false)
    ∙ sym (set-front xs (replicate (count - length xs) false) c.args.seq false lt)
    ∙ ap (λ (l : List Bool). set l c.args.seq false) c.self.view_is

pub returns-else-seq-len : goal.returns-else-seq-len
returns-else-seq-len c =
    let xs : List Bool = c.self.inside.flags.items in
    let le : length xs ≤ c.args.seq = grind (arith, c.if-seq-len.false, c.len.ensures) in
    sym c.self.view_is ∙ sym (set-behind xs (c.self.inside.count - length xs) c.args.seq le) ∙ ap (λ (l : List Bool). set l c.args.seq false) c.self.view_is
