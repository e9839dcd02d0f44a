-- The flag is among those that are kept then.
use Rattle.std.proofs.Common.{◌≡◌, ◌∙◌, ℕ, ◌+◌, ◌-◌, ◌<◌, ◌≤◌, ◌++◌, List, Bool, length, ap, sym, arith, true, false, replicate, set, length-set, length-append}
use Rattle.std.proofs.lemmas.List.{length-replicate}
use Rattle.client_cache.proofs.Flags.{set-front, more-kept}
use Rattle.client_cache.proofs.flights.Flights.set.Goals as goal

pub returns : goal.returns
returns c =
    let xs : List Bool = c.self.inside.flags.items in
    let ys : List Bool = c.reach.new.flags.items in
    let more : ℕ = c.args.seq + 1 - length xs in
    let count : ℕ = c.self.inside.count in
    let is : ys ≡ xs ++ replicate more false = c.reach.ensures.items in
    let whole : length (xs ++ replicate (count - length xs) false) ≡ count = length-append xs (replicate (count - length xs) false) ∙ ap (λ n. length xs + n) (length-replicate {A = Bool} (count - length xs) false) ∙ omega (arith, c.self.invariant.0) in
    let below : c.args.seq < count = omega (arith, c.requires, whole, ap length c.self.view_is) in
    let long : length ys ≡ length xs + more = ap length is ∙ length-append xs (replicate more false) ∙ ap (λ n. length xs + n) (length-replicate {A = Bool} more false) in
    let lt : c.args.seq < length ys = omega (arith, long) in
    let fits : length xs + more ≤ count = omega (arith, below, c.self.invariant.0) in
    let same : ys ++ replicate (count - length ys) false ≡ xs ++ replicate (count - length xs) false = ap (λ (l : List Bool). l ++ replicate (count - length l) false) is ∙ more-kept xs more count fits in
    ap (λ n. set ys c.args.seq true ++ replicate (count - n) false) (length-set ys c.args.seq true)
    ∙ sym (set-front ys (replicate (count - length ys) false) c.args.seq true lt)
    ∙ ap (λ (l : List Bool). set l c.args.seq true) (same ∙ c.self.view_is)
