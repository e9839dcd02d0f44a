-- The flags that were added are in memory that was taken before.
use Rattle.std.proofs.Common.{◌≡◌, ◌∙◌, ◌+◌, ◌<◌, ◌++◌, [], ◌∷◌, length, ap, arith, false, replicate, Bool, length-append, append_assoc}
use Rattle.std.proofs.lemmas.List.{length-replicate}
use Rattle.std.specs.Prelude.{IsOk}
use Rattle.std.specs.Vec.{vec_capacity, vec_len}
use Rattle.client_cache.proofs.Flags.{replicate-add}
use Rattle.client_cache.proofs.flights.reach.Goals as goal

pub loop-preserved : goal.loop-preserved
loop-preserved c =
    let i = c.loop.invariant in
    let old = c.args.flags.now.items in
    let auto = c.push.auto in
    let long : length c.loop.flags.items ≡ length old + c.loop.counter = ap length i.0 ∙ length-append old (replicate c.loop.counter false) ∙ ap (λ n. length old + n) (length-replicate {A = Bool} c.loop.counter false) in
    let len : vec_len c.loop.flags ≡ length c.loop.flags.items = omega arith in
    let start : c.len.result ≡ length old = grind (arith, c.len.ensures) in
    let room : vec_len c.loop.flags < vec_capacity c.loop.flags = omega (arith, len, long, start, i.1, c.loop-test.true, c.saturating_sub-missing.ensures, c.ranges.seq.fits) in
    let ok : IsOk c.push.result = c.push.ensures.succeeds room in
    let pushed : c.push.new.self.items ≡ c.loop.flags.items ++ false ∷ [] = grind (arith, ok, c.push.ensures.items) in (
      pushed ∙ ap (λ l. l ++ false ∷ []) i.0 ∙ append_assoc old (replicate c.loop.counter false) (false ∷ []) ∙ ap (λ l. old ++ l) (replicate-add c.loop.counter 1),
      omega (arith, i.1, c.push.ensures.capacity),
    )
