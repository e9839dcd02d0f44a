use Rattle.std.proofs.Common.{ℕ, ◌+◌, ◌-◌, List, length, take, drop, subst, sym, rules}
use Rattle.std.specs.Prelude.{Option}
use Rattle.std.specs.Io.KnownBytes.{Appends}
use Rattle.std.proofs.KnownBytes.{Appends-trans}
use Rattle.std.proofs.Math.Seq.{take-add}
use Rattle.io_edges.proofs.Rest.{rest_whole}
use Rattle.io_edges.proofs.whole.give_all.Goals as goal

-- a front, and then a front of the rest
gave_more : (a b c : Option (List ℕ)) (bytes : List ℕ) (n m : ℕ) → Appends a b (take n bytes) → Appends b c (take m (take (length bytes - n) (drop n bytes)))
    → Appends a c (take (n + m) bytes)
gave_more a b c bytes n m first second =
    let P : List ℕ → Type 0 = λ rest. Appends b c (take m rest) in
    subst (Appends a c) (sym (take-add n m bytes)) (Appends-trans a b c _ _ first (subst P (rest_whole n bytes) second))

pub loop-given-preserved : goal.loop-given-preserved
loop-given-preserved g c =
    (search rules, gave_more _ _ _ c.args.bytes.now c.loop-given.given c.in-Ok.count c.loop-given.invariant.1 c.in-Ok.ensures.bytes, search rules)
