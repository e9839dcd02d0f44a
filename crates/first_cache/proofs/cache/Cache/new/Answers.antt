use Rattle.std.proofs.Common.{◌<◌, ℕ, ◌≤◌, arith, refl, Option, Bool, false, None}
use Rattle.std.proofs.lemmas.List.{length-replicate}
use Rattle.first_cache.specs.declared.cache.TheConstants.{SEQS}
use Rattle.first_model.specs.declared.plan.Item.{Item}
use Rattle.first_cache.proofs.cache.Cache.new.Goals as goal

pub invariant_of-result : goal.invariant_of-result
invariant_of-result c = (rw c.in_ok-no_flags.ensures (length-replicate {A = Bool} SEQS false), rw (c.in_ok-no_items.ensures, length-replicate {A = Option Item} c.args.capacity None) c.requires, rw (c.in_ok-no_items.ensures, length-replicate {A = Option Item} c.args.capacity None) (omega (arith, c.ranges.capacity.fits)), λ (seq : ℕ) (ge : 0 ≤ seq) (lt : seq < 0). absurd (omega (arith, lt)))

pub returns : goal.returns
returns c = rw (c.in_ok-no_items.ensures, c.in_ok-no_flags.ensures) refl
