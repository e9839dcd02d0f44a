use Rattle.std.proofs.Common.{◌≡◌, ℕ, ◌-◌, ◌<◌, ◌≤◌, List, ◌++◌, length, Result, Ok, Err, IfErr, arith, subst, sym, ◌∙◌, length-append}
use Rattle.std.specs.Prelude.{Option, IsErrAnd}
use Rattle.std.specs.Io.KnownBytes.{Consumes}
use Rattle.std.proofs.KnownBytes.{Consumes-trans}
use Rattle.io_edges.specs.Bytes.{HasCause, TakesWithin, TakesMore}
use Rattle.io_edges.specs.declared.whole.ReadFault.{ReadFault}
use Rattle.io_edges.specs.declared.whole.ReadFault.TheVariants as fault
use Rattle.io_edges.proofs.whole.read_to_end.Goals as goal

-- what was kept, and then bytes for which the limit leaves no room
takes_more : (limit len n : ℕ) (a b c : Option (List ℕ)) (xs ys : List ℕ) → Consumes a b xs → Consumes b c ys → len ≡ length xs → n ≡ length ys → limit - len < n
    → TakesMore limit a c
takes_more limit len n a b c xs ys first second e d h = (xs ++ ys, Consumes-trans a b c xs ys first second, rw length-append (omega (arith, e, d, h)))

-- what was kept, and then bytes for which the limit leaves room
takes_within : (limit len n : ℕ) (a b c : Option (List ℕ)) (xs ys : List ℕ) → Consumes a b xs → Consumes b c ys → len ≡ length xs → n ≡ length ys → len ≤ limit
    → n ≤ limit - len → TakesWithin limit a c
takes_within limit len n a b c xs ys first second e d l h = (xs ++ ys, Consumes-trans a b c xs ys first second, rw length-append (omega (arith, e, d, l, h)))

-- want of memory comes within the limit
memory_cause : {T : Type 0} (r : Result T ReadFault) (limit before now : ℕ) (old new : Option (List ℕ)) → IsErrAnd r (λ e. e ≡ fault.Memory) → TakesWithin limit old new
    → IfErr r (HasCause limit before now old new)
memory_cause (Ok x) limit before now old new h t = tt
memory_cause (Err e) limit before now old new h t = subst (HasCause limit before now old new) (sym h) t

pub returns-then-count-limit-clause-cause : goal.returns-then-count-limit-clause-cause
returns-then-count-limit-clause-cause g c =
    takes_more _ _ _ _ _ _ _ _ c.loop-bytes.invariant.0 c.in_ok-count.ensures.bytes.0 (c.len.ensures ∙ c.loop-bytes.bytes.ok.0) c.in_ok-count.ensures.bound.1 c.if-count-limit.true

pub returns-in_err-extend_from_slice-clause-cause : goal.returns-in_err-extend_from_slice-clause-cause
returns-in_err-extend_from_slice-clause-cause g c =
    let room = c.if-count-limit.false in
    let len = c.len.ensures in
    memory_cause _ _ _ _ _ _ c.from_residual-in_err-extend_from_slice.ensures.1 (takes_within _ _ _ _ _ _ _ _ c.loop-bytes.invariant.0 c.in_ok-count.ensures.bytes.0 (c.len.ensures ∙ c.loop-bytes.bytes.ok.0) c.in_ok-count.ensures.bound.1 (let kept = c.loop-bytes.invariant.1 in omega (arith, kept, len)) room)
