-- A pair goes on the pairs, and they end where none stands or no place is left.
use Rattle.std.proofs.Common.{◌≡◌, ℕ, List, ◌-◌, ◌+◌, ◌∙◌, ap, sym, arith, length, refl, max}
use Rattle.mission_model.specs.CountsList.{pairs_of}
use Rattle.mission_model.specs.Pairs.{with_pair}
use Rattle.mission_model.specs.declared.limits.TheConstants.{MAX_JUMPS}
use Rattle.record_text.specs.PlanReading.{pairs_at}
use Rattle.record_text.proofs.PlanLaws.{pairs_from-stops, pairs_from-full, pairs_from-more, length-with_pair}
use Rattle.record_text.proofs.plan_cursor.read_pairs.Goals as goal

pub loop-init : goal.loop-init
unfolding pairs_at
loop-init c = (omega (arith, ap length c.new-counts.ensures), rw c.new-counts.ensures refl)

pub returns-then-not-is_pair-clause-value : goal.returns-then-not-is_pair-clause-value
returns-then-not-is_pair-clause-value c =
    ap (λ (x : List (ℕ × ℕ) × List ℕ). x.0) (sym (pairs_from-stops (MAX_JUMPS - c.loop.counter) (pairs_of c.loop.counts) c.loop.rest.now (sym c.is_pair.ensures ∙ c.if-not-is_pair.true)) ∙ c.loop.invariant.1)

pub returns-then-not-is_pair-clause-rest : goal.returns-then-not-is_pair-clause-rest
returns-then-not-is_pair-clause-rest c =
    ap (λ (x : List (ℕ × ℕ) × List ℕ). x.1) (sym (pairs_from-stops (MAX_JUMPS - c.loop.counter) (pairs_of c.loop.counts) c.loop.rest.now (sym c.is_pair.ensures ∙ c.if-not-is_pair.true)) ∙ c.loop.invariant.1)

pub loop-preserved : goal.loop-preserved
loop-preserved c =
    let put : pairs_of c.put.new.self ≡ with_pair (pairs_of c.loop.counts) c.read_pair-seq.result.0.0 (max c.read_pair-seq.result.0.1 1) = c.put.ensures ∙ ap (with_pair (pairs_of c.loop.counts) c.read_pair-seq.result.0.0) c.max.ensures in (
      omega (arith, ap length c.put.ensures, length-with_pair (pairs_of c.loop.counts) c.read_pair-seq.result.0.0 c.max.result),
      rw (put, c.read_pair-seq.ensures.value, c.read_pair-seq.ensures.rest)
          (sym (pairs_from-more (MAX_JUMPS - c.loop.counter) (MAX_JUMPS - (c.loop.counter + 1)) (pairs_of c.loop.counts) c.loop.rest.now (omega arith) (sym c.is_pair.ensures ∙ c.if-not-is_pair.false)) ∙ c.loop.invariant.1),
    )

pub returns-clause-value : goal.returns-clause-value
returns-clause-value c =
    ap (λ (x : List (ℕ × ℕ) × List ℕ). x.0) (sym (pairs_from-full (MAX_JUMPS - c.loop.counter) (pairs_of c.loop.counts) c.loop.rest.now (omega arith)) ∙ c.loop.invariant.1)

pub returns-clause-rest : goal.returns-clause-rest
returns-clause-rest c =
    ap (λ (x : List (ℕ × ℕ) × List ℕ). x.1) (sym (pairs_from-full (MAX_JUMPS - c.loop.counter) (pairs_of c.loop.counts) c.loop.rest.now (omega arith)) ∙ c.loop.invariant.1)
