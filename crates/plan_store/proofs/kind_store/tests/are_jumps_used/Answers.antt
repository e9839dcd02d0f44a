use Rattle.std.proofs.Common.{◌≡◌, inl, inr, arith, sym, subst}
use Rattle.std.specs.Prelude.{slice_index_or}
use Rattle.std.proofs.lemmas.Bool.{cases_lt}
use Rattle.std.proofs.lemmas.Option.{get_or_from_slice_get}
use Rattle.mission_model.specs.CountsList.{pairs_of}
use Rattle.plan_store.specs.CanServe.{IsJumpUsed}
use Rattle.plan_store.specs.MapStore.{held_of}
use Rattle.plan_store.proofs.kind_store.tests.are_jumps_used.Goals as goal

pub loop-place-preserved : goal.loop-place-preserved
loop-place-preserved c = λ k d below. elim (cases_lt k c.loop-place.place) [
  | inl before ↦ c.loop-place.invariant k d before
  | inr other ↦
      let here : k ≡ c.loop-place.place = omega (arith, below, other) in
      let pair = get_or_from_slice_get (pairs_of c.args.counts.now) c.loop-place.place c.pair.result d c.pair.ensures in
      let used : IsJumpUsed (held_of c.args.kind.now).plan.items c.pair.result = c.is_jump_used.ensures cc in
      subst (λ n. IsJumpUsed (held_of c.args.kind.now).plan.items (slice_index_or (pairs_of c.args.counts.now) n d)) (sym here) (subst (IsJumpUsed (held_of c.args.kind.now).plan.items) (sym pair) used)
]

pub returns : goal.returns
returns c = λ all k d below. c.loop-place.invariant k d (omega (arith, below, c.len-place-end.ensures.pairs, c.loop-place-test.false))
