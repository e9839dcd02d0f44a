-- The pairs before the place have numbers of their types.
use Rattle.std.proofs.Common.{take}
use Rattle.std.specs.List.{AllByRecursion}
use Rattle.mission_model.specs.CountsList.{pairs_of}
use Rattle.record_text.specs.Typed.{IsTypedPair}
use Rattle.record_text.proofs.typed.typed_counts.Given as goal

abbrev pub invariant-loop-place : goal.invariant-loop-place
invariant-loop-place l = AllByRecursion IsTypedPair (take l.place (pairs_of l.counts))
