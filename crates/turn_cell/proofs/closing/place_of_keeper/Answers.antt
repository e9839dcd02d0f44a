use Rattle.std.proofs.Common.{ap, ◌∙◌, arith, ℕ, get_or}
use mathlib.Core.Logic.{dite}
use native.Mathlib.Decide.{ℕ_discrete}
use Rattle.turn_cell.proofs.Seats.{here_or, within}
use Rattle.turn_cell.proofs.closing.place_of_keeper.Goals as goal

pub loop-place-preserved : goal.loop-place-preserved
loop-place-preserved g c = (
  omega arith,
  λ i p at zero. let le = c.loop-place.invariant.1 i p at zero in let is = here_or c.args.passes.now i p c.index-passes-place.result at in let d = c.index-passes-place.result in
      dite (ℕ_discrete c.loop-place.place i)
      (λ e. absurd (c.if-passes-place-eq0.false (ap (λ q. q.number) (ap (λ (k : ℕ). get_or c.args.passes.now k d) e ∙ is) ∙ p.named ∙ zero)))
      (λ ne. omega arith),
)

pub unreachable-requires : goal.unreachable-requires
unreachable-requires g c = let q = c.requires in let lt = within c.args.passes.now q.0 q.1 q.2 in let le = c.loop-place.invariant.1 q.0 q.1 q.2 q.3 in absurd (omega arith)
