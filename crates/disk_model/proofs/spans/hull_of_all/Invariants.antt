use Rattle.std.proofs.Common.{ℕ, ◌≤◌}
use Rattle.std.specs.List.{AllWithin}
use Rattle.disk_model.specs.Spans.{Beside, EndBy}
use Rattle.disk_model.proofs.spans.hull_of_all.Given as goal

abbrev pub invariant-loop-i : goal.invariant-loop-i
invariant-loop-i l = record {
  covers : (k : ℕ) → Beside k l.hull → AllWithin (Beside k) l.spans 0 l.i;
  span : (k : ℕ) → Beside k l.hull → Beside k l.fn.span;
  end : (n : ℕ) → EndBy n l.spans → l.fn.span.to ≤ n → l.hull.to ≤ n;
}
