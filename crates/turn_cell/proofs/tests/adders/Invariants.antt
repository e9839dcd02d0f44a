use Rattle.std.proofs.Common.{◌≡◌, ℕ, length, Some}
use Rattle.std.specs.Prelude.{slice_get}
use Rattle.turn_cell.proofs.tests.adders.Given as goal

abbrev pub invariant-loop-number : goal.invariant-loop-number
invariant-loop-number l = (length l.adders.items ≡ l.number) × ((k : ℕ) (a : _) → slice_get l.adders.items k ≡ Some a → a.number ≡ k)
