use Rattle.std.proofs.Common.{◌≡◌, ◌⊎◌, ◌≤◌, ◌<◌, ℕ, length, true, false, get_or}
use Rattle.disk_model.proofs.bytes.fill_pending.Given as goal

abbrev pub invariant-loop-i : goal.invariant-loop-i
invariant-loop-i l = record {
  size : length l.all.items ≡ length l.fn.all.items;
  here : (k : ℕ) → l.fn.span.from ≤ k → k < l.i → get_or l.pending k false ≡ true → get_or l.all.items k 0 ≡ l.byte;
  dry : (k : ℕ) → get_or l.pending k false ≡ false → get_or l.all.items k 0 ≡ get_or l.fn.all.items k 0;
  others : (k : ℕ) → (k < l.fn.span.from) ⊎ (l.fn.span.to ≤ k) → get_or l.all.items k 0 ≡ get_or l.fn.all.items k 0;
}
