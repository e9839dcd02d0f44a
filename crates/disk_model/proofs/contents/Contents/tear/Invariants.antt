use Rattle.std.proofs.Common.{◌≡◌, ℕ, length}
use Rattle.std.specs.List.{AllWithin}
use Rattle.disk_model.specs.Spans.{Beside}
use Rattle.disk_model.specs.Contents.{left_at}
use Rattle.disk_model.specs.declared.disk.Tear.TheVariants.{New}
use Rattle.disk_model.proofs.contents.Contents.tear.Given as goal

abbrev pub invariant-loop-i : goal.invariant-loop-i
invariant-loop-i l = record {
  size : length l.self.bytes.items ≡ length l.fn.self.bytes.items;
  left : (k : ℕ) → left_at l.tear l.self k ≡ left_at l.tear l.fn.self k;
  done : (k : ℕ) → AllWithin (Beside k) l.self.written 0 l.i;
  same : l.tear ≡ New → l.self.bytes ≡ l.fn.self.bytes;
}
