use Rattle.std.proofs.Common.{ℕ, length, true, ap, ◌∙◌}
use Rattle.disk_model.specs.Disk.{new_meter}
use Rattle.disk_model.specs.Power.{meter_of}
use Rattle.disk_model.proofs.Calls.{settled_image}
use Rattle.disk_model.proofs.memory_disk.MemoryDisk.new.Goals as goal

pub returns-clause-meter : goal.returns-clause-meter
returns-clause-meter c = ap (λ p. meter_of (length c.in_ok-contents.contents.bytes.items) p) c.new-2.ensures ∙ ap (λ (size : ℕ). new_meter size true) c.in_ok-contents.ensures.size

pub returns-clause-only : goal.returns-clause-only
returns-clause-only c d left = settled_image c.in_ok-contents.contents d c.in_ok-contents.ensures.settled left
