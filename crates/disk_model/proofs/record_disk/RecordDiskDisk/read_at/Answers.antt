use Rattle.std.proofs.Common.{ℕ, ◌+◌, List, length, get_or, ◌∙◌, ap}
use Rattle.disk_model.specs.Entries.{changes_of}
use Rattle.disk_model.proofs.Records.{was_read}
use Rattle.disk_model.proofs.record_disk.RecordDiskDisk.read_at.Goals as goal

pub returns-clause-call : goal.returns-clause-call
returns-clause-call c = was_read (length c.args.self.now.bytes.items) c.args.at _ c.copy_out.new.buf c.args.self.now.bytes.items (changes_of c.args.self.now.entries.items) c.args.self.now.tally c.count_read.new.self c.copy_out.auto.buf
    (λ k below. c.copy_out.ensures k below ∙ ap (λ (l : List ℕ). get_or l (c.args.at + k) 0) c.deref.ensures.value) c.count_read.ensures
