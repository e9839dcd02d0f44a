use Rattle.disk_model.proofs.Calls.{read_all}
use Rattle.disk_model.proofs.memory_disk.MemoryDiskDisk.read_at.Goals as goal

pub returns-in-Goes-clause-call : goal.returns-in-Goes-clause-call
returns-in-Goes-clause-call c = read_all c.args.at _ c.get.new.buf c.args.self.now.contents c.args.self.now.power c.begin_read.new.self c.get.auto.buf c.get.ensures c.in-Goes.ensures.meter
