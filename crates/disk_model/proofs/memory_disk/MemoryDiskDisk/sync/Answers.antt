use Rattle.disk_model.proofs.Calls.{synced_none}
use Rattle.disk_model.proofs.memory_disk.MemoryDiskDisk.sync.Goals as goal

pub returns-in-Fails-clause-call : goal.returns-in-Fails-clause-call
returns-in-Fails-clause-call c = synced_none c.args.self.now.contents c.args.self.now.power c.begin_change.new.self _ c.in-Fails.ensures.meter
