use Rattle.std.proofs.Common.{refl, length, arith}
use Rattle.disk_model.proofs.Calls.{wrote, wrote_none, goes_on_power}
use Rattle.disk_model.proofs.memory_disk.MemoryDiskDisk.write_at.Goals as goal

pub returns-in-Goes-clause-call : goal.returns-in-Goes-clause-call
returns-in-Goes-clause-call c = wrote c.args.at (length c.args.bytes.now) c.args.bytes.now c.args.self.now.contents c.put.new.self c.args.self.now.power c.begin_change.new.self _
    (goes_on_power _ _ _ _ refl c.in-Goes.ensures.step) (omega arith) c.requires refl c.put.ensures c.in-Goes.ensures.meter

pub returns-in-Fails-clause-call : goal.returns-in-Fails-clause-call
returns-in-Fails-clause-call c = wrote_none c.args.at c.args.bytes.now c.args.self.now.contents c.args.self.now.power c.begin_change.new.self _ c.in-Fails.ensures.meter

pub returns-in-IsCut-clause-call : goal.returns-in-IsCut-clause-call
returns-in-IsCut-clause-call c = wrote c.args.at c.applied.result c.args.bytes.now c.args.self.now.contents c.put-in-IsCut.new.self c.args.self.now.power c.begin_change.new.self _
    (goes_on_power _ _ _ _ refl c.in-IsCut.ensures.step) c.applied.ensures.front c.requires tt c.put-in-IsCut.ensures c.in-IsCut.ensures.meter
