use Rattle.std.proofs.Common.{refl}
use Rattle.disk_model.proofs.Shelves.{gave}
use Rattle.disk_model.proofs.memory_shelf.MemoryShelfShelf.memory.Goals as goal

pub returns-clause-call : goal.returns-clause-call
returns-clause-call c = gave _ _ c.args.self.now (record c.log.new.self { fails = c.replace.new.dest }) _ c.fail_at.new.self c.in_ok-log.ensures.faults c.in_ok-log.ensures.ok refl
