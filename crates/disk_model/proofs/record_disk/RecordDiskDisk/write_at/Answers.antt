use Rattle.std.proofs.Common.{length, arith}
use Rattle.disk_model.specs.Entries.{changes_of}
use Rattle.disk_model.proofs.Records.{recorded, was_written, agrees_written, overlay_is, restart_room_small}
use Rattle.disk_model.proofs.record_disk.RecordDiskDisk.write_at.Goals as goal

pub invariant_of-self-2 : goal.invariant_of-self-2
invariant_of-self-2 c = record {
  agrees = agrees_written c.args.at c.args.bytes.now c.args.self.now.bytes.items c.copy_in.new.all.items (changes_of c.args.self.now.entries.items) (changes_of c.push_reserved.new.self.items)
      c.args.self.now.agrees (recorded _ _ _ _ c.push_reserved.ensures.items c.write.ensures) c.copy_in.ensures.others.size
      (overlay_is c.args.at c.args.bytes.now c.args.self.now.bytes.items c.copy_in.new.all.items c.requires c.copy_in.ensures.others c.copy_in.ensures.here);
  small = omega (arith, c.copy_in.ensures.others.size, c.args.self.now.small);
  room = omega (arith, c.args.self.now.room, c.push_reserved.ensures.len, c.push_reserved.ensures.capacity, restart_room_small c.push_reserved.new.self.items, c.if-self-eq0.false);
}

pub returns-clause-call : goal.returns-clause-call
returns-clause-call c = was_written (length c.args.self.now.bytes.items) (length c.copy_in.new.all.items) c.args.at c.args.bytes.now c.args.self.now.bytes.items c.copy_in.new.all.items
    (changes_of c.args.self.now.entries.items) (changes_of c.push_reserved.new.self.items) c.args.self.now.tally c.count_change.new.self
    c.copy_in.ensures.others.size (recorded _ _ _ _ c.push_reserved.ensures.items c.write.ensures) c.copy_in.ensures.others c.copy_in.ensures.here c.count_change.ensures
