use Rattle.std.proofs.Common.{length, refl, arith}
use Rattle.disk_model.specs.Entries.{changes_of}
use Rattle.disk_model.proofs.Records.{recorded, was_synced, agrees_settled, restart_room_small}
use Rattle.disk_model.proofs.record_disk.RecordDiskDisk.sync.Goals as goal

pub invariant_of-self-2 : goal.invariant_of-self-2
invariant_of-self-2 c = record {
  agrees = agrees_settled c.args.self.now.bytes.items (changes_of c.args.self.now.entries.items) (changes_of c.push_reserved.new.self.items) c.args.self.now.agrees (recorded _ _ _ _ c.push_reserved.ensures.items refl);
  small = c.args.self.now.small;
  room = omega (arith, c.args.self.now.room, c.push_reserved.ensures.len, c.push_reserved.ensures.capacity, restart_room_small c.push_reserved.new.self.items, c.if-self-eq0.false);
}

pub returns-clause-call : goal.returns-clause-call
returns-clause-call c = was_synced (length c.args.self.now.bytes.items) c.args.self.now.bytes.items (changes_of c.args.self.now.entries.items) (changes_of c.push_reserved.new.self.items)
    c.args.self.now.tally c.count_change.new.self c.args.self.now.agrees (recorded _ _ _ _ c.push_reserved.ensures.items refl) c.count_change.ensures
