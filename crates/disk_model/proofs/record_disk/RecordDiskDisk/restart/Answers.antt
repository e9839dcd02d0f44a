use Rattle.std.proofs.Common.{◌≡◌, if◌then◌else◌, length, refl, sym, ◌∙◌, ap, arith, Bool}
use Rattle.disk_model.specs.Entries.{changes_of, restart_room}
use Rattle.disk_model.proofs.Records.{recorded, was_restarted, not_restarted, agrees_settled, restart_room_none}
use Rattle.disk_model.proofs.record_disk.RecordDiskDisk.restart.Goals as goal

pub invariant_of-self : goal.invariant_of-self
invariant_of-self c =
    let before : restart_room c.args.self.now.entries.items ≡ 1 = ap (λ (b : Bool). if b then 0 else 1) (sym c.is_settled.ensures ∙ c.if-not-is_settled.true) in
    record {
      agrees = agrees_settled c.args.self.now.bytes.items (changes_of c.args.self.now.entries.items) (changes_of c.push_reserved.new.self.items) c.args.self.now.agrees (recorded _ _ _ _ c.push_reserved.ensures.items refl);
      small = c.args.self.now.small;
      room = omega (arith, c.args.self.now.room, c.push_reserved.ensures.len, c.push_reserved.ensures.capacity, restart_room_none _ _ c.push_reserved.ensures.items, before);
    }

pub returns-then-not-is_settled-clause-call : goal.returns-then-not-is_settled-clause-call
returns-then-not-is_settled-clause-call c = was_restarted (length c.args.self.now.bytes.items) c.args.self.now.bytes.items (changes_of c.args.self.now.entries.items) (changes_of c.push_reserved.new.self.items)
    c.args.self.now.tally c.args.self.now.agrees (recorded _ _ _ _ c.push_reserved.ensures.items refl)

pub returns-else-not-is_settled-clause-call : goal.returns-else-not-is_settled-clause-call
returns-else-not-is_settled-clause-call c = not_restarted (length c.args.self.now.bytes.items) c.args.self.now.bytes.items c.args.self.now.entries.items c.args.self.now.tally c.args.self.now.agrees (sym c.is_settled.ensures ∙ c.if-not-is_settled.false)
