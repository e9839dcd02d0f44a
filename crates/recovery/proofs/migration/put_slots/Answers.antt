use Rattle.recovery.proofs.PutSlots.{slots_put}
use Rattle.recovery.proofs.migration.put_slots.Goals as goal

pub returns : goal.returns
returns c = slots_put c.args.slots.now c.args.payload.now c.copy_from_slice.new.self c.requires.zeros c.requires.size c.copy_from_slice.ensures.after
