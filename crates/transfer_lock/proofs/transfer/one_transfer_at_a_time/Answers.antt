-- The law of all calls.
use Rattle.transfer_lock.proofs.Rising.{Calls-one_at_a_time}
use Rattle.transfer_lock.proofs.transfer.one_transfer_at_a_time.Goals as goal

pub returns : goal.returns
returns c = Calls-one_at_a_time
