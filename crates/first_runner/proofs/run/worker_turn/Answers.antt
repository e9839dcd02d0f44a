use Rattle.std.proofs.Common.{sym}
use Rattle.first_store.specs.MapStore.{held}
use Rattle.first_runner.proofs.TiedServable.{sound_serves}
use Rattle.first_runner.proofs.run.worker_turn.Goals as goal

pub serve-reply-requires : goal.serve-reply-requires
serve-reply-requires c = sound_serves c.args.core.now (held c.args.store.now) c.in-Some.request c.requires (sym c.in-Some.ensures.taken) c.in-Some.ensures.served
