-- The law of the calls on a new cache.
use Rattle.client_cache.specs.Knowing.{remembers}
use Rattle.client_cache.proofs.cache.remembers_what_came.Goals as goal

pub returns : goal.returns
returns c = remembers
